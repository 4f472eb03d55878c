use Rattle.std.proofs.Common.{◌≡◌, All, rules, ap, ◌∙◌, subst}
use Rattle.workers.proofs.Each.{each_more}
use Rattle.workers.proofs.stealing.drain_numbers.Goals.{in-Some-claim_number, in_default-claim_number}
use Rattle.workers.proofs.stealing.drain_numbers.Goals as goal

pub hand_in-requires-clause-holding : goal.hand_in-requires-clause-holding
hand_in-requires-clause-holding g c κs within = (c.in-Some.number, c.in-Some-claim_number.tile, ap (λ v. v.hand) c.in-Some-claim_number.ensures.some.3, subst (λ j. g.J.TileJob.gives j c.in-Some-claim_number.tile c.run.result) c.requires.tied.1 c.run.ensures)

pub loop-step-preserved : goal.loop-step-preserved
loop-step-preserved g c = let q = c.number_for.ensures.queues in let each = c.loop-step.invariant.each in let v = c.loop-step.seat.view in
    let all = subst (λ n. All (λ t. t ≡ n) c.number_for.new.queues) (c.tiles-tiles.ensures ∙ ap g.J.TileJob.tile_count c.requires.tied.1) q.0 in let same = q.1 ∙ c.loop-step.invariant.queues.1 in elim c.match-claim_number.branch [
      | in-Some-claim_number w ↦ record {
        own = search rules;
        ready = search rules;
        same = search rules;
        queues = (all, same);
        each = λ none. each_more v c.match-claim_number.seat.view c.loop-step.step (search rules) (each none);
      }
      | in_default-claim_number w ↦ record {
        own = search rules;
        ready = search rules;
        same = search rules;
        queues = (all, same);
        each = λ none. each_more v c.match-claim_number.seat.view c.loop-step.step (search rules) (each none);
      }
    ]
