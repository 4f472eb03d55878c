use Rattle.std.proofs.Common.{rules, arith, ◌≡◌, ◌≢◌, ◌∙◌, ◌+◌, below_more, slice_index}
use Rattle.std.specs.Prelude.{slice_set}
use Rattle.std.proofs.lemmas.List.{get_or-set_same, get_or-set_other}
use Rattle.depthplane.specs.Scaled.{scaled_at}
use Rattle.depthplane.proofs.ScaledLaws.{lane_right}
use Rattle.depthplane.proofs.scaled.Scaled.eight_at.Goals as goal

pub loop-j-preserved : goal.loop-j-preserved
loop-j-preserved c =
    let old = c.loop-j.values in
    let j = c.loop-j.j in
    let v = c.loop-j.value in
    let i = c.loop-j.invariant in
    record {
      long = search rules;
      next = lane_right c.args.self c.args.x c.args.y j v i.next;
      stored = below_more (λ k. slice_index (slice_set old j v) k ≡ scaled_at c.args.self (c.args.x + k) c.args.y) j
          (λ k l. let ne : k ≢ j = omega arith in get_or-set_other old j k v 0 ne ∙ i.stored k l)
          (get_or-set_same old j v 0 (omega arith) ∙ i.next);
    }
