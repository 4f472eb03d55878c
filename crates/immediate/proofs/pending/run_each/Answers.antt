use Rattle.std.proofs.Common.{refl, ap, sym, subst, ◌∙◌, ◌+◌, length, take, drop, List, arith}
use Rattle.gfxspec.specs.Commands.{Command}
use Rattle.immediate.specs.Outputs.{Outputs, cut_over}
use Rattle.immediate.specs.Batched.{HasDrawn, part}
use Rattle.immediate.proofs.Waiting.{none_drawn_yet, one_more_drawn, first_drawn, all_drawn}
use Rattle.immediate.proofs.pending.run_each.Goals as goal

pub loop-place-init : goal.loop-place-init
loop-place-init g c = record { kept = refl; drawn = none_drawn_yet c.args.output.now }

pub forget-requires : goal.forget-requires
forget-requires g c = let e = ap length (c.run_waiting.ensures.kept ∙ c.loop-place.invariant.kept) in omega arith

pub forget-requires-2 : goal.forget-requires-2
forget-requires-2 g c = let e = ap length c.loop-place.invariant.kept in omega arith

pub loop-place-preserved : goal.loop-place-preserved
loop-place-preserved g c =
    let l = c.loop-place in
    record {
      kept = c.run_waiting.ensures.kept ∙ l.invariant.kept;
      drawn = one_more_drawn c.args.output.now l.output c.run_waiting.new.self c.args.waiting.now l.place l.invariant.drawn
          (subst (λ (ss : List (List Command)). HasDrawn (cut_over l.output (part l.place (l.place + 1) ss)) l.output c.run_waiting.new.self) l.invariant.kept c.in_default.ensures.ok);
    }

pub returns-in-Err-clause-part : goal.returns-in-Err-clause-part
returns-in-Err-clause-part g c =
    let l = c.loop-place in
    let o = c.args.output.now in
    first_drawn o c.run_waiting.new.self c.args.waiting.now c.forget.new.self l.place
    (subst (λ (n : Outputs). HasDrawn (cut_over o (take l.place c.args.waiting.now)) o n) (sym c.in-Err.ensures.err) l.invariant.drawn)
    (c.forget.ensures ∙ ap (drop l.place) (c.run_waiting.ensures.kept ∙ l.invariant.kept))

pub returns-clause-ok : goal.returns-clause-ok
returns-clause-ok g c =
    let l = c.loop-place in
    let many = c.count-count.ensures in
    let past = c.loop-place-test.false in
    all_drawn c.args.output.now l.output c.args.waiting.now l.waiting c.forget-2.new.self l.place c.count-count.result l.invariant.drawn (omega arith) l.invariant.kept c.forget-2.ensures (omega arith)
