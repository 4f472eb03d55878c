use Rattle.std.proofs.Common.{[], ap, subst, ◌≡◌, length, List, arith}
use Rattle.std.specs.Prelude.{OnOk, OnErr}
use Rattle.gfxspec.specs.Commands.{Command}
use Rattle.immediate.specs.Outputs.{Outputs, cut_over}
use Rattle.immediate.specs.Batched.{HasDrawn, PartDrawn}
use Rattle.immediate.proofs.Making.{part_all}
use Rattle.immediate.proofs.Waiting.{none_left}
use Rattle.immediate.proofs.pending.run_waiting.Goals as goal

pub forget-requires : goal.forget-requires
forget-requires g c = let e = ap length c.run_waiting.ensures.kept in let many = c.count-count.ensures in omega arith

pub returns-in-Ok-clause-ok : goal.returns-in-Ok-clause-ok
returns-in-Ok-clause-ok g c =
    let o = c.args.output.now in
    let w = c.args.waiting.now in (
      subst (λ (ss : List (List Command)). HasDrawn (cut_over o ss) o c.run_waiting.new.self) (part_all c.count-count.result w c.count-count.ensures) c.in-Ok.ensures.ok,
      none_left w c.run_waiting.new.waiting c.forget.new.self c.count-count.result c.run_waiting.ensures.kept c.count-count.ensures c.forget.ensures,
    )

pub returns-in-Err-clause-ok : goal.returns-in-Err-clause-ok
returns-in-Err-clause-ok g c =
    let ran = c.run_each in
    subst (λ (o : Outputs). OnOk ran.result (HasDrawn (cut_over o c.args.waiting.now) o ran.new.output × (ran.new.waiting ≡ []))) c.in-Err.ensures.err
    (subst (λ (ss : List (List Command)). OnOk ran.result (HasDrawn (cut_over c.run_waiting.new.self ss) c.run_waiting.new.self ran.new.output × (ran.new.waiting ≡ []))) c.run_waiting.ensures.kept ran.ensures.ok)

pub returns-in-Err-clause-part : goal.returns-in-Err-clause-part
returns-in-Err-clause-part g c =
    let ran = c.run_each in
    subst (λ (o : Outputs). OnErr ran.result (PartDrawn o c.args.waiting.now ran.new.output ran.new.waiting)) c.in-Err.ensures.err
    (subst (λ (ss : List (List Command)). OnErr ran.result (PartDrawn c.run_waiting.new.self ss ran.new.output ran.new.waiting)) c.run_waiting.ensures.kept ran.ensures.part)
