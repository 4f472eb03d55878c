use Rattle.std.proofs.Common.{true, refl, subst, [], List}
use Rattle.std.specs.Prelude.{Ok, Err, OnErr}
use Rattle.gfxspec.specs.Commands.{Command}
use Rattle.immediate.specs.Batched.{PartDrawn}
use Rattle.immediate.specs.Held.{Held, Executed, held_behind}
use Rattle.immediate.proofs.Waiting.{on_ok, on_err, has_settled, settled_behind, part_left, part_waits, all_ran}
use Rattle.immediate.proofs.pending.run_all.Goals as goal

pub returns-then-wait-clause-ok : goal.returns-then-wait-clause-ok
returns-then-wait-clause-ok g c =
    let o = c.args.output.now in
    let ran = c.run_waiting in
    let next = c.wait.new in
    let a : Held = held_behind o c.args.waiting.now c.args.pending.now in
    let b : Held = held_behind o next.waiting next.pending in
    let waits = subst (λ (l : List Command). Executed l true a b) c.none.ensures (c.wait.ensures.waits c.if-wait.true o) in
    on_ok ran.result
    (λ h. settled_behind [] true a b (held_behind ran.new.output ran.new.waiting next.pending) waits (has_settled o ran.new.output next.waiting ran.new.waiting next.pending h.0 h.1) h.1)
    ran.ensures.ok

pub returns-then-wait-clause-left : goal.returns-then-wait-clause-left
returns-then-wait-clause-left g c =
    let o = c.args.output.now in
    let ran = c.run_waiting in
    let next = c.wait.new in
    let a : Held = held_behind o c.args.waiting.now c.args.pending.now in
    let b : Held = held_behind o next.waiting next.pending in
    on_err ran.result
    (part_waits a o ran.new.output next.waiting ran.new.waiting next.pending (subst (λ (l : List Command). Executed l true a b) c.none.ensures (c.wait.ensures.waits c.if-wait.true o)))
    ran.ensures.part

pub returns-in_err-run_waiting-clause-left : goal.returns-in_err-run_waiting-clause-left
returns-in_err-run_waiting-clause-left g c =
    let ran = c.run_waiting-2 in
    let next = c.wait.new in
    on_err c.from_residual.result
    (λ (is : PartDrawn c.args.output.now next.waiting ran.new.output ran.new.waiting). part_left c.args.output.now ran.new.output c.args.waiting.now next.waiting ran.new.waiting c.args.pending.now next.pending (c.if-wait.ensures.same refl) is)
    (elim c.from_residual.result as (λ r. OnErr r (PartDrawn c.args.output.now next.waiting ran.new.output ran.new.waiting)) [ Ok x ↦ tt | Err e ↦ c.in_err-run_waiting.ensures.part ])

pub returns-clause-ok : goal.returns-clause-ok
returns-clause-ok g c =
    let ran = c.run_waiting-2 in
    let last = c.run_pending-2 in
    let next = c.wait.new in
    on_ok last.result
    (all_ran c.args.output.now ran.new.output last.new.output c.args.waiting.now next.waiting ran.new.waiting c.args.pending.now next.pending last.new.pending
    (c.if-wait.ensures.same refl) c.in_ok-run_waiting.ensures.ok)
    last.ensures.ok
