use Rattle.std.proofs.Common.{ap, sym, subst, refl, ◌∙◌}
use Rattle.immediate.specs.Held.{Held, Stays, held_behind}
use Rattle.immediate.proofs.Waiting.{on_ok, on_err, has_settled, part_settled, stays_same}
use Rattle.immediate.proofs.context.ImmediateContext.settle.Goals as goal

pub returns-then-are_none-clause-ok : goal.returns-then-are_none-clause-ok
returns-then-are_none-clause-ok g c =
    let h = c.args.self.now in
    (stays_same h h refl, ap (λ (k : Held). k.waiting) (sym c.self.view_is) ∙ c.are_none.ensures c.if-are_none.true)

pub returns-clause-ok : goal.returns-clause-ok
returns-clause-ok g c =
    let i = c.self.inside in
    let ran = c.run_waiting in
    let new : Held = held_behind ran.new.output ran.new.waiting i.pending in
    on_ok ran.result (λ h. (subst (λ (a : Held). Stays a new) c.self.view_is (has_settled i.output ran.new.output i.waiting ran.new.waiting i.pending h.0 h.1), h.1)) ran.ensures.ok

pub returns-clause-left : goal.returns-clause-left
returns-clause-left g c =
    let i = c.self.inside in
    let ran = c.run_waiting in
    let new : Held = held_behind ran.new.output ran.new.waiting i.pending in
    on_err ran.result (λ is. subst (λ (a : Held). Stays a new) c.self.view_is (part_settled i.output ran.new.output i.waiting ran.new.waiting i.pending is)) ran.ensures.part
