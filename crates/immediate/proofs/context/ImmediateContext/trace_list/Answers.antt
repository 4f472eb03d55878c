use Rattle.std.proofs.Common.{◌≡◌, ◌∙◌, ap, subst, ℕ, Bool}
use Rattle.std.specs.Prelude.{OnOk}
use Rattle.cmdlist.specs.Drawable.{told}
use Rattle.pixelhistory.specs.declared.session.StepsOf.TheVariants as steps_of
use Rattle.pixelhistory.specs.Passing.{PassesList}
use Rattle.immediate.specs.Held.{Held, result_told}
use Rattle.immediate.proofs.context.ImmediateContext.trace_list.Goals as goal

pub returns : goal.returns
returns g c =
    let same : told c.told-told.result ≡ result_told c.args.self.now = λ i q. (c.told-told.ensures q ∙ ap (λ (h : Held). result_told h q) c.self.view_is) i in
    subst (λ (results : ℕ → Bool). OnOk c.trace_finished.result (PassesList results c.args.list.now steps_of.List c.args.x c.args.y c.args.trace.now c.trace_finished.new.trace)) same c.trace_finished.ensures
