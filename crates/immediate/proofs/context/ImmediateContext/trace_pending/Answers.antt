use Rattle.std.proofs.Common.{◌≡◌, ◌∙◌, ap, subst, ℕ, Bool, List}
use Rattle.std.specs.Prelude.{OnOk}
use Rattle.gfxspec.specs.Commands.{Command}
use Rattle.cmdlist.specs.Drawable.{told}
use Rattle.pixelhistory.specs.Passing.{PassesList}
use Rattle.immediate.specs.Held.{Held, result_told}
use Rattle.immediate.proofs.context.ImmediateContext.trace_pending.Goals as goal

pub returns : goal.returns
returns g c =
    let same : told c.told-told.result ≡ result_told c.args.self.now = λ i q. (c.told-told.ensures q ∙ ap (λ (h : Held). result_told h q) c.self.view_is) i in
    subst (λ (list : List Command). OnOk c.trace_recorded.result (PassesList (result_told c.args.self.now) list c.args.steps c.args.x c.args.y c.args.trace.now c.trace_recorded.new.trace)) (ap (λ (h : Held). h.pending) c.self.view_is)
    (subst (λ (results : ℕ → Bool). OnOk c.trace_recorded.result (PassesList results c.self.inside.pending c.args.steps c.args.x c.args.y c.args.trace.now c.trace_recorded.new.trace)) same c.trace_recorded.ensures)
