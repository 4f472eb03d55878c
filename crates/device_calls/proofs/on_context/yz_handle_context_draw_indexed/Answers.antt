use Rattle.std.proofs.Common.{ap, sym, ◌∙◌, subst, ℤ, List, [], ◌∷◌, ◌++◌}
use Rattle.std.proofs.Math.Facts.{to_z-of_z}
use Rattle.std.specs.Prelude.{Some}
use Rattle.gfxspec.specs.Commands.{Command, DrawIndexed}
use Rattle.command.specs.Calls.{RecordsCall}
use Rattle.device_calls.proofs.Recorded.{by_handle}
use Rattle.device_calls.proofs.on_context.yz_handle_context_draw_indexed.Goals as goal

pub returns : goal.returns
returns c =
    let Q : ℤ → Type 0 = λ b. RecordsCall (λ (commands : List Command). commands) (λ commands k. commands ++ k ∷ []) c.deref_mut.result.now (DrawIndexed c.args.count c.args.start b) c.draw_indexed.new.self c.draw_indexed.result in
    by_handle (λ old new s. RecordsCall (λ (commands : List Command). commands) (λ commands k. commands ++ k ∷ []) old (DrawIndexed c.args.count c.args.start c.args.base) new s) _ _ _ _ _ _
    (c.take-context.ensures.taken ∙ ap (λ v. Some v) (sym c.deref_mut.ensures.value)) c.put.ensures c.told-answer.ensures (subst Q (to_z-of_z c.ranges.base) c.draw_indexed.ensures)
