use Rattle.std.proofs.Common.{ap, sym, ◌∙◌, subst, ℤ}
use Rattle.std.proofs.Math.Facts.{to_z-of_z}
use Rattle.std.specs.Prelude.{Some}
use Rattle.gfxspec.specs.Commands.{DrawIndexed}
use Rattle.command.specs.Calls.{RecordsCall}
use Rattle.immediate.specs.Held.{Held, held_more}
use Rattle.device_calls.proofs.Recorded.{by_handle}
use Rattle.device_calls.proofs.on_device.yz_handle_device_draw_indexed.Goals as goal

pub returns : goal.returns
returns c =
    let Q : ℤ → Type 0 = λ b. RecordsCall (λ (h : Held). h.pending) held_more c.deref_mut.result.now (DrawIndexed c.args.count c.args.start b) c.draw_indexed.new.self c.draw_indexed.result in
    by_handle (λ old new s. RecordsCall (λ (h : Held). h.pending) held_more old (DrawIndexed c.args.count c.args.start c.args.base) new s) _ _ _ _ _ _
    (c.take-context.ensures.taken ∙ ap (λ v. Some v) (sym c.deref_mut.ensures.value)) c.put.ensures c.told-answer.ensures (subst Q (to_z-of_z c.ranges.base) c.draw_indexed.ensures)
