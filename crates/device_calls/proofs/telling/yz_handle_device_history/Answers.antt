use Rattle.std.proofs.Common.{rules, ◌≡◌, ◌∙◌, ap, sym, subst, List, length, nat_le, Some}
use Rattle.std.specs.Prelude.{if◌then◌else◌}
use Rattle.pixelevents.specs.declared.NamedEvent.{NamedEvent}
use Rattle.pixelevents.specs.Named.{events_filled}
use Rattle.device_calls.proofs.ToldHistory.{told_history}
use Rattle.device_calls.proofs.telling.yz_handle_device_history.Goals as goal

pub returns-in-Ok-clause-told : goal.returns-in-Ok-clause-told
returns-in-Ok-clause-told c =
    let area = c.args.events.now in
    let lent : c.as_slice.result.now ≡ c.in-Ok.history.items = search rules in
    told_history c.args.device.now.value c.deref_mut.result.now c.args.x c.args.y c.args.events.now c.fill_if_all_fit.new.area _ c.in-Ok.history.items (c.take-context.ensures.taken ∙ ap Some (sym c.deref_mut.ensures.value)) c.in-Ok.ensures.value (search rules)
    (subst (λ (es : List NamedEvent). c.fill_if_all_fit.new.area ≡ (if nat_le (length es) (length area) then events_filled area es else area)) lent c.fill_if_all_fit.ensures)
