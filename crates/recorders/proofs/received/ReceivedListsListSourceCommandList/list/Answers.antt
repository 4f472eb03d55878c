use Rattle.std.proofs.Common.{◌∙◌, ◌<◌, ap, sym, subst, length}
use Rattle.recorders.specs.Recording.{listed}
use Rattle.recorders.specs.Rows.{row}
use Rattle.recorders.specs.Receiving.{Receipts, TakenAgrees}
use Rattle.recorders.proofs.received.ReceivedListsListSourceCommandList.list.Goals as goal

pub returns : goal.returns
returns g c agrees =
    let k = c.args.context in
    let n = c.args.number in
    let here = subst (λ (x : Receipts _). n < length (row x.rows k)) (sym c.self.view_is) c.requires.held in
    let taken = subst (λ (x : Receipts _). TakenAgrees x.lines x.taken) (sym c.self.view_is) agrees in
    c.list.ensures ∙ c.self.invariant.2 taken k n here ∙ ap (λ (x : Receipts _). listed x.lines k n) c.self.view_is
