use Rattle.std.proofs.Common.{rules, arith, sym, subst, ◌≤◌, ◌∷◌, []}
use Rattle.recorders.specs.Ports.{at_port}
use Rattle.recorders.specs.Recorders.{port_of, end_in}
use Rattle.recorders.specs.Ending.{pair_at}
use Rattle.recorders.specs.Receiving.{Receipts, LacksBy, AreRecorders, ReceiptLacks}
use Rattle.recorders.proofs.EndLemmas.{all_results}
use Rattle.recorders.proofs.PortLemmas.{each_port, port_low, result_at, lacks_same}
use Rattle.recorders.proofs.received.ReceivedLists.close.Goals as goal

pub returns-clause-results : goal.returns-clause-results
returns-clause-results g c =
    let at = subst (λ (r : Receipts _). AreRecorders r.lines r.queue c.self.inside.recorders) c.self.view_is c.self.invariant.1 in
    all_results _ _ _ _ _ _ _ (result_at _ _ _ (at 0 (omega arith)) c.close-zero.ensures.result) (result_at _ _ _ (at 1 (omega arith)) c.close-one.ensures.result) (result_at _ _ _ (at 2 (omega arith)) c.close-two.ensures.result) (result_at _ _ _ (at 3 (omega arith)) c.close-three.ensures.result)

pub returns-clause-lacks : goal.returns-clause-lacks
returns-clause-lacks g c k n low lacks =
    let before = subst (λ (r : Receipts _). ReceiptLacks r k n) (sym c.self.view_is) lacks in
    let ends = c.close-zero.result.end ∷ c.close-one.result.end ∷ c.close-two.result.end ∷ c.close-three.result.end ∷ [] in
    each_port (λ p. LacksBy (at_port c.self.inside.recorders p).result k n → (end_in (pair_at ends p) k).lists ≤ n) (lacks_same _ c.close-zero.result c.close-zero.ensures.same k n) (lacks_same _ c.close-one.result c.close-one.ensures.same k n) (lacks_same _ c.close-two.result c.close-two.ensures.same k n) (lacks_same _ c.close-three.result c.close-three.ensures.same k n) (port_of k) (port_low k low) before

pub returns-clause-drain : goal.returns-clause-drain
returns-clause-drain g c = search rules
