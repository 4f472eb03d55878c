use Rattle.std.proofs.Common.{◌∙◌, ap, subst, [], ◌∷◌}
use Rattle.port.specs.History.{DrainHistory}
use Rattle.recorders.specs.Receiving.{Receipts, TakenAgrees, ReceiptAgrees, receipt_frame}
use Rattle.recorders.proofs.PortLemmas.{agrees_before, took}
use Rattle.recorders.proofs.received.ReceivedLists.take_one.Goals as goal

pub invariant_of-self-2 : goal.invariant_of-self-2
invariant_of-self-2 g c =
    let ls = c.self.inside.lines.now in
    let next = c.in-Some.ensures.2 in (
      ap (λ (p : DrainHistory _). p.queue) next ∙ c.self.invariant.0,
      c.self.invariant.1,
      λ agrees. took ls c.self.inside.drain.taken c.self.inside.rows c.add.new.self c.in-Some.next c.add.result c.self.invariant.2 c.in-Some.ensures.0 c.add.ensures.ok c.add.ensures.err (subst (TakenAgrees ls) (ap (λ (p : DrainHistory _). p.taken) next) agrees),
    )

pub returns : goal.returns
returns g c =
    let ls = c.self.inside.lines.now in
    let all = ap (λ (p : DrainHistory _). p.taken) c.in-Some.ensures.2 in
    record {
      more = record {
        frame = ap receipt_frame c.self.view_is;
        agrees = λ agrees. subst ReceiptAgrees c.self.view_is (agrees_before ls c.self.inside.drain.taken (c.in-Some.next ∷ []) _ all agrees);
      };
      same = ap (λ (r : Receipts _). r.recorders) c.self.view_is;
    }
