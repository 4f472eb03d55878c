use Rattle.std.proofs.Common.{◌∙◌, ap, sym, subst}
use Rattle.std.specs.Prelude.{All}
use Rattle.recorders.specs.Recorders.{port_of}
use Rattle.recorders.specs.Apart.{IsListed}
use Rattle.recorders.specs.Asking.{Asked}
use Rattle.recorders.specs.Receiving.{Receipts, ReceiptAgrees, Task, receipt_frame}
use Rattle.recorders.proofs.PortLemmas.{port_low}
use Rattle.recorders.proofs.received.ReceivedLists.join.Goals as goal

pub invariant_of-self-2 : goal.invariant_of-self-2
invariant_of-self-2 g c =
    let k = c.args.context in
    let before = ap (λ (t : Task). t.lines) (c.self.invariant.1 (port_of k) (port_low k c.requires)) in
    let same = ap (λ (r : Receipts _). r.lines) c.self-2.view_is ∙ ap (λ (a : Asked). a.lines) c.take_all.ensures.more.frame in (
      c.self-2.invariant.0,
      c.self-2.invariant.1,
      λ agrees. c.add_all.ensures c.self-2.inside.lines.now
          (subst (λ ls. All (IsListed ls) c.join_of-kept.result.0.items) (before ∙ sym same) c.join_of-kept.ensures.listed) (c.self-2.invariant.2 agrees),
    )

pub returns-clause-more : goal.returns-clause-more
returns-clause-more g c = record {
  frame = ap receipt_frame c.self-2.view_is ∙ c.take_all.ensures.more.frame ∙ ap receipt_frame c.self.view_is;
  agrees = λ agrees. subst ReceiptAgrees c.self.view_is (c.take_all.ensures.more.agrees (subst ReceiptAgrees c.self-2.view_is agrees));
}
