use Rattle.std.proofs.Common.{◌∙◌, ap, sym, subst, ◌++◌, append_assoc, arith}
use Rattle.port.specs.History.{PortsOf, DrainHistory, AreAll, AllTaken, lengths_of}
use Rattle.port.proofs.Settling.{after_next}
use Rattle.port.proofs.ports.Ports.drain_and_settle.Goals as goal

pub settle-requires : goal.settle-requires
settle-requires g c = let held = c.loop.invariant in (
  omega arith,
  (subst (λ q. AreAll q c.loop.passes) (sym held.ports) (subst (AreAll c.args.self.queue) (sym held.passes) c.requires.passes), held.drain ∙ sym held.ports),
)

pub returns-in-Ok : goal.returns-in-Ok
returns-in-Ok g c = let held = c.loop.invariant in record {
  counts = c.in-Ok.ensures.0 ∙ ap lengths_of held.passes;
  taken = (held.more.0, subst (AllTaken c.args.passes) held.more.1 (subst (λ ps. AllTaken ps c.loop.drain.taken) held.passes c.in-Ok.ensures.1));
}

pub loop-preserved-in-Err : goal.loop-preserved-in-Err
loop-preserved-in-Err g c =
    let held = c.loop.invariant in
    let back = c.in-Err.ensures in
    let next = after_next _ _ _ c.next-in-Err.result c.in-Err.back.3 c.next-in-Err.new.pass c.next-in-Err.ensures in
    record {
      ports = ap (λ (p : PortsOf). p.queue) back.1 ∙ held.ports;
      passes = back.2 ∙ held.passes;
      drain = next.0 ∙ ap (λ (d : DrainHistory _). d.queue) back.3 ∙ held.drain;
      more = (
        held.more.0 ++ next.1,
        next.2 ∙ ap (λ t. t ++ next.1) (ap (λ (d : DrainHistory _). d.taken) back.3 ∙ held.more.1) ∙ append_assoc c.args.drain.taken held.more.0 next.1,
      );
    }
