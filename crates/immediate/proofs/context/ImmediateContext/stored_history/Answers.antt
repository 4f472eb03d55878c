use Rattle.std.proofs.Common.{rules}
use Rattle.std.specs.declared.vec.Vec.{Vec}
use Rattle.pixelevents.specs.declared.NamedEvent.{NamedEvent}
use Rattle.immediate.specs.Histories.{IsHistory, placed_event}
use Rattle.pixelevents.proofs.OriginLaws.{named_as}
use Rattle.immediate.proofs.Tracing.{pending_named, pending_history, if_ok}
use Rattle.immediate.proofs.context.ImmediateContext.stored_history.Goals as goal

pub named_by-requires : goal.named_by-requires
named_by-requires g c = record {
  may =
      named_as _ _ (λ k o h e. tt) c.trace_pending.new.trace.trace.events.items c.trace_pending.new.trace.origins.items
      (pending_named c.args.x c.args.y c.args.self.now _ c.trace_pending.new.trace c.in_ok-trace_pending.ensures (search rules) (search rules) (search rules));
}

pub returns : goal.returns
returns g c =
    if_ok _ (λ (events : Vec NamedEvent _). IsHistory c.args.self.now c.args.x c.args.y events.items) c.named_by.result
    (λ events told. pending_history c.args.x c.args.y c.args.self.now _ c.trace_pending.new.trace c.in_ok-trace_pending.ensures (search rules) (search rules) (search rules) c.requires.settled (search rules) events.items told)
    (c.named_by.ensures placed_event (λ e o n h. h.2))
