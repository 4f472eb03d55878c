use Rattle.std.proofs.Common.{rules}
use Rattle.pixelevents.proofs.OriginLaws.{named_as}
use Rattle.sessions.specs.Histories.{named_event}
use Rattle.sessions.proofs.telling.all_named.Goals as goal

pub named_by-requires : goal.named_by-requires
named_by-requires g c =
    let same = c.requires.same in
    record { may = named_as _ _ (λ k o low e. search (rules, low, same)) c.args.trace.now.trace.events.items c.args.trace.now.origins.items c.requires.below }

pub returns : goal.returns
returns g c = c.named_by.ensures (named_event c.args.dealt.now) (λ e o n h. h.2)
