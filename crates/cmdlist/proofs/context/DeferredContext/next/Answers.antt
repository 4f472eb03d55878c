use Rattle.std.proofs.Common.{refl, rules}
use Rattle.cmdlist.proofs.Recording.{sound_settings}
use Rattle.cmdlist.proofs.context.DeferredContext.next.Goals as goal

pub with_settings-requires : goal.with_settings-requires
with_settings-requires g c = sound_settings c.self.inside _ c.self.invariant refl

pub returns-then-not-restore-clause-next : goal.returns-then-not-restore-clause-next
returns-then-not-restore-clause-next g c = search rules

pub returns-clause-next : goal.returns-clause-next
returns-clause-next g c = search rules
