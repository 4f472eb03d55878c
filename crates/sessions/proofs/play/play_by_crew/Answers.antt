use Rattle.std.proofs.Common.{rules}
use Rattle.sessions.proofs.Ran.{untraced}
use Rattle.sessions.proofs.play.play_by_crew.Goals as goal

-- behind its own requires a closure asks what is known of the type parameters
pub play-requires-clause-may_run : goal.play-requires-clause-may_run
play-requires-clause-may_run g c _ _ _ here = let b = c.type_bounds in (here, (b.send-A, b.sync-A, search (rules, b.sync-R), b.frees-A-Allocator))

pub play-requires-clause-traces : goal.play-requires-clause-traces
play-requires-clause-traces g c a s r ran b post = untraced (g.S.ListSource.agrees s.now) (g.S.ListSource.right s.now) r a.now a.now b.now ran
