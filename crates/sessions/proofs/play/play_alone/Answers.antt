use Rattle.sessions.proofs.Ran.{untraced}
use Rattle.sessions.proofs.play.play_alone.Goals as goal

pub play-requires-clause-traces : goal.play-requires-clause-traces
play-requires-clause-traces g c a s r ran b post = untraced (g.S.ListSource.agrees s.now) (g.S.ListSource.right s.now) r a.now a.now b.now ran
