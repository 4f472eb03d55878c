use Rattle.player.proofs.Played.{held}
use Rattle.player.proofs.law.lines_leave_what_their_script_leaves.Goals as goal

pub returns : goal.returns
returns c = held
