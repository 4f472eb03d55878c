use Rattle.sessions.proofs.Called.{held}
use Rattle.sessions.proofs.law.calls_leave_what_their_script_leaves.Goals as goal

pub returns : goal.returns
returns c = held
