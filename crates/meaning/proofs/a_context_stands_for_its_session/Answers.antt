use Rattle.meaning.proofs.Contexts.{stands_new, stands_recorded, stands_flushed, stands_executed}
use Rattle.meaning.proofs.a_context_stands_for_its_session.Goals as goal

pub returns-clause-new : goal.returns-clause-new
returns-clause-new c = stands_new

pub returns-clause-recorded : goal.returns-clause-recorded
returns-clause-recorded c size steps old command h accepted = stands_recorded size steps old h command accepted

pub returns-clause-flushed : goal.returns-clause-flushed
returns-clause-flushed c size steps old new h none run = stands_flushed size steps old h new none run

pub returns-clause-executed : goal.returns-clause-executed
returns-clause-executed c size steps old new list restore h none closed accepted run = stands_executed size steps old h list restore new none closed accepted run
