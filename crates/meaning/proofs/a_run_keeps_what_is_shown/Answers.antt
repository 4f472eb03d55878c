use Rattle.meaning.proofs.Contexts.{shown_behind, answered_behind}
use Rattle.meaning.proofs.a_run_keeps_what_is_shown.Goals as goal

pub returns-clause-pixels : goal.returns-clause-pixels
returns-clause-pixels c = shown_behind

pub returns-clause-answers : goal.returns-clause-answers
returns-clause-answers c = answered_behind
