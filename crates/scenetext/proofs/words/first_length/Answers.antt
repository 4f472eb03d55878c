use Rattle.std.proofs.Common.{sym, ◌∙◌}
use Rattle.scenetext.proofs.CutLemmas.{found_at, found_nowhere}
use Rattle.scenetext.proofs.words.first_length.Goals as goal

pub returns-in-Some : goal.returns-in-Some
returns-in-Some c = sym (found_at c.args.line.now c.in-Some.count (sym c.space_at.ensures ∙ c.in-Some.is))

pub returns-in-None : goal.returns-in-None
returns-in-None c = sym (found_nowhere c.args.line.now (sym c.space_at.ensures ∙ c.in-None.is))
