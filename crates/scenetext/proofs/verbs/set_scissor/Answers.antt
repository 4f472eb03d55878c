use Rattle.std.proofs.Common.{ap}
use Rattle.scenetext.specs.declared.verbs.CommandWord.TheVariants.{Scissor}
use Rattle.scenetext.specs.Commands.{ranges, shape, kinds_of}
use Rattle.scenetext.specs.Ranges.{kinds}
use Rattle.scenetext.proofs.ReadLemmas.{handed_on, words_fail, refused}
use Rattle.scenetext.proofs.verbs.set_scissor.Goals as goal

pub returns-in_err-next_argument-4-clause-err : goal.returns-in_err-next_argument-4-clause-err
returns-in_err-next_argument-4-clause-err g c = handed_on _ _ _ c.from_residual-in_err-next_argument-4.ensures.1 (refused Scissor (kinds (ranges Scissor)) _ _ (ap (kinds_of (shape Scissor)) c.in_ok-expect.ensures.ok) c.in_err-next_argument-4.ensures.err.0 (search (words_fail, c.in_ok-next_argument.ensures.ok, c.in_ok-next_argument-2.ensures.ok, c.in_ok-next_argument-3.ensures.ok, c.in_err-next_argument-4.ensures.err.1)))
