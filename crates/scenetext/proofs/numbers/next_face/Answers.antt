use Rattle.scenetext.proofs.ReadLemmas.{handed_on, words_fail}
use Rattle.scenetext.proofs.numbers.next_face.Goals as goal

pub returns-in_err-next_argument-4-clause-err : goal.returns-in_err-next_argument-4-clause-err
returns-in_err-next_argument-4-clause-err c = handed_on _ _ _ c.from_residual-in_err-next_argument-4.ensures.1 (c.in_err-next_argument-4.ensures.err.0, search (words_fail, c.in_ok-next_argument.ensures.ok, c.in_ok-next_argument-2.ensures.ok, c.in_ok-next_argument-3.ensures.ok, c.in_err-next_argument-4.ensures.err.1))
