use Rattle.std.proofs.Common.{arith}
use Rattle.std.proofs.lemmas.Bool.Decides.{nat_tests}
use Rattle.scenetext.proofs.WordLemmas.{is_decimal}
use Rattle.scenetext.proofs.words.may_be_decimal.Goals as goal

pub returns-in-empty-clause-no : goal.returns-in-empty-clause-no
returns-in-empty-clause-no c = λ f n h e. (let d = is_decimal c.args.word.now n h e in absurd (omega arith))

pub returns-in-empty-2-clause-no : goal.returns-in-empty-2-clause-no
returns-in-empty-2-clause-no c = λ f n h e. (let d = is_decimal c.args.word.now n h e in absurd (grind arith))

pub returns-in_default-clause-no : goal.returns-in_default-clause-no
returns-in_default-clause-no c = λ f n h e. (let d = is_decimal c.args.word.now n h e in absurd (grind (arith, nat_tests)))
