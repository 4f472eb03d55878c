use Rattle.std.proofs.Common.{ap, rules}
use Rattle.scenetext.specs.Faults.{word}
use Rattle.scenetext.proofs.RangeLemmas.{argument_refused}
use Rattle.scenetext.proofs.argument.next_argument.Goals as goal

pub returns-clause-err : goal.returns-clause-err
returns-clause-err g c =
    rw c.ok_or.ensures.value (argument_refused g.T.Argument.numbering.range (word c.args.words.now 0) c.in-Some.number c.of_number.result (ap (λ ws. word ws 0) c.in-Some.ensures.some) (search rules) g.T.Argument.numbering.small c.of_number.ensures.none)
