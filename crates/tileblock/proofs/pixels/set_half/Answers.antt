use Rattle.std.proofs.Common.{rules}
use Rattle.std.proofs.lemmas.List.{places}
use Rattle.tileblock.proofs.pixels.set_half.Goals as goal

pub returns-clause-length : goal.returns-clause-length
returns-clause-length c = search (rules, places)

pub returns-clause-here : goal.returns-clause-here
returns-clause-here c = λ j h. search (rules, places)

pub returns-clause-before : goal.returns-clause-before
returns-clause-before c = λ k h. search (rules, places)

pub returns-clause-behind : goal.returns-clause-behind
returns-clause-behind c = λ k h. search (rules, places)
