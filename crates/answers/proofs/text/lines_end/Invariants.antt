use Rattle.std.proofs.Common.{◌≡◌, ◌+◌, drop}
use Rattle.answers.specs.Ends.{lines_end}
use Rattle.answers.proofs.text.lines_end.Given as goal

abbrev pub invariant-loop-at : goal.invariant-loop-at
invariant-loop-at l = lines_end l.fn.count l.fn.text ≡ l.at + lines_end l.left (drop l.at l.fn.text)
