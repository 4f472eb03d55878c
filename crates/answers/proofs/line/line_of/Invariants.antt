use Rattle.std.proofs.Common.{◌≡◌, ◌≤◌, ◌+◌, ◌*◌, length}
use Rattle.answers.proofs.Spelled.{spelled}
use Rattle.answers.proofs.line.line_of.Given as goal

abbrev pub invariant-loop-number : goal.invariant-loop-number
invariant-loop-number l = record {
  text : l.text.bytes ≡ spelled l.fn.word l.fn.numbers l.number-index;
  room : length l.text.bytes ≤ 7 + 21 * l.number-index;
}
