use Rattle.std.proofs.Common.{◌≡◌, ◌≤◌, ◌+◌, true, take}
use Rattle.scenetext.specs.Reading.{AddsForm}
use Rattle.scenetext.proofs.text.with_block.Given as goal

abbrev pub invariant-loop-byte : goal.invariant-loop-byte
invariant-loop-byte l = record {
  adds : l.printable ≡ true → AddsForm (take l.byte-index l.block) l.form (record { in_word = l.in_word; separates = l.separates; spaces = l.form.spaces + l.spaces });
  few : l.spaces ≤ l.byte-index;
}
