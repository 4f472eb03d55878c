use Rattle.std.proofs.Common.{◌≡◌, ◌+◌, false, length, take, drop}
use Rattle.scenetext.specs.Reading.{HasForm}
use Rattle.scenetext.proofs.text.front_blocks.Given as goal

abbrev pub invariant-loop-block : goal.invariant-loop-block
invariant-loop-block l = record {
  rest : l.rest ≡ drop l.count l.text;
  within : l.count + length l.rest ≡ length l.text;
  form : HasForm false (take l.count l.text) l.form;
}

abbrev pub decreases-loop-block : goal.decreases-loop-block
decreases-loop-block l = length l.rest
