use Rattle.std.proofs.Common.{◌∙◌, ◌+◌, ◌-◌, ◌%◌, min}
use Rattle.std.specs.Prelude.{bit_xor}
use Rattle.std.proofs.lemmas.List.{get_or-replicate}
use Rattle.lanes.proofs.stencil.ByteChanges.of.Goals as goal

pub returns : goal.returns
returns c =
    let one = c.of-change.result in
    record {
      gives = λ j v h small.
          (λ i. bit_xor ((min (v + get_or-replicate 8 j one.raise 0 h i) 255 - get_or-replicate 8 j one.lower 0 h i + get_or-replicate 8 j one.turn 0 h i) % 256) (get_or-replicate 8 j one.flip 0 h i))
          ∙ c.of-change.ensures.gives v small;
    }
