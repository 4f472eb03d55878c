use Rattle.std.proofs.Common.{◌∙◌, ◌+◌, ◌-◌, ◌%◌, slice_index}
use Rattle.std.specs.Prelude.{bit_xor}
use Rattle.lanes.proofs.stencil.ByteChanges.onto_each.Goals as goal

pub returns : goal.returns
returns c = λ j h.
    let s = c.args.self.now in
    c.turned_each.ensures j h
    ∙ (λ i. bit_xor ((c.lowered_each.ensures j h i + slice_index s.turn j) % 256) (slice_index s.flip j))
    ∙ (λ i. bit_xor ((c.raised_each.ensures j h i - slice_index s.lower j + slice_index s.turn j) % 256) (slice_index s.flip j))
