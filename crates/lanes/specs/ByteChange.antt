-- Operations on stored bytes in one form.
use Rattle.std.specs.Prelude.{ℕ, ◌≡◌, ◌+◌, ◌-◌, ◌%◌, ◌<◌, min, bit_xor, slice_index}
use Rattle.gfxspec.specs.declared.state.StencilOp.{StencilOp}
use Rattle.gfxspec.specs.DepthStencil.{stencil_result}
use Rattle.lanes.specs.declared.stencil.ByteChange.{ByteChange}
use Rattle.lanes.specs.declared.stencil.ByteChanges.{ByteChanges}

-- up by a number, no further than 255; down by one, no further than 0; up by one, round; some bits turned
abbrev pub changed : ByteChange → ℕ → ℕ
changed c v = bit_xor ((min (v + c.raise) 255 - c.lower + c.turn) % 256) c.flip

-- the change is what an operation does by a reference
pub record IsChange (c : ByteChange) (op : StencilOp) (reference : ℕ) : Type 0 where
  pub gives : (v : ℕ) → v < 256 → changed c v ≡ stencil_result op v reference

-- the same at value j of eight
abbrev pub changed_at : ByteChanges → ℕ → ℕ → ℕ
changed_at c j v = bit_xor ((min (v + slice_index c.raise j) 255 - slice_index c.lower j + slice_index c.turn j) % 256) (slice_index c.flip j)

pub record AreChanges (c : ByteChanges) (op : StencilOp) (reference : ℕ) : Type 0 where
  pub gives : (j v : ℕ) → j < 8 → v < 256 → changed_at c j v ≡ stencil_result op v reference
