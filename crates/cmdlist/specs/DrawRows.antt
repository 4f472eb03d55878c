-- The rows of a draw but the one on the length of the list.
use Rattle.std.specs.Prelude.{ℕ, ℤ, ◌+◌, nat_lt, not, List, [], ◌∷◌, length, is_none}
use Rattle.gfxspec.specs.declared.error.GfxError.TheVariants.{DrawRange, IndexRange, TopologyUnset}
use Rattle.gfxspec.specs.State.{Settings}
use Rattle.gfxspec.specs.Assembly.{part}
use Rattle.gfxspec.specs.Refusals.{Row, are_used_well}

abbrev pub draw_rows : Settings → ℕ → ℕ → List Row
draw_rows s count start = (TopologyUnset, is_none s.topology) ∷ (DrawRange, nat_lt (length s.vertices) (start + count)) ∷ []

abbrev pub draw_indexed_rows : Settings → ℕ → ℕ → ℤ → List Row
draw_indexed_rows s count start base =
    (TopologyUnset, is_none s.topology) ∷ (DrawRange, nat_lt (length s.indices) (start + count))
    ∷ (IndexRange, not (are_used_well s base (part count start s.indices))) ∷ []
