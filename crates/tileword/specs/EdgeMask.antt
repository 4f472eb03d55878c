-- A set of a triangle's edges as a number (this project's own format).
use Rattle.std.specs.Prelude.{ℕ, ◌+◌, ◌*◌, ◌==◌, Bool, if◌then◌else◌}
use Rattle.tileword.specs.declared.edge_mask.EdgeMask.{EdgeMask}
use Rattle.tileword.specs.Bits.{field}

-- 1 where an edge is named
abbrev pub named_bit : Bool → ℕ
named_bit named = if named then 1 else 0

abbrev pub edge_bits : EdgeMask → ℕ
edge_bits mask = named_bit mask.edge0 + 2 * named_bit mask.edge1 + 4 * named_bit mask.edge2

-- the set that a number's lowest three bits are
abbrev pub edges_of : ℕ → EdgeMask
edges_of bits = record { edge0 = field bits 0 1 == 1; edge1 = field bits 1 1 == 1; edge2 = field bits 2 1 == 1 }
