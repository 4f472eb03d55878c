-- The fields of a number of 32 bits that is a word of a tile's program (this project's own format).
use Rattle.std.specs.Prelude.{ℕ, ◌/◌, ◌%◌, ◌^◌, ◌≢◌, ◌⊎◌}

-- the bits from a place on, so many of them
abbrev pub field : ℕ → ℕ → ℕ → ℕ
field number low count = number / 2 ^ low % 2 ^ count

-- a bit that must be zero is set: bits 19 to 29 always, the edges' bits 16 to 18 but in a triangle's word
abbrev pub SetsZeroBit : ℕ → Type 0
SetsZeroBit number = (field number 19 11 ≢ 0) ⊎ ((field number 30 2 ≢ 1) × (field number 16 3 ≢ 0))
