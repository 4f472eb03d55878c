-- Words and their numbers (this project's own format).
use Rattle.std.specs.Prelude.{ℕ, zero, suc, ◌+◌, ◌*◌, ◌^◌, ◌==◌, Option, Some, None, if◌then◌else◌}
use Rattle.tileword.specs.declared.word.Word.{Word}
use Rattle.tileword.specs.declared.word.Word.TheVariants.{State, Tri, ClearC, ClearDs}
use Rattle.tileword.specs.Bits.{field}
use Rattle.tileword.specs.EdgeMask.{edge_bits, edges_of}

-- kind, edges, operand
abbrev pub encoded : Word → ℕ
encoded (State number) = 0 * 2 ^ 30 + number
encoded (Tri number edges) = 1 * 2 ^ 30 + edge_bits edges * 2 ^ 16 + number
encoded (ClearC number) = 2 * 2 ^ 30 + number
encoded (ClearDs number) = 3 * 2 ^ 30 + number

-- the word of a kind, by its edges' bits and its operand
abbrev pub word_of : ℕ → ℕ → ℕ → Option Word
word_of zero edges number = if edges == 0 then Some (State number) else None
word_of (suc zero) edges number = Some (Tri number (edges_of edges))
word_of (suc (suc zero)) edges number = if edges == 0 then Some (ClearC number) else None
word_of (suc (suc (suc _))) edges number = if edges == 0 then Some (ClearDs number) else None

abbrev pub decoded : ℕ → Option Word
decoded number = if field number 19 11 == 0 then word_of (field number 30 2) (field number 16 3) (field number 0 16) else None
