-- What an answer line is.
use Rattle.std.specs.Prelude.{ℕ, List, [], ◌∷◌, ◌++◌, map, codes, decimal}
use Rattle.std.specs.List.{flat_map, join_with_byte}
use Rattle.gfxspec.specs.declared.pixel.Pixel.{Pixel as PixelValue}
use Rattle.answers.specs.declared.line.Answer.{Answer}
use Rattle.answers.specs.declared.line.Answer.TheVariants.{Counted, Shown, Refused}

abbrev pub pixel_numbers : PixelValue → List ℕ
pixel_numbers value = value.rgba ++ value.ds.depth ∷ value.ds.stencil ∷ []

abbrev pub answer_words : Answer → List (List ℕ)
answer_words (Counted query count) = codes "query" ∷ decimal query ∷ decimal count ∷ []
answer_words (Shown x y value) = codes "pixel" ∷ decimal x ∷ decimal y ∷ map decimal (pixel_numbers value)
answer_words (Refused line number) = codes "refused" ∷ decimal line ∷ decimal number ∷ []

-- an answer as a line, ended by a line feed
abbrev pub answer_line : Answer → List ℕ
answer_line a = join_with_byte 32 (answer_words a) ++ 10 ∷ []

abbrev pub answer_lines : List Answer → List ℕ
answer_lines answers = flat_map answer_line answers
