-- Where the lines of a text end.
use Rattle.std.specs.Prelude.{ℕ, zero, suc, List, [], ◌∷◌, ◌==◌, if◌then◌else◌}

-- where the first n lines of a text end, or the text
abbrev pub lines_end : ℕ → List ℕ → ℕ
lines_end zero text = 0
lines_end (suc n) [] = 0
lines_end (suc n) (b ∷ bs) = suc (lines_end (if b == 10 then n else suc n) bs)
