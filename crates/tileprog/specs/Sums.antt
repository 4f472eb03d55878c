-- Sums over boxes of pixels.
use Rattle.std.specs.Prelude.{ℕ, ◌+◌}
use Rattle.gfxspec.specs.Items.{sum_below}

-- f at each pixel of so many columns and rows, summed
abbrev pub box_sum : ℕ → ℕ → ℕ → ℕ → (ℕ → ℕ → ℕ) → ℕ
box_sum left columns top rows f = sum_below rows (λ i. sum_below columns (λ j. f (left + j) (top + i)))
