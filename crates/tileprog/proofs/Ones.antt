-- Bits of a mask, counted.
use Rattle.std.proofs.Common.{◌≡◌, ◌∙◌, ap, sym, refl, arith, ℕ, zero, suc, ◌+◌, ◌*◌, ◌/◌, ◌%◌, ◌^◌, ◌<◌, if◌then◌else◌}
use Rattle.std.specs.Prelude.{◌==◌}
use Rattle.std.specs.Int.{bit_at}
use Rattle.std.proofs.Math.Nat.{pow-suc}
use Rattle.std.proofs.lemmas.Nat.{ones_cat}
use Rattle.std.proofs.lemmas.Nat.Bits.{bit_at-lt, bit_at_lowest, bit_at-suc}
use Rattle.std.specs.Int.RustNames.{count_ones}
use Rattle.gfxspec.specs.Items.{sum_below}
use Rattle.lanes.specs.Stencil.{has}
use Rattle.tileprog.specs.Counting.{one_if, eight, column_sum}

sum_of_two : (a b c d : ℕ) → a ≡ c → b ≡ d → a + b ≡ c + d
sum_of_two a b c d p q = omega arith

pub same_sums : (n : ℕ) (f g : ℕ → ℕ) → ((k : ℕ) → k < n → f k ≡ g k) → sum_below n f ≡ sum_below n g
same_sums zero f g h = refl
same_sums (suc n) f g h = sum_of_two _ _ _ _ (same_sums n f g (λ k l. h k (omega arith))) (h n (omega arith))

pub sum_more : (n : ℕ) (f : ℕ → ℕ) → sum_below (n + 1) f ≡ sum_below n f + f n
sum_more n f = ap (λ k. sum_below k f) one
  where
    one : n + 1 ≡ suc n
    one = omega arith

pub eight_same : (f g : ℕ → ℕ) → ((k : ℕ) → k < 8 → f k ≡ g k) → eight f ≡ eight g
unfolding eight
eight_same f g h = same_sums 8 f g h

pub eight_none : (f : ℕ → ℕ) → ((k : ℕ) → k < 8 → f k ≡ 0) → eight f ≡ 0
unfolding eight
eight_none f h = same_sums 8 f (λ k. 0) h

bit_is : (n j : ℕ) → bit_at n j ≡ one_if (has n j)
bit_is n j = by (bit_at n j) (bit_at-lt n j)
  where
    by : (b : ℕ) → b < 2 → b ≡ (if b == 1 then 1 else 0)
    by zero h = refl
    by (suc zero) h = refl
    by (suc (suc b)) h = absurd (omega arith)

one_bit : (a : ℕ) → a < 2 → count_ones a ≡ a
unfolding count_ones
one_bit zero h = refl
one_bit (suc zero) h = refl
one_bit (suc (suc a)) h = absurd (omega arith)

-- the sum of a list of bits, from the lowest on
from_front : (n : ℕ) (f : ℕ → ℕ) → sum_below (suc n) f ≡ f 0 + sum_below n (λ k. f (suc k))
from_front zero f = omega arith
from_front (suc n) f = let before = from_front n f in assoc _ _ _ _ before
  where
    assoc : (a b d e : ℕ) → a ≡ b + d → a + e ≡ b + (d + e)
    assoc a b d e h = omega arith

cat : (a r : ℕ) → r < 2 ^ 1 → count_ones (a * 2 ^ 1 + r) ≡ count_ones r + count_ones a
unfolding count_ones
cat a r h = let e = ones_cat 1 a r h in omega arith

-- the ones of a number are its bits
ones_bits : (k n : ℕ) → n < 2 ^ k → count_ones n ≡ sum_below k (λ j. bit_at n j)
ones_bits zero n h = let none : n ≡ 0 = omega arith in ap count_ones none ∙ one_bit 0 (omega arith)
ones_bits (suc k) n h =
    let double = pow-suc 2 k in
    let split : n ≡ n / 2 * 2 ^ 1 + n % 2 = omega arith in
    ap count_ones split ∙ cat (n / 2) (n % 2) (omega arith)
    ∙ sum_of_two _ _ _ _ (one_bit (n % 2) (omega arith) ∙ sym (bit_at_lowest n))
    (ones_bits k (n / 2) (omega arith) ∙ same_sums k _ _ (λ j l. sym (bit_at-suc n j)))
    ∙ sym (from_front k (λ j. bit_at n j))

pub mask_ones : (bits : ℕ) → bits < 256 → count_ones bits ≡ eight (λ j. one_if (has bits j))
unfolding eight
mask_ones bits h = ones_bits 8 bits h ∙ same_sums 8 _ _ (λ j l. bit_is bits j)

-- one row more of a column
pub row_counted : (x top n y passed more : ℕ) (f : ℕ → ℕ → ℕ) → top + n ≡ y → passed ≡ column_sum x top n f → more ≡ eight (λ j. f (x + j) y) → (m : ℕ) → m ≡ n + 1 → passed + more ≡ column_sum x top m f
row_counted x top n y passed more f at was is m e =
    sum_of_two _ _ _ _ was (is ∙ ap (λ v. eight (λ j. f (x + j) v)) (sym at))
    ∙ sym (sum_more n (λ i. eight (λ j. f (x + j) (top + i)))) ∙ ap (λ k. column_sum x top k f) (sym e)
