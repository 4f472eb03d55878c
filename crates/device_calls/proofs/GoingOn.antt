-- A row that goes on with some of eight values.
use Rattle.std.proofs.Common.{◌≡◌, ◌∙◌, ap, arith, ⊎_elim, ℕ, ◌+◌, ◌-◌, ◌*◌, ◌/◌, ◌%◌, ◌<◌, ◌≤◌, List, get_or}
use Rattle.std.proofs.lemmas.Bool.{cases_lt}

pub row_goes_on : {A : Type 0} (d : A) (f : ℕ → A) (left k count x : ℕ) (old new eight : List A) → x ≡ left + k → x % 8 + count ≤ 8
    → ((j : ℕ) → j < k → get_or new j d ≡ get_or old j d)
    → ((j : ℕ) → j < count → get_or new (k + j) d ≡ get_or eight (x % 8 + j) d)
    → ((j : ℕ) → j < 8 → get_or eight j d ≡ f (8 * (x / 8) + j))
    → ((j : ℕ) → j < k → get_or old j d ≡ f (left + j))
    → (j : ℕ) → j < k + count → get_or new j d ≡ f (left + j)
row_goes_on d f left k count x old new eight is inside before here eights stored j l =
    ⊎_elim (λ less. before j less ∙ stored j less) (λ over. later (j - k) (omega (arith, over)) (omega (arith, over, l))) (cases_lt j k)
  where
    later : (i : ℕ) → j ≡ k + i → i < count → get_or new j d ≡ f (left + j)
    later i at few =
        ap (λ n. get_or new n d) at
        ∙ here i few
        ∙ eights (x % 8 + i) (omega (arith, inside, few))
        ∙ ap f (omega (arith, is, at))
