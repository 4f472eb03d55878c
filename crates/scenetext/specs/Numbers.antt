-- Arguments: numbers in a range, and names of contexts.
use Rattle.std.specs.Prelude.{ℕ, ℤ, pos, negsuc, ◌+◌, ◌==◌, nat_le, int_le, Bool, true, false, ◌&&◌, not, decimal, List, [], ◌∷◌, bytes_eq}
use Rattle.std.specs.Fmt.{signed_decimal}
use Rattle.std.specs.Str.Parse.{signed_digits_value}

-- what may stand as an argument: a number of a range, a number of 32 bits with a sign and other than 0, or a context
pub data Kind : Type 0 where
  Number : (low high : ℤ) → Kind
  NonZero : Kind
  Context : Kind

-- a number is spelled in plain decimal, and has no other spelling
abbrev pub is_number : ℤ → ℤ → List ℕ → Bool
is_number low high w =
    let z = signed_digits_value 10 w in
    bytes_eq (signed_decimal z) w && int_le low z && int_le z high

abbrev pub context_word : ℕ → List ℕ
context_word k = 100 ∷ (48 + k) ∷ []

-- `d0` to `d7`
abbrev pub is_context : List ℕ → Bool
is_context (d ∷ k ∷ []) = d == 100 && nat_le 48 k && nat_le k 55
is_context w = false

abbrev pub fits_kind : Kind → List ℕ → Bool
fits_kind (Number low high) w = is_number low high w
fits_kind NonZero w = is_number (negsuc 2147483647) (pos 2147483647) w && not (bytes_eq w (decimal 0))
fits_kind Context w = is_context w

-- each word is of its kind
abbrev pub fit : List Kind → List (List ℕ) → Bool
fit [] words = true
fit (k ∷ ks) [] = false
fit (k ∷ ks) (w ∷ ws) = fits_kind k w && fit ks ws

abbrev pub i32s : Kind
i32s = Number (negsuc 2147483647) (pos 2147483647)
