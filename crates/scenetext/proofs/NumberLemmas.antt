-- Numbers in plain decimal, and names of contexts: from a value to its word, and back.
use Rattle.std.proofs.Common.{◌≡◌, ◌≢◌, ℕ, ℤ, pos, negsuc, suc, ◌-◌, ◌^◌, ◌<◌, ◌≤◌, Bool, true, false, ◌&&◌, not, eqb, leb, List, [], ◌∷◌, length, get_or, refl, sym, ap, subst, ◌∙◌, arith}
use Rattle.std.specs.Prelude.{decimal, bytes_eq, int_le, FitsSigned}
use Rattle.std.specs.List.{list_all}
use Rattle.std.specs.Int.{w32}
use Rattle.std.specs.Fmt.{signed_decimal}
use Rattle.std.specs.Str.Parse.{AllDigits, digits_value, signed_digits_value}
use Rattle.std.specs.Char.{digit_value}
use Rattle.std.proofs.lemmas.Bool.{eqb-true}
use Rattle.std.proofs.lemmas.Bool.Decides.{nat_tests}
use Rattle.std.proofs.lemmas.Int.{ints}
use Rattle.std.proofs.lemmas.Slice.Eq.{bytes_eq-Decides}
use Rattle.std.proofs.lemmas.Str.Parse.{IsNumeralModel, numerals_by_value, tells_digits, digit_from_value, not_in_digits}
use Rattle.std.proofs.lemmas.Fmt.{digits_decimal, digits_value-decimal, decimal_nonempty}
use lib.Signed.{mag}
use Rattle.scenetext.specs.Text.{is_printable, is_word}
use Rattle.scenetext.specs.Numbers.{NonZero, is_number, context_word, is_context, fits_kind, i32s}
use Rattle.scenetext.proofs.TextLemmas.{IsWordText, Lacks, and_left, and_right}

pub own : IsNumeralModel (AllDigits 10) (digits_value 10)
own = numerals_by_value (AllDigits 10) tells_digits

-- a test that cannot be true
pub false_from : (b : Bool) → (b ≡ true → ⊥) → b ≡ false
false_from true h = absurd (h refl)
false_from false h = refl

pub no_minus : (n : ℕ) → n < 2 ^ 64 → eqb (get_or (decimal n) 0 0) 45 ≡ false
no_minus n h =
    let ne : eqb (get_or (decimal n) 0 0) 45 ≡ true → ⊥ = λ e. not_in_digits own (decimal n) 45 (digits_decimal own n h) (λ r. absurd (omega arith)) 0 (decimal_nonempty n h) (eqb-true _ 45 e) in
    false_from _ ne

pub no_plus : (n : ℕ) → n < 2 ^ 64 → eqb (get_or (decimal n) 0 0) 43 ≡ false
no_plus n h =
    let ne : eqb (get_or (decimal n) 0 0) 43 ≡ true → ⊥ = λ e. not_in_digits own (decimal n) 43 (digits_decimal own n h) (λ r. absurd (omega arith)) 0 (decimal_nonempty n h) (eqb-true _ 43 e) in
    false_from _ ne

plain_value : (n : ℕ) → n < 2 ^ 64 → signed_digits_value 10 (decimal n) ≡ pos n
plain_value n h = rw (no_minus n h, no_plus n h) (ap pos (digits_value-decimal own n h))

pub value-signed_decimal : (z : ℤ) → mag z < 2 ^ 63 → signed_digits_value 10 (signed_decimal z) ≡ z
value-signed_decimal (pos n) h = plain_value n (omega arith)
value-signed_decimal (negsuc n) h = rw (digits_value-decimal own (suc n) (omega arith)) refl

-- a number within the range is spelled by its word
pub is_number-signed_decimal : (low high z : ℤ) → mag z < 2 ^ 63 → int_le low z ≡ true → int_le z high ≡ true → is_number low high (signed_decimal z) ≡ true
is_number-signed_decimal low high z h l u = rw (value-signed_decimal z h, (bytes_eq-Decides (signed_decimal z) (signed_decimal z)).1 refl, l, u) refl

-- and each word of a number spells one
pub is_number_is : (low high : ℤ) (w : List ℕ) → is_number low high w ≡ true → (z : ℤ) × (w ≡ signed_decimal z) × (int_le low z ≡ true) × (int_le z high ≡ true)
is_number_is low high w h =
    let z = signed_digits_value 10 w in
    let a = and_left (bytes_eq (signed_decimal z) w && int_le low z) (int_le z high) h in
    let b = and_right (bytes_eq (signed_decimal z) w && int_le low z) (int_le z high) h in
    (z, sym ((bytes_eq-Decides (signed_decimal z) w).0 (and_left (bytes_eq (signed_decimal z) w) (int_le low z) a)), and_right (bytes_eq (signed_decimal z) w) (int_le low z) a, b)

-- digits may stand as a word
digit_is : (c : ℕ) → digit_value c < 10 → (is_printable c ≡ true) × (eqb c 32 ≡ false)
digit_is c h = let r = digit_from_value c h in (grind (arith, nat_tests), grind (arith, nat_tests))

digits_printable : (ds : List ℕ) → AllDigits 10 ds → list_all is_printable ds ≡ true
digits_printable [] h = refl
digits_printable (c ∷ cs) h = rw ((digit_is c h.0).0) (digits_printable cs h.1)

digits_no_space : (ds : List ℕ) → AllDigits 10 ds → Lacks 32 ds
digits_no_space [] h = tt
digits_no_space (c ∷ cs) h = ((digit_is c h.0).1, digits_no_space cs h.1)

some_is_word : (w : List ℕ) → 0 < length w → is_word w ≡ true
some_is_word w h = grind (arith, nat_tests)

pub IsWordText-decimal : (n : ℕ) → n < 2 ^ 64 → IsWordText (decimal n)
IsWordText-decimal n h = record { is = some_is_word (decimal n) (decimal_nonempty n h); printable = digits_printable (decimal n) (digits_decimal own n h); no_space = digits_no_space (decimal n) (digits_decimal own n h) }

pub IsWordText-signed_decimal : (z : ℤ) → mag z < 2 ^ 63 → IsWordText (signed_decimal z)
IsWordText-signed_decimal (pos n) h = IsWordText-decimal n (omega arith)
IsWordText-signed_decimal (negsuc n) h =
    let d = IsWordText-decimal (suc n) (omega arith) in
    record { is = some_is_word (45 ∷ decimal (suc n)) (omega arith); printable = d.printable; no_space = (refl, d.no_space) }

pub IsWordText-context : (k : ℕ) → k < 8 → IsWordText (context_word k)
IsWordText-context k h = record { is = refl; printable = grind (arith, nat_tests); no_space = (refl, (grind (arith, nat_tests), tt)) }

-- ---- the words of values are of their kinds

pub natural_fits : (low high n : ℕ) → low ≤ n → n ≤ high → n < 2 ^ 63 → is_number (pos low) (pos high) (decimal n) ≡ true
natural_fits low high n l h small = is_number-signed_decimal (pos low) (pos high) (pos n) small (grind (arith, nat_tests)) (grind (arith, nat_tests))

pub integer_fits : (z : ℤ) → FitsSigned w32 z → fits_kind i32s (signed_decimal z) ≡ true
integer_fits (pos n) h = is_number-signed_decimal (negsuc 2147483647) (pos 2147483647) (pos n) (omega (arith, ints)) refl (grind (arith, ints))
integer_fits (negsuc n) h = is_number-signed_decimal (negsuc 2147483647) (pos 2147483647) (negsuc n) (omega (arith, ints)) (grind (arith, ints)) refl

-- a word that spells no number of 32 bits is no such number other than 0 either
pub integer_fails : (w : List ℕ) → fits_kind i32s w ≡ false → fits_kind NonZero w ≡ false
integer_fails w h = rw h refl

not_both : (b : Bool) → not b ≡ true → b ≡ true → ⊥
not_both true h e = absurd cc
not_both false h e = absurd cc

-- nor is the word of 0
pub zero_fails : (w : List ℕ) → w ≡ signed_decimal (pos 0) → fits_kind NonZero w ≡ false
zero_fails w e = false_from _ (λ t. not_both (bytes_eq w (decimal 0)) (and_right (fits_kind i32s w) (not (bytes_eq w (decimal 0))) t) ((bytes_eq-Decides w (decimal 0)).1 e))

-- a number other than 0 isn't spelled as 0 is
unlike_zero : (z : ℤ) → FitsSigned w32 z → z ≢ pos 0 → bytes_eq (signed_decimal z) (decimal 0) ≡ false
unlike_zero z h ne =
    false_from _ (λ t.
    let same : signed_decimal z ≡ signed_decimal (pos 0) = (bytes_eq-Decides (signed_decimal z) (decimal 0)).0 t in
    ne (sym (value-signed_decimal z (mag_small z h)) ∙ ap (signed_digits_value 10) same ∙ value-signed_decimal (pos 0) (omega arith)))
  where
    mag_small : (z : ℤ) → FitsSigned w32 z → mag z < 2 ^ 63
    mag_small (pos n) h = omega (arith, ints)
    mag_small (negsuc n) h = omega (arith, ints)

pub nonzero_fits : (z : ℤ) → FitsSigned w32 z → z ≢ pos 0 → fits_kind NonZero (signed_decimal z) ≡ true
nonzero_fits z h ne = rw (integer_fits z h, unlike_zero z h ne) refl

pub context_fits : (k : ℕ) → k < 8 → is_context (context_word k) ≡ true
context_fits k h = grind (arith, nat_tests)

pub small_signed : (z : ℤ) → FitsSigned w32 z → mag z < 2 ^ 63
small_signed (pos n) h = omega (arith, ints)
small_signed (negsuc n) h = omega (arith, ints)

-- ---- the values of words

abbrev pub value : List ℕ → ℕ
value w = digits_value 10 w

abbrev pub number : List ℕ → ℤ
number w = signed_digits_value 10 w

abbrev pub context : List ℕ → ℕ
context w = get_or w 1 0 - 48

pub value-decimal : (n : ℕ) → n < 2 ^ 64 → value (decimal n) ≡ n
value-decimal n h = digits_value-decimal own n h

natural_of : (low high : ℕ) (w : List ℕ) (z : ℤ) → w ≡ signed_decimal z → int_le (pos low) z ≡ true → int_le z (pos high) ≡ true → (n : ℕ) × (w ≡ decimal n) × (low ≤ n) × (n ≤ high)
natural_of low high w (pos n) e l u = (n, e, grind (arith, nat_tests), grind (arith, nat_tests))
natural_of low high w (negsuc n) e l u = absurd cc

pub natural_between : (low high : ℕ) (w : List ℕ) → high < 2 ^ 63 → is_number (pos low) (pos high) w ≡ true → (w ≡ decimal (value w)) × (low ≤ value w) × (value w ≤ high)
natural_between low high w small h =
    let z = is_number_is (pos low) (pos high) w h in
    let n = natural_of low high w z.0 z.1 z.2 z.3 in
    let v : value w ≡ n.0 = ap value n.1 ∙ value-decimal n.0 (omega (arith, n.3)) in
    (n.1 ∙ ap decimal (sym v), omega (arith, n.2), omega (arith, n.3))

in_w32 : (z : ℤ) → int_le (negsuc 2147483647) z ≡ true → int_le z (pos 2147483647) ≡ true → FitsSigned w32 z
in_w32 (pos n) l u = record { sfits = grind (arith, nat_tests) }
in_w32 (negsuc n) l u = record { sfits = grind (arith, nat_tests) }

pub integer_is : (w : List ℕ) → fits_kind i32s w ≡ true → (w ≡ signed_decimal (number w)) × FitsSigned w32 (number w)
integer_is w h =
    let z = is_number_is (negsuc 2147483647) (pos 2147483647) w h in
    let f = in_w32 z.0 z.2 z.3 in
    let v : number w ≡ z.0 = ap number z.1 ∙ value-signed_decimal z.0 (small_signed z.0 f) in
    (z.1 ∙ ap signed_decimal (sym v), subst (λ y. FitsSigned w32 y) (sym v) f)

pub nonzero_is : (w : List ℕ) → fits_kind NonZero w ≡ true → (w ≡ signed_decimal (number w)) × FitsSigned w32 (number w) × (number w ≢ pos 0)
nonzero_is w h =
    let i = integer_is w (and_left (fits_kind i32s w) (not (bytes_eq w (decimal 0))) h) in
    let other = and_right (fits_kind i32s w) (not (bytes_eq w (decimal 0))) h in
    (i.0, i.1, λ e. not_both (bytes_eq w (decimal 0)) other ((bytes_eq-Decides w (decimal 0)).1 (i.0 ∙ ap signed_decimal e)))

pub context_is : (w : List ℕ) → is_context w ≡ true → (w ≡ context_word (context w)) × (context w < 8)
context_is [] h = absurd cc
context_is (a ∷ []) h = absurd cc
context_is (a ∷ b ∷ []) h =
    let h2 = and_left (eqb a 100 && leb 48 b) (leb b 55) h in
    let b2 = and_right (eqb a 100 && leb 48 b) (leb b 55) h in
    let b1 = and_right (eqb a 100) (leb 48 b) h2 in
    let ea : a ≡ 100 = eqb-true a 100 (and_left (eqb a 100) (leb 48 b) h2) in
    let low : 48 ≤ b = grind (arith, nat_tests) in
    let high : b ≤ 55 = grind (arith, nat_tests) in
    (rw ea (ap (λ c. 100 ∷ c ∷ []) (omega arith)), omega arith)
context_is (a ∷ b ∷ c ∷ w) h = absurd cc
