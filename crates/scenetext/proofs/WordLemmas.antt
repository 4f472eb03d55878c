-- Words that spell numbers.
use Rattle.std.proofs.Common.{◌≡◌, ◌≢◌, ℕ, ℤ, pos, negsuc, neg_ℤ, ◌-ℤ◌, zero, suc, ◌+◌, ◌-◌, ◌*◌, ◌^◌, ◌<◌, ◌≤◌, true, false, not, eqb, List, [], ◌∷◌, ◌++◌, length, get_or, take, drop, take_all, length-take-le, Result, Ok, Err, refl, sym, ap, subst, ⊎_elim, ◌∙◌, arith}
use Rattle.std.specs.Prelude.{decimal, IfSome, IfNone, FitsSigned}
use Rattle.std.specs.Int.{w32, w64, IsInRange}
use Rattle.std.specs.Result.{OkIff, result_ok}
use Rattle.std.specs.Fmt.{digits, signed_decimal}
use Rattle.std.specs.Char.{digit_value, is_ascii_digit}
use Rattle.std.specs.Str.Parse.{AllDigits, digits_value, digits_value_after}
use Rattle.std.proofs.lemmas.Bool.Decides.{nat_tests}
use Rattle.std.proofs.lemmas.Bool.{cases_lt, eqb-true}
use Rattle.std.proofs.lemmas.List.{take_more, get_or-take}
use Rattle.std.proofs.lemmas.List.Sums.{prefix_len-le-length, passes_at_first, position_or_len_is}
use Rattle.std.proofs.lemmas.Str.Parse.{digits_value_short, digit_at}
use Rattle.std.proofs.lemmas.Fmt.{digits_decimal, decimal-digits_value, decimal_nonempty, first_decimal, length-decimal-le, decimal_injective}
use Rattle.std.proofs.lemmas.Int.{ints, to_z-of_z}
use mir.Val.{to_z, of_z}
use Rattle.scenetext.specs.Reading.{LeadsWith, first_length, first_word}
use Rattle.scenetext.proofs.NumberLemmas.{own, no_minus, value, value-decimal}

-- ---- one digit more

pub digit_is : (c : ℕ) → is_ascii_digit c ≡ true → (digit_value c < 10) × (digit_value c ≡ c - 48)
digit_is c h = (grind (arith, nat_tests), grind (arith, nat_tests))

pub not_all : (ds : List ℕ) (i : ℕ) → i < length ds → is_ascii_digit (get_or ds i 0) ≡ false → AllDigits 10 ds → ⊥
not_all ds i l h a = let d = digit_at ds i a l in absurd (grind (arith, nat_tests))

AllDigits-push : (ds : List ℕ) (c : ℕ) → AllDigits 10 ds → digit_value c < 10 → AllDigits 10 (ds ++ c ∷ [])
AllDigits-push [] c h d = (d, tt)
AllDigits-push (x ∷ xs) c h d = (h.0, AllDigits-push xs c h.1 d)

value-push : (n : ℕ) (ds : List ℕ) (c : ℕ) → digits_value_after 10 n (ds ++ c ∷ []) ≡ digits_value_after 10 n ds * 10 + digit_value c
value-push n [] c = refl
value-push n (x ∷ xs) c = value-push (n * 10 + digit_value x) xs c

pub all_more : (ds : List ℕ) (i : ℕ) → i < length ds → AllDigits 10 (take i ds) → digit_value (get_or ds i 0) < 10 → AllDigits 10 (take (i + 1) ds)
all_more ds i l h d = rw (take_more ds i 0 l) (AllDigits-push (take i ds) (get_or ds i 0) h d)

pub value_more : (ds : List ℕ) (i : ℕ) → i < length ds → digits_value 10 (take (i + 1) ds) ≡ digits_value 10 (take i ds) * 10 + digit_value (get_or ds i 0)
value_more ds i l = rw (take_more ds i 0 l) (value-push 0 (take i ds) (get_or ds i 0))

-- the digits read so far leave room for one more
pub value_room : (ds : List ℕ) (i : ℕ) → i < length ds → i < 10 → AllDigits 10 (take i ds) → digits_value 10 (take i ds) < 10 ^ 9
value_room ds i l h a = digits_value_short own (take i ds) 9 a (omega (arith, length-take-le i ds))

-- ---- plain decimal

-- what the spelling of a number of 32 bits is like
pub record IsDecimal (bs : List ℕ) (n : ℕ) : Type 0 where
  pub some : 0 < length bs
  pub short : length bs ≤ 10
  pub all : AllDigits 10 bs
  pub front : get_or bs 0 0 ≡ 48 → length bs ≡ 1
  pub is : value bs ≡ n

front_of : (n : ℕ) → n < 2 ^ 32 → get_or (decimal n) 0 0 ≡ 48 → length (decimal n) ≡ 1
unfolding digits
front_of zero h e = refl
front_of (suc n) h e = absurd (omega (arith, first_decimal (suc n) (omega arith) (omega arith)))

pub is_decimal : (bs : List ℕ) (n : ℕ) → n < 2 ^ 32 → bs ≡ decimal n → IsDecimal bs n
is_decimal bs n h e =
    let d : IsDecimal (decimal n) n = record {
      some = decimal_nonempty n (omega arith);
      short = length-decimal-le 10 n (omega arith) (omega arith) (omega arith);
      all = digits_decimal own n (omega arith);
      front = front_of n h;
      is = value-decimal n (omega arith);
    } in
    subst (λ x. IsDecimal x n) (sym e) d

pub spelled : (bs : List ℕ) → 0 < length bs → (get_or bs 0 0 ≡ 48 → length bs ≡ 1) → AllDigits 10 bs → value bs < 2 ^ 32 → bs ≡ decimal (value bs)
spelled bs l f a h = sym (decimal-digits_value own bs a l f (omega arith))

-- ---- what the parts of `natural` come to

pub natural_spelled : {E : Type 0} (bs : List ℕ) (v : ℕ) (r : Result ℕ E) → 0 < length bs → (get_or bs 0 0 ≡ 48 → length bs ≡ 1) → AllDigits 10 bs → v ≡ value bs → OkIff r (v < 2 ^ 32) v → IfSome (result_ok r) (λ n. bs ≡ decimal n)
natural_spelled bs v (Ok n) l f a e p = spelled bs l f a (omega arith) ∙ ap decimal (sym (p.1 ∙ e))
natural_spelled bs v (Err e) l f a h p = tt

pub natural_none : {E : Type 0} (bs : List ℕ) (v : ℕ) (r : Result ℕ E) → v ≡ value bs → OkIff r (v < 2 ^ 32) v → IfNone (result_ok r) ((n : ℕ) → n < 2 ^ 32 → bs ≢ decimal n)
natural_none bs v (Ok n) e p = tt
natural_none bs v (Err x) e p = λ n h d. p (omega (arith, (is_decimal bs n h d).is))

-- ---- the first word of a line

-- where the first word is a number, it is the digits at the front
front_is : (line : List ℕ) (n count value : ℕ) → LeadsWith line count value → n < 2 ^ 32 → first_word line ≡ decimal n → first_length line ≡ count
front_is line n count value h small e =
    let d = is_decimal (first_word line) n small e in
    let p = first_length line in
    let within : p ≤ length line = prefix_len-le-length (λ b. not (eqb b 32)) line in
    let long : length (first_word line) ≡ p = length-take-le p line within in
    ⊎_elim
    (λ less. absurd (not_all (first_word line) count (omega (arith, less, long)) (ap is_ascii_digit (get_or-take p line count 0 less) ∙ h.ends (omega (arith, less, long, d.short)) (omega (arith, less, within))) d.all))
    (λ more. ⊎_elim
    (λ less.
    let space : get_or line p 0 ≡ 32 = eqb-true _ 32 (passes_at_first (λ b. eqb b 32) line 0 (omega (arith, less, h.within))) in
    let taken = length-take-le count line h.within in
    absurd (not_all (take count line) p (omega (arith, less, taken)) (ap is_ascii_digit (get_or-take count line p 0 less ∙ space)) h.digits))
    (λ up. omega (arith, more, up))
    (cases_lt p count))
    (cases_lt count p)

pub not_ended : (line : List ℕ) (count value : ℕ) → LeadsWith line count value → count < length line → get_or line count 0 ≢ 32 → (n : ℕ) → n < 2 ^ 32 → first_word line ≢ decimal n
not_ended line count value h l other n small e =
    let is = front_is line n count value h small e in
    other (ap (λ i. get_or line i 0) (sym is) ∙ eqb-true _ 32 (passes_at_first (λ b. eqb b 32) line 0 (omega (arith, is, l))))

pub not_spelled : (line : List ℕ) (count value : ℕ) → LeadsWith line count value → ((n : ℕ) → n < 2 ^ 32 → take count line ≢ decimal n) → (n : ℕ) → n < 2 ^ 32 → first_word line ≢ decimal n
not_spelled line count value h none n small e = none n small (ap (λ i. take i line) (sym (front_is line n count value h small e)) ∙ e)

pub ended : (line : List ℕ) (count value : ℕ) → LeadsWith line count value → (count < length line → get_or line count 0 ≡ 32) → first_length line ≡ count
ended line count value h space = position_or_len_is (λ b. eqb b 32) line count 0 h.within (λ k less. digit k less) (λ l. ap (λ b. eqb b 32) (space l))
  where
    other : (c : ℕ) → IsInRange 48 57 c → eqb c 32 ≡ false
    other c d = grind (arith, nat_tests)

    digit : (k : ℕ) → k < count → eqb (get_or line k 0) 32 ≡ false
    digit k less = ap (λ c. eqb c 32) (sym (get_or-take count line k 0 less)) ∙ other (get_or (take count line) k 0) (digit_at (take count line) k h.digits (omega (arith, less, length-take-le count line h.within)))

-- ---- numbers below zero

pub no_sign : (bs : List ℕ) (n : ℕ) → n < 2 ^ 64 → bs ≡ decimal n → get_or bs 0 0 ≢ 45
no_sign bs n h e s =
    let t : eqb (get_or (decimal n) 0 0) 45 ≡ true = rw (← e) (rw s refl) in
    let f = sym (no_minus n h) ∙ t in
    absurd cc

pub no_minus_zero : (z : ℤ) → FitsSigned w32 z → signed_decimal z ≢ 45 ∷ decimal 0
no_minus_zero (pos m) f e = no_sign (decimal m) m (omega (arith, ints)) refl (ap (λ xs. get_or xs 0 0) e)
no_minus_zero (negsuc m) f e = absurd (omega (arith, decimal_injective (suc m) 0 (omega (arith, ints)) (omega arith) (ap (drop 1) e)))

-- the spelling of a number with its sign, seen from the digits behind it
pub minus_decimal : (z : ℤ) (n : ℕ) → FitsSigned w32 z → n < 2 ^ 32 → signed_decimal z ≡ 45 ∷ decimal n → z ≡ neg_ℤ (pos n)
minus_decimal z zero f h e = absurd (no_minus_zero z f e)
minus_decimal (pos m) (suc n) f h e = absurd (no_sign (decimal m) m (omega (arith, ints)) refl (ap (λ xs. get_or xs 0 0) e))
minus_decimal (negsuc m) (suc n) f h e =
    let same = decimal_injective (suc m) (suc n) (omega (arith, ints)) (omega arith) (ap (drop 1) e) in
    let k : m ≡ n = omega arith in
    ap negsuc k

pub negated : (n : ℕ) (m : ℤ) → n < 2 ^ 32 → m ≡ pos n → to_z w64 (of_z w64 (pos 0 -ℤ to_z w64 (of_z w64 m))) ≡ neg_ℤ (pos n)
negated n m h e =
    let f : FitsSigned w64 (pos n) = omega (arith, ints) in
    let g : FitsSigned w64 (pos 0 -ℤ pos n) = omega (arith, ints) in
    rw (e, to_z-of_z w64 (pos n) f, to_z-of_z w64 (pos 0 -ℤ pos n) g) (omega (arith, ints))

-- from the number of 64 bits that is tried
pub negative_none : {E : Type 0} (n : ℕ) (y : ℤ) (r : Result ℤ E) → n < 2 ^ 32 → y ≡ neg_ℤ (pos n) → OkIff r (FitsSigned w32 y) y → IfNone (result_ok r) ((z : ℤ) → FitsSigned w32 z → signed_decimal z ≢ 45 ∷ decimal n)
negative_none n y (Ok z) h e p = tt
negative_none n y (Err x) h e p = λ z f d. p (subst (λ v. FitsSigned w32 v) (minus_decimal z n f h d ∙ sym e) f)

-- a line that begins with a minus
pub minus_word : (bs ds : List ℕ) → get_or bs 0 0 ≡ 45 → 1 ≤ length bs → ds ≡ take (length bs - 1) (drop 1 bs) → bs ≡ 45 ∷ ds
minus_word [] ds m l e = absurd (omega arith)
minus_word (b ∷ bs) ds m l e =
    let k : suc (length bs) - 1 ≡ length bs = omega arith in
    ap (λ c. c ∷ bs) m ∙ ap (λ (xs : List ℕ). 45 ∷ xs) (sym (e ∙ ap (λ n. take n bs) k ∙ take_all (length bs) bs (omega arith)))

pub first_behind_minus : (line ds : List ℕ) → line ≡ 45 ∷ ds → (first_word line ≡ 45 ∷ first_word ds) × (first_length line ≡ first_length ds + 1)
first_behind_minus line ds e =
    let one : first_length (45 ∷ ds) ≡ suc (first_length ds) = omega arith in
    (ap first_word e ∙ ap (λ n. take n (45 ∷ ds)) one, ap first_length e ∙ omega arith)

pub no_negative : (bs ds : List ℕ) → bs ≡ 45 ∷ ds → ((n : ℕ) → n < 2 ^ 32 → ds ≢ decimal n) → (z : ℤ) → FitsSigned w32 z → bs ≢ signed_decimal z
no_negative bs ds e h (pos n) f d = no_sign bs n (omega (arith, ints)) d (ap (λ xs. get_or xs 0 0) e)
no_negative bs ds e h (negsuc n) f d = h (suc n) (omega (arith, ints)) (ap (drop 1) (sym e ∙ d))

pub natural_too_big : {E : Type 0} (bs : List ℕ) (n : ℕ) (r : Result ℤ E) → n < 2 ^ 32 → bs ≡ decimal n → OkIff r (FitsSigned w32 (pos n)) (pos n) → IfNone (result_ok r) ((z : ℤ) → FitsSigned w32 z → bs ≢ signed_decimal z)
natural_too_big bs n (Ok z) h e p = tt
natural_too_big bs n (Err x) h e p = λ z f d. by z f d
  where
    by : (z : ℤ) → FitsSigned w32 z → bs ≡ signed_decimal z → ⊥
    by (pos m) f d =
        let same = decimal_injective m n (omega (arith, ints)) (omega arith) (sym d ∙ e) in
        p (subst (λ k. FitsSigned w32 (pos k)) same f)
    by (negsuc m) f d = no_sign bs n (omega arith) e (ap (λ xs. get_or xs 0 0) d)

-- no byte is read as 0
pub empty_first : (bs : List ℕ) → length bs < 1 → get_or bs 0 0 ≡ 0
empty_first [] h = refl
empty_first (b ∷ bs) h = absurd (omega arith)

-- no word is no number
pub nothing_spelled : (n : ℕ) → n < 2 ^ 32 → [] ≢ decimal n
nothing_spelled n small e = omega (arith, ap length e, decimal_nonempty n (omega (arith, small)))

pub nothing_signed : (z : ℤ) → FitsSigned w32 z → [] ≢ signed_decimal z
nothing_signed (pos n) f e = nothing_spelled n (omega (arith, ints)) e
nothing_signed (negsuc n) f e = absurd cc
