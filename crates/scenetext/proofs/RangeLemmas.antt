-- Numbers of some ranges, one word for each.
use Rattle.std.proofs.Common.{◌≡◌, ℕ, ◌^◌, ◌<◌, Bool, true, false, ◌&&◌, ltb, List, [], ◌∷◌, ◌++◌, length, map, refl, ap, ◌∙◌, arith}
use Rattle.std.specs.Prelude.{decimal, nat_le, Option, Some, None, IfNone, IfErr}
use Rattle.std.specs.Option.{ok_or}
use Rattle.std.specs.List.{list_all, AllByRecursion}
use Rattle.std.proofs.lemmas.Bool.Decides.{nat_tests}
use Rattle.scenetext.specs.declared.fault.Fault.TheVariants.{Argument}
use Rattle.scenetext.specs.declared.fault.ReadError.TheVariants as errors
use Rattle.scenetext.specs.declared.range.Range.{Range}
use Rattle.scenetext.specs.declared.range.TheConstants.{U32}
use Rattle.scenetext.specs.Numbers.{fits_kind, fit}
use Rattle.scenetext.specs.Ranges.{kind_of, kinds, IsIn, AreIn}
use Rattle.scenetext.specs.Faults.{word}
use Rattle.scenetext.proofs.TextLemmas.{IsWordText, and_left, and_right}
use Rattle.scenetext.proofs.NumberLemmas.{false_from, natural_fits, IsWordText-decimal, value, value-decimal, natural_between}

-- ranges of numbers of 32 bits
abbrev is_small : Range → Bool
is_small r = ltb r.high (2 ^ 32)

abbrev pub are_small : List Range → Bool
are_small rs = list_all is_small rs

small_is : (r : Range) → is_small r ≡ true → r.high < 2 ^ 32
small_is r h = grind (arith, nat_tests)

pub length-AreIn : (rs : List Range) (ns : List ℕ) → AreIn rs ns → length rs ≡ length ns
length-AreIn [] [] h = refl
length-AreIn [] (n ∷ ns) h = absurd h
length-AreIn (r ∷ rs) [] h = absurd h
length-AreIn (r ∷ rs) (n ∷ ns) h = omega (arith, length-AreIn rs ns h.1)

-- ---- from numbers to words

pub naturals_fit : (rs : List Range) (ns : List ℕ) → are_small rs ≡ true → AreIn rs ns → fit (kinds rs) (map decimal ns) ≡ true
naturals_fit [] ns s h = refl
naturals_fit (r ∷ rs) [] s h = absurd h
naturals_fit (r ∷ rs) (n ∷ ns) s h =
    let small = small_is r (and_left (is_small r) (are_small rs) s) in
    rw (natural_fits r.low r.high n h.0.low h.0.high (omega (arith, h.0.high))) (naturals_fit rs ns (and_right (is_small r) (are_small rs) s) h.1)

pub naturals_texts : (rs : List Range) (ns : List ℕ) → are_small rs ≡ true → AreIn rs ns → AllByRecursion IsWordText (map decimal ns)
naturals_texts [] [] s h = tt
naturals_texts [] (n ∷ ns) s h = absurd h
naturals_texts (r ∷ rs) [] s h = absurd h
naturals_texts (r ∷ rs) (n ∷ ns) s h =
    let small = small_is r (and_left (is_small r) (are_small rs) s) in
    (IsWordText-decimal n (omega (arith, h.0.high)), naturals_texts rs ns (and_right (is_small r) (are_small rs) s) h.1)

pub values_again : (rs : List Range) (ns : List ℕ) → are_small rs ≡ true → AreIn rs ns → map value (map decimal ns) ≡ ns
values_again [] [] s h = refl
values_again [] (n ∷ ns) s h = absurd h
values_again (r ∷ rs) [] s h = absurd h
values_again (r ∷ rs) (n ∷ ns) s h =
    let small = small_is r (and_left (is_small r) (are_small rs) s) in
    rw (value-decimal n (omega (arith, h.0.high)), values_again rs ns (and_right (is_small r) (are_small rs) s) h.1) refl

-- ---- from words to numbers

pub naturals_back : (rs : List Range) (ws : List (List ℕ)) → are_small rs ≡ true → length rs ≡ length ws → fit (kinds rs) ws ≡ true → (map decimal (map value ws) ≡ ws) × AreIn rs (map value ws)
naturals_back [] [] s e h = (refl, tt)
naturals_back [] (w ∷ ws) s e h = absurd (omega arith)
naturals_back (r ∷ rs) [] s e h = absurd (omega arith)
naturals_back (r ∷ rs) (w ∷ ws) s e h =
    let small = small_is r (and_left (is_small r) (are_small rs) s) in
    let n = natural_between r.low r.high w (omega arith) (and_left (fits_kind (kind_of r) w) (fit (kinds rs) ws) h) in
    let more = naturals_back rs ws (and_right (is_small r) (are_small rs) s) (omega arith) (and_right (fits_kind (kind_of r) w) (fit (kinds rs) ws) h) in
    (rw (← n.0, more.0) refl, (record { low = n.1; high = n.2 }, more.1))

-- ---- words that are no numbers of their ranges

pub out_of_range : (r : Range) (w : List ℕ) (n : ℕ) → w ≡ decimal n → n < 2 ^ 32 → nat_le r.high U32.high ≡ true → (IsIn r n → ⊥) → fits_kind (kind_of r) w ≡ false
out_of_range r w n e h small out = false_from _ (λ t. (
    let v = natural_between r.low r.high w (grind (arith, nat_tests)) t in
    let same : value w ≡ n = ap value e ∙ value-decimal n (omega arith) in
    out (record { low = omega (arith, v.1); high = omega (arith, v.2) })))

-- the fault where a number stands for no value
pub argument_refused : {T : Type 0} (r : Range) (w : List ℕ) (n : ℕ) (found : Option T) → w ≡ decimal n → n < 2 ^ 32 → nat_le r.high U32.high ≡ true → IfNone found (IsIn r n → ⊥) → IfErr (ok_or found (errors.Fault Argument)) (λ e. (e ≡ errors.Fault Argument) × (fits_kind (kind_of r) w ≡ false))
argument_refused r w n None e h small out = (refl, out_of_range r w n e h small out)
argument_refused r w n (Some x) e h small out = tt

pub and_false : (a b : Bool) → b ≡ false → (a && b) ≡ false
and_false true b e = e
and_false false b e = refl

-- a word that does not fit, behind others
pub fit_fails : (rs : List Range) (ns : List ℕ) (r : Range) (more : List Range) (ws : List (List ℕ)) → AreIn rs ns → 0 < length ws → fits_kind (kind_of r) (word ws 0) ≡ false → fit (kinds (rs ++ r ∷ more)) (map decimal ns ++ ws) ≡ false
fit_fails [] [] r more [] h l f = absurd (omega arith)
fit_fails [] [] r more (w ∷ ws) h l f = rw f refl
fit_fails [] (n ∷ ns) r more ws h l f = absurd h
fit_fails (q ∷ rs) [] r more ws h l f = absurd h
fit_fails (q ∷ rs) (n ∷ ns) r more ws h l f = and_false (fits_kind (kind_of q) (decimal n)) _ (fit_fails rs ns r more ws h.1 l f)
