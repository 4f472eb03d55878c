-- Query results as predicates, one after the other, and what is performed under them.
use Rattle.std.proofs.Common.{◌≡◌, ◌≢◌, ◌∙◌, sym, ap, refl, arith, ℕ, ◌+◌, ◌<◌, ◌≤◌, Bool, true, false, List, length, set}
use Rattle.std.specs.Prelude.{Option, None, ◌==◌, nat_lt, slice_index_or}
use Rattle.std.proofs.lemmas.Bool.Decides.{nat_tests}
use Rattle.std.proofs.lemmas.List.{get_or-set_same, get_or-set_other, get_or_past}
use Rattle.gfxspec.specs.Commands.{Command}
use Rattle.gfxspec.specs.Predication.{performed, result_of}
use Rattle.gfxspec.specs.Accepted.{AreAccepted}
use Rattle.meaning.specs.Contexts.{result_at}
use Rattle.meaning.proofs.Predicates.{performed_same}
use Rattle.cmdlist.specs.Drawable.{told}

pub record ToldSoFar (results : List (Option ℕ)) (i : ℕ) (flags : List Bool) : Type 0 where
  pub long : length flags ≡ 64
  pub each : (q : ℕ) → q < i → slice_index_or flags q false ≡ result_of (result_at results q)

pub told_next : (results : List (Option ℕ)) (i : ℕ) (flags : List Bool) (b : Bool) → i < length flags → b ≡ result_of (result_at results i) → ((q : ℕ) → q < i → slice_index_or flags q false ≡ result_of (result_at results q)) → (q : ℕ) → q < i + 1 → slice_index_or (set flags i b) q false ≡ result_of (result_at results q)
told_next results i flags b l is before q less = by (q == i) refl
  where
    same : (q == i) ≡ true → q ≡ i
    same e = grind (arith, nat_tests)

    apart : (q == i) ≡ false → q ≢ i
    apart e = grind (arith, nat_tests)

    below : (q == i) ≡ false → q < i
    below e = grind (arith, nat_tests)

    by : (e : Bool) → (q == i) ≡ e → slice_index_or (set flags i b) q false ≡ result_of (result_at results q)
    by true e = ap (λ n. slice_index_or (set flags i b) n false) (same e) ∙ get_or-set_same flags i b false l ∙ is ∙ ap (λ n. result_of (result_at results n)) (sym (same e))
    by false e = get_or-set_other flags i q b false (apart e) ∙ before q (below e)

-- beyond the queries no result is told, and there is none
pub told_each : (results : List (Option ℕ)) (flags : List Bool) (i : ℕ) → length results ≡ 64 → 64 ≤ i → ToldSoFar results i flags → (q : ℕ) → told flags q ≡ result_of (result_at results q)
told_each results flags i many all so q = by (nat_lt q 64) refl
  where
    below : nat_lt q 64 ≡ true → q < i
    below e = grind (arith, nat_tests)

    past : (n : ℕ) → n ≡ 64 → nat_lt q 64 ≡ false → n ≤ q
    past n is e = grind (arith, nat_tests)

    by : (b : Bool) → nat_lt q 64 ≡ b → told flags q ≡ result_of (result_at results q)
    by true e = so.each q (below e)
    by false e =
        get_or_past flags q false (past (length flags) so.long e)
        ∙ ap result_of (sym (get_or_past results q None (past (length results) many e)))

pub performed_told : (flags : List Bool) (results : List (Option ℕ)) (list : List Command) → AreAccepted list → ((q : ℕ) → told flags q ≡ result_of (result_at results q)) → performed (told flags) list ≡ performed (λ q. result_of (result_at results q)) list
performed_told flags results list accepted same = performed_same (told flags) (λ q. result_of (result_at results q)) list accepted (λ q l. same q)
