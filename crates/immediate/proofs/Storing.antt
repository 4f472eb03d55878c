-- Counts stored under their queries, command by command.
use Rattle.std.proofs.Common.{◌≡◌, ◌∙◌, sym, ap, refl, arith, ℕ, ◌+◌, ◌<◌, ◌≤◌, List, ◌∷◌, length, map, get_or, drop, drop-cons, add-one, Some, None}
use Rattle.std.specs.Prelude.{Option, slice_set}
use Rattle.std.specs.List.{cons_option}
use Rattle.std.proofs.Math.ListN.{drop_of_length-le}
use Rattle.gfxspec.specs.Commands.{Command}
use Rattle.gfxspec.specs.Recorded.{issues, query_begun}
use Rattle.meaning.specs.Contexts.{with_counts}

module _ {A : Type 0} (value : A → Command) (commands : List A) (counts : ℕ → ℕ) (old : List (Option ℕ)) where
  -- the issues of the commands from place i on
  abbrev pub left_from : ℕ → List ℕ
  left_from i = issues (map value (drop i commands))

  -- the commands before place i, which begin n issues, have stored their counts
  pub record StoredSoFar (i n : ℕ) (now : List (Option ℕ)) : Type 0 where
    pub left : with_counts n counts (left_from i) now ≡ with_counts 0 counts (issues (map value commands)) old
    pub few : n ≤ i

  pub none_stored : StoredSoFar 0 0 old
  none_stored = record { left = refl; few = omega arith }

  next_left : (i : ℕ) (d : A) (o : Option ℕ) → i < length commands → query_begun (value (get_or commands i d)) ≡ o → left_from i ≡ cons_option o (left_from (i + 1))
  next_left i d o inside e =
      let here : drop i commands ≡ get_or commands i d ∷ drop (i + 1) commands = rw add-one (drop-cons commands i d inside) in
      ap (λ (cs : List A). issues (map value cs)) here
      ∙ ap (λ (q : Option ℕ). cons_option q (left_from (i + 1))) e

  pub begin_stored : (i n m q : ℕ) (d : A) (now new : List (Option ℕ)) → i < length commands → query_begun (value (get_or commands i d)) ≡ Some q
      → m ≡ n + 1 → new ≡ slice_set now q (Some (counts n)) → StoredSoFar i n now → StoredSoFar (i + 1) m new
  begin_stored i n m q d now new inside e next stored so = record {
    left = ap (λ (k : ℕ). with_counts k counts (left_from (i + 1)) new) next
        ∙ ap (λ (rs : List (Option ℕ)). with_counts (n + 1) counts (left_from (i + 1)) rs) stored
        ∙ sym (ap (λ (qs : List ℕ). with_counts n counts qs now) (next_left i d (Some q) inside e)) ∙ so.left;
    few = let few = so.few in omega arith;
  }

  pub other_stored : (i n m : ℕ) (d : A) (now new : List (Option ℕ)) → i < length commands → query_begun (value (get_or commands i d)) ≡ None
      → m ≡ n → new ≡ now → StoredSoFar i n now → StoredSoFar (i + 1) m new
  other_stored i n m d now new inside e same kept so = record {
    left = ap (λ (k : ℕ). with_counts k counts (left_from (i + 1)) new) same
        ∙ ap (λ (rs : List (Option ℕ)). with_counts n counts (left_from (i + 1)) rs) kept
        ∙ sym (ap (λ (qs : List ℕ). with_counts n counts qs now) (next_left i d None inside e)) ∙ so.left;
    few = let few = so.few in omega arith;
  }

  pub all_stored : (i n : ℕ) (now : List (Option ℕ)) → length commands ≤ i → StoredSoFar i n now → now ≡ with_counts 0 counts (issues (map value commands)) old
  all_stored i n now past so = sym (ap (λ (cs : List A). with_counts n counts (issues (map value cs)) now) (drop_of_length-le commands past)) ∙ so.left
