-- The triangles of a list and of a strip, by their places.
use Rattle.std.proofs.Common.{◌≡◌, ◌∙◌, ap, refl, arith, ℕ, zero, suc, ◌+◌, ◌*◌, ◌%◌, ◌<◌, List, [], ◌∷◌, length}
use Rattle.std.specs.Prelude.{Bool, true, false, not, slice_get, Some}
use Rattle.gfxspec.specs.declared.geometry.Vertex.{Vertex}
use Rattle.gfxspec.specs.Assembly.{Primitive, strip_primitives}
use Rattle.assemble.specs.Places.{at_places, ListTakesThrees, ListDropsIncomplete, StripTakesEven, StripTakesOdd}

-- places further on, of what is further on
later : (a b c : Vertex) (vs : List Vertex) (i j k i' j' k' : ℕ) → i' ≡ suc (suc (suc i)) → j' ≡ suc (suc (suc j)) → k' ≡ suc (suc (suc k)) → at_places vs i j k ≡ at_places (a ∷ b ∷ c ∷ vs) i' j' k'
later a b c vs i j k i' j' k' e f g = rw (e, f, g) refl

next : (a : Vertex) (vs : List Vertex) (i j k i' j' k' : ℕ) → i' ≡ suc i → j' ≡ suc j → k' ≡ suc k → at_places vs i j k ≡ at_places (a ∷ vs) i' j' k'
next a vs i j k i' j' k' e f g = rw (e, f, g) refl

pub list_takes : ListTakesThrees
list_takes [] i h = absurd (omega arith)
list_takes (a ∷ []) i h = absurd (omega arith)
list_takes (a ∷ b ∷ []) i h = absurd (omega arith)
list_takes (a ∷ b ∷ c ∷ vs) zero h = refl
list_takes (a ∷ b ∷ c ∷ vs) (suc i) h =
    list_takes vs i (omega arith)
    ∙ ap Some (later a b c vs (3 * i) (3 * i + 1) (3 * i + 2) (3 * suc i) (3 * suc i + 1) (3 * suc i + 2) (omega arith) (omega arith) (omega arith))

pub list_drops : ListDropsIncomplete
list_drops [] = refl
list_drops (a ∷ []) = refl
list_drops (a ∷ b ∷ []) = refl
list_drops (a ∷ b ∷ c ∷ vs) = let e = list_drops vs in omega arith

-- the triangle of place i of a strip, in order or with its last two the other way round
abbrev arrangement : Bool → List Vertex → ℕ → Primitive
arrangement true vs i = at_places vs i (i + 1) (i + 2)
arrangement false vs i = at_places vs i (i + 2) (i + 1)

abbrev flipped : Bool → ℕ → Bool
flipped even zero = even
flipped even (suc i) = flipped (not even) i

arrangement_next : (even : Bool) (a : Vertex) (vs : List Vertex) (i : ℕ) → arrangement even vs i ≡ arrangement even (a ∷ vs) (suc i)
arrangement_next true a vs i = next a vs i (i + 1) (i + 2) (suc i) (suc i + 1) (suc i + 2) (omega arith) (omega arith) (omega arith)
arrangement_next false a vs i = next a vs i (i + 2) (i + 1) (suc i) (suc i + 2) (suc i + 1) (omega arith) (omega arith) (omega arith)

strip_takes : (even : Bool) (vs : List Vertex) (i : ℕ) → i + 2 < length vs → slice_get (strip_primitives even vs) i ≡ Some (arrangement (flipped even i) vs i)
strip_takes even [] i h = absurd (omega arith)
strip_takes even (a ∷ []) i h = absurd (omega arith)
strip_takes even (a ∷ b ∷ []) i h = absurd (omega arith)
strip_takes true (a ∷ b ∷ c ∷ vs) zero h = refl
strip_takes false (a ∷ b ∷ c ∷ vs) zero h = refl
strip_takes true (a ∷ b ∷ c ∷ vs) (suc i) h =
    strip_takes false (b ∷ c ∷ vs) i (omega arith) ∙ ap Some (arrangement_next (flipped false i) a (b ∷ c ∷ vs) i)
strip_takes false (a ∷ b ∷ c ∷ vs) (suc i) h =
    strip_takes true (b ∷ c ∷ vs) i (omega arith) ∙ ap Some (arrangement_next (flipped true i) a (b ∷ c ∷ vs) i)

flipped_even : (i : ℕ) → i % 2 ≡ 0 → flipped true i ≡ true
flipped_even zero h = refl
flipped_even (suc zero) h = absurd (omega arith)
flipped_even (suc (suc i)) h = flipped_even i (omega arith)

flipped_odd : (i : ℕ) → i % 2 ≡ 1 → flipped true i ≡ false
flipped_odd zero h = absurd (omega arith)
flipped_odd (suc zero) h = refl
flipped_odd (suc (suc i)) h = flipped_odd i (omega arith)

pub strip_takes_even : StripTakesEven
strip_takes_even vs i e h = strip_takes true vs i h ∙ ap (λ even. Some (arrangement even vs i)) (flipped_even i e)

pub strip_takes_odd : StripTakesOdd
strip_takes_odd vs i e h = strip_takes true vs i h ∙ ap (λ even. Some (arrangement even vs i)) (flipped_odd i e)
