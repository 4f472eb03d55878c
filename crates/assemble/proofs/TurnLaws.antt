-- The next triangle of what is left, and what is left behind it.
use Rattle.std.proofs.Common.{◌≡◌, refl, arith, ℕ, zero, suc, ◌<◌, ◌≤◌, List, [], ◌∷◌, length, drop}
use Rattle.std.specs.Prelude.{ℤ, Bool, true, false, ◌||◌, cond, slice_index, IsTrue, Some}
use Rattle.std.specs.List.{onto_first, list_all}
use Rattle.std.proofs.lemmas.Bool.Decides.{nat_tests}
use Rattle.gfxspec.specs.declared.geometry.Vertex.{Vertex}
use Rattle.gfxspec.specs.declared.state.Topology.TheVariants.{TriangleStrip}
use Rattle.gfxspec.specs.Assembly.{is_cut, runs, vertex_at}
use Rattle.gfxspec.specs.Refusals.{names_vertex, is_used_well}
use Rattle.assemble.specs.declared.places.Order.{Order}
use Rattle.assemble.specs.declared.places.Order.TheVariants as O
use Rattle.assemble.specs.Cuts.{HasNoCutAhead, IsReady}
use Rattle.assemble.specs.Order.{topology_of, arranged_of, step_of, following_of, left_of, strips_from, indexed_left}
use Rattle.assemble.specs.Used.{AreUsedWell}

-- the runs of places of which the first is a cut or none
abbrev begun : Bool → ℕ → List (List ℕ) → List (List ℕ)
begun cut place parts = cond cut ([] ∷ parts) (onto_first place parts)

-- fewer than three places make no triangle
pub left_short : (order : Order) (vs : List Vertex) → length vs < 3 → left_of order vs ≡ []
left_short O.List [] h = refl
left_short O.List (a ∷ []) h = refl
left_short O.List (a ∷ b ∷ []) h = refl
left_short O.Even [] h = refl
left_short O.Even (a ∷ []) h = refl
left_short O.Even (a ∷ b ∷ []) h = refl
left_short O.Odd [] h = refl
left_short O.Odd (a ∷ []) h = refl
left_short O.Odd (a ∷ b ∷ []) h = refl
left_short order (a ∷ b ∷ c ∷ vs) h = absurd (omega arith)

module _ (vs : List Vertex) (base : ℤ) where
  one_place : (even p : Bool) (a : ℕ) → strips_from even vs base (begun p a ([] ∷ [])) ≡ []
  one_place even true a = refl
  one_place even false a = refl

  two_places : (even p q : Bool) (a b : ℕ) → strips_from even vs base (begun p a (begun q b ([] ∷ []))) ≡ []
  two_places even true true a b = refl
  two_places even true false a b = refl
  two_places even false true a b = refl
  two_places even false false a b = refl

  strips_short : (even : Bool) (indices : List ℕ) → length indices < 3 → strips_from even vs base (runs indices) ≡ []
  strips_short even [] h = refl
  strips_short even (a ∷ []) h = one_place even (is_cut a) a
  strips_short even (a ∷ b ∷ []) h = two_places even (is_cut a) (is_cut b) a b
  strips_short even (a ∷ b ∷ c ∷ indices) h = absurd (omega arith)

  pub indexed_short : (order : Order) (indices : List ℕ) → length indices < 3 → indexed_left order vs base indices ≡ []
  indexed_short O.List [] h = refl
  indexed_short O.List (a ∷ []) h = refl
  indexed_short O.List (a ∷ b ∷ []) h = refl
  indexed_short O.List (a ∷ b ∷ c ∷ indices) h = absurd (omega arith)
  indexed_short O.Even indices h = strips_short true indices h
  indexed_short O.Odd indices h = strips_short false indices h

  -- three places of a run make a triangle, and the run goes on from the second
  run_on : (p q r : Bool) (a b c : ℕ) (parts : List (List ℕ)) → p ≡ false → q ≡ false → r ≡ false → (strips_from true vs base (begun p a (begun q b (begun r c parts))) ≡ arranged_of O.Even (vertex_at vs base a) (vertex_at vs base b) (vertex_at vs base c) ∷ strips_from false vs base (begun q b (begun r c parts))) × (strips_from false vs base (begun p a (begun q b (begun r c parts))) ≡ arranged_of O.Odd (vertex_at vs base a) (vertex_at vs base b) (vertex_at vs base c) ∷ strips_from true vs base (begun q b (begun r c parts)))
  run_on p q r a b c [] e f g = rw (e, f, g) (refl, refl)
  run_on p q r a b c (part ∷ parts) e f g = rw (e, f, g) (refl, refl)

  no_cut : (indices : List ℕ) (k : ℕ) → 3 ≤ length indices → k < 3 → HasNoCutAhead indices → is_cut (slice_index indices k) ≡ false
  no_cut indices k l h n = let m = n l k h in grind (arith, nat_tests)

  -- the next triangle, and the others
  pub next_is : (order : Order) (indices : List ℕ) → 3 ≤ length indices → IsReady order indices → indexed_left order vs base indices ≡ arranged_of order (vertex_at vs base (slice_index indices 0)) (vertex_at vs base (slice_index indices 1)) (vertex_at vs base (slice_index indices 2)) ∷ indexed_left (following_of order) vs base (drop (step_of order) indices)
  next_is order [] l h = absurd (omega arith)
  next_is order (a ∷ []) l h = absurd (omega arith)
  next_is order (a ∷ b ∷ []) l h = absurd (omega arith)
  next_is O.List (a ∷ b ∷ c ∷ indices) l h = refl
  next_is O.Even (a ∷ b ∷ c ∷ indices) l h =
      (run_on (is_cut a) (is_cut b) (is_cut c) a b c (runs indices) (no_cut (a ∷ b ∷ c ∷ indices) 0 l (omega arith) h) (no_cut (a ∷ b ∷ c ∷ indices) 1 l (omega arith) h) (no_cut (a ∷ b ∷ c ∷ indices) 2 l (omega arith) h)).0
  next_is O.Odd (a ∷ b ∷ c ∷ indices) l h =
      (run_on (is_cut a) (is_cut b) (is_cut c) a b c (runs indices) (no_cut (a ∷ b ∷ c ∷ indices) 0 l (omega arith) h) (no_cut (a ∷ b ∷ c ∷ indices) 1 l (omega arith) h) (no_cut (a ∷ b ∷ c ∷ indices) 2 l (omega arith) h)).1

  all_three : (test : ℕ → Bool) (indices : List ℕ) (k : ℕ) → k < 3 → 3 ≤ length indices → IsTrue (list_all test indices) → IsTrue (test (slice_index indices k))
  all_three test [] k n l h = absurd (omega arith)
  all_three test (a ∷ []) k n l h = absurd (omega arith)
  all_three test (a ∷ b ∷ []) k n l h = absurd (omega arith)
  all_three test (a ∷ b ∷ c ∷ indices) zero n l h = grind arith
  all_three test (a ∷ b ∷ c ∷ indices) (suc zero) n l h = grind arith
  all_three test (a ∷ b ∷ c ∷ indices) (suc (suc zero)) n l h = grind arith
  all_three test (a ∷ b ∷ c ∷ indices) (suc (suc (suc k))) n l h = absurd (omega arith)

  other : (p q : Bool) → p ≡ false → IsTrue (p || q) → IsTrue q
  other p q e h = grind arith

  -- the next three places name vertices
  pub names : (order : Order) (indices : List ℕ) (k : ℕ) → k < 3 → 3 ≤ length indices → IsReady order indices → AreUsedWell (topology_of order) vs base indices → IsTrue (names_vertex (length vs) base (slice_index indices k))
  names O.List indices k n l r u = all_three (is_used_well (Some (topology_of O.List)) (length vs) base) indices k n l u
  names O.Even indices k n l r u = other _ _ (no_cut indices k l n r) (all_three (is_used_well (Some TriangleStrip) (length vs) base) indices k n l u)
  names O.Odd indices k n l r u = other _ _ (no_cut indices k l n r) (all_three (is_used_well (Some TriangleStrip) (length vs) base) indices k n l u)

pub same_topology : (order : Order) → topology_of (following_of order) ≡ topology_of order
same_topology O.List = refl
same_topology O.Even = refl
same_topology O.Odd = refl
