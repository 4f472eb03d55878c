-- Cuts end the triangles of a run, and begin them anew.
use Rattle.std.proofs.Common.{◌≡◌, ◌≢◌, sym, refl, arith, ℕ, zero, suc, ◌<◌, List, [], ◌∷◌, length, drop, add-one}
use Rattle.std.specs.Prelude.{ℤ, Bool, true, false, ◌&&◌, cond, slice_index, IsTrue}
use Rattle.std.specs.List.{flat_map, list_all, onto_first}
use Rattle.gfxspec.specs.declared.geometry.Vertex.{Vertex}
use Rattle.gfxspec.specs.declared.state.Topology.{Topology}
use Rattle.gfxspec.specs.declared.state.Topology.TheVariants.{TriangleStrip}
use Rattle.gfxspec.specs.Assembly.{is_cut, runs, vertices_at, strip_primitives}
use Rattle.assemble.specs.declared.places.Order.{Order}
use Rattle.assemble.specs.declared.places.Order.TheVariants as O
use Rattle.assemble.specs.Cuts.{IsBehindCut, HasNoCutAhead, IsReady}
use Rattle.assemble.specs.Order.{topology_of, strips_from, indexed_left}
use Rattle.assemble.specs.Used.{AreUsedWell}

-- the runs of places of which the first is a cut or none
abbrev begun : Bool → ℕ → List (List ℕ) → List (List ℕ)
begun cut place parts = cond cut ([] ∷ parts) (onto_first place parts)

module _ (vs : List Vertex) (base : ℤ) where
  -- behind a run that is too short the triangles begin anew
  anew : (parts : List (List ℕ)) → flat_map (λ run. strip_primitives true (vertices_at vs base run)) parts ≡ strips_from true vs base parts
  anew [] = refl
  anew (run ∷ parts) = refl

  second_cut : (even p : Bool) (a : ℕ) (parts : List (List ℕ)) → strips_from even vs base (begun p a ([] ∷ parts)) ≡ strips_from true vs base parts
  second_cut even true a parts = anew parts
  second_cut even false a parts = anew parts

  third_cut : (even p q : Bool) (a b : ℕ) (parts : List (List ℕ)) → strips_from even vs base (begun p a (begun q b ([] ∷ parts))) ≡ strips_from true vs base parts
  third_cut even true true a b parts = anew parts
  third_cut even true false a b parts = anew parts
  third_cut even false true a b parts = anew parts
  third_cut even false false a b parts = anew parts

  by_place : (even : Bool) (k : ℕ) (indices : List ℕ) → k < 3 → k < length indices → slice_index indices k ≡ 65535 → strips_from even vs base (runs indices) ≡ strips_from true vs base (runs (drop (suc k) indices))
  by_place even k [] n h e = absurd (omega arith)
  by_place even zero (a ∷ indices) n h e = rw e (anew (runs indices))
  by_place even (suc zero) (a ∷ []) n h e = absurd (omega arith)
  by_place even (suc zero) (a ∷ b ∷ indices) n h e = rw e (second_cut even (is_cut a) a (runs indices))
  by_place even (suc (suc zero)) (a ∷ []) n h e = absurd (omega arith)
  by_place even (suc (suc zero)) (a ∷ b ∷ []) n h e = absurd (omega arith)
  by_place even (suc (suc zero)) (a ∷ b ∷ c ∷ indices) n h e = rw e (third_cut even (is_cut a) (is_cut b) a b (runs indices))
  by_place even (suc (suc (suc k))) indices n h e = absurd (omega arith)

  behind_is : (even : Bool) (indices behind : List ℕ) → IsBehindCut indices behind → strips_from true vs base (runs behind) ≡ strips_from even vs base (runs indices)
  behind_is even indices behind h =
      rw (h.rest, add-one h.place) (sym (by_place even h.place indices h.near h.within h.cut))

  -- a strip goes on behind a cut, where it begins anew
  pub past_one : (order : Order) (indices behind : List ℕ) → topology_of order ≡ TriangleStrip → IsBehindCut indices behind → indexed_left O.Even vs base behind ≡ indexed_left order vs base indices
  past_one O.List indices behind n h = cc
  past_one O.Even indices behind n h = behind_is true indices behind h
  past_one O.Odd indices behind n h = behind_is false indices behind h

-- what all of a list passes, all further on passes
further : {A : Type 0} (test : A → Bool) (k : ℕ) (xs : List A) → IsTrue (list_all test xs) → IsTrue (list_all test (drop k xs))
further test zero xs h = h
further test (suc k) [] h = h
further test (suc k) (x ∷ xs) h = further test k xs (second _ _ h)
  where
    second : (p q : Bool) → IsTrue (p && q) → IsTrue q
    second p q h = grind arith

pub used_further : (topology : Topology) (vs : List Vertex) (base : ℤ) (k : ℕ) (indices : List ℕ) → AreUsedWell topology vs base indices → AreUsedWell topology vs base (drop k indices)
used_further topology vs base k indices h = further _ k indices h

pub strip_of : (order : Order) → order ≢ O.List → topology_of order ≡ TriangleStrip
strip_of O.List h = absurd (h refl)
strip_of O.Even h = refl
strip_of O.Odd h = refl

pub ready_of : (order : Order) (indices : List ℕ) → HasNoCutAhead indices → IsReady order indices
ready_of O.List indices h = tt
ready_of O.Even indices h = h
ready_of O.Odd indices h = h
