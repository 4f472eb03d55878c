-- A draw whose triangles are set up already.
use Rattle.std.proofs.Common.{◌≡◌, sym, subst, refl, ℕ, inl, inr, List, [], ◌∷◌, length}
use Rattle.gfxspec.specs.State.{Settings}
use Rattle.gfxspec.specs.Assembly.{Primitive}
use Rattle.binner.specs.declared.entry.Current.{Current}
use Rattle.binner.specs.declared.setup.TriSetup.{TriSetup}
use Rattle.binner.specs.declared.compiling.Compiling.{Compiling}
use Rattle.binner.specs.Meaning.{IsSetupOf}
use Rattle.binner.specs.Compiling.{AddsSetup}
use Rattle.binner.specs.Setups.{ReachesNothing, AreSetups}
use Rattle.binner.proofs.Drawing.{Drew, drew_setup, drew_skip}

-- the setups that are left are those of the triangles that are left
pub record Filled {A : Type 0} (old new : Compiling A) (s : Settings) (bits : ℕ) (now : Current) (all : List Primitive) (ts : List TriSetup) : Type 0 where
  pub left : List Primitive
  pub made : AreSetups s old.lists.size left ts
  pub drew : Drew old new s bits now all left

module _ {A : Type 0} (old mid : Compiling A) (s : Settings) (bits : ℕ) (now : Current) (all : List Primitive) where
  dropped : (p : Primitive) (ps : List Primitive) → Drew old mid s bits now all (p ∷ ps) → ReachesNothing s old.lists.size p → Drew old mid s bits now all ps
  dropped p ps h out = drew_skip old s bits now all mid p ps (p ∷ ps) refl h (subst (λ z. ReachesNothing s z p) (sym h.size) out)

  -- the triangle of the next setup
  record Next (t : TriSetup) (rest : List TriSetup) : Type 0 where
    pub p : Primitive
    pub left : List Primitive
    pub drew : Drew old mid s bits now all (p ∷ left)
    pub is : IsSetupOf t p s
    pub made : AreSetups s old.lists.size left rest

  next : (left : List Primitive) (t : TriSetup) (rest : List TriSetup) → Drew old mid s bits now all left → AreSetups s old.lists.size left (t ∷ rest) → Next t rest
  next [] t rest h m = absurd cc
  next (p ∷ ps) t rest h (inl m) = next ps t rest (dropped p ps h m.0) m.1
  next (p ∷ ps) t rest h (inr m) =
      let first : m.0 ≡ t = cc in
      let others : m.1 ≡ rest = cc in
      record { p = p; left = ps; drew = h; is = subst (λ z. IsSetupOf z p s) first m.3; made = subst (AreSetups s old.lists.size ps) others m.4 }

  all_dropped : (left : List Primitive) → Drew old mid s bits now all left → AreSetups s old.lists.size left [] → Drew old mid s bits now all []
  all_dropped [] h m = h
  all_dropped (p ∷ ps) h (inl m) = all_dropped ps (dropped p ps h m.0) m.1
  all_dropped (p ∷ ps) h (inr m) = absurd cc

  pub filled_all : (ts : List TriSetup) → ts ≡ [] → Filled old mid s bits now all ts → Drew old mid s bits now all []
  filled_all ts e h = all_dropped h.left h.drew (subst (AreSetups s old.lists.size h.left) e h.made)

  pub filled_setup : (new : Compiling A) (t : TriSetup) (number : ℕ) (rest ts : List TriSetup) → ts ≡ t ∷ rest → Filled old mid s bits now all ts → AddsSetup t number now mid new → length new.lists.bins ≡ length mid.lists.bins → Filled old new s bits now all rest
  filled_setup new t number rest ts e h a b =
      let n = next h.left t rest h.drew (subst (AreSetups s old.lists.size h.left) e h.made) in
      record { left = n.left; made = n.made; drew = drew_setup old s bits now all mid n.p n.left new (n.p ∷ n.left) t number refl n.drew a b n.is }
