-- Changes of one tile's list.
use Rattle.std.proofs.Common.{◌≡◌, ◌∙◌, ap, sym, subst, refl, arith, ℕ, ◌+◌, ◌≤◌, inl, inr, List, [], ◌∷◌, ◌++◌, length, Some, true, length-append}
use Rattle.std.specs.Prelude.{None}
use Rattle.gfxspec.specs.declared.geometry.PixelRect.{PixelRect}
use Rattle.gfxspec.specs.Raster.{Triangle}
use Rattle.classify.specs.Region.{IsClassOf}
use Rattle.classify.specs.declared.Class.TheVariants.{Outside, Cut}
use Rattle.tileword.specs.declared.edge_mask.EdgeMask.{EdgeMask}
use Rattle.tileword.specs.declared.word.Word.{Word}
use Rattle.tileword.specs.declared.word.Word.TheVariants.{State, Tri}
use Rattle.tileword.specs.EdgeMask.{edge_bits}
use Rattle.tileword.specs.Word.{encoded}
use Rattle.binmem.specs.Lists.{IsTail}
use Rattle.binner.specs.declared.entry.Current.{Current}
use Rattle.binner.specs.declared.lists.Lists.{Lists}
use Rattle.binner.specs.Lists.{TileList, at, has_some, ChangesAt, IsDrawnSince, GainsWord, PutsInForce, AddsTriangle, TakesClear}
use Rattle.binner.proofs.Lasting.{drawn_of_tail}
use Rattle.binner.proofs.Pushing.{flagged, some_pushed}

some_drawn : (first : ℕ) (ns : List ℕ) → IsDrawnSince first ns → has_some ns ≡ true
some_drawn first [] d = let e : None ≡ Some d.n = d.last None in absurd cc
some_drawn first (n ∷ ns) d = refl

-- a list with an entry in force has a word
pub forced_some : (s : Current) (o n : TileList) → PutsInForce s o n → has_some n.numbers ≡ true
forced_some s o n (inl h) = subst (λ m. has_some m.numbers ≡ true) (sym h.1) (some_drawn s.first o.numbers h.0)
forced_some s o n (inr h) = subst (λ m. has_some m.numbers ≡ true) (sym h.0) (some_pushed o.numbers (encoded (State s.entry)))

abbrev pub Longer : ℕ → TileList → TileList → Type 0
Longer m o n = length n.numbers ≤ length o.numbers + m

one_longer : (ns : List ℕ) (n : ℕ) → length (ns ++ n ∷ []) ≤ length ns + 1
one_longer ns n = let e = length-append ns (n ∷ []) in omega (arith, e)

pub gained_longer : (w : Word) (o n : TileList) → GainsWord w o n → Longer 1 o n
gained_longer w o n h = subst (Longer 1 o) (sym h.0) (one_longer o.numbers (encoded w))

pub forced_longer : (s : Current) (o n : TileList) → PutsInForce s o n → Longer 1 o n
forced_longer s o n (inl h) = subst (Longer 1 o) (sym h.1) (omega arith)
forced_longer s o n (inr h) = gained_longer (State s.entry) o n h

pub added_longer : (tri : Triangle) (r : PixelRect) (s : Current) (number : ℕ) (o n : TileList) → AddsTriangle tri r s number o n → Longer 2 o n
added_longer tri r s number o n (inl h) = subst (Longer 2 o) (sym h.same) (omega arith)
added_longer tri r s number o n (inr h) =
    let a = forced_longer s o h.mid h.forced in
    let b : length n.numbers ≤ length h.mid.numbers + 1 = subst (Longer 1 h.mid) (sym h.drawn) (one_longer h.mid.numbers (encoded (Tri number h.mask))) in
    omega (arith, a, b)

pub cleared_longer : (w : Word) (o n : TileList) → TakesClear w o n → Longer 1 o n
cleared_longer w o n (inl h) = gained_longer w o n h
cleared_longer w o n (inr h) = subst (Longer 1 o) (sym h.cut) (few (length o.numbers) (some h.can.front (ap length h.can.ends)))
  where
    some : {a : ℕ} (front : List ℕ) → a ≡ length (front ++ h.number ∷ []) → 1 ≤ a
    some front e = let k = length-append front (h.number ∷ []) in omega (arith, e, k)

    few : (a : ℕ) → 1 ≤ a → 2 ≤ a + 1
    few a p = omega arith

module _ {A : Type 0} (k : ℕ) (old new : Lists A) where
  pub weaker : (P Q : TileList → TileList → Type 0) → ((o w : TileList) → P o w → Q o w) → ChangesAt k P old new → ChangesAt k Q old new
  weaker P Q f c = record { size = c.size; here = f _ _ c.here; others = c.others }

pub unchanged : {A : Type 0} (k : ℕ) (l : Lists A) (P : TileList → TileList → Type 0) → P (at l k) (at l k) → ChangesAt k P l l
unchanged k l P h = record { size = refl; here = h; others = λ j ne. refl }

-- ---- the entry in force

pub stays_forced : {A : Type 0} (k : ℕ) (s : Current) (l : Lists A) (tail : List ℕ) → IsTail (at l k).numbers tail → IsDrawnSince s.first tail → ChangesAt k (PutsInForce s) l l
stays_forced k s l tail h d = unchanged k l (PutsInForce s) (inl (drawn_of_tail s.first (at l k).numbers tail h d, refl))

-- ---- a triangle

pub outside : {A : Type 0} (k : ℕ) (s : Current) (number : ℕ) (tri : Triangle) (r : PixelRect) (l : Lists A) → IsClassOf Outside tri r → ChangesAt k (AddsTriangle tri r s number) l l
outside k s number tri r l h = unchanged k l (AddsTriangle tri r s number) (inl (record { outside = h; same = refl }))

pub drawn : {A : Type 0} (k : ℕ) (s : Current) (number bits : ℕ) (mask : EdgeMask) (tri : Triangle) (r : PixelRect) (old mid near new : Lists A) → edge_bits mask ≡ bits → IsClassOf (Cut bits) tri r → ChangesAt k (PutsInForce s) old mid → ChangesAt k (GainsWord (Tri number mask)) mid near → ChangesAt k (λ o n. n ≡ flagged s.counted o) near new → ChangesAt k (AddsTriangle tri r s number) old new
drawn k s number bits mask tri r old mid near new e h c d f = record {
  size = f.size ∙ d.size ∙ c.size;
  here = inr (record {
    mask = mask;
    mid = at mid k;
    class = subst (λ b. IsClassOf (Cut b) tri r) (sym e) h;
    forced = c.here;
    drawn = f.here ∙ ap (flagged s.counted) d.here.0;
    decodes = d.here.1;
  });
  others = λ j ne. f.others j ne ∙ d.others j ne ∙ c.others j ne;
}

-- ---- a clear

pub cleared : {A : Type 0} (k : ℕ) (w : Word) (old new : Lists A) → ChangesAt k (GainsWord w) old new → ChangesAt k (TakesClear w) old new
cleared k w old new c = weaker k old new (GainsWord w) (TakesClear w) (λ o n h. inl h) c
