-- Tiles that are taken out, placed, and put back.
use Rattle.std.proofs.Common.{◌≡◌, ◌≢◌, ◌∙◌, sym, ap, refl, subst, ⊎_elim, arith, ℕ, ◌+◌, ◌<◌, ◌≤◌, List, [], ◌∷◌, ◌++◌, length, length-append, length-set, get_or, Some, None}
use Rattle.std.proofs.lemmas.Bool.{cases_eq}
use Rattle.std.proofs.lemmas.List.Elements.{Contains-push, Contains-push_cases, Contains-append_left}
use Rattle.std.specs.List.{Contains}
use mathlib.Core.Option.{some, some-injective}
use lib.ListN.{get_elem?}
use Rattle.gfxspec.specs.declared.geometry.Size.{Size}
use Rattle.gfxspec.specs.Tiles.{tile_rect}
use Rattle.tileblock.specs.Block.{Block}
use Rattle.tileblock.specs.Surface.{Surface, block_of, without, with_block}
use Rattle.tileblock.proofs.Slots.{block_of-without_same, block_of-without_other, block_of-with_same, block_of-with_other}
use Rattle.atomic_table.proofs.Lists.{at_last, at_longer}
use Rattle.tilerun.specs.Moving.{AreOut, AreBack, IsOut}
use Rattle.tilecore.proofs.Lists.{within}
use Rattle.tilerun.proofs.Lists.{not_past, read_at, contains_at}

module _ {O : Type 0} (number : O → ℕ) (block : O → Block) (old : Surface) where
  pub none_out : (placed : List O) → length placed ≡ 0 → AreOut number block [] old old placed
  none_out placed none = record {
    size = refl;
    long = refl;
    many = none;
    out = λ t c. absurd (let less = c.1 in omega arith);
    rest = λ t c. refl;
    held = λ p o e. absurd (let a = within placed p o e in omega arith);
  }

  pub one_out : (tiles : List ℕ) (t : ℕ) (mid : Surface) (placed : List O) (o : O) → AreOut number block tiles old mid placed → ¬ Contains tiles t → t < length mid.blocks → number o ≡ length tiles → block_of mid t ≡ Some (block o) → (block o).rect ≡ tile_rect mid.size t
      → AreOut number block (tiles ++ t ∷ []) old (without mid t) (placed ++ o ∷ [])
  one_out tiles t mid placed o h new near num was rect = record {
    size = h.size;
    long = length-set mid.blocks t None ∙ h.long;
    many = length-append placed (o ∷ []) ∙ (ap (λ (n : ℕ). n + 1) h.many ∙ sym (length-append tiles (t ∷ [])));
    out = λ u c. ⊎_elim
        (λ (in_list : Contains tiles u). block_of-without_other mid t u (λ e. new (subst (Contains tiles) e in_list)) ∙ h.out u in_list)
        (λ (e : t ≡ u). ap (block_of (without mid t)) (sym e) ∙ block_of-without_same mid t near)
        (Contains-push_cases tiles t u c);
    rest = λ u c. block_of-without_other mid t u (λ e. c (subst (Contains (tiles ++ t ∷ [])) (sym e) (Contains-push tiles t))) ∙ h.rest u (λ in_list. c (Contains-append_left tiles (t ∷ []) u in_list));
    held = λ p q e. ⊎_elim
        (λ (same : p ≡ length placed). let it : o ≡ q = some-injective o q (sym (at_last placed o p (sym same)) ∙ e) in (
          t,
          at_last tiles t p (sym h.many ∙ sym same),
          ap number (sym it) ∙ (num ∙ (sym h.many ∙ sym same)),
          sym (h.rest t new) ∙ (was ∙ ap (λ (x : O). Some (block x)) it),
          ap (λ (x : O). (block x).rect) (sym it) ∙ (rect ∙ ap (λ (z : Size). tile_rect z t) h.size),
        ))
        (λ (ne : p ≢ length placed). let a = within (placed ++ o ∷ []) p q e in let b = length-append placed (o ∷ []) in let c = h.held p q (not_past placed (o ∷ []) p q e (omega arith)) in
        (c.0, at_longer tiles (t ∷ []) p c.0 c.1, c.2, c.3, c.4))
        (cases_eq p (length placed));
  }

module _ {D : Type 0} (block : D → Block) (tiles : List ℕ) (mid : Surface) (results : List D) where
  -- the first n results are back, and the other tiles of the list are still out
  pub record SoFar (n : ℕ) (new : Surface) : Type 0 where
    pub size : new.size ≡ mid.size
    pub long : length new.blocks ≡ length mid.blocks
    pub back : (p : ℕ) (d : D) (t : ℕ) → p < n → get_elem? results p ≡ some d → get_elem? tiles p ≡ some t → block_of new t ≡ Some (block d)
    pub waits : (p t : ℕ) → n ≤ p → get_elem? tiles p ≡ some t → block_of new t ≡ None
    pub rest : (t : ℕ) → ¬ Contains tiles t → block_of new t ≡ block_of mid t

  pub none_back : ((t : ℕ) → Contains tiles t → IsOut mid t) → SoFar 0 mid
  none_back out = record {
    size = refl;
    long = refl;
    back = λ p d t less. absurd (omega arith);
    waits = λ p t le e. (out t (contains_at tiles p t e)).0.1;
    rest = λ t c. refl;
  }

  pub one_back : (once : (p q : ℕ) → p < length tiles → q < length tiles → get_or tiles p 0 ≡ get_or tiles q 0 → p ≡ q) (n : ℕ) (new : Surface) (d : D) (t : ℕ)
      → SoFar n new → t < length mid.blocks → get_elem? results n ≡ some d → get_elem? tiles n ≡ some t → SoFar (n + 1) (with_block new t (block d))
  one_back once n new d t h small at_result at_tile = let near : t < length new.blocks = (let a = h.long in omega arith) in record {
    size = h.size;
    long = length-set new.blocks t (Some (block d)) ∙ h.long;
    back = λ p e u less r a. ⊎_elim
        (λ (same : p ≡ n).
        let it : t ≡ u = some-injective t u (sym at_tile ∙ (ap (get_elem? tiles) (sym same) ∙ a)) in
        let done : d ≡ e = some-injective d e (sym at_result ∙ (ap (get_elem? results) (sym same) ∙ r)) in
        ap (block_of (with_block new t (block d))) (sym it) ∙ (block_of-with_same new t (block d) near ∙ ap (λ (x : D). Some (block x)) done))
        (λ (ne : p ≢ n). block_of-with_other new t u (block d) (λ e. ne (same_place once p n u t a at_tile e)) ∙ h.back p e u (omega arith) r a)
        (cases_eq p n);
    waits = λ p u le a. block_of-with_other new t u (block d) (λ e. let q : p ≡ n = same_place once p n u t a at_tile e in omega arith) ∙ h.waits p u (omega arith) a;
    rest = λ u c. block_of-with_other new t u (block d) (λ e. c (subst (Contains tiles) (sym e) (contains_at tiles n t at_tile))) ∙ h.rest u c;
  }
    where
      same_place : ((p q : ℕ) → p < length tiles → q < length tiles → get_or tiles p 0 ≡ get_or tiles q 0 → p ≡ q) → (p q u t : ℕ) → get_elem? tiles p ≡ some u → get_elem? tiles q ≡ some t → u ≡ t → p ≡ q
      same_place once p q u t a b e = once p q (within tiles p u a) (within tiles q t b) (read_at tiles p u 0 a ∙ (e ∙ sym (read_at tiles q t 0 b)))

  pub all_back : (n : ℕ) (new : Surface) → SoFar n new → length tiles ≤ n → AreBack block tiles mid new results
  all_back n new h all = record {
    size = h.size;
    back = λ p d t r a. h.back p d t (let b = within tiles p t a in omega arith) r a;
    rest = h.rest;
  }
