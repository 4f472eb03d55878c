-- Tiles that are gathered, with a flag for each tile of the target.
use Rattle.std.proofs.Common.{◌≡◌, ◌≢◌, ◌∙◌, ap, sym, subst, refl, arith, ⊎_elim, ℕ, ◌+◌, ◌<◌, ◌≤◌, Bool, true, false, cond, List, [], ◌∷◌, ◌++◌, length, get_or, set, take, replicate, length-set}
use Rattle.std.specs.Prelude.{◌==◌, nat_lt, All}
use Rattle.std.specs.List.{Contains}
use Rattle.std.proofs.lemmas.Bool.{cases_eq}
use Rattle.std.proofs.lemmas.Bool.Decides.{nat_tests}
use Rattle.std.proofs.lemmas.List.{get_or_past, get_or_default, get_or-set_same, get_or-set_other, get_or-replicate, length-replicate, take_all}
use Rattle.std.proofs.lemmas.List.Elements.{All-nil, All-cons, All-more, All-weaker}
use Rattle.gfxspec.specs.declared.geometry.Size.{Size}
use Rattle.gfxspec.specs.Tiles.{tile_count}
use Rattle.binner.specs.Lists.{times}
use Rattle.binner.specs.Compiled.{Compilation, IsCompilation}
use Rattle.tilerun.specs.Touched.{AreTiles}
use Rattle.tilerun.proofs.Lists.{is_among}
use Rattle.tileprog.specs.Several.{AreLists, AreMarked, HasWordsIn}
use Rattle.tileprog.proofs.Touched.{times_at, times_twice, times_none, are_tiles, untouched}

-- ---- how often a number stands in a list

times_more : (k t : ℕ) (xs : List ℕ) → times k (xs ++ t ∷ []) ≡ times k xs + cond {A = ℕ} (t == k) 1 0
times_more k t [] = omega arith
times_more k t (x ∷ xs) = let rest = times_more k t xs in omega (arith, rest)

same_one : (n k : ℕ) → n ≡ k → cond {A = ℕ} (n == k) 1 0 ≡ 1
same_one n k e = grind (arith, nat_tests)

other_none : (n k : ℕ) → n ≢ k → cond {A = ℕ} (n == k) 1 0 ≡ 0
other_none n k e = by (n == k) refl
  where
    by : (b : Bool) → (n == k) ≡ b → cond {A = ℕ} b 1 0 ≡ 0
    by true is = absurd (e (grind (arith, nat_tests)))
    by false is = refl

-- where it stands it is an element
contained : (t : ℕ) (xs : List ℕ) → 0 < times t xs → Contains xs t
contained t xs some = ⊎_elim
    (λ (c : Contains xs t). c)
    (λ (out : ¬ Contains xs t). let none = times_none t xs out in absurd (omega (arith, none, some)))
    (is_among xs t)

pub counted : (t : ℕ) (xs : List ℕ) → Contains xs t → 0 < times t xs
counted t xs c = times_at t xs c.0 t c.1 c.2

-- an element of one list is one of another in which it stands as often
pub kept_in : (t : ℕ) (xs ys : List ℕ) → times t xs ≤ times t ys → Contains xs t → Contains ys t
kept_in t xs ys more c = contained t ys (let some = counted t xs c in omega (arith, more, some))

-- each element stands in another list
each_in : (t : ℕ) (xs ys : List ℕ) → ((j : ℕ) → j < length xs → 0 < times (get_or xs j 0) ys) → Contains xs t → Contains ys t
each_in t xs ys all c =
    contained t ys
    (subst (λ (n : ℕ). 0 < times n ys) (get_or_default xs c.0 0 t c.1 ∙ c.2) (all c.0 c.1))

-- ---- flags

-- no tile is gathered, and none is marked
pub none_marked : (size : Size) (n : ℕ) → n ≡ tile_count size → AreMarked size (replicate n false) []
none_marked size n e = record {
  long = length-replicate n false ∙ e;
  flags = λ t. by t (nat_lt t n) refl;
}
  where
    by : (t : ℕ) (b : Bool) → nat_lt t n ≡ b → 0 ≡ cond {A = ℕ} (get_or (replicate n false) t false) 1 0
    by t true less = ap (λ (f : Bool). cond {A = ℕ} f 1 0) (sym (get_or-replicate n t false false (grind (arith, nat_tests))))
    by t false past =
        let long = length-replicate n false in
        let over : n ≤ t = grind (arith, nat_tests) in
        ap (λ (f : Bool). cond {A = ℕ} f 1 0) (sym (get_or_past (replicate n false) t false (omega (arith, long, over))))

module _ (size : Size) (seen : List Bool) (tiles : List ℕ) (h : AreMarked size seen tiles) where
  -- a marked tile is among them
  pub marked_in : (t : ℕ) → get_or seen t false ≡ true → 0 < times t tiles
  marked_in t e = let here : times t tiles ≡ 1 = h.flags t ∙ ap (λ (f : Bool). cond {A = ℕ} f 1 0) e in omega (arith, here)

  -- one that isn't is added, and marked
  pub next_marked : (t : ℕ) → t < length seen → get_or seen t false ≡ false → AreMarked size (set seen t true) (tiles ++ t ∷ [])
  next_marked t less new = record {
    long = length-set seen t true ∙ h.long;
    flags = λ k. times_more k t tiles ∙ ⊎_elim (λ (e : t ≡ k). here k e) (λ (ne : t ≢ k). there k ne) (cases_eq t k);
  }
    where
      here : (k : ℕ) → t ≡ k → times k tiles + cond {A = ℕ} (t == k) 1 0 ≡ cond {A = ℕ} (get_or (set seen t true) k false) 1 0
      here k e =
          let before : times t tiles ≡ 0 = h.flags t ∙ ap (λ (f : Bool). cond {A = ℕ} f 1 0) new in
          let now : cond {A = ℕ} (get_or (set seen t true) t false) 1 0 ≡ 1 = ap (λ (f : Bool). cond {A = ℕ} f 1 0) (get_or-set_same seen t true false less) in
          let one = same_one t t refl in
          subst (λ (m : ℕ). times m tiles + cond {A = ℕ} (t == m) 1 0 ≡ cond {A = ℕ} (get_or (set seen t true) m false) 1 0) e
          (omega (arith, before, now, one))

      there : (k : ℕ) → t ≢ k → times k tiles + cond {A = ℕ} (t == k) 1 0 ≡ cond {A = ℕ} (get_or (set seen t true) k false) 1 0
      there k ne =
          let zero = other_none t k ne in
          let same : cond {A = ℕ} (get_or (set seen t true) k false) 1 0 ≡ cond {A = ℕ} (get_or seen k false) 1 0
          = ap (λ (f : Bool). cond {A = ℕ} f 1 0) (get_or-set_other seen t k true false (λ (e : k ≡ t). ne (sym e))) in
          let was = h.flags k in
          omega (arith, zero, same, was)

  few : (k : ℕ) → times k tiles ≤ 1
  few k = let is = h.flags k in by (get_or seen k false) is
    where
      by : (b : Bool) → times k tiles ≡ cond {A = ℕ} b 1 0 → times k tiles ≤ 1
      by true e = omega (arith, e)
      by false e = omega (arith, e)

  in_range : (t : ℕ) → 0 < times t tiles → t < tile_count size
  in_range t some = by (nat_lt t (tile_count size)) refl
    where
      by : (b : Bool) → nat_lt t (tile_count size) ≡ b → t < tile_count size
      by true e = grind (arith, nat_tests)
      by false e =
          let past : tile_count size ≤ t = grind (arith, nat_tests) in
          let off = get_or_past seen t false (let l = h.long in omega (arith, l, past)) in
          let none : times t tiles ≡ 0 = h.flags t ∙ ap (λ (f : Bool). cond {A = ℕ} f 1 0) off in
          absurd (omega (arith, none, some))

  -- they are tiles of the target, each once
  pub marked_tiles : AreTiles size tiles
  marked_tiles = record {
    in_range = λ k d l. in_range (get_or tiles k d) (times_at _ tiles k d l refl);
    once = λ p q l m e. by p q l m e (nat_lt p q) refl (nat_lt q p) refl;
  }
    where
      twice : (i j : ℕ) → i < j → j < length tiles → get_or tiles i 0 ≡ get_or tiles j 0 → ⊥
      twice i j less inside e = let many = times_twice (get_or tiles j 0) tiles i j less inside e refl in let one = few (get_or tiles j 0) in omega (arith, many, one)

      by : (p q : ℕ) → p < length tiles → q < length tiles → get_or tiles p 0 ≡ get_or tiles q 0 → (a : Bool) → nat_lt p q ≡ a → (b : Bool) → nat_lt q p ≡ b → p ≡ q
      by p q l m e true is b other = absurd (twice p q (grind (arith, nat_tests)) m e)
      by p q l m e false is true other = absurd (twice q p (grind (arith, nat_tests)) l (sym e))
      by p q l m e false is false other = grind (arith, nat_tests)

-- a tile that is added takes none away, and is among them
pub more_tiles : (k t : ℕ) (tiles : List ℕ) → times k tiles ≤ times k (tiles ++ t ∷ [])
more_tiles k t tiles = let more = times_more k t tiles in omega (arith, more)

pub added : (t : ℕ) (tiles : List ℕ) → 0 < times t (tiles ++ t ∷ [])
added t tiles = let more = times_more t t tiles in let one = same_one t t refl in omega (arith, more, one)

-- ---- the tiles of a list, up to a place

pub record SoFar (size : Size) (seen : List Bool) (old tiles touched : List ℕ) (i : ℕ) : Type 0 where
  pub marked : AreMarked size seen tiles
  pub kept : (t : ℕ) → times t old ≤ times t tiles
  pub done : (j : ℕ) → j < i → 0 < times (get_or touched j 0) tiles

module _ (size : Size) (seen : List Bool) (old tiles touched : List ℕ) (i : ℕ) (so : SoFar size seen old tiles touched i) where
  next_done : (more : List ℕ) → ((t : ℕ) → times t tiles ≤ times t more) → 0 < times (get_or touched i 0) more → (j : ℕ) → j < i + 1 → 0 < times (get_or touched j 0) more
  next_done more keeps here j less = by (nat_lt j i) refl
    where
      by : (b : Bool) → nat_lt j i ≡ b → 0 < times (get_or touched j 0) more
      by true e =
          let before = so.done j (grind (arith, nat_tests)) in
          let keep = keeps (get_or touched j 0) in
          omega (arith, before, keep)
      by false e =
          let same : i ≡ j = grind (arith, nat_tests) in
          subst (λ (k : ℕ). 0 < times (get_or touched k 0) more) same here

  -- the next one is marked already
  pub same_so_far : get_or seen (get_or touched i 0) false ≡ true → SoFar size seen old tiles touched (i + 1)
  same_so_far e = record {
    marked = so.marked;
    kept = so.kept;
    done = next_done tiles (λ t. omega arith) (marked_in size seen tiles so.marked (get_or touched i 0) e);
  }

  -- or it is added
  pub more_so_far : (t : ℕ) → t ≡ get_or touched i 0 → t < length seen → get_or seen t false ≡ false → SoFar size (set seen t true) old (tiles ++ t ∷ []) touched (i + 1)
  more_so_far t is less new = record {
    marked = next_marked size seen tiles so.marked t less new;
    kept = λ k. let before = so.kept k in let more = more_tiles k t tiles in omega (arith, before, more);
    done = next_done (tiles ++ t ∷ []) (λ k. more_tiles k t tiles) (subst (λ (n : ℕ). 0 < times n (tiles ++ t ∷ [])) is (added t tiles));
  }

-- each touched tile of a list has a flag
pub has_flag : (c : Compilation) (seen : List Bool) (tiles touched : List ℕ) (i : ℕ) → IsCompilation c → AreMarked c.size seen tiles → touched ≡ c.touched → i < length touched → get_or touched i 0 < length seen
has_flag c seen tiles touched i sound marked same less =
    subst (λ (n : ℕ). get_or touched i 0 < n) (sym marked.long)
    ((subst (λ (ts : List ℕ). All (λ t. t < tile_count c.size) ts) (sym same) (are_tiles c sound).in_range) i 0 less)

-- once all touched tiles are among some, the list has words in no other
pub words_in : (c : Compilation) (tiles : List ℕ) → IsCompilation c → ((j : ℕ) → j < length c.touched → 0 < times (get_or c.touched j 0) tiles) → HasWordsIn tiles c
words_in c tiles sound all t out = untouched c sound t (λ there. out (each_in t c.touched tiles all there))

-- ---- the tiles of a first list and of those behind it, up to a place

pub record Gathered (size : Size) (seen : List Bool) (tiles : List ℕ) (first : Compilation) (behind : List Compilation) (i : ℕ) : Type 0 where
  pub marked : AreMarked size seen tiles
  pub from_first : HasWordsIn tiles first
  pub all : All (HasWordsIn tiles) (take i behind)

pub first_gathered : (size : Size) (seen : List Bool) (tiles : List ℕ) (first : Compilation) (behind : List Compilation) → AreMarked size seen tiles → HasWordsIn tiles first → Gathered size seen tiles first behind 0
first_gathered size seen tiles first behind marked here = record {
  marked = marked;
  from_first = here;
  all = All-nil (HasWordsIn tiles);
}

-- the list at a place is for a target of the same size
pub size_at : (size : Size) (behind : List Compilation) (i : ℕ) (c : Compilation) → All (λ d. d.size ≡ size) behind → i < length behind → c ≡ get_or behind i c → c.size ≡ size
size_at size behind i c sizes less is = subst (λ (d : Compilation). d.size ≡ size) (sym is) (sizes i c less)

-- one list more
pub next_gathered : (size : Size) (seen next : List Bool) (tiles more : List ℕ) (first : Compilation) (behind : List Compilation) (i : ℕ) (c : Compilation) → Gathered size seen tiles first behind i → i < length behind → c ≡ get_or behind i c → c.size ≡ size → AreMarked c.size next more → ((t : ℕ) → times t tiles ≤ times t more) → HasWordsIn more c → Gathered size next more first behind (i + 1)
next_gathered size seen next tiles more first behind i c so less is same marked kept here = record {
  marked = subst (λ (s : Size). AreMarked s next more) same marked;
  from_first = λ t out. so.from_first t (λ there. out (kept_in t tiles more (kept t) there));
  all = All-more (HasWordsIn more) behind i c less
      (All-weaker (HasWordsIn tiles) (HasWordsIn more) (λ (d : Compilation) (h : HasWordsIn tiles d) (t : ℕ) (out : ¬ Contains more t). h t (λ there. out (kept_in t tiles more (kept t) there))) (take i behind) so.all)
      (subst (HasWordsIn more) is here);
}

-- all of them
pub all_gathered : (size : Size) (seen : List Bool) (tiles : List ℕ) (first : Compilation) (behind : List Compilation) (i : ℕ) → Gathered size seen tiles first behind i → length behind ≤ i → first.size ≡ size → All (λ c. c.size ≡ size) behind → AreLists size (first ∷ behind) tiles
all_gathered size seen tiles first behind i so past same sizes = record {
  sizes = All-cons (λ (c : Compilation). c.size ≡ size) first behind same sizes;
  tiles = marked_tiles size seen tiles so.marked;
  words = All-cons (HasWordsIn tiles) first behind so.from_first (subst (All (HasWordsIn tiles)) whole so.all);
}
  where
    whole : take i behind ≡ behind
    whole = take_all i behind past
