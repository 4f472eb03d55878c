-- One word more for one tile.
use Rattle.std.proofs.Common.{◌≡◌, ◌≢◌, ◌∙◌, ap, sym, subst, refl, arith, ℕ, ◌+◌, ◌*◌, ◌<◌, ◌≤◌, ⊎_elim, Bool, true, false, ◌||◌, if◌then◌else◌, List, [], ◌∷◌, ◌++◌, length, map, set, Some, slice_index_or, length-append}
use Rattle.std.specs.Prelude.{◌==◌, not, sum}
use Rattle.std.proofs.lemmas.Bool.{cases_eq}
use Rattle.std.proofs.lemmas.Bool.Decides.{nat_tests}
use Rattle.std.proofs.lemmas.List.{get_or-set_same, get_or-set_other, length-set}
use Rattle.gfxspec.specs.Limits.{is_size}
use Rattle.gfxspec.specs.Tiles.{tile_count}
use Rattle.gfxspec.proofs.TileLaws.{few_tiles_of}
use Rattle.tileword.specs.declared.word.Word.{Word}
use Rattle.tileword.specs.Word.{encoded, decoded}
use Rattle.binmem.specs.Lists.{words_of, word_count, IsTail}
use Rattle.binmem.specs.Lists as bins
use Rattle.binner.specs.declared.lists.Lists.{Lists}
use Rattle.binner.specs.Lists.{TileList, at, times, has_some, IsLists, IsShort, with_word, ChangesAt, GainsWord, CanCut, both_left}
use Rattle.binner.proofs.Tiles.{few_words}

times-push : (k t : ℕ) (ts : List ℕ) → times k (ts ++ t ∷ []) ≡ times k ts + (if t == k then 1 else 0)
times-push k t [] = omega arith
times-push k t (u ∷ ts) = three (if u == k then 1 else 0) _ _ _ (times-push k t ts)
  where
    three : (a b c d : ℕ) → b ≡ c + d → a + b ≡ a + c + d
    three a b c d h = omega arith

same_number : (t k : ℕ) → t ≡ k → (t == k) ≡ true
same_number t k h = grind (arith, nat_tests)

other_number : (t k : ℕ) → k ≢ t → (t == k) ≡ false
other_number t k h = grind (arith, nat_tests)

pub some_pushed : (ns : List ℕ) (n : ℕ) → has_some (ns ++ n ∷ []) ≡ true
some_pushed [] n = refl
some_pushed (m ∷ ns) n = refl

abbrev listed : Bool → List ℕ → TileList
listed b ns = record { counted = b; numbers = ns }

pub same_list : (b c : Bool) (ns ms : List ℕ) → b ≡ c → ns ≡ ms → listed b ns ≡ listed c ms
same_list b c ns ms p q = rw (p, q) refl

pub room_of : (xs : List (List ℕ)) → length xs ≤ 16384 → ((k : ℕ) → length (words_of xs k) ≤ 240000) → word_count xs < 4000000000
room_of xs few h = enough (sum (map length xs)) (length xs) (few_words xs 240000 h) few
  where
    enough : (a b : ℕ) → a ≤ b * 240000 → b ≤ 16384 → a < 4000000000
    enough a b p q = omega arith

module _ {A : Type 0} (l : Lists A) (s : IsLists l) where
  pub few : length l.bins ≤ 16384
  few = subst (λ n. n ≤ 16384) (sym s.bins) (few_tiles_of l.size s.size)

  pub room : IsShort 240000 l → word_count l.bins < 4000000000
  room h = room_of l.bins few (λ k. h k)

module _ (xs ys : List (List ℕ)) (tile n : ℕ) (inside : tile < length xs) (short : (k : ℕ) → length (words_of xs k) ≤ n) where
  less : (a b : ℕ) → a ≡ b → b ≤ n → a ≤ n + 1
  less a b p q = omega arith

  none : (a : ℕ) → a ≡ 0 → a ≤ n
  none a p = omega arith

  same : (a b : ℕ) → a ≡ b → b ≤ n → a ≤ n
  same a b p q = omega arith

  pub short_cut : ys ≡ bins.without_words xs tile → (k : ℕ) → length (words_of ys k) ≤ n
  short_cut e k = ⊎_elim
      (λ p. none _ (ap (λ j. length (words_of ys j)) p ∙ ap (λ zs. length (words_of zs tile)) e ∙ ap length (get_or-set_same xs tile [] [] inside)))
      (λ ne. same _ _ (ap (λ zs. length (words_of zs k)) e ∙ ap length (get_or-set_other xs tile k [] [] ne)) (short k))
      (cases_eq k tile)

  pub short_push : (w : ℕ) → ys ≡ bins.with_word xs tile w → (k : ℕ) → length (words_of ys k) ≤ n + 1
  short_push w e k = ⊎_elim
      (λ p. more _ _ (ap (λ j. length (words_of ys j)) p ∙ ap (λ zs. length (words_of zs tile)) e ∙ ap length (get_or-set_same xs tile (words_of xs tile ++ w ∷ []) [] inside) ∙ length-append (words_of xs tile) (w ∷ [])) (short tile))
      (λ ne. less _ _ (ap (λ zs. length (words_of zs k)) e ∙ ap length (get_or-set_other xs tile k _ [] ne)) (short k))
      (cases_eq k tile)
    where
      more : (a b : ℕ) → a ≡ b + 1 → b ≤ n → a ≤ n + 1
      more a b p q = omega arith

-- a tile has words where its last ones are some
pub has_words : (words tail : List ℕ) → IsTail words tail → has_some tail ≡ has_some words
has_words words [] h = sym (ap has_some (h.some refl))
has_words words (n ∷ tail) h = sym (ap has_some h.joined ∙ some_behind h.front)
  where
    some_behind : (front : List ℕ) → has_some (front ++ n ∷ tail) ≡ true
    some_behind [] = refl
    some_behind (m ∷ front) = refl

not_none : (n : ℕ) → 0 < n → (n == 0) ≡ false
not_none n h = grind (arith, nat_tests)

pub some_of_length : (ns : List ℕ) (b : Bool) → b ≡ (length ns == 0) → not b ≡ has_some ns
some_of_length [] b h = ap not h
some_of_length (n ∷ ns) b h = ap not (h ∙ not_none (length (n ∷ ns)) (omega arith))

module _ {A : Type 0} (old new : Lists A) (tile : ℕ) (w : Word) (known : Bool) (l : IsLists old) (inside : tile < tile_count old.size) (size : new.size ≡ old.size) (bin : new.bins ≡ bins.with_word old.bins tile (encoded w)) (counted : new.counted.items ≡ old.counted.items) (touched : new.touched.items ≡ (if known then old.touched.items else old.touched.items ++ tile ∷ [])) (knows : known ≡ has_some (words_of old.bins tile)) where
  words_here : words_of new.bins tile ≡ words_of old.bins tile ++ encoded w ∷ []
  words_here = ap (λ b. words_of b tile) bin ∙ get_or-set_same old.bins tile _ [] (subst (λ n. tile < n) (sym l.bins) inside)

  words_there : (j : ℕ) → j ≢ tile → words_of new.bins j ≡ words_of old.bins j
  words_there j ne = ap (λ b. words_of b j) bin ∙ get_or-set_other old.bins tile j _ [] ne

  at_here : at new tile ≡ with_word w (at old tile)
  at_here = same_list _ _ _ _ (ap (λ cs. slice_index_or cs tile false) counted) words_here

  at_other : (j : ℕ) → j ≢ tile → at new j ≡ at old j
  at_other j ne = same_list _ _ _ _ (ap (λ cs. slice_index_or cs j false) counted) (words_there j ne)

  now_once : times tile new.touched.items ≡ 1
  now_once = ap (times tile) touched ∙ by known knows
    where
      by : (b : Bool) → b ≡ has_some (words_of old.bins tile) → times tile (if b then old.touched.items else old.touched.items ++ tile ∷ []) ≡ 1
      by true e = l.once tile ∙ ap (λ b. if b then 1 else 0) (sym e)
      by false e = times-push tile tile old.touched.items ∙ added _ _ (l.once tile ∙ ap (λ b. if b then 1 else 0) (sym e)) (ap (λ b. if b then 1 else 0) (same_number tile tile refl))
        where
          added : (a b : ℕ) → a ≡ 0 → b ≡ 1 → a + b ≡ 1
          added a b p q = omega arith

  others_once : (j : ℕ) → j ≢ tile → times j new.touched.items ≡ times j old.touched.items
  others_once j ne = ap (times j) touched ∙ by known
    where
      by : (b : Bool) → times j (if b then old.touched.items else old.touched.items ++ tile ∷ []) ≡ times j old.touched.items
      by true = refl
      by false = times-push j tile old.touched.items ∙ added _ _ (ap (λ b. if b then 1 else 0) (other_number tile j ne))
        where
          added : (a b : ℕ) → b ≡ 0 → a + b ≡ a
          added a b q = omega arith

  once : (k : ℕ) → times k new.touched.items ≡ (if has_some (words_of new.bins k) then 1 else 0)
  once k = ⊎_elim
      (λ e. subst (λ j. times j new.touched.items ≡ (if has_some (words_of new.bins j) then 1 else 0)) (sym e)
      (now_once ∙ sym (ap (λ b. if b then 1 else 0) (ap has_some words_here ∙ some_pushed (words_of old.bins tile) (encoded w)))))
      (λ ne. others_once k ne ∙ l.once k ∙ sym (ap (λ ns. if has_some ns then 1 else 0) (words_there k ne)))
      (cases_eq k tile)

  pub pushed_sound : IsLists new
  pushed_sound = record {
    size = subst (λ s. is_size s ≡ true) (sym size) l.size;
    bins = ap length bin ∙ length-set old.bins tile _ ∙ l.bins ∙ ap tile_count (sym size);
    counted = ap length counted ∙ l.counted ∙ ap tile_count (sym size);
    once = once;
  }

  pub pushed : decoded (encoded w) ≡ Some w → ChangesAt tile (GainsWord w) old new
  pushed d = record { size = size; here = (at_here, d); others = at_other }

-- ---- a tile is left with both clears

module _ {A : Type 0} (old new : Lists A) (tile number : ℕ) (w : Word) (cut first : List (List ℕ)) (l : IsLists old) (inside : tile < tile_count old.size) (size : new.size ≡ old.size) (emptied : cut ≡ bins.without_words old.bins tile) (one : first ≡ bins.with_word cut tile number) (two : new.bins ≡ bins.with_word first tile (encoded w)) (counted : new.counted.items ≡ old.counted.items) (touched : new.touched.items ≡ old.touched.items) (can : CanCut number w (at old tile)) where
  long : length old.bins ≡ tile_count old.size
  long = l.bins

  cut_long : tile < length cut
  cut_long = subst (λ n. tile < n) (sym (ap length emptied ∙ length-set old.bins tile [] ∙ long)) inside

  first_long : tile < length first
  first_long = subst (λ n. tile < n) (sym (ap length one ∙ length-set cut tile _)) cut_long

  none_here : words_of cut tile ≡ []
  none_here = ap (λ b. words_of b tile) emptied ∙ get_or-set_same old.bins tile [] [] (subst (λ n. tile < n) (sym long) inside)

  one_here : words_of first tile ≡ number ∷ []
  one_here = ap (λ b. words_of b tile) one ∙ get_or-set_same cut tile _ [] cut_long ∙ ap (λ ns. ns ++ number ∷ []) none_here

  words_here' : words_of new.bins tile ≡ number ∷ encoded w ∷ []
  words_here' = ap (λ b. words_of b tile) two ∙ get_or-set_same first tile _ [] first_long ∙ ap (λ ns. ns ++ encoded w ∷ []) one_here

  words_there' : (j : ℕ) → j ≢ tile → words_of new.bins j ≡ words_of old.bins j
  words_there' j ne =
      ap (λ b. words_of b j) two ∙ get_or-set_other first tile j _ [] ne
      ∙ ap (λ b. words_of b j) one ∙ get_or-set_other cut tile j _ [] ne
      ∙ ap (λ b. words_of b j) emptied ∙ get_or-set_other old.bins tile j [] [] ne

  had_some : has_some (words_of old.bins tile) ≡ true
  had_some = ap has_some can.ends ∙ some_pushed can.front number

  once' : (k : ℕ) → times k new.touched.items ≡ (if has_some (words_of new.bins k) then 1 else 0)
  once' k = ap (times k) touched ∙ l.once k ∙ ap (λ b. if b then 1 else 0) (⊎_elim
      (λ e. subst (λ j. has_some (words_of old.bins j) ≡ has_some (words_of new.bins j)) (sym e) (had_some ∙ sym (ap has_some words_here')))
      (λ ne. sym (ap has_some (words_there' k ne)))
      (cases_eq k tile))

  pub cut_sound : IsLists new
  cut_sound = record {
    size = subst (λ s. is_size s ≡ true) (sym size) l.size;
    bins = ap length two ∙ length-set first tile _ ∙ ap length one ∙ length-set cut tile _ ∙ ap length emptied ∙ length-set old.bins tile [] ∙ long ∙ ap tile_count (sym size);
    counted = ap length counted ∙ l.counted ∙ ap tile_count (sym size);
    once = once';
  }

  pub cut_at : ChangesAt tile (λ o n. n ≡ both_left number w o) old new
  cut_at = record {
    size = size;
    here = same_list _ _ _ _ (ap (λ cs. slice_index_or cs tile false) counted) words_here';
    others = λ j ne. same_list _ _ _ _ (ap (λ cs. slice_index_or cs j false) counted) (words_there' j ne);
  }

-- ---- a tile's triangle is counted, or isn't

abbrev pub flagged : Bool → TileList → TileList
flagged now o = record { counted = o.counted || now; numbers = o.numbers }

module _ {A : Type 0} (old new : Lists A) (tile : ℕ) (now : Bool) (l : IsLists old) (inside : tile < tile_count old.size) (size : new.size ≡ old.size) (bin : new.bins ≡ old.bins) (touched : new.touched.items ≡ old.touched.items) (counted : new.counted.items ≡ (if now then set old.counted.items tile true else old.counted.items)) where
  counted_here : slice_index_or new.counted.items tile false ≡ (slice_index_or old.counted.items tile false || now)
  counted_here = ap (λ cs. slice_index_or cs tile false) counted ∙ by now
    where
      both : (b : Bool) → true ≡ (b || true)
      both true = refl
      both false = refl

      one : (b : Bool) → b ≡ (b || false)
      one true = refl
      one false = refl

      by : (b : Bool) → slice_index_or (if b then set old.counted.items tile true else old.counted.items) tile false ≡ (slice_index_or old.counted.items tile false || b)
      by true = get_or-set_same old.counted.items tile true false (subst (λ n. tile < n) (sym l.counted) inside) ∙ both _
      by false = one _

  counted_there : (j : ℕ) → j ≢ tile → slice_index_or new.counted.items j false ≡ slice_index_or old.counted.items j false
  counted_there j ne = ap (λ cs. slice_index_or cs j false) counted ∙ by now
    where
      by : (b : Bool) → slice_index_or (if b then set old.counted.items tile true else old.counted.items) j false ≡ slice_index_or old.counted.items j false
      by true = get_or-set_other old.counted.items tile j true false ne
      by false = refl

  pub noted_at : ChangesAt tile (λ o n. n ≡ flagged now o) old new
  noted_at = record {
    size = size;
    here = same_list _ _ _ _ counted_here (ap (λ b. words_of b tile) bin);
    others = λ j ne. same_list _ _ _ _ (counted_there j ne) (ap (λ b. words_of b j) bin);
  }
