-- Programs that run tile by tile, in any order that has each tile once.
use Rattle.std.proofs.Common.{◌≡◌, ◌≢◌, ◌∙◌, ap, sym, subst, refl, arith, ℕ, zero, suc, ◌+◌, ◌*◌, ◌<◌, ◌≤◌, ◌^◌, ◌⊎◌, inl, inr, ⊎_elim, List, [], ◌∷◌, ◌++◌, length, get_or, take, replicate, Some}
use Rattle.std.specs.List.{Contains, sum_by}
use Rattle.std.proofs.lemmas.List.{get_or-replicate, get_or-take, length-take-le}
use Rattle.std.proofs.lemmas.List.Sums.{sum_by-cons}
use Rattle.std.proofs.Math.Seq.{take-length}
use mathlib.Core.Option.{some}
use lib.ListN.{get_elem?}
use Rattle.gfxspec.specs.declared.geometry.Size.{Size}
use Rattle.gfxspec.specs.declared.geometry.PixelRect.{PixelRect}
use Rattle.gfxspec.specs.declared.pixel.Pixel.{Pixel}
use Rattle.gfxspec.specs.Commands.{Command}
use Rattle.gfxspec.specs.Recorded.{items}
use Rattle.gfxspec.specs.Items.{sum_below, issue_count}
use Rattle.gfxspec.specs.Tiles.{tile_count, tile_of, tile_rect, IsIn}
use Rattle.gfxspec.proofs.TileLaws.{tile_numbered, in_own_tile, only_tile, tile_within}
use Rattle.meaning.proofs.Sums.{same_sums}
use Rattle.tileblock.specs.Block.{Block, pixel_at}
use Rattle.tileblock.specs.Surface.{Surface, IsSurface, IsWhole, block_of, pixel_of}
use Rattle.tileblock.proofs.Slots.{pixel_of-block}
use Rattle.tileblock.proofs.Running.{HasRun, none_ran, one_ran, replaced}
use Rattle.binmem.specs.Lists.{words_of}
use Rattle.binner.specs.Lists.{times}
use Rattle.binner.specs.Program.{program_pixel, program_count}
use Rattle.binner.specs.Compiled.{Compilation, IsCompilation, MeansList}
use Rattle.binner.proofs.Ending.{counts_are_sums}
use Rattle.tilerun.proofs.Lists.{is_among, not_before, take_next}
use Rattle.tileprog.specs.Passing.{AtMost, HasGrown}
use Rattle.tileprog.specs.Runs.{RunsTo}
use Rattle.tileprog.specs.Programs.{IsOrder, ProgramsRan, ListRan, pixel_by, count_by}
use Rattle.tileprog.proofs.Programs.{tile_ran}
use Rattle.tileprog.proofs.Touched.{times_at, times_once, picked, untouched, no_words_count, few_tiles_in}

-- ---- one more at the end of a list

cons_here : (x : ℕ) (xs : List ℕ) (u : ℕ) → x ≡ u → Contains (x ∷ xs) u
cons_here x xs u e = (0, omega arith, e)

cons_there : (x : ℕ) (xs : List ℕ) (u : ℕ) → Contains xs u → Contains (x ∷ xs) u
cons_there x xs u c = (suc c.0, (let l = c.1 in omega arith), c.2)

uncons : (x : ℕ) (xs : List ℕ) (u : ℕ) → Contains (x ∷ xs) u → (x ≡ u) ⊎ Contains xs u
uncons x xs u c = go c.0 c.1 c.2
  where
    go : (i : ℕ) → i < length (x ∷ xs) → get_or (x ∷ xs) i u ≡ u → (x ≡ u) ⊎ Contains xs u
    go zero l e = inl e
    go (suc i) l e = inr (i, omega arith, e)

snoc_old : (xs : List ℕ) (t u : ℕ) → Contains xs u → Contains (xs ++ t ∷ []) u
snoc_old [] t u c = let l = c.1 in absurd (omega arith)
snoc_old (x ∷ xs) t u c = ⊎_elim (λ e. cons_here x (xs ++ t ∷ []) u e) (λ d. cons_there x (xs ++ t ∷ []) u (snoc_old xs t u d)) (uncons x xs u c)

snoc_new : (xs : List ℕ) (t : ℕ) → Contains (xs ++ t ∷ []) t
snoc_new [] t = cons_here t [] t refl
snoc_new (x ∷ xs) t = cons_there x (xs ++ t ∷ []) t (snoc_new xs t)

snoc_from : (xs : List ℕ) (t u : ℕ) → Contains (xs ++ t ∷ []) u → u ≢ t → Contains xs u
snoc_from [] t u c ne = ⊎_elim (λ (e : t ≡ u). absurd (ne (sym e))) (λ (d : Contains [] u). let l = d.1 in absurd (omega arith)) (uncons t [] u c)
snoc_from (x ∷ xs) t u c ne = ⊎_elim (λ e. cons_here x xs u e) (λ d. cons_there x xs u (snoc_from xs t u d ne)) (uncons x (xs ++ t ∷ []) u c)

snoc_sum : (f : ℕ → ℕ) (xs : List ℕ) (t : ℕ) → sum_by f (xs ++ t ∷ []) ≡ sum_by f xs + f t
snoc_sum f [] t = let one = sum_by-cons f t [] in omega arith
snoc_sum f (x ∷ xs) t = let a = sum_by-cons f x (xs ++ t ∷ []) in let b = sum_by-cons f x xs in let rest = snoc_sum f xs t in omega arith

-- ---- what is summed over an order is the sum over all tiles

module _ (c : Compilation) (sound : IsCompilation c) (order : List ℕ) (is : IsOrder c order) where
  left_out : (t : ℕ) → ¬ Contains order t → words_of c.numbers t ≡ []
  left_out t out = untouched c sound t (λ there. out (is.all t there))

  sum_order : (f : ℕ → ℕ) → ((t : ℕ) → words_of c.numbers t ≡ [] → f t ≡ 0) → sum_by f order ≡ sum_below (tile_count c.size) f
  sum_order f idle =
      picked f (tile_count c.size) order is.tiles.in_range
      ∙ same_sums (tile_count c.size) (λ t. times t order * f t) f
      (λ t l. ⊎_elim
      (λ (there : Contains order t). once_counted (times t order) (f t) (times_at t order there.0 t there.1 there.2) (times_once t order is.tiles.once))
      (λ (out : ¬ Contains order t). none_counted (times t order) (f t) (idle t (left_out t out)))
      (is_among order t))
    where
      once_counted : (m n : ℕ) → 0 < m → m ≤ 1 → m * n ≡ n
      once_counted zero n l k = absurd (omega arith)
      once_counted (suc zero) n l k = omega arith
      once_counted (suc (suc m)) n l k = absurd (omega arith)

      none_counted : (m n : ℕ) → n ≡ 0 → m * n ≡ n
      none_counted m n z = grind arith

-- ---- the loop

-- what all programs make of a pixel of a target of this size
abbrev pub by_tile : Compilation → Size → ℕ → ℕ → Pixel → Pixel
by_tile c s x y old = pixel_by c (tile_of s x y) x y old

abbrev pub Among : List ℕ → ℕ → ℕ → Type 0
Among order n t = Contains (take n order) t

-- the first n tiles of the order ran
pub record RanSoFar (c : Compilation) (order : List ℕ) (n : ℕ) (old now : Surface) (totals : List ℕ) : Type 0 where
  pub ran : HasRun (by_tile c old.size) old now (Among order n)
  pub summed : (k : ℕ) → k < c.issues → get_or totals k 0 ≡ sum_by (λ t. count_by c t k (pixel_of old)) (take n order)
  pub long : length totals ≡ 64
  pub room : AtMost totals (n * 2 ^ 28)

pub none_so_far : (c : Compilation) (order : List ℕ) (old : Surface) (totals : List ℕ) → IsSurface old → IsWhole old → totals ≡ replicate 64 0 → c.issues ≤ 64 → RanSoFar c order 0 old old totals
none_so_far c order old totals sound whole zeros few = record {
  ran = none_ran (by_tile c old.size) old (Among order 0) sound whole (λ t h. let l = h.1 in omega arith);
  summed = λ k l. zero_at k (omega arith);
  long = ap length zeros;
  room = record { each = λ k l. let z = zero_at k l in omega arith };
}
  where
    zero_at : (k : ℕ) → k < 64 → get_or totals k 0 ≡ 0
    zero_at k h = ap (λ l. get_or l k 0) zeros ∙ get_or-replicate 64 k 0 0 h

pub room_left : (c : Compilation) (order : List ℕ) (n : ℕ) (old now : Surface) (totals : List ℕ) → IsCompilation c → IsOrder c order → n < length order → RanSoFar c order n old now totals → AtMost totals (2 ^ 62)
room_left c order n old now totals sound is less so = record { each = λ k l. let r = so.room.each k l in let few = few_tiles_in c.size sound.size order is.tiles in omega (arith, r, few, less) }

taken_next : (order : List ℕ) (n t : ℕ) → get_elem? order n ≡ some t → take (n + 1) order ≡ take n order ++ t ∷ []
taken_next order n t at = let e : n + 1 ≡ suc n = omega arith in ap (λ (k : ℕ). take k order) e ∙ take_next order n t at

taken_before : (order : List ℕ) (n t u : ℕ) → get_elem? order n ≡ some t → Contains (take (n + 1) order) u → u ≢ t → Contains (take n order) u
taken_before order n t u at c ne = snoc_from (take n order) t u (subst (λ (xs : List ℕ). Contains xs u) (taken_next order n t at) c) ne

taken_still : (order : List ℕ) (n t u : ℕ) → get_elem? order n ≡ some t → Contains (take n order) u → Contains (take (n + 1) order) u
taken_still order n t u at c = subst (λ (xs : List ℕ). Contains xs u) (sym (taken_next order n t at)) (snoc_old (take n order) t u c)

taken_now : (order : List ℕ) (n t : ℕ) → get_elem? order n ≡ some t → Contains (take (n + 1) order) t
taken_now order n t at = subst (λ (xs : List ℕ). Contains xs t) (sym (taken_next order n t at)) (snoc_new (take n order) t)

sum_next : (f : ℕ → ℕ) (order : List ℕ) (n t : ℕ) → get_elem? order n ≡ some t → sum_by f (take (n + 1) order) ≡ sum_by f (take n order) + f t
sum_next f order n t at = ap (sum_by f) (taken_next order n t at) ∙ snoc_sum f (take n order) t

-- one more tile: its block a came out, ran, and b went in
pub one_so_far : (c : Compilation) (order : List ℕ) (n t : ℕ) (old mid : Surface) (a b : Block) (totals more tile : List ℕ) → IsOrder c order → c.issues ≤ 64 → c.size ≡ old.size → get_elem? order n ≡ some t → RanSoFar c order n old mid totals
    → block_of mid t ≡ Some a → a.rect ≡ tile_rect mid.size t → RunsTo c t a b tile → HasGrown totals more (λ k. get_or tile k 0) → length more ≡ 64 → RanSoFar c order (n + 1) old (replaced mid t b) more
one_so_far c order n t old mid a b totals more tile is few same_size at so was rect ran grown long =
    let waits : ¬ Among order n t = not_before order n t is.tiles.once at in
    let size : mid.size ≡ old.size = so.ran.size in
    let rect_c : a.rect ≡ tile_rect c.size t = rect ∙ ap (λ (z : Size). tile_rect z t) (size ∙ sym same_size) in
    let all = tile_ran c [] t a b b tile ran rect_c few refl (λ u v inside. refl) in
    let own : (x y : ℕ) → IsIn a.rect x y → (t ≡ tile_of old.size x y) × (x < old.size.width) × (y < old.size.height)
    = λ x y inside.
    let there : IsIn (tile_rect old.size t) x y = subst (λ (r : PixelRect). IsIn r x y) (rect ∙ ap (λ (z : Size). tile_rect z t) size) inside in
    let near = tile_within old.size t x y there in
    (only_tile old.size t x y there, near.0, near.1) in
    let opening : (x y : ℕ) → IsIn a.rect x y → pixel_of old x y ≡ pixel_at a x y
    = λ x y inside.
    let o = own x y inside in
    sym (so.ran.waits x y o.1 o.2 (subst (λ (u : ℕ). ¬ Among order n u) o.0 waits))
    ∙ pixel_of-block mid t x y a (ap (λ (z : Size). tile_of z x y) size ∙ sym o.0) was in
    record {
      ran = one_ran (by_tile c old.size) old mid (Among order n) (Among order (n + 1)) t a b so.ran was (ran.rect ∙ rect)
          (λ x y inside. let here : IsIn a.rect x y = subst (λ (r : PixelRect). IsIn r x y) (sym rect) inside in
          ran.pixels x y here ∙ ap (λ (u : ℕ). pixel_by c u x y (pixel_at a x y)) (own x y here).0)
          waits (taken_now order n t at) (λ u ne there. taken_before order n t u at there ne) (λ u ne out there. out (taken_still order n t u at there));
      summed = λ k l.
          let g = grown.each k (omega arith) in
          let s = so.summed k l in
          let next = sum_next (λ u. count_by c u k (pixel_of old)) order n t at in
          let counted = all.counts k (pixel_of old) l opening in
          omega arith;
      long = long;
      room = record { each = λ k l. let r = so.room.each k l in let g = grown.each k l in let s = ran.few k l in omega arith };
    }

-- all tiles of the order ran
pub programs_ran : (c : Compilation) (order : List ℕ) (n : ℕ) (old new : Surface) (totals counts : List ℕ) → IsCompilation c → IsOrder c order → n ≡ length order → RanSoFar c order n old new totals → counts ≡ take c.issues totals → ProgramsRan c old new counts
programs_ran c order n old new totals counts sound is whole so first = record {
  size = so.ran.size;
  whole = so.ran.whole;
  pixels = λ x y p q. ⊎_elim
      (λ (there : Among order n (tile_of old.size x y)). so.ran.ran x y p q there)
      (λ (out : ¬ Among order n (tile_of old.size x y)).
      so.ran.waits x y p q out
      ∙ ap (λ ws. program_pixel c.tables ws x y (pixel_of old x y)) (sym (left_out c sound order is (tile_of old.size x y) (subst (λ (xs : List ℕ). ¬ Contains xs (tile_of old.size x y)) all out))))
      (is_among (take n order) (tile_of old.size x y));
  many = ap length first ∙ length-take-le c.issues totals (let few = sound.issues in let long = so.long in omega arith);
  counts = λ k l.
      ap (λ (xs : List ℕ). get_or xs k 0) first ∙ get_or-take c.issues totals k 0 l ∙ so.summed k l
      ∙ ap (sum_by (λ t. count_by c t k (pixel_of old))) all
      ∙ sum_order c sound order is (λ t. count_by c t k (pixel_of old)) (λ t e. ap (λ ws. program_count c.tables k ws (tile_rect c.size t) (pixel_of old)) e ∙ no_words_count (tile_rect c.size t));
}
  where
    all : take n order ≡ order
    all = ap (λ (k : ℕ). take k order) whole ∙ take-length order

-- and so the list ran
pub list_ran : (list : List Command) (c : Compilation) (old new : Surface) (counts : List ℕ) → IsCompilation c → c.size ≡ old.size → MeansList list c → ProgramsRan c old new counts → ListRan list c.issues old new counts
list_ran list c old new counts sound same means ran = record {
  pixels = λ x y p q.
      let t : ℕ = tile_of old.size x y in
      ran.pixels x y p q
      ∙ (means t (subst (λ (z : Size). t < tile_count z) (sym same) (tile_numbered old.size x y p q))).pixel x y (pixel_of old x y) (subst (λ (z : Size). IsIn (tile_rect z t) x y) (sym same) (in_own_tile old.size x y p q));
  counts = λ k l. ran.counts k l ∙ sym (counts_are_sums list c means k (pixel_of old) (let few = sound.issues in omega arith)) ∙ ap (λ (z : Size). issue_count k (items list) z.width z.height (pixel_of old)) same;
}
