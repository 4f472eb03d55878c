-- The tiles that a compiled list touches, and the others, which it leaves as they are.
use Rattle.std.proofs.Common.{◌≡◌, ◌≢◌, ◌∙◌, ap, sym, subst, refl, arith, ℕ, zero, suc, ◌+◌, ◌*◌, ◌<◌, ◌≤◌, ⊎_elim, Bool, true, false, IsTrue, cond, List, [], ◌∷◌, length, get_or}
use Rattle.std.specs.Prelude.{◌-◌, ◌==◌, nat_lt, All}
use Rattle.std.specs.List.{Contains, sum_by}
use Rattle.std.proofs.lemmas.Bool.Decides.{nat_tests}
use Rattle.std.proofs.lemmas.List.{get_or_past}
use Rattle.std.proofs.lemmas.List.Sums.{sum_by-cons}
use Rattle.std.proofs.lemmas.List.Elements.{All-head, All-tail}
use Rattle.gfxspec.specs.declared.geometry.PixelRect.{PixelRect}
use Rattle.gfxspec.specs.declared.geometry.Size.{Size}
use Rattle.gfxspec.specs.Limits.{is_size}
use Rattle.gfxspec.specs.declared.pixel.Pixel.{Pixel}
use Rattle.gfxspec.specs.Items.{sum_below}
use Rattle.gfxspec.specs.Tiles.{tile_count, tile_of, tile_rect}
use Rattle.gfxspec.proofs.TileLaws.{few_tiles_of}
use Rattle.meaning.proofs.Sums.{same_sums, sum_add, sum_none}
use Rattle.tileblock.specs.Surface.{Surface, pixel_of}
use Rattle.binmem.specs.Lists.{words_of}
use Rattle.binner.specs.Lists.{times, has_some}
use Rattle.binner.specs.Program.{program_pixel, program_count}
use Rattle.binner.specs.Compiled.{Compilation, IsCompilation}
use Rattle.tilerun.specs.Touched.{AreTiles}
use Rattle.tilerun.specs.Drawn.{IsDrawn, AreCounts}
use Rattle.tilerun.proofs.Lists.{is_among}
use Rattle.tileprog.specs.Programs.{pixel_by, count_by}

-- ---- how often a number stands in a list

one : (n k : ℕ) → n ≡ k → cond {A = ℕ} (n == k) 1 0 ≡ 1
one n k e = grind (arith, nat_tests)

none : (n k : ℕ) → n ≢ k → cond {A = ℕ} (n == k) 1 0 ≡ 0
none n k e = by (n == k) refl
  where
    by : (b : Bool) → (n == k) ≡ b → cond {A = ℕ} b 1 0 ≡ 0
    by true is = absurd (e (grind (arith, nat_tests)))
    by false is = refl

-- a number that stands at a place is counted there
pub times_at : (k : ℕ) (xs : List ℕ) (i d : ℕ) → i < length xs → get_or xs i d ≡ k → 0 < times k xs
times_at k [] i d h e = absurd (omega (arith, h))
times_at k (x ∷ xs) zero d h e = let a = one x k e in omega (arith, a)
times_at k (x ∷ xs) (suc i) d h e = let a = times_at k xs i d (omega arith) e in omega (arith, a)

-- and two places count twice
pub times_twice : (k : ℕ) (xs : List ℕ) (i j : ℕ) → i < j → j < length xs → get_or xs i 0 ≡ k → get_or xs j 0 ≡ k → 1 < times k xs
times_twice k [] i j h l e f = absurd (omega (arith, l))
times_twice k (x ∷ xs) i zero h l e f = absurd (omega (arith, h))
times_twice k (x ∷ xs) zero (suc j) h l e f = let a = one x k e in let b = times_at k xs j 0 (omega arith) f in omega (arith, a, b)
times_twice k (x ∷ xs) (suc i) (suc j) h l e f = let a = times_twice k xs i j (omega arith) (omega arith) e f in omega (arith, a)

pub times_none : (k : ℕ) (xs : List ℕ) → ¬ Contains xs k → times k xs ≡ 0
times_none k [] h = refl
times_none k (x ∷ xs) h =
    let a = none x k (λ e. h (0, omega arith, e)) in
    let b = times_none k xs (λ c. h (suc c.0, (let l = c.1 in omega arith), c.2)) in
    omega (arith, a, b)

-- ---- lists without an element twice

abbrev Once : List ℕ → Type 0
Once xs = (p q : ℕ) → p < length xs → q < length xs → get_or xs p 0 ≡ get_or xs q 0 → p ≡ q

once_less : (x : ℕ) (xs : List ℕ) → Once (x ∷ xs) → Once xs
once_less x xs once p q l m e = let s = once (suc p) (suc q) (omega arith) (omega arith) e in omega arith

not_again : (x : ℕ) (xs : List ℕ) → Once (x ∷ xs) → ¬ Contains xs x
not_again x xs once c = let s = once zero (suc c.0) (omega arith) (let l = c.1 in omega arith) (sym c.2 ∙ same xs c.0 x c.1) in omega arith
  where
    same : (ys : List ℕ) (i d : ℕ) → i < length ys → get_or ys i d ≡ get_or ys i 0
    same [] i d l = absurd (omega arith)
    same (y ∷ ys) zero d l = refl
    same (y ∷ ys) (suc i) d l = same ys i d (omega arith)

pub times_once : (k : ℕ) (xs : List ℕ) → Once xs → times k xs ≤ 1
times_once k [] once = omega arith
times_once k (x ∷ xs) once = by (x == k) refl (times_once k xs (once_less x xs once))
  where
    by : (b : Bool) → (x == k) ≡ b → times k xs ≤ 1 → cond {A = ℕ} b 1 0 + times k xs ≤ 1
    by true e rest =
        let same : x ≡ k = grind (arith, nat_tests) in
        let gone : times x xs ≡ 0 = times_none x xs (not_again x xs once) in
        let here : times k xs ≡ 0 = subst (λ (n : ℕ). times n xs ≡ 0) same gone in
        omega arith
    by false e rest = omega arith

-- ---- a sum over a list of numbers

-- f at one number, and 0 at the others
abbrev alone : (ℕ → ℕ) → ℕ → ℕ → ℕ
alone f x t = cond {A = ℕ} (x == t) (f t) 0

other : (f : ℕ → ℕ) (x t : ℕ) → t < x → alone f x t ≡ 0
other f x t l = by (x == t) refl
  where
    by : (b : Bool) → (x == t) ≡ b → cond {A = ℕ} b (f t) 0 ≡ 0
    by true e = absurd (grind (arith, nat_tests))
    by false e = refl

not_yet : (f : ℕ → ℕ) (x n : ℕ) → n ≤ x → sum_below n (alone f x) ≡ 0
not_yet f x zero l = refl
not_yet f x (suc n) l = let a = not_yet f x n (omega arith) in let b = other f x n (omega arith) in omega (arith, a, b)

single : (f : ℕ → ℕ) (x n : ℕ) → x < n → sum_below n (alone f x) ≡ f x
single f x zero l = absurd (omega (arith, l))
single f x (suc n) l = by (x == n) refl (λ less. single f x n less)
  where
    by : (b : Bool) → (x == n) ≡ b → (x < n → sum_below n (alone f x) ≡ f x) → sum_below n (alone f x) + alone f x n ≡ f x
    by true e rec =
        let here : alone f x n ≡ f n = ap (λ b. cond {A = ℕ} b (f n) 0) e in
        let same : n ≡ x = grind (arith, nat_tests) in
        let before = not_yet f x n (omega arith) in
        let w : f n ≡ f x = ap f same in
        omega (arith, here, before, w)
    by false e rec =
        let here : alone f x n ≡ 0 = ap (λ b. cond {A = ℕ} b (f n) 0) e in
        let less : x < n = grind (arith, nat_tests) in
        let before = rec less in
        omega (arith, here, before)

-- it is one over all numbers, each as often as it stands in the list
pub picked : (f : ℕ → ℕ) (n : ℕ) (xs : List ℕ) → All (λ t. t < n) xs → sum_by f xs ≡ sum_below n (λ t. times t xs * f t)
picked f n [] h = sym (same_sums n (λ t. 0 * f t) (λ t. 0) (λ t l. omega arith) ∙ sum_none n)
picked f n (x ∷ xs) h =
    sum_by-cons f x xs
    ∙ both _ _ _ _ (sym (single f x n (All-head (λ t. t < n) x xs h))) (picked f n xs (All-tail (λ t. t < n) x xs h))
    ∙ sym (sum_add n (alone f x) (λ t. times t xs * f t))
    ∙ same_sums n (λ t. alone f x t + times t xs * f t) (λ t. times t (x ∷ xs) * f t) (λ t l. each (x == t) (times t xs) (f t))
  where
    both : (a b c d : ℕ) → a ≡ c → b ≡ d → a + b ≡ c + d
    both a b c d p q = omega (arith, p, q)

    each : (b : Bool) (m k : ℕ) → cond {A = ℕ} b k 0 + m * k ≡ (cond {A = ℕ} b 1 0 + m) * k
    each true m k = grind arith
    each false m k = grind arith

some_words : (ws : List ℕ) → cond {A = ℕ} (has_some ws) 1 0 ≡ 0 → ws ≡ []
some_words [] e = refl
some_words (w ∷ ws) e = absurd cc

few_words : (ws : List ℕ) → cond {A = ℕ} (has_some ws) 1 0 ≤ 1
few_words [] = omega arith
few_words (w ∷ ws) = omega arith

ones : (xs : List ℕ) → length xs ≡ sum_by (λ t. 1) xs
ones [] = refl
ones (x ∷ xs) = let rest = ones xs in let next = sum_by-cons (λ (t : ℕ). 1) x xs in omega (arith, rest, next)

sum_few : (n : ℕ) (f : ℕ → ℕ) → ((k : ℕ) → f k ≤ 1) → sum_below n f ≤ n
sum_few zero f h = omega arith
sum_few (suc n) f h = let before = sum_few n f h in let here = h n in omega (arith, before, here)

-- tiles of a target, each once, are few
pub few_tiles_in : (s : Size) → IsTrue (is_size s) → (xs : List ℕ) → AreTiles s xs → length xs ≤ 16384
few_tiles_in s allowed xs are =
    let all = few_tiles_of s allowed in
    let each = sum_few (tile_count s) (λ t. times t xs * 1) (λ t. let few = times_once t xs are.once in omega arith) in
    let long = ones xs ∙ picked (λ t. 1) (tile_count s) xs are.in_range in
    omega (arith, all, each, long)

pub no_words_count : (r : PixelRect) → sum_below (r.bottom - r.top) (λ y. sum_below (r.right - r.left) (λ x. 0)) ≡ 0
no_words_count r = same_sums (r.bottom - r.top) (λ y. sum_below (r.right - r.left) (λ x. 0)) (λ y. 0) (λ y l. sum_none (r.right - r.left)) ∙ sum_none (r.bottom - r.top)

module _ (c : Compilation) (h : IsCompilation c) where
  -- a tile that isn't touched has no words
  pub untouched : (t : ℕ) → ¬ Contains c.touched t → words_of c.numbers t ≡ []
  untouched t out = some_words (words_of c.numbers t) (sym (h.touched t) ∙ times_none t c.touched out)

  -- a touched tile is one of the target's
  within : (t : ℕ) → 0 < times t c.touched → t < tile_count c.size
  within t some = by (nat_lt t (tile_count c.size)) refl
    where
      by : (b : Bool) → nat_lt t (tile_count c.size) ≡ b → t < tile_count c.size
      by true e = grind (arith, nat_tests)
      by false e =
          let past : tile_count c.size ≤ t = grind (arith, nat_tests) in
          let empty : words_of c.numbers t ≡ [] = get_or_past c.numbers t [] (let l = h.tiles in omega (arith, l, past)) in
          let zero_times : times t c.touched ≡ 0 = h.touched t ∙ ap (λ ws. cond {A = ℕ} (has_some ws) 1 0) empty in
          absurd (omega (arith, zero_times, some))

  not_twice : (k i j : ℕ) → i < j → j < length c.touched → get_or c.touched i 0 ≡ k → get_or c.touched j 0 ≡ k → ⊥
  not_twice k i j less inside e f =
      let many = times_twice k c.touched i j less inside e f in
      let few = few_words (words_of c.numbers k) in
      let is = h.touched k in
      omega (arith, many, few, is)

  once : (p q : ℕ) → p < length c.touched → q < length c.touched → get_or c.touched p 0 ≡ get_or c.touched q 0 → p ≡ q
  once p q l m e = by (nat_lt p q) refl (nat_lt q p) refl
    where
      by : (a : Bool) → nat_lt p q ≡ a → (b : Bool) → nat_lt q p ≡ b → p ≡ q
      by true is b other = absurd (not_twice _ p q (grind (arith, nat_tests)) m e refl)
      by false is true other = absurd (not_twice _ q p (grind (arith, nat_tests)) l refl e)
      by false is false other = grind (arith, nat_tests)

  -- the touched tiles are tiles of the target, each once
  pub are_tiles : AreTiles c.size c.touched
  are_tiles = record {
    in_range = λ k d l. within (get_or c.touched k d) (times_at _ c.touched k d l refl);
    once = once;
  }

  -- what is summed over the touched tiles is the sum over all of them, where the others give nothing
  sum_touched : (f : ℕ → ℕ) → ((t : ℕ) → words_of c.numbers t ≡ [] → f t ≡ 0) → sum_by f c.touched ≡ sum_below (tile_count c.size) f
  sum_touched f idle =
      picked f (tile_count c.size) c.touched are_tiles.in_range
      ∙ same_sums (tile_count c.size) (λ t. times t c.touched * f t) f (λ t l. ap (λ n. n * f t) (h.touched t) ∙ by t (words_of c.numbers t) refl)
    where
      by : (t : ℕ) (ws : List ℕ) → words_of c.numbers t ≡ ws → cond {A = ℕ} (has_some ws) 1 0 * f t ≡ f t
      by t [] e = let z = idle t e in omega (arith, z)
      by t (w ∷ ws) e = omega arith

  -- each pixel of the target is what its tile's words leave of it
  pub all_pixels : (old new : Surface) → IsDrawn (pixel_by c) c.touched old new → (x y : ℕ) → x < old.size.width → y < old.size.height → pixel_of new x y ≡ pixel_by c (tile_of old.size x y) x y (pixel_of old x y)
  all_pixels old new drawn x y p q =
      ⊎_elim
      (λ (there : Contains c.touched (tile_of old.size x y)). drawn.here x y p q there)
      (λ (out : ¬ Contains c.touched (tile_of old.size x y)).
      drawn.elsewhere x y p q out
      ∙ ap (λ ws. program_pixel c.tables ws x y (pixel_of old x y)) (sym (untouched (tile_of old.size x y) out)))
      (is_among c.touched (tile_of old.size x y))

  -- and each count what the words of all tiles count
  pub all_counts : (opening : ℕ → ℕ → Pixel) (counts : List ℕ) → AreCounts (count_by c) c.issues c.touched opening counts → (i : ℕ) → i < c.issues → get_or counts i 0 ≡ sum_below (tile_count c.size) (λ t. count_by c t i opening)
  all_counts opening counts are i l =
      are.each i l
      ∙ sum_touched (λ t. count_by c t i opening)
      (λ t e. ap (λ ws. program_count c.tables i ws (tile_rect c.size t) opening) e ∙ no_words_count (tile_rect c.size t))
