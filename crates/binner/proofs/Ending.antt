-- A compilation that begins, and one that ends.
use Rattle.std.proofs.Common.{◌*◌, ◌≡◌, ◌∙◌, ap, sym, subst, refl, arith, ℕ, zero, suc, ◌+◌, ◌-◌, ◌<◌, ◌≤◌, IsTrue, List, [], length, replicate, false, Option, None, Some, slice_index_or, if◌then◌else◌}
use Rattle.std.proofs.lemmas.List.{length-replicate}
use Rattle.gfxspec.specs.declared.geometry.PixelRect.{PixelRect}
use Rattle.gfxspec.specs.Limits.{is_size}
use Rattle.gfxspec.specs.Tiles.{tile_count, tile_rect, IsIn}
use Rattle.gfxspec.specs.Items.{Item, count_at}
use Rattle.gfxspec.specs.Commands.{Command}
use Rattle.gfxspec.specs.Recorded.{items}
use Rattle.std.specs.Prelude.{Bool, true, ◌==◌, ◌||◌, ◌∷◌}
use Rattle.binmem.specs.Lists.{words_of, no_words, is_among, HasWordsOnlyIn}
use Rattle.meaning.specs.Over.{sum_over}
use Rattle.meaning.proofs.Sums.{same_sums}
use Rattle.meaning.proofs.Tiles.{over_tiles}
use Rattle.binner.specs.declared.entry.Current.{Current}
use Rattle.binner.specs.declared.compiling.Compiling.{Compiling}
use Rattle.binner.specs.Program.{Tables}
use Rattle.binner.specs.Meaning.{ProgramFits, ProgramMeans}
use Rattle.binner.specs.Lists.{TileList, at, times, has_some, IsLists}
use Rattle.binner.proofs.Pushing.{same_list}
use Rattle.binner.specs.Compiling.{tables, compilation_of, ListMeans, HasCompiled, IsSound, IsFresh}
use Rattle.binner.specs.Batched.{MeansItems}
use Rattle.binner.specs.Compiled.{Compilation, IsCompilation, MeansList, CountsAreSums}
use Rattle.binner.proofs.Items.{nothing_means}

-- ---- a tile's program

inside_at : (r : PixelRect) (x y : ℕ) → x < r.right - r.left → y < r.bottom - r.top → IsIn r (r.left + x) (r.top + y)
inside_at r x y p q = record { left = omega arith; right = omega (arith, p); top = omega arith; bottom = omega (arith, q) }

same_over : (r : PixelRect) (f g : ℕ → ℕ → ℕ) → ((x y : ℕ) → IsIn r x y → f x y ≡ g x y) → sum_over r f ≡ sum_over r g
same_over r f g h =
    same_sums (r.bottom - r.top) _ _ (λ y q.
    same_sums (r.right - r.left) _ _ (λ x p.
    h (r.left + x) (r.top + y) (inside_at r x y p q)))

pub program_means : (t : Tables) (r : PixelRect) (is : List Item) (current : Option Current) (l : TileList) → ListMeans t r is current l → ProgramMeans t r is l.numbers
program_means t r is current l m = record {
  pixel = m.means.pixel;
  count = λ issue opening few. same_over r _ _ (λ x y inside. m.means.count issue x y (opening x y) few inside);
}

pub program_fits : (t : Tables) (r : PixelRect) (is : List Item) (current : Option Current) (l : TileList) → ListMeans t r is current l → ProgramFits t r l.numbers
program_fits t r is current l m = record { decode = m.decode; fit = m.means.fit }

-- ---- the beginning

empty_at : (n k : ℕ) → words_of (no_words n) k ≡ []
empty_at zero k = refl
empty_at (suc n) zero = refl
empty_at (suc n) (suc k) = empty_at n k

flag_at : (n k : ℕ) → slice_index_or (replicate n false) k false ≡ false
flag_at zero k = refl
flag_at (suc n) zero = refl
flag_at (suc n) (suc k) = flag_at n k

abbrev nothing : TileList
nothing = record { counted = false; numbers = [] }

module _ {A : Type 0} (c : Compiling A) (size : IsTrue (is_size c.lists.size)) (bins : c.lists.bins ≡ no_words (tile_count c.lists.size)) (counted : c.lists.counted.items ≡ replicate (tile_count c.lists.size) false) (touched : c.lists.touched.items ≡ []) where
  at_first : (k : ℕ) → at c.lists k ≡ nothing
  at_first k = same_list _ _ _ _
      (ap (λ l. slice_index_or l k false) counted ∙ flag_at (tile_count c.lists.size) k)
      (ap (λ l. words_of l k) bins ∙ empty_at (tile_count c.lists.size) k)

  first_lists : IsLists c.lists
  first_lists = record {
    size = size;
    bins = ap length bins ∙ length-replicate (tile_count c.lists.size) [];
    counted = ap length counted ∙ length-replicate (tile_count c.lists.size) false;
    once = λ k. ap (times k) touched ∙ sym (ap (λ (a : TileList). if has_some a.numbers then 1 else 0) (at_first k));
  }

  no_longer : (k n : ℕ) → length (at c.lists k).numbers ≤ n
  no_longer k n = subst (λ (a : TileList). length a.numbers ≤ n) (sym (at_first k)) (omega arith)

  nothing_listed : (t : Tables) (r : PixelRect) (current : Option Current) → ListMeans t r [] current nothing
  nothing_listed t r current = record {
    decode = refl;
    means = nothing_means t r None;
    uncounted = λ h. tt;
    below = λ n q. absurd (none n q);
    stands = λ s n c q le. absurd (none n q);
  }
    where
      none : (n : ℕ) → None ≡ Some n → ⊥
      none n p = cc

  pub fresh : c.current ≡ None → c.triangles ≡ [] → c.drawn ≡ 0 → c.colors.items ≡ [] → c.depths.items ≡ [] → IsFresh c
  fresh n t d u v = record {
    sound = record { current = λ now e. absurd (no_entry now (sym n ∙ e)); lists = first_lists; short = λ k. no_longer k _; triangles = rw t (omega arith); drawn = rw d (omega arith); clears = rw (u, v) (omega arith) };
    compiled = λ k l. subst (ListMeans (tables c) (tile_rect c.lists.size k) [] c.current) (sym (at_first k)) (nothing_listed (tables c) (tile_rect c.lists.size k) c.current);
  }
    where
      no_entry : (now : Current) → None ≡ Some now → ⊥
      no_entry now p = cc

-- ---- the end

module _ {A : Type 0} (begun : ℕ) (c : Compiling A) (is : List Item) (h : HasCompiled c is) where
  pub is_compilation : begun ≤ 64 → IsSound c → IsCompilation (compilation_of begun c)
  is_compilation few sound = record {
    size = sound.lists.size;
    issues = few;
    tiles = sound.lists.bins;
    short = λ k. most _ _ _ _ (sound.short k) sound.drawn sound.clears;
    programs = λ k l. program_fits (tables c) (tile_rect c.lists.size k) is c.current (at c.lists k) (h k l);
    touched = sound.lists.once;
  }
    where
      most : (n t c d : ℕ) → n ≤ 2 * t + (c + d) → t ≤ 65536 → c + d ≤ 65536 → n ≤ 196608
      most n t c d p q r = omega arith

  pub means_items : MeansItems is (compilation_of begun c)
  means_items k l = program_means (tables c) (tile_rect c.lists.size k) is c.current (at c.lists k) (h k l)

pub counts_are_sums : (commands : List Command) (c : Compilation) → MeansList commands c → CountsAreSums commands c
counts_are_sums commands c h issue opening few =
    over_tiles c.size (λ x y. count_at issue (items commands) x y (opening x y))
    ∙ same_sums (tile_count c.size) _ _ (λ k l. sym ((h k l).count issue opening few))

-- ---- emptied lists

times_none : (ts : List ℕ) (k : ℕ) → is_among ts k ≡ false → times k ts ≡ 0
times_none [] k h = refl
times_none (t ∷ ts) k h = by (t == k) h (times_none ts k)
  where
    by : (b : Bool) → (b || is_among ts k) ≡ false → (is_among ts k ≡ false → times k ts ≡ 0) → (if b then 1 else 0) + times k ts ≡ 0
    by true e more = absurd cc
    by false e more = none _ (more e)
      where
        none : (n : ℕ) → n ≡ 0 → 0 + n ≡ 0
        none n h = omega arith

no_words_of : (ns : List ℕ) → ◌≡◌ {A = ℕ} (if has_some ns then 1 else 0) 0 → ns ≡ []
no_words_of [] h = refl
no_words_of (n ∷ ns) h = absurd (omega arith)

-- only tiles that have words are touched
pub only_touched : (c : Compilation) → IsCompilation c → HasWordsOnlyIn c.touched c.numbers
only_touched c h k out = no_words_of (words_of c.numbers k) (sym (h.touched k) ∙ times_none c.touched k out)
