-- What words count.
use Rattle.std.proofs.Common.{◌≡◌, ◌∙◌, ap, sym, subst, refl, arith, ℕ, zero, suc, ◌+◌, ◌-◌, ◌*◌, ◌<◌, ◌≤◌, Bool, true, false, ◌&&◌, IsTrue, List, [], ◌∷◌, Option, length, None, Some}
use Rattle.std.specs.Prelude.{if◌then◌else◌, slice_index, slice_get, replicate, is_some}
use Rattle.std.specs.List.{list_all, cons_option}
use Rattle.std.proofs.lemmas.List.{get_or-replicate}
use Rattle.gfxspec.specs.declared.geometry.PixelRect.{PixelRect}
use Rattle.gfxspec.specs.declared.pixel.Pixel.{Pixel}
use Rattle.gfxspec.specs.Items.{sum_below}
use Rattle.gfxspec.specs.Tiles.{IsIn}
use Rattle.tileblock.specs.Block.{Block, pixel_at}
use Rattle.tileword.specs.declared.word.Word.{Word}
use Rattle.tileword.specs.declared.word.Word.TheVariants.{State, Tri, ClearC, ClearDs}
use Rattle.tileword.specs.declared.edge_mask.EdgeMask.{EdgeMask}
use Rattle.tileword.specs.Word.{decoded}
use Rattle.tileword.specs.EdgeMask.{edge_bits}
use Rattle.classify.specs.Region.{IsClassOf}
use Rattle.classify.specs.declared.Class.TheVariants.{Cut}
use Rattle.meaning.specs.Over.{sum_over}
use Rattle.binner.specs.declared.entry.StateEntry.{StateEntry}
use Rattle.binner.specs.declared.setup.TriSetup.{TriSetup}
use Rattle.binner.specs.Program.{Tables, after_word, after_words, force_after, triangle_counts, word_counts, words_count, program}
use Rattle.binmem.specs.Lists.{words_of}
use Rattle.binner.specs.Compiled.{Compilation}
use Rattle.binner.specs.Meaning.{WordFits, WordsFit, Decode, ProgramFits}
use Rattle.tileprog.specs.Runs.{RunsTo}
use Rattle.tileprog.specs.Counting.{one_if}
use Rattle.tileprog.specs.Passing.{NamesState, IsTile, HasGrown, AtMost, is_open, passes_by, word_passes, word_passed, word_total, words_total, triangle_passes}
use Rattle.tileprog.proofs.Ones.{same_sums}
use Rattle.tileprog.proofs.Summing.{sum_plus, sum_over_same, sum_over_none}

-- a word that counts nothing
nothing_counted : (r : PixelRect) (n : ℕ) → n ≡ n + sum_over r (λ u v. 0)
nothing_counted r n = let none = sum_over_none r (λ u v. 0) (λ u v is. refl) in omega arith

-- what a triangle adds for one issue
issue_counted : (r : PixelRect) (open_now : Bool) (passes : ℕ → ℕ → Bool) (passed : ℕ) → passed ≡ sum_over r (λ u v. one_if (passes u v)) → (if open_now then passed else 0) ≡ sum_over r (λ u v. one_if (open_now && passes u v))
issue_counted r true passes passed is = is
issue_counted r false passes passed is = sym (sum_over_none r (λ u v. 0) (λ u v is. refl))

-- in a run over words: the counts so far and what the words that are left will count are what all words count
pub record IsLeft (t : Tables) (e : Option StateEntry) (rest : List Word) (r : PixelRect) (now : ℕ → ℕ → Pixel) (counts : List ℕ) (ws : List Word) (opening : ℕ → ℕ → Pixel) : Type 0 where
  pub each : (k : ℕ) → k < 64 → slice_index counts k + words_total t e k rest r now ≡ words_total t None k ws r opening

and_false : (b : Bool) → (b && false) ≡ false
and_false true = refl
and_false false = refl

-- sums of sums over a rectangle
pub sum_over_plus : (r : PixelRect) (f g : ℕ → ℕ → ℕ) → sum_over r (λ u v. f u v + g u v) ≡ sum_over r f + sum_over r g
sum_over_plus r f g =
    same_sums (r.bottom - r.top) _ _ (λ i h. sum_plus (r.right - r.left) (λ j. f (r.left + j) (r.top + i)) (λ j. g (r.left + j) (r.top + i)))
    ∙ sum_plus (r.bottom - r.top) (λ i. sum_below (r.right - r.left) (λ j. f (r.left + j) (r.top + i))) (λ i. sum_below (r.right - r.left) (λ j. g (r.left + j) (r.top + i)))

sum_few : (n c : ℕ) (f : ℕ → ℕ) → ((k : ℕ) → f k ≤ c) → sum_below n f ≤ n * c
sum_few zero c f h = omega arith
sum_few (suc n) c f h = let before = sum_few n c f h in let here = h n in omega arith

one_few : (b : Bool) → one_if b ≤ 1
one_few true = omega arith
one_few false = omega arith

-- no more pixels than a tile has are told by a test
tests_few : (r : PixelRect) (test : ℕ → ℕ → Bool) → IsTile r → sum_over r (λ u v. one_if (test u v)) ≤ 1024
tests_few r test is =
    let wide : r.right - r.left ≤ 32 = omega (arith, is.place.right) in
    let high : r.bottom - r.top ≤ 32 = omega (arith, is.place.bottom) in
    let row : (v : ℕ) → sum_below (r.right - r.left) (λ j. one_if (test (r.left + j) v)) ≤ 32
    = λ v. let few = sum_few (r.right - r.left) 1 (λ j. one_if (test (r.left + j) v)) (λ j. one_few _) in omega arith in
    let all = sum_few (r.bottom - r.top) 32 (λ i. sum_below (r.right - r.left) (λ j. one_if (test (r.left + j) (r.top + i)))) (λ i. row (r.top + i)) in
    omega arith

pub total_few : (t : Tables) (e : Option StateEntry) (issue : ℕ) (w : Word) (r : PixelRect) (old : ℕ → ℕ → Pixel) → IsTile r → word_total t e issue w r old ≤ 1024
total_few t e issue w r old is = tests_few r (λ u v. word_counts t e issue w u v (old u v)) is

pub passed_few : (t : Tables) (e : Option StateEntry) (w : Word) (r : PixelRect) (old : ℕ → ℕ → Pixel) (passed : ℕ) → passed ≡ sum_over r (word_passed t e w old) → IsTile r → passed ≤ 1024
passed_few t e w r old passed sums is = subst (λ n. n ≤ 1024) (sym sums) (tests_few r (λ u v. word_passes t e w u v (old u v)) is)

-- a word, and then the others
pub totals_step : (t : Tables) (e : Option StateEntry) (issue : ℕ) (w : Word) (ws : List Word) (r : PixelRect) (old mid : ℕ → ℕ → Pixel)
    → ((u v : ℕ) → IsIn r u v → mid u v ≡ after_word t e w u v (old u v))
    → words_total t e issue (w ∷ ws) r old ≡ word_total t e issue w r old + words_total t (force_after t e w) issue ws r mid
totals_step t e issue w ws r old mid went =
    sum_over_plus r (λ u v. one_if (word_counts t e issue w u v (old u v))) (λ u v. words_count t (force_after t e w) issue ws u v (after_word t e w u v (old u v)))
    ∙ ap (λ n. word_total t e issue w r old + n) (sum_over_same r _ _ (λ u v is. ap (words_count t (force_after t e w) issue ws u v) (sym (went u v is))))

-- the counts so far and what is left stay the same
totals_kept : (t : Tables) (e : Option StateEntry) (issue : ℕ) (w : Word) (ws : List Word) (r : PixelRect) (old mid : ℕ → ℕ → Pixel) (before after all : ℕ)
    → ((u v : ℕ) → IsIn r u v → mid u v ≡ after_word t e w u v (old u v))
    → after ≡ before + word_total t e issue w r old
    → before + words_total t e issue (w ∷ ws) r old ≡ all
    → after + words_total t (force_after t e w) issue ws r mid ≡ all
totals_kept t e issue w ws r old mid before after all went grew was = let step = totals_step t e issue w ws r old mid went in omega arith

-- a word counts where its triangle passes, for the open issues
counts_both : (t : Tables) (e : Option StateEntry) (issue : ℕ) (w : Word) (u v : ℕ) (p : Pixel) → (is_open e issue && word_passes t e w u v p) ≡ word_counts t e issue w u v p
counts_both t e issue (State n) u v p = and_false (is_open e issue)
counts_both t e issue (ClearC n) u v p = and_false (is_open e issue)
counts_both t e issue (ClearDs n) u v p = and_false (is_open e issue)
counts_both t e issue (Tri n mask) u v p = by (slice_get t.triangles n) e
  where
    by : (s : Option TriSetup) (e : Option StateEntry) → (is_open e issue && passes_by mask s e u v p) ≡ triangle_counts issue mask s e u v p
    by None e = and_false (is_open e issue)
    by (Some s) None = refl
    by (Some s) (Some e) = refl

pub word_grown : (t : Tables) (e : Option StateEntry) (w : Word) (r : PixelRect) (now : ℕ → ℕ → Pixel) (passed : ℕ) → passed ≡ sum_over r (word_passed t e w now)
    → (k : ℕ) → (if is_open e k then passed else 0) ≡ word_total t e k w r now
word_grown t e w r now passed is k =
    issue_counted r (is_open e k) (λ u v. word_passes t e w u v (now u v)) passed is
    ∙ sum_over_same r _ _ (λ u v h. ap one_if (counts_both t e k w u v (now u v)))

-- nothing passes
pub nothing_grown : (t : Tables) (e : Option StateEntry) (w : Word) (r : PixelRect) (now : ℕ → ℕ → Pixel) (passed : ℕ) → passed ≡ sum_over r (word_passed t e w now) → passed ≡ 0
    → (k : ℕ) → 0 ≡ word_total t e k w r now
nothing_grown t e w r now passed is none k = by (is_open e k) ∙ word_grown t e w r now passed is k
  where
    by : (b : Bool) → 0 ≡ (if b then passed else 0)
    by true = sym none
    by false = refl

pub none_passed : (r : PixelRect) → 0 ≡ sum_over r (λ u v. 0)
none_passed r = sym (sum_over_none r (λ u v. 0) (λ u v is. refl))

-- ---- the loop over words

-- what one word did to the counts
pub record WordCounted (t : Tables) (e : Option StateEntry) (w : Word) (r : PixelRect) (now : ℕ → ℕ → Pixel) (old new : List ℕ) : Type 0 where
  pub each : (k : ℕ) → k < 64 → slice_index new k ≡ slice_index old k + word_total t e k w r now

pub counted_some : (t : Tables) (e : Option StateEntry) (w : Word) (r : PixelRect) (now : ℕ → ℕ → Pixel) (passed : ℕ) (old new : List ℕ) → passed ≡ sum_over r (word_passed t e w now) → HasGrown old new (λ k. if is_open e k then passed else 0) → WordCounted t e w r now old new
counted_some t e w r now passed old new is grown = record { each = λ k h. grown.each k h ∙ ap (λ n. slice_index old k + n) (word_grown t e w r now passed is k) }

pub counted_none : (t : Tables) (e : Option StateEntry) (w : Word) (r : PixelRect) (now : ℕ → ℕ → Pixel) (passed : ℕ) (counts : List ℕ) → passed ≡ sum_over r (word_passed t e w now) → passed ≡ 0 → WordCounted t e w r now counts counts
counted_none t e w r now passed counts is none = record { each = λ k h. let zero_total = nothing_grown t e w r now passed is none k in omega arith }

pub room_next : (t : Tables) (e : Option StateEntry) (w : Word) (r : PixelRect) (now : ℕ → ℕ → Pixel) (old new : List ℕ) (n m : ℕ) → IsTile r → WordCounted t e w r now old new → AtMost old n → n + 1024 ≤ m → AtMost new m
room_next t e w r now old new n m is counted room le =
    record { each = λ k h. let grew = counted.each k h in let had = room.each k h in let few = total_few t e k w r now is in omega arith }

-- the numbers that are left of a tile's program, with what its pixels and the counts are so far
pub record ProgramLeft (t : Tables) (numbers rest : List ℕ) (e : Option StateEntry) (r : PixelRect) (opening now : ℕ → ℕ → Pixel) (counts : List ℕ) : Type 0 where
  pub decode : Decode rest
  pub fit : WordsFit t r e (program rest)
  pub pixels : (u v : ℕ) → IsIn r u v → after_words t e (program rest) u v (now u v) ≡ after_words t None (program numbers) u v (opening u v)
  pub counted : IsLeft t e (program rest) r now counts (program numbers) opening
  pub room : AtMost counts (1024 * (196608 - length rest))
  pub few : length rest ≤ 196608

-- ---- one word

module _ (t : Tables) (e : Option StateEntry) (w : Word) (r : PixelRect) (old : ℕ → ℕ → Pixel) where
  pub state_passed : (n : ℕ) → w ≡ State n → 0 ≡ sum_over r (word_passed t e w old)
  state_passed n is = none_passed r ∙ ap (λ x. sum_over r (word_passed t e x old)) (sym is)

  pub color_passed : (n : ℕ) → w ≡ ClearC n → 0 ≡ sum_over r (word_passed t e w old)
  color_passed n is = none_passed r ∙ ap (λ x. sum_over r (word_passed t e x old)) (sym is)

  pub depth_passed : (n : ℕ) → w ≡ ClearDs n → 0 ≡ sum_over r (word_passed t e w old)
  depth_passed n is = none_passed r ∙ ap (λ x. sum_over r (word_passed t e x old)) (sym is)

  pub tri_passed : (n result : ℕ) (mask : EdgeMask) (p : TriSetup) (en : StateEntry) → w ≡ Tri n mask → slice_get t.triangles n ≡ Some p → e ≡ Some en
      → result ≡ sum_over r (λ u v. one_if (triangle_passes mask p en u v (old u v))) → result ≡ sum_over r (word_passed t e w old)
  tri_passed n result mask p en is named force count =
      count ∙ (λ i. sum_over r (λ u v. one_if (passes_by mask (sym named i) (sym force i) u v (old u v)))) ∙ ap (λ x. sum_over r (word_passed t e x old)) (sym is)

-- ---- what a word that fits names

named_below : {A : Type 0} (xs : List A) (n : ℕ) (x : A) → slice_get xs n ≡ Some x → n < length xs
named_below [] n x e = absurd cc
named_below (y ∷ ys) zero x e = omega arith
named_below (y ∷ ys) (suc n) x e = let below = named_below ys n x e in omega arith

module _ (t : Tables) (r : PixelRect) (e : Option StateEntry) (w : Word) (fits : WordFits t r e w) where
  pub names_color : (n : ℕ) → w ≡ ClearC n → n < length t.colors
  names_color n is = let h = subst (WordFits t r e) is fits in named_below t.colors n h.0 h.1

  pub names_depth : (n : ℕ) → w ≡ ClearDs n → n < length t.depths
  names_depth n is = let h = subst (WordFits t r e) is fits in named_below t.depths n h.0 h.1

  pub names_class : (n : ℕ) (m : EdgeMask) (p : TriSetup) → w ≡ Tri n m → slice_get t.triangles n ≡ Some p → IsClassOf (Cut (edge_bits m)) p.plane.triangle r
  names_class n m p is named =
      let h = subst (WordFits t r e) is fits in
      let same : h.1 ≡ p = cc (h.3, named) in
      subst (λ q. IsClassOf (Cut (edge_bits m)) q.plane.triangle r) same h.4

-- ---- a program's numbers, one by one

-- the next number's word, and then those of the others
words_next : (n : ℕ) (rest : List ℕ) (w : Word) → decoded n ≡ Some w → program (n ∷ rest) ≡ w ∷ program rest
words_next n rest w e = ap (λ d. cons_option d (program rest)) e

first_fits : (t : Tables) (r : PixelRect) (e : Option StateEntry) (w : Word) (now next : List Word) → now ≡ w ∷ next → WordsFit t r e now → WordFits t r e w × WordsFit t r (force_after t e w) next
first_fits t r e w now next split h = subst (WordsFit t r e) split h

pub names_state : (t : Tables) (r : PixelRect) (e : Option StateEntry) (w : Word) → WordFits t r e w → NamesState t w
names_state t r e (State n) h = named_below t.states n h.0 h.1
names_state t r e (Tri n m) h = tt
names_state t r e (ClearC n) h = tt
names_state t r e (ClearDs n) h = tt

module _ (t : Tables) (numbers : List ℕ) (r : PixelRect) (opening : ℕ → ℕ → Pixel) where
  pub all_left : (now : ℕ → ℕ → Pixel) (counts : List ℕ) → ((u v : ℕ) → now u v ≡ opening u v) → ProgramFits t r numbers → length numbers ≤ 196608 → counts ≡ replicate 64 0 → ProgramLeft t numbers numbers None r opening now counts
  all_left now counts same fits few zeros =
      record {
        decode = fits.decode;
        fit = fits.fit;
        pixels = λ u v is. ap (after_words t None (program numbers) u v) (same u v);
        counted = record {
          each = λ k h.
              let none = zero_at k h in
              let all = sum_over_same r (λ u v. words_count t None k (program numbers) u v (now u v)) (λ u v. words_count t None k (program numbers) u v (opening u v)) (λ u v is. ap (words_count t None k (program numbers) u v) (same u v)) in
              omega (arith, none, all);
        };
        room = record { each = λ k h. let none = zero_at k h in omega arith };
        few = few;
      }
    where
      zero_at : (k : ℕ) → k < 64 → slice_index counts k ≡ 0
      zero_at k h = ap (λ l. slice_index l k) zeros ∙ get_or-replicate 64 k 0 0 h

  module _ (now next : List ℕ) (n : ℕ) (w : Word) (split : now ≡ n ∷ next) (is : decoded n ≡ Some w) where
    words_split : program now ≡ w ∷ program next
    words_split = ap program split ∙ words_next n next w is

    pub next_fits : (e : Option StateEntry) (mid : ℕ → ℕ → Pixel) (counts : List ℕ) → ProgramLeft t numbers now e r opening mid counts → WordFits t r e w
    next_fits e mid counts left = (first_fits t r e w (program now) (program next) words_split left.fit).0

    pub one_done : (e after : Option StateEntry) (mid new : ℕ → ℕ → Pixel) (counts more : List ℕ) → ProgramLeft t numbers now e r opening mid counts → after ≡ force_after t e w
        → ((u v : ℕ) → IsIn r u v → new u v ≡ after_word t e w u v (mid u v)) → WordCounted t e w r mid counts more → IsTile r → ProgramLeft t numbers next after r opening new more
    one_done e after mid new counts more left force went counted tile =
        let long : length now ≡ suc (length next) = ap length split in
        let had = left.few in
        record {
          decode = rest_decodes (decoded n) (subst Decode split left.decode);
          fit = subst (λ f. WordsFit t r f (program next)) (sym force) (first_fits t r e w (program now) (program next) words_split left.fit).1;
          pixels = λ u v inside.
              (λ i. after_words t (force i) (program next) u v (went u v inside i))
              ∙ sym (ap (λ l. after_words t e l u v (mid u v)) words_split) ∙ left.pixels u v inside;
          counted = record {
            each = λ k h.
                ap (λ f. slice_index more k + words_total t f k (program next) r new) force
                ∙ totals_kept t e k w (program next) r mid new (slice_index counts k) (slice_index more k) (words_total t None k (program numbers) r opening) went (counted.each k h)
                (ap (λ l. slice_index counts k + words_total t e k l r mid) (sym words_split) ∙ left.counted.each k h);
          };
          room = room_next t e w r mid counts more (1024 * (196608 - length now)) (1024 * (196608 - length next)) tile counted left.room (omega arith);
          few = omega arith;
        }
      where
        rest_decodes : (d : Option Word) → IsTrue (is_some d && list_all (λ m. is_some (decoded m)) next) → Decode next
        rest_decodes None h = absurd cc
        rest_decodes (Some v) h = h

pub none_left : (t : Tables) (numbers : List ℕ) (opening : Block) (c : Compilation) (tile : ℕ) (rest : List ℕ) (e : Option StateEntry) (now : ℕ → ℕ → Pixel) (after : Block) (counts : List ℕ) → c.tables ≡ t → words_of c.numbers tile ≡ numbers → rest ≡ []
    → after.rect ≡ opening.rect → ((u v : ℕ) → IsIn opening.rect u v → pixel_at after u v ≡ now u v) → ProgramLeft t numbers rest e opening.rect (pixel_at opening) now counts → RunsTo c tile opening after counts
none_left t numbers opening c tile rest e now after counts of_tables of_numbers none same stands left =
    record {
      rect = same;
      pixels = λ u v is.
          stands u v is ∙ sym (ap (λ ns. after_words t e (program ns) u v (now u v)) none) ∙ left.pixels u v is
          ∙ (λ i. after_words (sym of_tables i) None (program (sym of_numbers i)) u v (pixel_at opening u v));
      counts = λ k h.
          nothing_counted opening.rect (slice_index counts k) ∙ sym (ap (λ ns. slice_index counts k + words_total t e k (program ns) opening.rect now) none) ∙ left.counted.each k h
          ∙ (λ i. words_total (sym of_tables i) None k (program (sym of_numbers i)) opening.rect (pixel_at opening));
      few = λ k h. let most = left.room.each k h in omega arith;
    }
