-- Words one after another, and tables that grow.
use Rattle.std.proofs.Common.{◌≡◌, ◌∙◌, ap, sym, refl, subst, arith, ℕ, ◌+◌, if◌then◌else◌, List, [], ◌∷◌, ◌++◌, Option}
use Rattle.gfxspec.specs.declared.geometry.PixelRect.{PixelRect}
use Rattle.gfxspec.specs.declared.pixel.Pixel.{Pixel}
use Rattle.gfxspec.specs.Items.{Item, after_items, count_at}
use Rattle.meaning.proofs.Folding.{after_items-append}
use Rattle.meaning.proofs.Adding.{count_at-append}
use Rattle.tileword.specs.declared.word.Word.{Word}
use Rattle.tileword.specs.declared.word.Word.TheVariants.{State, Tri, ClearC, ClearDs}
use Rattle.binner.specs.declared.entry.StateEntry.{StateEntry}
use Rattle.binner.specs.Program.{Tables, triangle_by, triangle_counts, color_put, depth_put, force_after, force_behind, after_word, after_words, word_counts, words_count}
use Rattle.binner.specs.Lists.{drawn_after, drawn_behind}
use Rattle.binner.specs.Meaning.{WordFits, WordsFit, Means, Keeps}

-- ---- one list behind another

pub force_behind-append : (t : Tables) (e : Option StateEntry) (ws vs : List Word) → force_behind t e (ws ++ vs) ≡ force_behind t (force_behind t e ws) vs
force_behind-append t e [] vs = refl
force_behind-append t e (w ∷ ws) vs = force_behind-append t (force_after t e w) ws vs

pub after_words-append : (t : Tables) (e : Option StateEntry) (ws vs : List Word) (x y : ℕ) (old : Pixel) → after_words t e (ws ++ vs) x y old ≡ after_words t (force_behind t e ws) vs x y (after_words t e ws x y old)
after_words-append t e [] vs x y old = refl
after_words-append t e (w ∷ ws) vs x y old = after_words-append t (force_after t e w) ws vs x y (after_word t e w x y old)

-- the last triangle
pub drawn_behind-append : (p : Option ℕ) (ws vs : List Word) → drawn_behind p (ws ++ vs) ≡ drawn_behind (drawn_behind p ws) vs
drawn_behind-append p [] vs = refl
drawn_behind-append p (w ∷ ws) vs = drawn_behind-append (drawn_after p w) ws vs

three_sums : (a b c d : ℕ) → b ≡ c + d → a + b ≡ a + c + d
three_sums a b c d h = omega arith

none_before : (n : ℕ) → n ≡ 0 + n
none_before n = omega arith

pub words_count-append : (t : Tables) (e : Option StateEntry) (issue : ℕ) (ws vs : List Word) (x y : ℕ) (old : Pixel) → words_count t e issue (ws ++ vs) x y old ≡ words_count t e issue ws x y old + words_count t (force_behind t e ws) issue vs x y (after_words t e ws x y old)
words_count-append t e issue [] vs x y old = none_before _
words_count-append t e issue (w ∷ ws) vs x y old =
    three_sums (if word_counts t e issue w x y old then 1 else 0) _ _ _ (words_count-append t (force_after t e w) issue ws vs x y (after_word t e w x y old))

pub WordsFit-append : (t : Tables) (r : PixelRect) (e : Option StateEntry) (ws vs : List Word) → WordsFit t r e ws → WordsFit t r (force_behind t e ws) vs → WordsFit t r e (ws ++ vs)
WordsFit-append t r e [] vs h k = k
WordsFit-append t r e (w ∷ ws) vs h k = (h.0, WordsFit-append t r (force_after t e w) ws vs h.1 k)

sum_of_two : (a b c d : ℕ) → a ≡ c → b ≡ d → a + b ≡ c + d
sum_of_two a b c d p q = omega arith

-- words that mean items, behind words that mean earlier items
pub joined : (t : Tables) (r : PixelRect) (e f g : Option StateEntry) (is js : List Item) (ws vs : List Word) → Means t r e f is ws → Means t r f g js vs → Means t r e g (is ++ js) (ws ++ vs)
joined t r e f g is js ws vs m n =
    record {
      fit = WordsFit-append t r e ws vs m.fit (subst (λ k. WordsFit t r k vs) (sym m.force) n.fit);
      force = force_behind-append t e ws vs ∙ ap (λ k. force_behind t k vs) m.force ∙ n.force;
      pixel = λ x y old inside.
          after_words-append t e ws vs x y old
          ∙ ap (λ k. after_words t k vs x y (after_words t e ws x y old)) m.force
          ∙ n.pixel x y (after_words t e ws x y old) inside
          ∙ ap (after_items js x y) (m.pixel x y old inside)
          ∙ sym (after_items-append is js x y old);
      count = λ issue x y old few inside.
          words_count-append t e issue ws vs x y old
          ∙ sum_of_two _ _ _ _ (m.count issue x y old few inside)
          (ap (λ k. words_count t k issue vs x y (after_words t e ws x y old)) m.force
          ∙ n.count issue x y (after_words t e ws x y old) few inside
          ∙ ap (count_at issue js x y) (m.pixel x y old inside))
          ∙ sym (count_at-append issue is js x y old);
    }

-- ---- tables that grow

pub force_kept : (t u : Tables) (r : PixelRect) (e : Option StateEntry) (w : Word) → Keeps t u → WordFits t r e w → force_after t e w ≡ force_after u e w
force_kept t u r e (State n) k h = h.1 ∙ sym (k.states n h.0 h.1)
force_kept t u r e (Tri n m) k h = refl
force_kept t u r e (ClearC n) k h = refl
force_kept t u r e (ClearDs n) k h = refl

word_kept : (t u : Tables) (r : PixelRect) (e : Option StateEntry) (w : Word) → Keeps t u → WordFits t r e w → (x y : ℕ) (old : Pixel) → after_word t e w x y old ≡ after_word u e w x y old
word_kept t u r e (State n) k h x y old = refl
word_kept t u r e (Tri n m) k h x y old = ap (λ o. triangle_by m o e x y old) (h.3 ∙ sym (k.triangles n h.1 h.3))
word_kept t u r e (ClearC n) k h x y old = ap (λ o. color_put o old) (h.1 ∙ sym (k.colors n h.0 h.1))
word_kept t u r e (ClearDs n) k h x y old = ap (λ o. depth_put o old) (h.1 ∙ sym (k.depths n h.0 h.1))

counts_kept : (t u : Tables) (r : PixelRect) (e : Option StateEntry) (w : Word) → Keeps t u → WordFits t r e w → (issue x y : ℕ) (old : Pixel) → word_counts t e issue w x y old ≡ word_counts u e issue w x y old
counts_kept t u r e (State n) k h issue x y old = refl
counts_kept t u r e (Tri n m) k h issue x y old = ap (λ o. triangle_counts issue m o e x y old) (h.3 ∙ sym (k.triangles n h.1 h.3))
counts_kept t u r e (ClearC n) k h issue x y old = refl
counts_kept t u r e (ClearDs n) k h issue x y old = refl

fit_kept : (t u : Tables) (r : PixelRect) (e : Option StateEntry) (w : Word) → Keeps t u → WordFits t r e w → WordFits u r e w
fit_kept t u r e (State n) k h = (h.0, k.states n h.0 h.1)
fit_kept t u r e (Tri n m) k h = (h.0, h.1, h.2, k.triangles n h.1 h.3, h.4, h.5)
fit_kept t u r e (ClearC n) k h = (h.0, k.colors n h.0 h.1)
fit_kept t u r e (ClearDs n) k h = (h.0, k.depths n h.0 h.1)

module _ (t u : Tables) (r : PixelRect) (k : Keeps t u) where
  fits_kept : (e : Option StateEntry) (ws : List Word) → WordsFit t r e ws → WordsFit u r e ws
  fits_kept e [] h = tt
  fits_kept e (w ∷ ws) h = (fit_kept t u r e w k h.0, subst (λ f. WordsFit u r f ws) (force_kept t u r e w k h.0) (fits_kept (force_after t e w) ws h.1))

  pub forces_kept : (e : Option StateEntry) (ws : List Word) → WordsFit t r e ws → force_behind t e ws ≡ force_behind u e ws
  forces_kept e [] h = refl
  forces_kept e (w ∷ ws) h = forces_kept (force_after t e w) ws h.1 ∙ ap (λ f. force_behind u f ws) (force_kept t u r e w k h.0)

  pixels_kept : (e : Option StateEntry) (ws : List Word) → WordsFit t r e ws → (x y : ℕ) (old : Pixel) → after_words t e ws x y old ≡ after_words u e ws x y old
  pixels_kept e [] h x y old = refl
  pixels_kept e (w ∷ ws) h x y old =
      pixels_kept (force_after t e w) ws h.1 x y (after_word t e w x y old)
      ∙ ap (λ f. after_words u f ws x y (after_word t e w x y old)) (force_kept t u r e w k h.0)
      ∙ ap (after_words u (force_after u e w) ws x y) (word_kept t u r e w k h.0 x y old)

  all_counts_kept : (e : Option StateEntry) (ws : List Word) → WordsFit t r e ws → (issue x y : ℕ) (old : Pixel) → words_count t e issue ws x y old ≡ words_count u e issue ws x y old
  all_counts_kept e [] h issue x y old = refl
  all_counts_kept e (w ∷ ws) h issue x y old =
      sum_of_two _ _ _ _
      (ap (λ b. if b then 1 else 0) (counts_kept t u r e w k h.0 issue x y old))
      (all_counts_kept (force_after t e w) ws h.1 issue x y (after_word t e w x y old)
      ∙ ap (λ f. words_count u f issue ws x y (after_word t e w x y old)) (force_kept t u r e w k h.0)
      ∙ ap (words_count u (force_after u e w) issue ws x y) (word_kept t u r e w k h.0 x y old))

  -- what words mean stays where the tables grow
  pub means_kept : (e f : Option StateEntry) (is : List Item) (ws : List Word) → Means t r e f is ws → Means u r e f is ws
  means_kept e f is ws m =
      record {
        fit = fits_kept e ws m.fit;
        force = sym (forces_kept e ws m.fit) ∙ m.force;
        pixel = λ x y old inside. sym (pixels_kept e ws m.fit x y old) ∙ m.pixel x y old inside;
        count = λ issue x y old few inside. sym (all_counts_kept e ws m.fit issue x y old) ∙ m.count issue x y old few inside;
      }
