-- Both clears hide what stood before them.
use Rattle.std.proofs.Common.{◌≡◌, ◌∙◌, ap, sym, refl, subst, arith, ℕ, ◌+◌, Bool, false, ◌&&◌, if◌then◌else◌, List, [], ◌∷◌, ◌++◌, Option, Some, None}
use Rattle.std.specs.Prelude.{slice_get, ◌==◌}
use Rattle.std.specs.Int.{bit_at}
use Rattle.std.proofs.lemmas.Nat.Bits.{bit_at-zero}
use Rattle.gfxspec.specs.declared.geometry.PixelRect.{PixelRect}
use Rattle.gfxspec.specs.declared.pixel.Pixel.{Pixel}
use Rattle.gfxspec.specs.Items.{Item}
use Rattle.tileword.specs.declared.edge_mask.EdgeMask.{EdgeMask}
use Rattle.tileword.specs.declared.word.Word.{Word}
use Rattle.tileword.specs.declared.word.Word.TheVariants.{State, Tri, ClearC, ClearDs}
use Rattle.binner.specs.declared.entry.StateEntry.{StateEntry}
use Rattle.binner.specs.declared.setup.TriSetup.{TriSetup}
use Rattle.binner.specs.Program.{Tables, reaches_by, outcome, triangle_counts, color_put, depth_put, force_after, force_behind, after_word, after_words, word_counts, words_count}
use Rattle.binner.specs.Meaning.{Keeps, WordsFit, Means}
use Rattle.binner.specs.Cuts.{IsUncounted, AreUncounted, AreBothClears}
use Rattle.binner.specs.Lists.{drawn_behind}
use Rattle.binner.proofs.Runs.{force_kept, after_words-append, words_count-append}

triangle_uncounted : (issue : ℕ) (mask : EdgeMask) (o : Option TriSetup) (e : StateEntry) (x y : ℕ) (old : Pixel) → e.issues ≡ 0 → triangle_counts issue mask o (Some e) x y old ≡ false
triangle_uncounted issue mask None e x y old h = refl
triangle_uncounted issue mask (Some p) e x y old h =
    ap (λ b. (b == 1) && (reaches_by mask p e x y && (outcome p e x y old).passed)) (ap (λ n. bit_at n issue) h ∙ bit_at-zero issue)

triangle_unforced : (issue : ℕ) (mask : EdgeMask) (o : Option TriSetup) (x y : ℕ) (old : Pixel) → triangle_counts issue mask o None x y old ≡ false
triangle_unforced issue mask None x y old = refl
triangle_unforced issue mask (Some p) x y old = refl

word_uncounted : (t : Tables) (e : Option StateEntry) (issue : ℕ) (w : Word) (x y : ℕ) (old : Pixel) → IsUncounted e w → word_counts t e issue w x y old ≡ false
word_uncounted t e issue (State n) x y old h = refl
word_uncounted t None issue (Tri n mask) x y old h = triangle_unforced issue mask (slice_get t.triangles n) x y old
word_uncounted t (Some e) issue (Tri n mask) x y old h = triangle_uncounted issue mask (slice_get t.triangles n) e x y old h
word_uncounted t e issue (ClearC n) x y old h = refl
word_uncounted t e issue (ClearDs n) x y old h = refl

none_and_rest : (b : Bool) (n : ℕ) → b ≡ false → n ≡ 0 → (if b then 1 else 0) + n ≡ 0
none_and_rest b n h k = rw h (omega arith)

uncounted : (t : Tables) (e : Option StateEntry) (issue : ℕ) (ws : List Word) (x y : ℕ) (old : Pixel) → AreUncounted t e ws → words_count t e issue ws x y old ≡ 0
uncounted t e issue [] x y old h = refl
uncounted t e issue (w ∷ ws) x y old h =
    none_and_rest (word_counts t e issue w x y old) _ (word_uncounted t e issue w x y old h.0) (uncounted t (force_after t e w) issue ws x y (after_word t e w x y old) h.1)

fit_behind : (t : Tables) (r : PixelRect) (e : Option StateEntry) (ws vs : List Word) → WordsFit t r e (ws ++ vs) → WordsFit t r (force_behind t e ws) vs
fit_behind t r e [] vs h = h
fit_behind t r e (w ∷ ws) vs h = fit_behind t r (force_after t e w) ws vs h.1

module _ (t : Tables) (r : PixelRect) where
  clears_fit : (e : Option StateEntry) (cs : List Word) → AreBothClears cs → WordsFit t r e cs → WordsFit t r None cs
  clears_fit e (ClearC m ∷ ClearDs n ∷ []) b h = h
  clears_fit e (ClearDs n ∷ ClearC m ∷ []) b h = h
  clears_fit e cs b h = absurd b

  pub clears_force : (cs : List Word) → AreBothClears cs → force_behind t None cs ≡ None
  clears_force (ClearC m ∷ ClearDs n ∷ []) b = refl
  clears_force (ClearDs n ∷ ClearC m ∷ []) b = refl
  clears_force cs b = absurd b

  clears_pixel : (e : Option StateEntry) (cs : List Word) → AreBothClears cs → WordsFit t r e cs → (x y : ℕ) (old new : Pixel) → after_words t None cs x y old ≡ after_words t e cs x y new
  clears_pixel e (ClearC m ∷ ClearDs n ∷ []) b h x y old new =
      ap (λ o. depth_put o (color_put (slice_get t.colors m) old)) h.1.0.1
      ∙ ap (λ o. depth_put (Some h.1.0.0) (color_put o old)) h.0.1
      ∙ sym (ap (λ o. depth_put o (color_put (slice_get t.colors m) new)) h.1.0.1
      ∙ ap (λ o. depth_put (Some h.1.0.0) (color_put o new)) h.0.1)
  clears_pixel e (ClearDs n ∷ ClearC m ∷ []) b h x y old new =
      ap (λ o. color_put o (depth_put (slice_get t.depths n) old)) h.1.0.1
      ∙ ap (λ o. color_put (Some h.1.0.0) (depth_put o old)) h.0.1
      ∙ sym (ap (λ o. color_put o (depth_put (slice_get t.depths n) new)) h.1.0.1
      ∙ ap (λ o. color_put (Some h.1.0.0) (depth_put o new)) h.0.1)
  clears_pixel e cs b h x y old new = absurd b

  clears_count : (e : Option StateEntry) (issue : ℕ) (cs : List Word) → AreBothClears cs → (x y : ℕ) (old : Pixel) → words_count t e issue cs x y old ≡ 0
  clears_count e issue (ClearC m ∷ ClearDs n ∷ []) b x y old = refl
  clears_count e issue (ClearDs n ∷ ClearC m ∷ []) b x y old = refl
  clears_count e issue cs b x y old = absurd b

pub clears_hide_uncounted : (t : Tables) (r : PixelRect) (items : List Item) (ws clears : List Word) (to : Option StateEntry) → Means t r None to items (ws ++ clears) → AreUncounted t None ws → AreBothClears clears → Means t r None None items clears
clears_hide_uncounted t r items ws clears to m u b =
    let fit : WordsFit t r (force_behind t None ws) clears = fit_behind t r None ws clears m.fit in
    record {
      fit = clears_fit t r (force_behind t None ws) clears b fit;
      force = clears_force t r clears b;
      pixel = λ x y old inside.
          clears_pixel t r (force_behind t None ws) clears b fit x y old (after_words t None ws x y old)
          ∙ sym (after_words-append t None ws clears x y old)
          ∙ m.pixel x y old inside;
      count = λ issue x y old few inside.
          clears_count t r None issue clears b x y old
          ∙ sym (words_count-append t None issue ws clears x y old
          ∙ sums_none _ _ (uncounted t None issue ws x y old u) (clears_count t r (force_behind t None ws) issue clears b x y (after_words t None ws x y old)))
          ∙ m.count issue x y old few inside;
    }
  where
    sums_none : (a b : ℕ) → a ≡ 0 → b ≡ 0 → a + b ≡ 0
    sums_none a b p q = omega arith

-- ---- the flag: words go on, tables grow

pub uncounted-front : (t : Tables) (e : Option StateEntry) (ws vs : List Word) → AreUncounted t e (ws ++ vs) → AreUncounted t e ws
uncounted-front t e [] vs h = tt
uncounted-front t e (w ∷ ws) vs h = (h.0, uncounted-front t (force_after t e w) ws vs h.1)

pub clears_uncounted : (t : Tables) (cs : List Word) → AreBothClears cs → AreUncounted t None cs
clears_uncounted t (ClearC m ∷ ClearDs n ∷ []) b = (tt, (tt, tt))
clears_uncounted t (ClearDs n ∷ ClearC m ∷ []) b = (tt, (tt, tt))
clears_uncounted t cs b = absurd b

pub clears_draw_nothing : (cs : List Word) → AreBothClears cs → drawn_behind None cs ≡ None
clears_draw_nothing (ClearC m ∷ ClearDs n ∷ []) b = refl
clears_draw_nothing (ClearDs n ∷ ClearC m ∷ []) b = refl
clears_draw_nothing cs b = absurd b

pub uncounted-append : (t : Tables) (e : Option StateEntry) (ws vs : List Word) → AreUncounted t e ws → AreUncounted t (force_behind t e ws) vs → AreUncounted t e (ws ++ vs)
uncounted-append t e [] vs h k = k
uncounted-append t e (w ∷ ws) vs h k = (h.0, uncounted-append t (force_after t e w) ws vs h.1 k)

pub uncounted_kept : (t u : Tables) (r : PixelRect) (e : Option StateEntry) (ws : List Word) → Keeps t u → WordsFit t r e ws → AreUncounted t e ws → AreUncounted u e ws
uncounted_kept t u r e [] k f h = tt
uncounted_kept t u r e (w ∷ ws) k f h =
    (h.0, subst (λ x. AreUncounted u x ws) (force_kept t u r e w k f.0) (uncounted_kept t u r (force_after t e w) ws k f.1 h.1))
