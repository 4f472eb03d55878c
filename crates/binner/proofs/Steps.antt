-- What a tile's list means behind one more item.
use Rattle.std.proofs.Common.{◌≡◌, ◌∙◌, ap, sym, subst, refl, arith, ℕ, zero, suc, ◌<◌, ◌≤◌, ◌⊎◌, inl, inr, Bool, true, false, not, ◌&&◌, ◌||◌, IsTrue, List, [], ◌∷◌, ◌++◌, length, Option, Some, None, slice_get, append-nil, append_assoc, min}
use Rattle.std.specs.Prelude.{is_some, IsFalse}
use Rattle.std.specs.List.{list_all}
use Rattle.std.proofs.lemmas.List.Elements.{filter_map-append}
use Rattle.gfxspec.specs.declared.pixel.DepthStencil.{DepthStencil}
use Rattle.gfxspec.specs.declared.geometry.PixelRect.{PixelRect}
use Rattle.gfxspec.specs.declared.geometry.Size.{Size}
use Rattle.gfxspec.specs.State.{Settings}
use Rattle.gfxspec.specs.Assembly.{Primitive}
use Rattle.gfxspec.specs.Raster.{Triangle, centre, covers, edge, edge_holds, is_empty}
use Rattle.gfxspec.specs.Limits.{is_size}
use Rattle.gfxspec.specs.Tiles.{tile_rect, IsIn}
use Rattle.gfxspec.specs.Items.{Item, Drawn, ColorCleared, DepthStencilCleared, in_scissor, is_in_rect, reaches, snapped_triangle}
use Rattle.classify.specs.Region.{IsClassOf}
use Rattle.classify.specs.declared.Class.TheVariants.{Outside, Cut}
use Rattle.tileword.specs.declared.edge_mask.EdgeMask.{EdgeMask}
use Rattle.tileword.specs.EdgeMask.{edge_bits}
use Rattle.tileword.specs.declared.word.Word.{Word}
use Rattle.tileword.specs.declared.word.Word.TheVariants.{State, Tri, ClearC, ClearDs}
use Rattle.tileword.specs.Word.{encoded, decoded}
use Rattle.binner.specs.declared.entry.StateEntry.{StateEntry}
use Rattle.binner.specs.declared.setup.TriSetup.{TriSetup}
use Rattle.binner.specs.declared.entry.Current.{Current}
use Rattle.binner.specs.Program.{Tables, program, force_after, force_behind}
use Rattle.binner.specs.Meaning.{Decode, Means, Keeps, IsSetupOf, IsSkipped, AreBits, DrawsUnder}
use Rattle.binner.specs.Cuts.{IsUncounted, AreUncounted}
use Rattle.binner.specs.Lists.{TileList, drawn_after, drawn_behind, GainsWord, PutsInForce, with_triangle, TakesTriangle, TakesClear}
use Rattle.binner.specs.Compiling.{ListMeans, IsEntry}
use Rattle.binner.proofs.Tiles.{sides}
use Rattle.binner.proofs.Runs.{joined, means_kept, forces_kept, force_behind-append, drawn_behind-append}
use Rattle.binner.proofs.Items.{state_means, skip_means, tri_means, color_means, depth_means}
use Rattle.binner.proofs.Hiding.{clears_force, clears_hide_uncounted, clears_uncounted, clears_draw_nothing, uncounted-front, uncounted-append, uncounted_kept}

-- ---- numbers of words

program-push : (ns : List ℕ) (w : Word) → decoded (encoded w) ≡ Some w → program (ns ++ encoded w ∷ []) ≡ program ns ++ w ∷ []
program-push ns w h = filter_map-append decoded ns (encoded w ∷ []) ∙ ap (λ l. program ns ++ l) (one (decoded (encoded w)) refl h)
  where
    one : (o : Option Word) → decoded (encoded w) ≡ o → o ≡ Some w → program (encoded w ∷ []) ≡ w ∷ []
    one o p q = rw (p ∙ q) refl

decode-push : (ns : List ℕ) (w : Word) → decoded (encoded w) ≡ Some w → Decode ns → Decode (ns ++ encoded w ∷ [])
decode-push [] w h d = rw h refl
decode-push (n ∷ ns) w h d = both (is_some (decoded n)) d (λ e. decode-push ns w h e)
  where
    both : (b : Bool) → (b && list_all (λ n. is_some (decoded n)) ns) ≡ true → (Decode ns → Decode (ns ++ encoded w ∷ [])) → (b && list_all (λ n. is_some (decoded n)) (ns ++ encoded w ∷ [])) ≡ true
    both true e f = f e
    both false e f = absurd cc

two_words : (v w : Word) → decoded (encoded v) ≡ Some v → decoded (encoded w) ≡ Some w → program (encoded v ∷ encoded w ∷ []) ≡ v ∷ w ∷ []
two_words v w h k = program-push (encoded v ∷ []) w k ∙ ap (λ ws. ws ++ w ∷ []) (program-push [] v h)

two_decode : (v w : Word) → decoded (encoded v) ≡ Some v → decoded (encoded w) ≡ Some w → Decode (encoded v ∷ encoded w ∷ [])
two_decode v w h k = decode-push (encoded v ∷ []) w k (decode-push [] v h refl)

-- ---- one word more

module _ (t : Tables) (r : PixelRect) where
  -- what is in force behind a list, and the triangle that stands last
  abbrev forced : List ℕ → Option StateEntry
  forced ns = force_behind t None (program ns)

  abbrev last : List ℕ → Option ℕ
  last ns = drawn_behind None (program ns)

  forced-push : (ns : List ℕ) (w : Word) → decoded (encoded w) ≡ Some w → forced (ns ++ encoded w ∷ []) ≡ force_after t (forced ns) w
  forced-push ns w h = ap (force_behind t None) (program-push ns w h) ∙ force_behind-append t None (program ns) (w ∷ [])

  last-push : (ns : List ℕ) (w : Word) → decoded (encoded w) ≡ Some w → last (ns ++ encoded w ∷ []) ≡ drawn_after (last ns) w
  last-push ns w h = ap (drawn_behind None) (program-push ns w h) ∙ drawn_behind-append None (program ns) (w ∷ [])

  -- a word means these items where this entry is in force
  abbrev Adds : List Item → Option StateEntry → Word → Type 0
  Adds js f w = Means t r f (force_after t f w) js (w ∷ [])

  means-push : (items js : List Item) (ns : List ℕ) (w : Word) → decoded (encoded w) ≡ Some w → Means t r None (forced ns) items (program ns) → Adds js (forced ns) w → Means t r None (forced (ns ++ encoded w ∷ [])) (items ++ js) (program (ns ++ encoded w ∷ []))
  means-push items js ns w h m k =
      subst (λ f. Means t r None f (items ++ js) (program (ns ++ encoded w ∷ []))) (sym (forced-push ns w h))
      (subst (Means t r None (force_after t (forced ns) w) (items ++ js)) (sym (program-push ns w h))
      (joined t r None (forced ns) (force_after t (forced ns) w) items js (program ns) (w ∷ []) m k))

  -- what a word must keep of the last triangle
  record Tells (current : Option Current) (ns : List ℕ) (w : Word) : Type 0 where
    below : (n : ℕ) → drawn_after (last ns) w ≡ Some n → (p : TriSetup) × (slice_get t.triangles n ≡ Some p)
    stands : (s : Current) (n : ℕ) → current ≡ Some s → drawn_after (last ns) w ≡ Some n → s.first ≤ n → (e : StateEntry) × (slice_get t.states s.entry ≡ Some e) × (force_after t (forced ns) w ≡ Some e)

  word_listed : (items js : List Item) (current : Option Current) (w : Word) (counted : Bool) (o n : TileList) → n ≡ record { counted = counted; numbers = o.numbers ++ encoded w ∷ [] } → decoded (encoded w) ≡ Some w → Adds js (forced o.numbers) w → (counted ≡ false → (o.counted ≡ false) × IsUncounted (forced o.numbers) w) → Tells current o.numbers w → ListMeans t r items current o → ListMeans t r (items ++ js) current n
  word_listed items js current w counted o n is d m u tells l = subst (ListMeans t r (items ++ js) current) (sym is) (record {
    decode = decode-push o.numbers w d l.decode;
    means = means-push items js o.numbers w d l.means m;
    uncounted = λ h. subst (AreUncounted t None) (sym (program-push o.numbers w d)) (uncounted-append t None (program o.numbers) (w ∷ []) (l.uncounted (u h).0) ((u h).1, tt));
    below = λ k q. tells.below k (sym (last-push o.numbers w d) ∙ q);
    stands = λ s k c q le. let x = tells.stands s k c (sym (last-push o.numbers w d) ∙ q) le in (x.0, x.1, forced-push o.numbers w d ∙ x.2);
  })

  none_drawn : (n : ℕ) → None ≡ Some n → ⊥
  none_drawn n h = cc

  state_listed : (items : List Item) (current : Option Current) (s : Current) (e : StateEntry) (o n : TileList) → slice_get t.states s.entry ≡ Some e → GainsWord (State s.entry) o n → ListMeans t r items current o → ListMeans t r items current n × (forced n.numbers ≡ Some e)
  state_listed items current s e o n h g l = (
    subst (λ is. ListMeans t r is current n) (append-nil items)
        (word_listed items [] current (State s.entry) o.counted o n g.0 g.1
        (subst (λ f. Means t r (forced o.numbers) f [] (State s.entry ∷ [])) (sym h) (state_means t r (forced o.numbers) s.entry e h))
        (λ q. (q, tt))
        (record { below = λ k q. absurd (none_drawn k q); stands = λ z k c q le. absurd (none_drawn k q) }) l),
    ap (λ (a : TileList). forced a.numbers) g.0 ∙ forced-push o.numbers (State s.entry) g.1 ∙ h,
  )

  pub forced_listed : (items : List Item) (current : Option Current) (s : Current) (e : StateEntry) (o n : TileList) → current ≡ Some s → slice_get t.states s.entry ≡ Some e → PutsInForce s o n → ListMeans t r items current o → ListMeans t r items current n × (forced n.numbers ≡ Some e)
  forced_listed items current s e o n c h (inl p) l =
      let x = l.stands s p.0.n c (p.0.last None) p.0.since in
      (subst (ListMeans t r items current) (sym p.1) l, ap (λ (a : TileList). forced a.numbers) p.1 ∙ x.2 ∙ sym x.1 ∙ h)
  forced_listed items current s e o n c h (inr g) l = state_listed items current s e o n h g l

  same_words : (f : Option StateEntry) (items : List Item) (ws : List Word) → Means t r None f items (ws ++ []) → Means t r None f items ws
  same_words f items ws m = subst (Means t r None f items) (append-nil ws) m

  pub skip_listed : (items : List Item) (current : Option Current) (p : Primitive) (s : Settings) (opened : List ℕ) (o n : TileList) → IsSkipped p s r → n ≡ o → ListMeans t r items current o → ListMeans t r (items ++ Drawn p s opened ∷ []) current n
  skip_listed items current p s opened o n h e l = subst (ListMeans t r (items ++ Drawn p s opened ∷ []) current) (sym e) (record {
    decode = l.decode;
    means = same_words (forced o.numbers) (items ++ Drawn p s opened ∷ []) (program o.numbers)
        (joined t r None (forced o.numbers) (forced o.numbers) items (Drawn p s opened ∷ []) (program o.numbers) [] l.means (skip_means t r (forced o.numbers) p s opened h));
    uncounted = l.uncounted;
    below = l.below;
    stands = l.stands;
  })

  pub tri_listed : (items : List Item) (current : Option Current) (number : ℕ) (mask : EdgeMask) (setup : TriSetup) (p : Primitive) (s : Settings) (bits : ℕ) (opened : List ℕ) (now : Current) (o n : TileList) → current ≡ Some now → (i : IsEntry t.states now) → DrawsUnder i.entry s bits → slice_get t.triangles number ≡ Some setup → IsSetupOf setup p s → AreBits bits opened → IsClassOf (Cut (edge_bits mask)) setup.plane.triangle r → forced o.numbers ≡ Some i.entry → n ≡ with_triangle (Tri number mask) now.counted o → decoded (encoded (Tri number mask)) ≡ Some (Tri number mask) → ListMeans t r items current o → ListMeans t r (items ++ Drawn p s opened ∷ []) current n
  tri_listed items current number mask setup p s bits opened now o n c i u place k are class f is d l =
      word_listed items (Drawn p s opened ∷ []) current (Tri number mask) (o.counted || now.counted) o n is d
      (subst (λ z. Means t r z z (Drawn p s opened ∷ []) (Tri number mask ∷ [])) (sym f) (tri_means t r number mask setup p s bits opened i.entry u place k are class))
      (λ q. (left o.counted now.counted q, subst (λ z. IsUncounted z (Tri number mask)) (sym f) (i.uncounted (right o.counted now.counted q))))
      (record {
        below = λ j q. (setup, ap (slice_get t.triangles) (sym (same number j q)) ∙ place);
        stands = λ z j e q le. (i.entry, ap (λ (a : Current). slice_get t.states a.entry) (same_current now z (sym c ∙ e)) ∙ i.place, f);
      }) l
    where
      left : (a b : Bool) → (a || b) ≡ false → a ≡ false
      left true b h = absurd cc
      left false b h = refl

      right : (a b : Bool) → (a || b) ≡ false → b ≡ false
      right true b h = absurd cc
      right false b h = h

      same : (a b : ℕ) → Some a ≡ Some b → a ≡ b
      same a b h = cc

      same_current : (a b : Current) → Some a ≡ Some b → b ≡ a
      same_current a b h = cc

  -- ---- clears

  clear_listed : (items js : List Item) (current : Option Current) (w : Word) (o n : TileList) → ((f : Option StateEntry) → force_after t f w ≡ f) → ((q : Option ℕ) → drawn_after q w ≡ q) → ((f : Option StateEntry) → IsUncounted f w) → ((f : Option StateEntry) → Adds js f w) → TakesClear w o n → ListMeans t r items current o → ListMeans t r (items ++ js) current n
  clear_listed items js current w o n stays keeps free adds (inl g) l =
      word_listed items js current w o.counted o n g.0 g.1 (adds (forced o.numbers)) (λ h. (h, free (forced o.numbers)))
      (record {
        below = λ k q. l.below k (sym (keeps (last o.numbers)) ∙ q);
        stands = λ s k c q le. let x = l.stands s k c (sym (keeps (last o.numbers)) ∙ q) le in (x.0, x.1, stays (forced o.numbers) ∙ x.2);
      }) l
  clear_listed items js current w o n stays keeps free adds (inr g) l = subst (ListMeans t r (items ++ js) current) (sym g.cut) (record {
    decode = left_decode;
    means = subst (λ ws. Means t r None (force_behind t None ws) (items ++ js) ws) (sym left)
        (subst (λ f. Means t r None f (items ++ js) clears) (sym (clears_force t r clears g.can.both))
        (clears_hide_uncounted t r (items ++ js) (program g.can.front) clears (forced (o.numbers ++ encoded w ∷ []))
        (subst (Means t r None (forced (o.numbers ++ encoded w ∷ [])) (items ++ js)) split (means-push items js o.numbers w g.decodes l.means (adds (forced o.numbers))))
        (uncounted-front t None (program g.can.front) (g.can.first ∷ []) (subst (AreUncounted t None) whole (l.uncounted g.can.uncounted)))
        g.can.both));
    uncounted = λ h. subst (AreUncounted t None) (sym left) (clears_uncounted t clears g.can.both);
    below = λ k q. absurd (none_drawn k (sym none ∙ q));
    stands = λ s k c q le. absurd (none_drawn k (sym none ∙ q));
  })
    where
      clears : List Word
      clears = g.can.first ∷ w ∷ []

      ends : o.numbers ≡ g.can.front ++ encoded g.can.first ∷ []
      ends = subst (λ x. o.numbers ≡ g.can.front ++ x ∷ []) g.can.is g.can.ends

      whole : program o.numbers ≡ program g.can.front ++ g.can.first ∷ []
      whole = ap program ends ∙ program-push g.can.front g.can.first g.can.decodes

      split : program (o.numbers ++ encoded w ∷ []) ≡ program g.can.front ++ clears
      split = program-push o.numbers w g.decodes ∙ ap (λ ws. ws ++ w ∷ []) whole ∙ append_assoc (program g.can.front) (g.can.first ∷ []) (w ∷ [])

      left : program (g.number ∷ encoded w ∷ []) ≡ clears
      left = ap (λ x. program (x ∷ encoded w ∷ [])) g.can.is ∙ two_words g.can.first w g.can.decodes g.decodes

      left_decode : Decode (g.number ∷ encoded w ∷ [])
      left_decode = subst (λ x. Decode (x ∷ encoded w ∷ [])) (sym g.can.is) (two_decode g.can.first w g.can.decodes g.decodes)

      none : last (g.number ∷ encoded w ∷ []) ≡ None
      none = ap (drawn_behind None) left ∙ clears_draw_nothing clears g.can.both

  pub color_listed : (items : List Item) (current : Option Current) (n : ℕ) (rgba : List ℕ) (o w : TileList) → slice_get t.colors n ≡ Some rgba → TakesClear (ClearC n) o w → ListMeans t r items current o → ListMeans t r (items ++ ColorCleared rgba ∷ []) current w
  color_listed items current n rgba o w h g l = clear_listed items _ current (ClearC n) o w (λ f. refl) (λ q. refl) (λ f. tt) (λ f. color_means t r f n rgba h) g l

  pub depth_listed : (items : List Item) (current : Option Current) (n : ℕ) (v : DepthStencil) (o w : TileList) → slice_get t.depths n ≡ Some v → TakesClear (ClearDs n) o w → ListMeans t r items current o → ListMeans t r (items ++ DepthStencilCleared v.depth v.stencil ∷ []) current w
  depth_listed items current n v o w h g l = clear_listed items _ current (ClearDs n) o w (λ f. refl) (λ q. refl) (λ f. tt) (λ f. depth_means t r f n v.depth v.stencil h) g l

-- ---- a triangle

module _ (setup : TriSetup) (p : Primitive) (s : Settings) (k : IsSetupOf setup p s) where
  not_reached : (x y : ℕ) → (covers setup.plane.triangle (centre x y) && in_scissor s x y) ≡ false → reaches p s x y ≡ false
  not_reached x y h =
      ap (λ d. not d && (covers (snapped_triangle p) (centre x y) && in_scissor s x y)) k.kept
      ∙ ap (λ e. covers e (centre x y) && in_scissor s x y) (sym k.triangle) ∙ h

  failed : (e h0 h1 h2 z : Bool) → ((h0 ≡ false) ⊎ (h1 ≡ false)) ⊎ (h2 ≡ false) → ((not e && (h0 && (h1 && h2))) && z) ≡ false
  failed e h0 h1 h2 z (inl (inl q)) = grind arith
  failed e h0 h1 h2 z (inl (inr q)) = grind arith
  failed e h0 h1 h2 z (inr q) = grind arith

  some_edge : (t : Triangle) (r : PixelRect) (x y i : ℕ) → i < 3 → ((u w : ℕ) → IsIn r u w → IsFalse (edge_holds (edge t i) (centre u w))) → IsIn r x y → ((edge_holds (edge t 0) (centre x y) ≡ false) ⊎ (edge_holds (edge t 1) (centre x y) ≡ false)) ⊎ (edge_holds (edge t 2) (centre x y) ≡ false)
  some_edge t r x y zero l h inside = inl (inl (h x y inside))
  some_edge t r x y (suc zero) l h inside = inl (inr (h x y inside))
  some_edge t r x y (suc (suc zero)) l h inside = inr (h x y inside)
  some_edge t r x y (suc (suc (suc i))) l h inside = absurd (omega arith)

  outside_skipped : (r : PixelRect) → IsClassOf Outside setup.plane.triangle r → IsSkipped p s r
  outside_skipped r h x y inside =
      not_reached x y (failed (is_empty setup.plane.triangle) _ _ _ (in_scissor s x y) (some_edge setup.plane.triangle r x y h.0 h.1 h.2 inside))

  none_covered : (b : Bool) → b ≡ false → (c : Bool) → (b && c) ≡ false
  none_covered true e c = absurd cc
  none_covered false e c = refl

  missed_skipped : (r : PixelRect) → ((x y : ℕ) → IsIn r x y → (x < 4096) × (y < 4096)) → ((x y : ℕ) → IsIn r x y → is_in_rect setup.bounds x y ≡ false) → IsSkipped p s r
  missed_skipped r small h x y inside =
      let n = small x y inside in
      not_reached x y (sym (k.reach x y n.0 n.1) ∙ none_covered (is_in_rect setup.bounds x y) (h x y inside) (covers setup.plane.triangle (centre x y)))

  pub triangle_listed : (t : Tables) (r : PixelRect) (items : List Item) (current : Option Current) (opened : List ℕ) (bits : ℕ) (now : Current) (number : ℕ) (o n : TileList) → ((x y : ℕ) → IsIn r x y → (x < 4096) × (y < 4096)) → AreBits bits opened → current ≡ Some now → (i : IsEntry t.states now) → DrawsUnder i.entry s bits → slice_get t.triangles number ≡ Some setup → TakesTriangle setup.plane.triangle setup.bounds r now number o n → ListMeans t r items current o → ListMeans t r (items ++ Drawn p s opened ∷ []) current n
  triangle_listed t r items current opened bits now number o n small are c i u place (inl m) l = skip_listed t r items current p s opened o n (missed_skipped r small m.nowhere) m.same l
  triangle_listed t r items current opened bits now number o n small are c i u place (inr (inl m)) l = skip_listed t r items current p s opened o n (outside_skipped r m.outside) m.same l
  triangle_listed t r items current opened bits now number o n small are c i u place (inr (inr m)) l =
      let f = forced_listed t r items current now i.entry o m.mid c i.place m.forced l in
      tri_listed t r items current number m.mask setup p s bits opened now m.mid n c i u place k are m.class f.1 m.drawn m.decodes f.0

-- ---- tables that grow

pub list_kept : (t u : Tables) (r : PixelRect) (items : List Item) (current : Option Current) (l : TileList) → Keeps t u → ListMeans t r items current l → ListMeans u r items current l
list_kept t u r items current l k m = record {
  decode = m.decode;
  means = subst (λ f. Means u r None f items (program l.numbers)) same (means_kept t u r k None (force_behind t None (program l.numbers)) items (program l.numbers) m.means);
  uncounted = λ h. uncounted_kept t u r None (program l.numbers) k m.means.fit (m.uncounted h);
  below = λ n q. let x = m.below n q in (x.0, k.triangles n x.0 x.1);
  stands = λ s n c q le. let x = m.stands s n c q le in (x.0, k.states s.entry x.0 x.1, sym same ∙ x.2);
}
  where
    same : force_behind t None (program l.numbers) ≡ force_behind u None (program l.numbers)
    same = forces_kept t u r k None (program l.numbers) m.means.fit

-- another entry is current
pub list_entered : (t : Tables) (r : PixelRect) (items : List Item) (old new : Option Current) (l : TileList) → ((s : Current) (n : ℕ) → new ≡ Some s → drawn_behind None (program l.numbers) ≡ Some n → s.first ≤ n → old ≡ Some s) → ListMeans t r items old l → ListMeans t r items new l
list_entered t r items old new l h m = record {
  decode = m.decode;
  means = m.means;
  uncounted = m.uncounted;
  below = m.below;
  stands = λ s n c q le. m.stands s n (h s n c q le) q le;
}

pub get_more : {A : Type 0} (xs ys : List A) (n : ℕ) (x : A) → slice_get xs n ≡ Some x → slice_get (xs ++ ys) n ≡ Some x
get_more [] ys n x h = absurd cc
get_more (z ∷ xs) ys zero x h = h
get_more (z ∷ xs) ys (suc n) x h = get_more xs ys n x h

pub new_place : {A : Type 0} (xs : List A) (x : A) → slice_get (xs ++ x ∷ []) (length xs) ≡ Some x
new_place [] x = refl
new_place (z ∷ xs) x = new_place xs x

pub small_tile : (s : Size) (k : ℕ) → IsTrue (is_size s) → (x y : ℕ) → IsIn (tile_rect s k) x y → (x < 4096) × (y < 4096)
small_tile s k h x y is =
    let b = sides s.width s.height h in
    (below x _ s.width is.right b.0.1, below y _ s.height is.bottom b.1.1)
  where
    below : (x a w : ℕ) → x < min a w → w ≤ 4096 → x < 4096
    below x a w p q = omega arith
