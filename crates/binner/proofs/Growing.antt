-- A compilation that goes on by one step.
use Rattle.std.proofs.Common.{◌≡◌, ◌∙◌, ap, sym, subst, refl, arith, ℕ, zero, suc, ◌+◌, ◌*◌, ◌<◌, ◌≤◌, inl, inr, ⊎_elim, List, [], ◌∷◌, ◌++◌, length, Some, None, slice_get, get_or, length-append, true, false, Bool}
use Rattle.std.specs.Prelude.{nat_lt, slice_index_or, unwrap_or, not, ◌==◌}
use Rattle.std.proofs.lemmas.Bool.Decides.{nat_tests}
use Rattle.std.proofs.lemmas.Option.{slice_get_within, get_or_from_slice_get}
use Rattle.gfxspec.specs.declared.pixel.DepthStencil.{DepthStencil}
use Rattle.gfxspec.specs.declared.geometry.PixelRect.{PixelRect}
use Rattle.gfxspec.specs.State.{Settings}
use Rattle.gfxspec.specs.Assembly.{Primitive}
use Rattle.gfxspec.specs.Tiles.{tile_count, tile_rect}
use Rattle.gfxspec.specs.Items.{Item, Drawn, ColorCleared, DepthStencilCleared}
use Rattle.tileword.specs.declared.word.Word.TheVariants.{ClearC, ClearDs}
use Rattle.binner.specs.declared.entry.StateEntry.{StateEntry}
use Rattle.binner.specs.declared.entry.Current.{Current}
use Rattle.binner.specs.declared.setup.TriSetup.{TriSetup}
use Rattle.binner.specs.declared.lists.Lists.{Lists}
use Rattle.binner.specs.declared.compiling.Compiling.{Compiling}
use Rattle.binner.specs.Meaning.{Keeps, IsSetupOf, AreBits, DrawsUnder, entry_of}
use Rattle.binner.specs.Program.{program}
use Rattle.binner.specs.Lists.{TileList, at, IsLists, IsShort, EachChanges, TakesTriangle, TakesClear, drawn_behind}
use Rattle.binner.specs.Compiling.{tables, ListMeans, HasCompiled, IsSound, IsEntry, Enters, AddsSetup, AddsColor, AddsDepth}
use Rattle.binner.proofs.Changing.{Longer, added_longer, cleared_longer}
use Rattle.binner.proofs.Steps.{triangle_listed, color_listed, depth_listed, list_kept, list_entered, get_more, new_place, small_tile}

pub more_or_same : {A : Type 0} (xs ys zs : List A) → ys ≡ xs ++ zs → (n : ℕ) (x : A) → slice_get xs n ≡ Some x → slice_get ys n ≡ Some x
more_or_same xs ys zs e n x h = ap (λ l. slice_get l n) e ∙ get_more xs zs n x h

pub same_get : {A : Type 0} (xs ys : List A) → ys ≡ xs → (n : ℕ) (x : A) → slice_get xs n ≡ Some x → slice_get ys n ≡ Some x
same_get xs ys e n x h = ap (λ l. slice_get l n) e ∙ h

pub at_end : {A : Type 0} (xs ys : List A) (x : A) → ys ≡ xs ++ x ∷ [] → slice_get ys (length xs) ≡ Some x
at_end xs ys x e = ap (λ l. slice_get l (length xs)) e ∙ new_place xs x

-- the same entry, in a table that didn't change
abbrev pub same_entry : (old new : List StateEntry) (now : Current) → new ≡ old → IsEntry old now → IsEntry new now
same_entry old new now is i = record { entry = i.entry; place = same_get old new is now.entry i.entry i.place; uncounted = i.uncounted }

-- ---- what is compiled

-- the current entry, under which triangles are drawn alike
pub same_enters : {A : Type 0} (old : Compiling A) (s : Settings) (bits : ℕ) (now : Current) (e : StateEntry) → IsSound old → old.current ≡ Some now → e ≡ get_or old.states.items now.entry e → DrawsUnder e s bits → Enters s bits now old old
same_enters old s bits now e sound c read draws =
    let i = sound.current now c in
    record {
      is = i;
      draws = subst (λ x. DrawsUnder x s bits) (read ∙ get_or_from_slice_get old.states.items now.entry i.entry e i.place) draws;
      current = c;
      states = inl (c, refl);
      lists = refl;
      triangles = refl;
      drawn = refl;
      colors = refl;
      depths = refl;
    }

module _ {A : Type 0} (old new : Compiling A) where
  -- an entry that is new
  pub new_enters : (s : Settings) (bits : ℕ) (now : Current) → now.entry ≡ length old.states.items → now.first ≡ length old.triangles → now.counted ≡ not (bits == 0) → new.current ≡ Some now → new.states.items ≡ old.states.items ++ entry_of s bits ∷ [] → new.lists ≡ old.lists → new.triangles ≡ old.triangles → new.drawn ≡ old.drawn → new.colors.items ≡ old.colors.items → new.depths.items ≡ old.depths.items → Enters s bits now old new
  new_enters s bits now place first counted c states lists triangles drawn colors depths = record {
    is = record { entry = entry_of s bits; place = ap (slice_get new.states.items) place ∙ at_end old.states.items new.states.items (entry_of s bits) states; uncounted = λ h. none bits (sym counted ∙ h) };
    draws = record { scissor = λ x y. refl; depth_stencil = refl; reference = refl; blend = refl; issues = refl };
    current = c;
    states = inr (first, states);
    lists = lists;
    triangles = triangles;
    drawn = drawn;
    colors = colors;
    depths = depths;
  }
    where
      none : (k : ℕ) → not (k == 0) ≡ false → k ≡ 0
      none k h = grind (arith, nat_tests)

  pub entered_means : (t : Settings) (bits : ℕ) (s : Current) (items : List Item) → Enters t bits s old new → HasCompiled old items → HasCompiled new items
  entered_means t bits s items h all =
      subst (λ ls. (k : ℕ) → k < tile_count ls.size → ListMeans (tables new) (tile_rect ls.size k) items new.current (at ls k)) (sym h.lists)
      (λ k l. list_kept (tables old) (tables new) (tile_rect old.lists.size k) items new.current (at old.lists k) kept
      (list_entered (tables old) (tile_rect old.lists.size k) items old.current new.current (at old.lists k) (was k l) (all k l)))
    where
      was : (k : ℕ) (l : k < tile_count old.lists.size) (z : Current) (n : ℕ) → new.current ≡ Some z → drawn_behind None (program (at old.lists k).numbers) ≡ Some n → z.first ≤ n → old.current ≡ Some z
      was k l z n c q le = ⊎_elim
          (λ p. p.0 ∙ sym h.current ∙ c)
          (λ p. absurd (above _ _ _ _ (ap (λ o. (unwrap_or o s).first) (sym h.current ∙ c)) p.0 le (let x = (all k l).below n q in slice_get_within old.triangles n x.0 x.1)))
          h.states
        where
          above : (a b n t : ℕ) → a ≡ b → a ≡ t → b ≤ n → n < t → ⊥
          above a b n t p q r w = omega arith

      kept : Keeps (tables old) (tables new)
      kept = record {
        states = λ m x q. ⊎_elim (λ p. same_get _ _ p.1 m x q) (λ p. more_or_same _ _ _ p.1 m x q) h.states;
        triangles = same_get _ _ h.triangles;
        colors = same_get _ _ h.colors;
        depths = same_get _ _ h.depths;
      }

  pub setup_means : (setup : TriSetup) (number : ℕ) (now : Current) (p : Primitive) (s : Settings) (bits : ℕ) (opened : List ℕ) (items : List Item) → AddsSetup setup number now old new → IsLists old.lists → IsSetupOf setup p s → AreBits bits opened → old.current ≡ Some now → (i : IsEntry old.states.items now) → DrawsUnder i.entry s bits → HasCompiled old items → HasCompiled new (items ++ Drawn p s opened ∷ [])
  setup_means setup number now p s bits opened items h sound is are c i u all =
      subst (λ z. (k : ℕ) → k < tile_count z → ListMeans (tables new) (tile_rect z k) (items ++ Drawn p s opened ∷ []) new.current (at new.lists k)) (sym h.lists.size)
      (λ k l. triangle_listed setup p s is (tables new) (tile_rect old.lists.size k) items new.current opened bits now number (at old.lists k) (at new.lists k)
      (small_tile old.lists.size k sound.size) are (h.current ∙ c) (same_entry old.states.items new.states.items now h.states i) u h.place (h.lists.each k l)
      (subst (λ z. ListMeans (tables new) (tile_rect old.lists.size k) items z (at old.lists k)) (sym h.current)
      (list_kept (tables old) (tables new) (tile_rect old.lists.size k) items old.current (at old.lists k) kept (all k l))))
    where
      kept : Keeps (tables old) (tables new)
      kept = record {
        states = same_get _ _ h.states;
        triangles = h.kept;
        colors = same_get _ _ h.colors;
        depths = same_get _ _ h.depths;
      }

  pub color_means : (rgba : List ℕ) (items : List Item) → AddsColor rgba old new → HasCompiled old items → HasCompiled new (items ++ ColorCleared rgba ∷ [])
  color_means rgba items h all =
      subst (λ z. (k : ℕ) → k < tile_count z → ListMeans (tables new) (tile_rect z k) (items ++ ColorCleared rgba ∷ []) new.current (at new.lists k)) (sym h.lists.size)
      (λ k l. color_listed (tables new) (tile_rect old.lists.size k) items new.current (length old.colors.items) rgba (at old.lists k) (at new.lists k)
      (at_end _ _ rgba h.colors) (h.lists.each k l)
      (subst (λ z. ListMeans (tables new) (tile_rect old.lists.size k) items z (at old.lists k)) (sym h.current)
      (list_kept (tables old) (tables new) (tile_rect old.lists.size k) items old.current (at old.lists k) kept (all k l))))
    where
      kept : Keeps (tables old) (tables new)
      kept = record {
        states = same_get _ _ h.states;
        triangles = same_get _ _ h.triangles;
        colors = more_or_same _ _ _ h.colors;
        depths = same_get _ _ h.depths;
      }

  pub depth_means : (v : DepthStencil) (items : List Item) → AddsDepth v old new → HasCompiled old items → HasCompiled new (items ++ DepthStencilCleared v.depth v.stencil ∷ [])
  depth_means v items h all =
      subst (λ z. (k : ℕ) → k < tile_count z → ListMeans (tables new) (tile_rect z k) (items ++ DepthStencilCleared v.depth v.stencil ∷ []) new.current (at new.lists k)) (sym h.lists.size)
      (λ k l. depth_listed (tables new) (tile_rect old.lists.size k) items new.current (length old.depths.items) v (at old.lists k) (at new.lists k)
      (at_end _ _ v h.depths) (h.lists.each k l)
      (subst (λ z. ListMeans (tables new) (tile_rect old.lists.size k) items z (at old.lists k)) (sym h.current)
      (list_kept (tables old) (tables new) (tile_rect old.lists.size k) items old.current (at old.lists k) kept (all k l))))
    where
      kept : Keeps (tables old) (tables new)
      kept = record {
        states = same_get _ _ h.states;
        triangles = same_get _ _ h.triangles;
        colors = same_get _ _ h.colors;
        depths = more_or_same _ _ _ h.depths;
      }

-- ---- how long the lists are

past : (xs : List (List ℕ)) (k : ℕ) → length xs ≤ k → slice_index_or xs k [] ≡ []
past [] k h = refl
past (x ∷ xs) zero h = absurd (omega (arith, h))
past (x ∷ xs) (suc k) h = past xs k (omega (arith, h))

grown_short : {A : Type 0} (P : ℕ → TileList → TileList → Type 0) (old new : Lists A) (n m : ℕ) → ((k : ℕ) (o w : TileList) → P k o w → Longer m o w) → IsLists new → EachChanges P old new → IsShort n old → IsShort (n + m) new
grown_short P old new n m longer sound h short k = by (nat_lt k (tile_count old.size)) refl
  where
    more : (a b : ℕ) → a ≤ b + m → b ≤ n → a ≤ n + m
    more a b p q = omega arith

    none : (a : ℕ) → a ≡ 0 → a ≤ n + m
    none a p = omega arith

    inside : (t : ℕ) → nat_lt k t ≡ true → k < t
    inside t e = grind (arith, nat_tests)

    behind : (t u : ℕ) → u ≡ t → nat_lt k t ≡ false → u ≤ k
    behind t u p e = grind (arith, nat_tests)

    by : (b : Bool) → nat_lt k (tile_count old.size) ≡ b → length (at new k).numbers ≤ n + m
    by true e = more _ _ (longer k (at old k) (at new k) (h.each k (inside (tile_count old.size) e))) (short k)
    by false e = none _ (ap length (past new.bins k (behind (tile_count old.size) (length new.bins) (sound.bins ∙ ap tile_count h.size) e)))

taken_longer : (setup : TriSetup) (r : PixelRect) (s : Current) (number : ℕ) (o n : TileList) → TakesTriangle setup.plane.triangle setup.bounds r s number o n → Longer 2 o n
taken_longer setup r s number o n (inl m) = subst (Longer 2 o) (sym m.same) (omega arith)
taken_longer setup r s number o n (inr a) = added_longer setup.plane.triangle r s number o n a

module _ {A : Type 0} (old new : Compiling A) where
  pub entered_sound : (t : Settings) (bits : ℕ) (n : Current) → Enters t bits n old new → IsSound old → IsSound new
  entered_sound t bits n h k = record {
    current = λ z e. subst (IsEntry new.states.items) (the_same n z (sym h.current ∙ e)) h.is;
    lists = subst IsLists (sym h.lists) k.lists;
    short = λ j. same _ _ _ _ (ap (λ l. length (at l j).numbers) h.lists) h.drawn (ap length h.colors) (ap length h.depths) (k.short j);
    triangles = rw h.triangles k.triangles;
    drawn = rw h.drawn k.drawn;
    clears = rw (h.colors, h.depths) k.clears;
  }
    where
      the_same : (a b : Current) → Some a ≡ Some b → a ≡ b
      the_same a b e = cc

      same : {x t c d : ℕ} (y u b a : ℕ) → y ≡ x → u ≡ t → b ≡ c → a ≡ d → x ≤ 2 * t + (c + d) → y ≤ 2 * u + (b + a)
      same y u b a p q r s h = omega arith

  stays_current : new.states.items ≡ old.states.items → new.current ≡ old.current → IsSound old → (z : Current) → new.current ≡ Some z → IsEntry new.states.items z
  stays_current p q k z e = same_entry old.states.items new.states.items z p (k.current z (sym q ∙ e))

  budget : (t c d u b a : ℕ) (l : Lists A) (m : ℕ) → IsShort (2 * t + (c + d) + m) l → 2 * t + (c + d) + m ≡ 2 * u + (b + a) → IsShort (2 * u + (b + a)) l
  budget t c d u b a l m h e = subst (λ n. IsShort n l) e h

  pub setup_sound : (setup : TriSetup) (number : ℕ) (entry : Current) → AddsSetup setup number entry old new → IsSound old → IsSound new
  setup_sound setup number entry h k = record {
    current = stays_current h.states h.current k;
    lists = h.sound;
    short = budget _ _ _ _ _ _ new.lists 2
        (grown_short (λ j. TakesTriangle setup.plane.triangle setup.bounds (tile_rect old.lists.size j) entry number) old.lists new.lists _ 2 (λ j o w p. taken_longer setup (tile_rect old.lists.size j) entry number o w p) h.sound h.lists k.short)
        (sums _ _ _ _ _ _ h.drawn (ap length h.colors) (ap length h.depths));
    triangles = h.few;
    drawn = rw h.drawn (omega (arith, h.room));
    clears = rw (h.colors, h.depths) k.clears;
  }
    where
      sums : (t c d u b a : ℕ) → u ≡ t + 1 → b ≡ c → a ≡ d → 2 * t + (c + d) + 2 ≡ 2 * u + (b + a)
      sums t c d u b a p q r = omega arith

  pub color_sound : (rgba : List ℕ) → AddsColor rgba old new → IsSound old → IsSound new
  color_sound rgba h k = record {
    current = stays_current h.states h.current k;
    lists = h.sound;
    short = budget _ _ _ _ _ _ new.lists 1
        (grown_short (λ j. TakesClear (ClearC (length old.colors.items))) old.lists new.lists _ 1 (λ j o w p. cleared_longer (ClearC (length old.colors.items)) o w p) h.sound h.lists k.short)
        (sums _ _ _ _ _ _ h.drawn (ap length h.colors ∙ length-append old.colors.items (rgba ∷ [])) (ap length h.depths));
    triangles = rw h.triangles k.triangles;
    drawn = rw h.drawn k.drawn;
    clears = rw (h.colors, h.depths) (simp length-append (omega (arith, h.room)));
  }
    where
      sums : (t c d u b a : ℕ) → u ≡ t → b ≡ c + 1 → a ≡ d → 2 * t + (c + d) + 1 ≡ 2 * u + (b + a)
      sums t c d u b a p q r = omega arith

  pub depth_sound : (v : DepthStencil) → AddsDepth v old new → IsSound old → IsSound new
  depth_sound v h k = record {
    current = stays_current h.states h.current k;
    lists = h.sound;
    short = budget _ _ _ _ _ _ new.lists 1
        (grown_short (λ j. TakesClear (ClearDs (length old.depths.items))) old.lists new.lists _ 1 (λ j o w p. cleared_longer (ClearDs (length old.depths.items)) o w p) h.sound h.lists k.short)
        (sums _ _ _ _ _ _ h.drawn (ap length h.colors) (ap length h.depths ∙ length-append old.depths.items (v ∷ [])));
    triangles = rw h.triangles k.triangles;
    drawn = rw h.drawn k.drawn;
    clears = rw (h.colors, h.depths) (simp length-append (omega (arith, h.room)));
  }
    where
      sums : (t c d u b a : ℕ) → u ≡ t → b ≡ c → a ≡ d + 1 → 2 * t + (c + d) + 1 ≡ 2 * u + (b + a)
      sums t c d u b a p q r = omega arith
