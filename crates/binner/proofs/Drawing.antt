-- A draw, triangle by triangle.
use Rattle.std.proofs.Common.{◌≡◌, ◌∙◌, ap, sym, subst, refl, ℕ, ◌<◌, List, [], ◌∷◌, ◌++◌, length, Some, append-nil, append_assoc, false}
use Rattle.std.proofs.lemmas.List.{map-append}
use Rattle.gfxspec.specs.State.{Settings}
use Rattle.gfxspec.specs.Assembly.{Primitive}
use Rattle.gfxspec.specs.Tiles.{tile_rect}
use Rattle.gfxspec.specs.Items.{Item, Drawn, reaches}
use Rattle.gfxspec.specs.Recorded.{drawn_items}
use Rattle.binner.specs.declared.entry.Current.{Current}
use Rattle.binner.specs.declared.setup.TriSetup.{TriSetup}
use Rattle.binner.specs.declared.compiling.Compiling.{Compiling}
use Rattle.binner.specs.Meaning.{IsSetupOf, AreBits, DrawsUnder}
use Rattle.binner.specs.Lists.{at}
use Rattle.binner.specs.Compiling.{tables, HasCompiled, IsSound, IsEntry, Enters, AddsSetup, Adds}
use Rattle.gfxspec.proofs.TileLaws.{tile_within}
use Rattle.binner.proofs.Steps.{skip_listed, small_tile}
use Rattle.binner.proofs.Growing.{entered_means, entered_sound, same_entry, setup_means, setup_sound}

-- the triangles before `left` are drawn
pub record Drew {A : Type 0} (old new : Compiling A) (s : Settings) (bits : ℕ) (now : Current) (all left : List Primitive) : Type 0 where
  pub done : List Primitive
  pub split : done ++ left ≡ all
  pub size : new.lists.size ≡ old.lists.size
  pub bins : length new.lists.bins ≡ length old.lists.bins
  pub sound : IsSound new
  pub is : IsEntry new.states.items now
  pub draws : DrawsUnder is.entry s bits
  pub current : new.current ≡ Some now
  pub means : (items : List Item) (opened : List ℕ) → AreBits bits opened → HasCompiled old items → HasCompiled new (items ++ drawn_items s opened done)

module _ {A : Type 0} (old : Compiling A) (s : Settings) (bits : ℕ) (now : Current) (all : List Primitive) where
  pub drew_begin : (new : Compiling A) (left : List Primitive) → left ≡ all → IsSound old → Enters s bits now old new → Drew old new s bits now all left
  drew_begin new left is sound h = record {
    done = [];
    split = is;
    size = ap (λ l. l.size) h.lists;
    bins = ap (λ l. length l.bins) h.lists;
    sound = entered_sound old new s bits now h sound;
    is = h.is;
    draws = h.draws;
    current = h.current;
    means = λ items opened are c. subst (HasCompiled new) (sym (append-nil items)) (entered_means old new s bits now items h c);
  }

  module _ (mid : Compiling A) (p : Primitive) (left : List Primitive) where
    pushed : (items : List Item) (opened : List ℕ) (done : List Primitive) → (items ++ drawn_items s opened done) ++ Drawn p s opened ∷ [] ≡ items ++ drawn_items s opened (done ++ p ∷ [])
    pushed items opened done =
        append_assoc items (drawn_items s opened done) (Drawn p s opened ∷ [])
        ∙ ap (λ l. items ++ l) (sym (map-append (λ p. Drawn p s opened) done (p ∷ [])))

    pub drew_setup : (new : Compiling A) (whole : List Primitive) (setup : TriSetup) (number : ℕ) → whole ≡ p ∷ left → Drew old mid s bits now all whole → AddsSetup setup number now mid new → length new.lists.bins ≡ length mid.lists.bins → IsSetupOf setup p s → Drew old new s bits now all left
    drew_setup new whole setup number is h a b k = record {
      done = h.done ++ p ∷ [];
      split = append_assoc h.done (p ∷ []) left ∙ ap (λ l. h.done ++ l) (sym is) ∙ h.split;
      size = a.lists.size ∙ h.size;
      bins = b ∙ h.bins;
      sound = setup_sound mid new setup number now a h.sound;
      is = same_entry mid.states.items new.states.items now a.states h.is;
      draws = h.draws;
      current = a.current ∙ h.current;
      means = λ items opened are c.
          subst (HasCompiled new) (pushed items opened h.done)
          (setup_means mid new setup number now p s bits opened (items ++ drawn_items s opened h.done) a h.sound.lists k are h.current h.is h.draws (h.means items opened are c));
    }

    pub drew_skip : (whole : List Primitive) → whole ≡ p ∷ left → Drew old mid s bits now all whole → ((x y : ℕ) → x < 4096 → y < 4096 → x < mid.lists.size.width → y < mid.lists.size.height → reaches p s x y ≡ false) → Drew old mid s bits now all left
    drew_skip whole is h out = record {
      done = h.done ++ p ∷ [];
      split = append_assoc h.done (p ∷ []) left ∙ ap (λ l. h.done ++ l) (sym is) ∙ h.split;
      size = h.size;
      bins = h.bins;
      sound = h.sound;
      is = h.is;
      draws = h.draws;
      current = h.current;
      means = λ items opened are c.
          subst (HasCompiled mid) (pushed items opened h.done)
          (λ k l. skip_listed (tables mid) (tile_rect mid.lists.size k) (items ++ drawn_items s opened h.done) mid.current p s opened (at mid.lists k) (at mid.lists k) (λ x y i. let n = small_tile mid.lists.size k h.sound.lists.size x y i in let w = tile_within mid.lists.size k x y i in out x y n.0 n.1 w.0 w.1) refl (h.means items opened are c k l));
    }

  drew_all : (new : Compiling A) (left : List Primitive) → left ≡ [] → Drew old new s bits now all left → (items : List Item) (opened : List ℕ) → AreBits bits opened → HasCompiled old items → HasCompiled new (items ++ drawn_items s opened all)
  drew_all new left is h items opened are c =
      subst (λ ps. HasCompiled new (items ++ drawn_items s opened ps)) (sym (append-nil h.done) ∙ ap (λ l. h.done ++ l) (sym is) ∙ h.split) (h.means items opened are c)

  pub drew_whole : (new : Compiling A) (left : List Primitive) → left ≡ [] → Drew old new s bits now all left → Adds bits (λ opened. drawn_items s opened all) old new
  drew_whole new left is h = record {
    sound = h.sound;
    size = h.size;
    means = drew_all new left is h;
  }
