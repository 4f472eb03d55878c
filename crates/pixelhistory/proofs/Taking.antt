-- A trace through items, one by one and in parts.
use Rattle.std.proofs.Common.{◌≡◌, ◌∙◌, ap, sym, subst, refl, arith, ℕ, suc, ◌+◌, ◌<◌, true, false, if◌then◌else◌, List, [], ◌∷◌, ◌++◌, length, append_assoc, append-nil, length-append, Option, Some, None, IsNone}
use Rattle.std.specs.Prelude.{Result, Ok, Err, OnOk, IfSome}
use Rattle.std.proofs.lemmas.List.{map-append, length-map}
use Rattle.gfxspec.specs.declared.pixel.Pixel.{Pixel}
use Rattle.gfxspec.specs.State.{Settings}
use Rattle.gfxspec.specs.Assembly.{Primitive}
use Rattle.gfxspec.specs.Items.{Item, Drawn, reaches, after_items}
use Rattle.gfxspec.specs.Recorded.{drawn_items}
use Rattle.meaning.proofs.Folding.{after_items-append}
use Rattle.pixelevents.specs.declared.Event.{Event}
use Rattle.pixelevents.specs.History.{event, events_at, history_from}
use Rattle.pixelevents.specs.Laws.{left_by}
use Rattle.pixelevents.proofs.HistoryLaws.{follow, one_left}
use Rattle.pixelhistory.specs.declared.trace.Trace.{Trace}
use Rattle.pixelhistory.specs.Tracing.{Adds, GoesPast, events_of}

-- the event of a triangle, if it reaches the pixel
pub as_events : (e : Option Event) (k : ℕ) (p : Primitive) (s : Settings) (opened : List ℕ) (x y : ℕ) (old : Pixel) → IfSome e (λ e. (reaches p s x y ≡ true) × (e ≡ event k (Drawn p s opened) x y old)) → (IsNone e → reaches p s x y ≡ false) → events_of e ≡ events_at k (Drawn p s opened) x y old
as_events (Some e) k p s opened x y old h n =
    ap (λ l. l ∷ []) h.1 ∙ ap (λ b. if b then event k (Drawn p s opened) x y old ∷ [] else []) (sym h.0)
as_events None k p s opened x y old h n =
    ap (λ b. if b then event k (Drawn p s opened) x y old ∷ [] else []) (sym (n refl))

pub on_ok : {T E : Type 0} {P Q : Type 0} (r : Result T E) → (P → Q) → OnOk r P → OnOk r Q
on_ok (Ok x) f h = f h
on_ok (Err e) f h = h

module _ {A : Type 0} where
  pub past_one : (e : Option Event) (i : Item) (x y : ℕ) (a b : Trace A) → events_of e ≡ events_at a.items i x y a.pixel → Adds e a b → GoesPast (i ∷ []) x y a b
  past_one e i x y a b is h = record {
    pixel = h.pixel ∙ ap (left_by a.pixel) is ∙ one_left a.items i x y a.pixel;
    items = h.items;
    events = h.events ∙ ap (λ l. a.events.items ++ l) (is ∙ sym (append-nil (events_at a.items i x y a.pixel)));
  }

  pub past_none : (x y : ℕ) (a : Trace A) → GoesPast [] x y a a
  past_none x y a = record { pixel = refl; items = none a.items; events = sym (append-nil a.events.items) }
    where
      none : (n : ℕ) → n ≡ n + 0
      none n = omega arith

  pub past_both : (is js : List Item) (x y : ℕ) (a b c : Trace A) → GoesPast is x y a b → GoesPast js x y b c → GoesPast (is ++ js) x y a c
  past_both is js x y a b c h k = record {
    pixel = k.pixel ∙ ap (after_items js x y) h.pixel ∙ sym (after_items-append is js x y a.pixel);
    items = sum _ _ _ _ _ _ h.items k.items (length-append is js);
    events = k.events
        ∙ ap (λ l. l ++ history_from b.items js x y b.pixel) h.events
        ∙ append_assoc a.events.items (history_from a.items is x y a.pixel) (history_from b.items js x y b.pixel)
        ∙ ap (λ l. a.events.items ++ l)
        (ap (λ n. history_from a.items is x y a.pixel ++ history_from n js x y b.pixel) h.items
        ∙ ap (λ p. history_from a.items is x y a.pixel ++ history_from (a.items + length is) js x y p) h.pixel
        ∙ sym (follow a.items is js x y a.pixel));
  }
    where
      sum : (a b c l m n : ℕ) → b ≡ a + l → c ≡ b + m → n ≡ l + m → c ≡ a + n
      sum a b c l m n p q r = omega arith

  -- of the triangles of a draw those that were gone past, and those that are left
  pub record Took (s : Settings) (x y : ℕ) (all left : List Primitive) (start now : Trace A) : Type 0 where
    pub done : List Primitive
    pub split : done ++ left ≡ all
    pub past : (opened : List ℕ) → GoesPast (drawn_items s opened done) x y start now

  pub took_begin : (s : Settings) (x y : ℕ) (all left : List Primitive) (start : Trace A) → left ≡ all → Took s x y all left start start
  took_begin s x y all left start is = record { done = []; split = is; past = λ opened. past_none x y start }

  pub took_one : (s : Settings) (x y : ℕ) (all left whole : List Primitive) (p : Primitive) (start now new : Trace A) → whole ≡ p ∷ left → Took s x y all whole start now → ((opened : List ℕ) → GoesPast (Drawn p s opened ∷ []) x y now new) → Took s x y all left start new
  took_one s x y all left whole p start now new is h one = record {
    done = h.done ++ p ∷ [];
    split = append_assoc h.done (p ∷ []) left ∙ ap (λ l. h.done ++ l) (sym is) ∙ h.split;
    past = λ opened.
        subst (λ l. GoesPast l x y start new) (sym (map-append (λ p. Drawn p s opened) h.done (p ∷ [])))
        (past_both (drawn_items s opened h.done) (Drawn p s opened ∷ []) x y start now new (h.past opened) (one opened));
  }

  pub took_all : (s : Settings) (x y : ℕ) (all left : List Primitive) (start now : Trace A) → left ≡ [] → Took s x y all left start now → (opened : List ℕ) → GoesPast (drawn_items s opened all) x y start now
  took_all s x y all left start now is h opened =
      subst (λ ps. GoesPast (drawn_items s opened ps) x y start now) (sym (append-nil h.done) ∙ ap (λ l. h.done ++ l) (sym is) ∙ h.split) (h.past opened)

  -- there is room for the number of one more
  pub took_few : (s : Settings) (x y : ℕ) (all left whole : List Primitive) (p : Primitive) (start now : Trace A) → whole ≡ p ∷ left → start.items + length all < 9223372036854775808 → Took s x y all whole start now → now.items < 9223372036854775808
  took_few s x y all left whole p start now is few h =
      small start.items now.items (length (drawn_items s [] h.done)) (length h.done) (length all) (length whole) ((h.past []).items) (length-map h.done (λ p. Drawn p s [])) (sym (ap length h.split) ∙ length-append h.done whole) (ap length is) few
    where
      small : (i j k m n w : ℕ) → j ≡ i + k → k ≡ m → n ≡ m + w → w ≡ suc (length left) → i + n < 9223372036854775808 → j < 9223372036854775808
      small i j k m n w p q r e l = omega arith
