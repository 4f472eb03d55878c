-- What a history tells, by induction over the items.
use Rattle.std.proofs.Common.{◌≡◌, ◌∙◌, ap, sym, subst, refl, ℕ, suc, ◌+◌, arith, Bool, true, false, ◌&&◌, if◌then◌else◌, List, [], ◌∷◌, ◌++◌, length, append_assoc, length-append, Some}
use Rattle.std.specs.Prelude.{count_by, cond, slice_get, ◌==◌}
use Rattle.std.specs.List.{list_any}
use Rattle.std.proofs.lemmas.List.Sums.{sum_by-append}
use Rattle.gfxspec.specs.declared.pixel.Pixel.{Pixel}
use Rattle.gfxspec.specs.State.{Settings}
use Rattle.gfxspec.specs.Assembly.{Primitive}
use Rattle.gfxspec.specs.Items.{Item, Drawn, ColorCleared, DepthStencilCleared, reaches, drawn, outcome, after_item, after_items, counts_for, count_at}
use Rattle.gfxspec.specs.Color.{written_color}
use Rattle.gfxspec.specs.Recorded.{drawn_items}
use Rattle.pixelevents.specs.declared.Event.{Event}
use Rattle.pixelevents.specs.History.{touches, event, events_at, history_from}
use Rattle.pixelevents.specs.Laws.{left_by, IsChain, issues_at, is_counted}

-- ---- one item

untouched : (item : Item) (x y : ℕ) (old : Pixel) → touches item x y ≡ false → after_item item x y old ≡ old
untouched (Drawn p s opened) x y old h = ap (λ b. if b then drawn p s (outcome p s x y old) old else old) h
untouched (ColorCleared rgba) x y old h = absurd cc
untouched (DepthStencilCleared depth stencil) x y old h = absurd cc

pub one_left : (k : ℕ) (item : Item) (x y : ℕ) (old : Pixel) → left_by old (events_at k item x y old) ≡ after_item item x y old
one_left k item x y old = by (touches item x y) refl
  where
    by : (b : Bool) → touches item x y ≡ b → left_by old (if b then event k item x y old ∷ [] else []) ≡ after_item item x y old
    by true h = refl
    by false h = sym (untouched item x y old h)

one_chain : (k : ℕ) (item : Item) (x y : ℕ) (old : Pixel) → IsChain old (events_at k item x y old)
one_chain k item x y old = by (touches item x y)
  where
    by : (b : Bool) → IsChain old (if b then event k item x y old ∷ [] else [])
    by true = (refl, tt)
    by false = tt

-- ---- what is left, and what each event finds

left-append : (old : Pixel) (es fs : List Event) → left_by old (es ++ fs) ≡ left_by (left_by old es) fs
left-append old [] fs = refl
left-append old (e ∷ es) fs = left-append e.after es fs

pub last : (k : ℕ) (items : List Item) (x y : ℕ) (old : Pixel) → left_by old (history_from k items x y old) ≡ after_items items x y old
last k [] x y old = refl
last k (i ∷ is) x y old =
    left-append old (events_at k i x y old) (history_from (k + 1) is x y (after_item i x y old))
    ∙ ap (λ p. left_by p (history_from (k + 1) is x y (after_item i x y old))) (one_left k i x y old)
    ∙ last (k + 1) is x y (after_item i x y old)

chain-append : (old : Pixel) (es fs : List Event) → IsChain old es → IsChain (left_by old es) fs → IsChain old (es ++ fs)
chain-append old [] fs c d = d
chain-append old (e ∷ es) fs c d = (c.0, chain-append e.after es fs c.1 d)

pub chain : (k : ℕ) (items : List Item) (x y : ℕ) (old : Pixel) → IsChain old (history_from k items x y old)
chain k [] x y old = tt
chain k (i ∷ is) x y old =
    chain-append old (events_at k i x y old) (history_from (k + 1) is x y (after_item i x y old)) (one_chain k i x y old)
    (subst (λ p. IsChain p (history_from (k + 1) is x y (after_item i x y old))) (sym (one_left k i x y old)) (chain (k + 1) is x y (after_item i x y old)))

-- ---- histories in parts

none_more : (k : ℕ) → k ≡ k + 0
none_more k = omega arith

one_more : (k n : ℕ) → k + 1 + n ≡ k + (suc n)
one_more k n = omega arith

pub follow : (k : ℕ) (front back : List Item) (x y : ℕ) (old : Pixel) → history_from k (front ++ back) x y old ≡ history_from k front x y old ++ history_from (k + length front) back x y (after_items front x y old)
follow k [] back x y old = ap (λ n. history_from n back x y old) (none_more k)
follow k (i ∷ is) back x y old =
    let now = after_item i x y old in
    let whole = follow (k + 1) is back x y now ∙ ap (λ n. history_from (k + 1) is x y now ++ history_from n back x y (after_items is x y now)) (one_more k (length is)) in
    ap (λ es. events_at k i x y old ++ es) whole
    ∙ sym (append_assoc (events_at k i x y old) (history_from (k + 1) is x y now) (history_from (k + suc (length is)) back x y (after_items is x y now)))

pub same_issues : (k : ℕ) (s : Settings) (o q : List ℕ) (ps : List Primitive) (x y : ℕ) (old : Pixel) → history_from k (drawn_items s o ps) x y old ≡ history_from k (drawn_items s q ps) x y old
same_issues k s o q [] x y old = refl
same_issues k s o q (p ∷ ps) x y old =
    ap (λ es. events_at k (Drawn p s q) x y old ++ es) (same_issues (k + 1) s o q ps x y (after_item (Drawn p s o) x y old))

-- ---- counts

at_end : (front : List Item) (i : Item) (is : List Item) → slice_get (front ++ i ∷ is) (length front) ≡ Some i
at_end [] i is = refl
at_end (f ∷ fs) i is = at_end fs i is

one_counts : (P : Event → Bool) (e : Event) (touched : Bool) → count_by P (if touched then e ∷ [] else []) ≡ (if touched && P e then 1 else 0)
one_counts P e true = by (P e)
  where
    by : (b : Bool) → 0 + cond b 1 0 ≡ (if b then 1 else 0)
    by true = refl
    by false = refl
one_counts P e false = refl

turn : (a b c : Bool) → (a && (b && c)) ≡ (c && (a && b))
turn true true true = refl
turn true true false = refl
turn true false true = refl
turn true false false = refl
turn false b true = refl
turn false b false = refl

counts_as : (issue : ℕ) (front : List Item) (i : Item) (is : List Item) (x y : ℕ) (old : Pixel) → (touches i x y && is_counted issue (front ++ i ∷ is) (event (length front) i x y old)) ≡ counts_for issue i x y old
counts_as issue front (Drawn p s opened) is x y old =
    ap (λ o. reaches p s x y && ((outcome p s x y old).passed && list_any (λ k. k == issue) (issues_at o))) (at_end front (Drawn p s opened) is)
    ∙ turn (reaches p s x y) ((outcome p s x y old).passed) (list_any (λ k. k == issue) opened)
counts_as issue front (ColorCleared rgba) is x y old =
    ap (λ o. list_any (λ k. k == issue) (issues_at o)) (at_end front (ColorCleared rgba) is)
counts_as issue front (DepthStencilCleared depth stencil) is x y old =
    ap (λ o. list_any (λ k. k == issue) (issues_at o)) (at_end front (DepthStencilCleared depth stencil) is)

counted : (issue : ℕ) (front rest : List Item) (x y : ℕ) (old : Pixel) → count_by (is_counted issue (front ++ rest)) (history_from (length front) rest x y old) ≡ count_at issue rest x y old
counted issue front [] x y old = refl
counted issue front (i ∷ is) x y old =
    let P = is_counted issue (front ++ i ∷ is) in
    let e = event (length front) i x y old in
    let now = after_item i x y old in
    let first = one_counts P e (touches i x y) ∙ ap (λ b. if b then 1 else 0) (counts_as issue front i is x y old) in
    let all : (front ++ i ∷ []) ++ is ≡ front ++ i ∷ is = append_assoc front (i ∷ []) is in
    let long : length (front ++ i ∷ []) ≡ length front + 1 = length-append front (i ∷ []) in
    let rest = sym (ap (λ l. count_by (is_counted issue l) (history_from (length front + 1) is x y now)) all) ∙ sym (ap (λ n. count_by (is_counted issue ((front ++ i ∷ []) ++ is)) (history_from n is x y now)) long) ∙ counted issue (front ++ i ∷ []) is x y now in
    sum_by-append (λ e. cond (P e) 1 0) (events_at (length front) i x y old) (history_from (length front + 1) is x y now)
    ∙ ap (λ n. n + count_by P (history_from (length front + 1) is x y now)) first
    ∙ ap (λ n. (if counts_for issue i x y old then 1 else 0) + n) rest

pub counts : (issue : ℕ) (items : List Item) (x y : ℕ) (old : Pixel) → count_by (is_counted issue items) (history_from 0 items x y old) ≡ count_at issue items x y old
counts issue items x y old = counted issue [] items x y old

-- ---- colours

failed : (s : Settings) (p : Primitive) (b : Bool) (old : Pixel) → b ≡ false → (if b then written_color s.blend p.first.rgba old.rgba else old.rgba) ≡ old.rgba
failed s p b old h = ap (λ b. if b then written_color s.blend p.first.rgba old.rgba else old.rgba) h

pub no_color : (k : ℕ) (p : Primitive) (s : Settings) (opened : List ℕ) (x y : ℕ) (old : Pixel) → (event k (Drawn p s opened) x y old).passed ≡ false → (event k (Drawn p s opened) x y old).after.rgba ≡ old.rgba
no_color k p s opened x y old h = by (reaches p s x y)
  where
    by : (b : Bool) → (if b then drawn p s (outcome p s x y old) old else old).rgba ≡ old.rgba
    by true = failed s p ((outcome p s x y old).passed) old h
    by false = refl
