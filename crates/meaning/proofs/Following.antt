-- A list's items behind others: an issue counts in the one or in the other.
use Rattle.std.proofs.Common.{◌≡◌, ◌∙◌, ap, refl, arith, ℕ, ◌+◌, ◌<◌, ◌≤◌, false, ◌&&◌, List, [], ◌∷◌, ◌++◌, map, length, if◌then◌else◌}
use Rattle.std.specs.Prelude.{◌==◌, Option, Some, None}
use Rattle.std.specs.List.{list_any}
use Rattle.gfxspec.specs.declared.geometry.Size.{Size}
use Rattle.gfxspec.specs.declared.pixel.Pixel.{Pixel}
use Rattle.gfxspec.specs.State.{Settings}
use Rattle.gfxspec.specs.Assembly.{Primitive, draw_primitives, draw_indexed_primitives}
use Rattle.gfxspec.specs.Items.{Item, Drawn, ColorCleared, DepthStencilCleared, after_item, after_items, count_at, issue_count, reaches, outcome}
use Rattle.gfxspec.specs.Commands.{Command, Draw, DrawIndexed, ClearColor, ClearDepthStencil}
use Rattle.gfxspec.specs.Recorded.{settings_after, open_after, drawn_items, items_at, items_behind, items, issues}
use Rattle.gfxspec.specs.Session.{Step, Records, Executes, Flushes, all_seen, run, all_run, step_items, session_items, items_of_session}
use Rattle.meaning.specs.Renumbering.{renumbered}
use Rattle.meaning.specs.Contexts.{counted_or, last_begun, result_after}
use Rattle.meaning.specs.Standing.{issues_begun, Follows}
use Rattle.meaning.proofs.Sums.{same_sums, sum_none}
use Rattle.meaning.proofs.Folding.{after_items-append}
use Rattle.meaning.proofs.Adding.{issue_count-append}
use Rattle.meaning.proofs.Renumbering.{after_renumbered, count_renumbered, count_earlier}
use Rattle.meaning.proofs.Sessions.{all_run-push}
use Rattle.meaning.proofs.Issues.{issues-append, last_behind, not_open}

-- ---- items without an issue

abbrev pub Without : ℕ → List Item → Type 0
Without issue [] = Unit {0}
Without issue (Drawn p s opened ∷ is) = (list_any (λ k. k == issue) opened ≡ false) × Without issue is
Without issue (ColorCleared rgba ∷ is) = Without issue is
Without issue (DepthStencilCleared depth stencil ∷ is) = Without issue is

both_none : (a b : ℕ) → a ≡ 0 → b ≡ 0 → a + b ≡ 0
both_none a b p q = omega arith

count_without : (issue : ℕ) (is : List Item) (x y : ℕ) (old : Pixel) → Without issue is → count_at issue is x y old ≡ 0
count_without issue [] x y old h = refl
count_without issue (Drawn p s o ∷ is) x y old h =
    both_none _ _
    (ap (λ b. if b && (reaches p s x y && (outcome p s x y old).passed) then 1 else 0) h.0)
    (count_without issue is x y (after_item (Drawn p s o) x y old) h.1)
count_without issue (ColorCleared c ∷ is) x y old h = both_none _ _ refl (count_without issue is x y (after_item (ColorCleared c) x y old) h)
count_without issue (DepthStencilCleared d t ∷ is) x y old h = both_none _ _ refl (count_without issue is x y (after_item (DepthStencilCleared d t) x y old) h)

without-append : (issue : ℕ) (is js : List Item) → Without issue is → Without issue js → Without issue (is ++ js)
without-append issue [] js h k = k
without-append issue (Drawn p s o ∷ is) js h k = (h.0, without-append issue is js h.1 k)
without-append issue (ColorCleared c ∷ is) js h k = without-append issue is js h k
without-append issue (DepthStencilCleared d t ∷ is) js h k = without-append issue is js h k

drawn_without : (issue : ℕ) (s : Settings) (o : List ℕ) (ps : List Primitive) → list_any (λ k. k == issue) o ≡ false → Without issue (drawn_items s o ps)
drawn_without issue s o [] h = tt
drawn_without issue s o (p ∷ ps) h = (h, drawn_without issue s o ps h)

items_at-without : (issue : ℕ) (s : Settings) (o : List ℕ) (c : Command) → list_any (λ k. k == issue) o ≡ false → Without issue (items_at s o c)
items_at-without issue s o (Draw count start) h = drawn_without issue s o (draw_primitives s count start) h
items_at-without issue s o (DrawIndexed count start base) h = drawn_without issue s o (draw_indexed_primitives s count start base) h
items_at-without issue s o (ClearColor rgba) h = tt
items_at-without issue s o (ClearDepthStencil depth stencil) h = tt
items_at-without issue s o c h = tt

-- ---- no item of a session has an issue that wasn't begun

behind_without : (issue : ℕ) (begun earlier cs : List Command) → length (issues begun) + length (issues earlier) + length (issues cs) ≤ issue → Without issue (items_behind begun earlier cs)
behind_without issue begun earlier [] h = tt
behind_without issue begun earlier (c ∷ cs) h =
    without-append issue (items_at (settings_after earlier) (open_after (begun ++ earlier)) c) (items_behind begun (earlier ++ c ∷ []) cs)
    (items_at-without issue (settings_after earlier) (open_after (begun ++ earlier)) c (not_open issue 0 (begun ++ earlier) (so_far _ _ _ _ (issues-append begun earlier) h)))
    (behind_without issue begun (earlier ++ c ∷ []) cs (further _ _ _ _ _ _ (issues-append earlier (c ∷ [])) (issues-append (c ∷ []) cs) h))
  where
    so_far : (a b d e : ℕ) → e ≡ a + b → a + b + d ≤ issue → 0 + e ≤ issue
    so_far a b d e p g = omega arith

    further : (a b d e f i : ℕ) → e ≡ b + d → f ≡ d + i → a + b + f ≤ issue → a + e + i ≤ issue
    further a b d e f i p q g = omega arith

step_without : (issue : ℕ) (earlier : List Step) (s : Step) → issues_begun earlier + length (issues (run s)) ≤ issue → Without issue (step_items earlier s)
step_without issue earlier (Records c) h =
    items_at-without issue (settings_after (all_seen earlier)) (open_after (all_run earlier)) c (not_open issue 0 (all_run earlier) (omega (arith, h)))
step_without issue earlier (Executes commands restore) h = behind_without issue (all_run earlier) [] commands (omega (arith, h))
step_without issue earlier Flushes h = tt

steps_without : (issue : ℕ) (earlier ss : List Step) → issues_begun earlier + issues_begun ss ≤ issue → Without issue (session_items earlier ss)
steps_without issue earlier [] h = tt
steps_without issue earlier (s ∷ ss) h =
    without-append issue (step_items earlier s) (session_items (earlier ++ s ∷ []) ss)
    (step_without issue earlier s (here _ _ _ _ (issues-append (run s) (all_run ss)) h))
    (steps_without issue (earlier ++ s ∷ []) ss (further _ _ _ _ _ (issues-append (run s) (all_run ss)) (ap (λ cs. length (issues cs)) (all_run-push earlier s) ∙ issues-append (all_run earlier) (run s)) h))
  where
    here : (a b d e : ℕ) → e ≡ b + d → a + e ≤ issue → a + b ≤ issue
    here a b d e p g = omega arith

    further : (a b d e f : ℕ) → e ≡ b + d → f ≡ a + b → a + e ≤ issue → f + d ≤ issue
    further a b d e f p q g = omega arith

pub session_without : (issue : ℕ) (steps : List Step) → issues_begun steps ≤ issue → Without issue (items_of_session steps)
session_without issue steps h = steps_without issue [] steps (omega (arith, h))

-- ---- a list's items behind others

sum_right : (a b c : ℕ) → a ≡ 0 → b ≡ c → a + b ≡ c
sum_right a b c p q = omega arith

sum_left : (a b : ℕ) → b ≡ 0 → a + b ≡ a
sum_left a b p = omega arith

none_counted : (w h : ℕ) (issue : ℕ) (is : List Item) (pixels : ℕ → ℕ → Pixel) → ((x y : ℕ) (old : Pixel) → count_at issue is x y old ≡ 0) → issue_count issue is w h pixels ≡ 0
none_counted w h issue is pixels none = same_sums h _ _ (λ y a. same_sums w _ _ (λ x b. none x y (pixels x y)) ∙ sum_none w) ∙ sum_none h

pub follows : (n : ℕ) (front : List Item) (list : List Command) (whole : List Item) → ((issue : ℕ) → n ≤ issue → Without issue front) → whole ≡ front ++ map (renumbered n) (items list) → Follows n front list whole
follows n front list whole none is =
    let back : List Item = map (renumbered n) (items list) in
    record {
      items_are = is;
      pixel = λ x y old.
          ap (λ l. after_items l x y old) is ∙ after_items-append front back x y old
          ∙ after_renumbered n (items list) x y (after_items front x y old);
      own = λ issue w h pixels.
          ap (λ l. issue_count (n + issue) l w h pixels) is ∙ issue_count-append (n + issue) front back w h pixels
          ∙ sum_right _ _ _
          (none_counted w h (n + issue) front pixels (λ x y old. count_without (n + issue) front x y old (none (n + issue) (omega arith))))
          (same_sums h _ _ (λ y a. same_sums w _ _ (λ x b. count_renumbered n issue (items list) x y (after_items front x y (pixels x y)))));
      earlier = λ issue w h pixels less.
          ap (λ l. issue_count issue l w h pixels) is ∙ issue_count-append issue front back w h pixels
          ∙ sum_left _ _ (none_counted w h issue back (λ x y. after_items front x y (pixels x y)) (λ x y old. count_earlier n issue (items list) x y old less));
    }

-- the count of the last issue, in the one or in the other
pub result_follows : (n : ℕ) (front : List Item) (list : List Command) (whole : List Item) → Follows n front list whole → (size : Size) (pixels : ℕ → ℕ → Pixel) (q : ℕ) (last : Option ℕ) → ((j : ℕ) → last ≡ Some j → j < n)
    → counted_or None (last_behind n last (last_begun q list)) whole size pixels ≡ result_after size list (λ x y. after_items front x y (pixels x y)) q (counted_or None last front size pixels)
result_follows n front list whole f size pixels q last below = by (last_begun q list)
  where
    before : (l : Option ℕ) → ((j : ℕ) → l ≡ Some j → j < n) → counted_or None l whole size pixels ≡ counted_or None l front size pixels
    before None h = refl
    before (Some j) h = ap (λ k. Some k) (f.earlier j size.width size.height pixels (h j refl))

    by : (o : Option ℕ) → counted_or None (last_behind n last o) whole size pixels ≡ counted_or (counted_or None last front size pixels) o (items list) size (λ x y. after_items front x y (pixels x y))
    by None = before last below
    by (Some k) = ap (λ k. Some k) (f.own k size.width size.height pixels)
