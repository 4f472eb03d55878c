-- Issues numbered behind those of earlier commands.
use Rattle.std.proofs.Common.{◌≡◌, ◌∙◌, ap, sym, refl, arith, ℕ, suc, ◌+◌, ◌<◌, Bool, true, false, ◌&&◌, ◌||◌, cond, List, [], ◌∷◌, ◌++◌, map, length, if◌then◌else◌}
use Rattle.std.specs.Prelude.{◌==◌}
use Rattle.std.specs.List.{list_any}
use Rattle.std.proofs.lemmas.Bool.Decides.{nat_tests}
use Rattle.std.proofs.lemmas.List.{map-append}
use Rattle.std.proofs.lemmas.List.Folds.{list_any-append}
use Rattle.gfxspec.specs.declared.pixel.Pixel.{Pixel}
use Rattle.gfxspec.specs.State.{Settings}
use Rattle.gfxspec.specs.Assembly.{Primitive, draw_primitives, draw_indexed_primitives}
use Rattle.gfxspec.specs.Items.{Item, Drawn, ColorCleared, DepthStencilCleared, after_item, after_items, count_at, issue_count, reaches, outcome}
use Rattle.gfxspec.specs.Commands.{Command, Draw, DrawIndexed, Begin}
use Rattle.gfxspec.specs.Recorded.{settings_after, open_from, open_after, queries_open, ends, items_at, items_behind, items, drawn_items, issues}
use Rattle.meaning.specs.Renumbering.{renumbered, Renumbers}
use Rattle.meaning.proofs.Sums.{same_sums, sum_none}

-- ---- open issues

other_first : (k n : ℕ) → n + k + 1 ≡ n + (k + 1)
other_first k n = omega arith

-- counting from further on
open_from-shift : (n k : ℕ) (cs : List Command) → open_from (n + k) cs ≡ map (λ j. n + j) (open_from k cs)
open_from-shift n k [] = refl
open_from-shift n k (Begin q ∷ cs) = chosen (list_any (ends q) cs) (ap (λ j. open_from j cs) (other_first k n) ∙ open_from-shift n (k + 1) cs)
  where
    chosen : (b : Bool) → open_from (n + k + 1) cs ≡ map (λ j. n + j) (open_from (k + 1) cs) → cond b (open_from (n + k + 1) cs) ((n + k) ∷ open_from (n + k + 1) cs) ≡ map (λ j. n + j) (cond b (open_from (k + 1) cs) (k ∷ open_from (k + 1) cs))
    chosen true e = e
    chosen false e = ap (λ l. (n + k) ∷ l) e
open_from-shift n k (c ∷ cs) = open_from-shift n k cs

plus_one : (k m : ℕ) → k + 1 + m ≡ k + suc m
plus_one k m = omega arith

from_start : (k : ℕ) → k ≡ k + 0
from_start k = omega arith

-- commands that leave no query open only move the numbers
open_from-behind : (k : ℕ) (begun cs : List Command) → queries_open begun ≡ [] → open_from k (begun ++ cs) ≡ open_from (k + length (issues begun)) cs
open_from-behind k [] cs h = ap (λ j. open_from j cs) (from_start k)
open_from-behind k (Begin q ∷ begun) cs h =
    chosen (list_any (ends q) begun) refl h (λ g. open_from-behind (k + 1) begun cs g ∙ ap (λ j. open_from j cs) (plus_one k (length (issues begun))))
  where
    chosen : (b : Bool) → list_any (ends q) begun ≡ b → cond b (queries_open begun) (q ∷ queries_open begun) ≡ [] → (queries_open begun ≡ [] → open_from (k + 1) (begun ++ cs) ≡ open_from (k + suc (length (issues begun))) cs) → cond (list_any (ends q) (begun ++ cs)) (open_from (k + 1) (begun ++ cs)) (k ∷ open_from (k + 1) (begun ++ cs)) ≡ open_from (k + suc (length (issues begun))) cs
    chosen true e g more = ap (λ b. cond b (open_from (k + 1) (begun ++ cs)) (k ∷ open_from (k + 1) (begun ++ cs))) (list_any-append (ends q) begun cs ∙ ap (λ b. b || list_any (ends q) cs) e) ∙ more g
    chosen false e g more = absurd cc
open_from-behind k (c ∷ begun) cs h = open_from-behind k begun cs h

pub open_after-behind : (begun cs : List Command) → queries_open begun ≡ [] → open_after (begun ++ cs) ≡ map (λ j. length (issues begun) + j) (open_after cs)
open_after-behind begun cs h =
    open_from-behind 0 begun cs h ∙ ap (λ j. open_from j cs) (flip (length (issues begun))) ∙ open_from-shift (length (issues begun)) 0 cs
  where
    flip : (m : ℕ) → 0 + m ≡ m + 0
    flip m = omega arith

-- ---- items

drawn_renumbered : (n : ℕ) (s : Settings) (o : List ℕ) (ps : List Primitive) → drawn_items s (map (λ k. n + k) o) ps ≡ map (renumbered n) (drawn_items s o ps)
drawn_renumbered n s o [] = refl
drawn_renumbered n s o (p ∷ ps) = ap (λ l. Drawn p s (map (λ k. n + k) o) ∷ l) (drawn_renumbered n s o ps)

pub items_at-renumbered : (n : ℕ) (s : Settings) (o : List ℕ) (c : Command) → items_at s (map (λ k. n + k) o) c ≡ map (renumbered n) (items_at s o c)
items_at-renumbered n s o (Draw count start) = drawn_renumbered n s o (draw_primitives s count start)
items_at-renumbered n s o (DrawIndexed count start base) = drawn_renumbered n s o (draw_indexed_primitives s count start base)
items_at-renumbered n s o c = refl

items_behind-renumbered : (begun earlier cs : List Command) → queries_open begun ≡ [] → items_behind begun earlier cs ≡ map (renumbered (length (issues begun))) (items_behind [] earlier cs)
items_behind-renumbered begun earlier [] h = refl
items_behind-renumbered begun earlier (c ∷ cs) h =
    let n = length (issues begun) in
    let s = settings_after earlier in
    ap (λ o. items_at s o c ++ items_behind begun (earlier ++ c ∷ []) cs) (open_after-behind begun earlier h)
    ∙ ap (λ is. is ++ items_behind begun (earlier ++ c ∷ []) cs) (items_at-renumbered n s (open_after earlier) c)
    ∙ ap (λ is. map (renumbered n) (items_at s (open_after earlier) c) ++ is) (items_behind-renumbered begun (earlier ++ c ∷ []) cs h)
    ∙ sym (map-append (renumbered n) (items_at s (open_after earlier) c) (items_behind [] (earlier ++ c ∷ []) cs))

-- ---- pixels and counts

pub after_renumbered : (n : ℕ) (is : List Item) (x y : ℕ) (old : Pixel) → after_items (map (renumbered n) is) x y old ≡ after_items is x y old
after_renumbered n [] x y old = refl
after_renumbered n (Drawn p s o ∷ is) x y old = after_renumbered n is x y (after_item (Drawn p s o) x y old)
after_renumbered n (ColorCleared c ∷ is) x y old = after_renumbered n is x y (after_item (ColorCleared c) x y old)
after_renumbered n (DepthStencilCleared d t ∷ is) x y old = after_renumbered n is x y (after_item (DepthStencilCleared d t) x y old)

moved : (n k issue : ℕ) → (n + k == n + issue) ≡ (k == issue)
moved n k issue = grind (arith, nat_tests)

any_moved : (n issue : ℕ) (o : List ℕ) → list_any (λ k. k == n + issue) (map (λ k. n + k) o) ≡ list_any (λ k. k == issue) o
any_moved n issue [] = refl
any_moved n issue (k ∷ o) = both (moved n k issue) (any_moved n issue o)
  where
    both : {a b c d : Bool} → a ≡ b → c ≡ d → (a || c) ≡ (b || d)
    both p q = rw (p, q) refl

not_earlier : (n k issue : ℕ) → issue < n → (n + k == issue) ≡ false
not_earlier n k issue h = grind (arith, nat_tests)

none_earlier : (n issue : ℕ) (o : List ℕ) → issue < n → list_any (λ k. k == issue) (map (λ k. n + k) o) ≡ false
none_earlier n issue [] h = refl
none_earlier n issue (k ∷ o) h = both (not_earlier n k issue h) (none_earlier n issue o h)
  where
    both : {a b : Bool} → a ≡ false → b ≡ false → (a || b) ≡ false
    both p q = rw (p, q) refl

sum_of_two : (a b c d : ℕ) → a ≡ c → b ≡ d → a + b ≡ c + d
sum_of_two a b c d p q = omega arith

pub count_renumbered : (n issue : ℕ) (is : List Item) (x y : ℕ) (old : Pixel) → count_at (n + issue) (map (renumbered n) is) x y old ≡ count_at issue is x y old
count_renumbered n issue [] x y old = refl
count_renumbered n issue (Drawn p s o ∷ is) x y old =
    sum_of_two _ _ _ _
    (ap (λ b. if b && (reaches p s x y && (outcome p s x y old).passed) then 1 else 0) (any_moved n issue o))
    (count_renumbered n issue is x y (after_item (Drawn p s o) x y old))
count_renumbered n issue (ColorCleared c ∷ is) x y old = sum_of_two _ _ _ _ refl (count_renumbered n issue is x y (after_item (ColorCleared c) x y old))
count_renumbered n issue (DepthStencilCleared d t ∷ is) x y old = sum_of_two _ _ _ _ refl (count_renumbered n issue is x y (after_item (DepthStencilCleared d t) x y old))

both_none : (a b : ℕ) → a ≡ 0 → b ≡ 0 → a + b ≡ 0
both_none a b p q = omega arith

pub count_earlier : (n issue : ℕ) (is : List Item) (x y : ℕ) (old : Pixel) → issue < n → count_at issue (map (renumbered n) is) x y old ≡ 0
count_earlier n issue [] x y old h = refl
count_earlier n issue (Drawn p s o ∷ is) x y old h =
    both_none _ _
    (ap (λ b. if b && (reaches p s x y && (outcome p s x y old).passed) then 1 else 0) (none_earlier n issue o h))
    (count_earlier n issue is x y (after_item (Drawn p s o) x y old) h)
count_earlier n issue (ColorCleared c ∷ is) x y old h = both_none _ _ refl (count_earlier n issue is x y (after_item (ColorCleared c) x y old) h)
count_earlier n issue (DepthStencilCleared d t ∷ is) x y old h = both_none _ _ refl (count_earlier n issue is x y (after_item (DepthStencilCleared d t) x y old) h)

pub renumbers : (begun commands : List Command) → queries_open begun ≡ [] → Renumbers begun commands
renumbers begun commands h =
    let n = length (issues begun) in
    let is = items_behind-renumbered begun [] commands h in
    record {
      items_are = is;
      pixel = λ x y old. ap (λ l. after_items l x y old) is ∙ after_renumbered n (items commands) x y old;
      own = λ issue w h opening.
          ap (λ l. issue_count (n + issue) l w h opening) is
          ∙ same_sums h _ _ (λ y a. same_sums w _ _ (λ x b. count_renumbered n issue (items commands) x y (opening x y)));
      earlier = λ issue w h opening l.
          ap (λ l. issue_count issue l w h opening) is
          ∙ same_sums h _ _ (λ y a. same_sums w _ _ (λ x b. count_earlier n issue (items commands) x y (opening x y) l) ∙ sum_none w)
          ∙ sum_none h;
    }
