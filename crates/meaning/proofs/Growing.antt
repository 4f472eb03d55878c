-- Items, issues and open queries behind one more command.
use Rattle.std.proofs.Common.{◌≡◌, ◌∙◌, ◌≤◌, ap, sym, subst, refl, ℕ, ◌+◌, arith, Bool, true, false, List, [], ◌∷◌, ◌++◌, length, append_assoc}
use Rattle.std.specs.Prelude.{count_by, cond, ◌==◌, ◌||◌}
use Rattle.std.specs.List.{list_any}
use Rattle.std.proofs.Math.Numerals.{one-add}
use Rattle.std.proofs.Math.Bool.{or-false}
use Rattle.std.proofs.lemmas.List.{append-nil}
use Rattle.std.proofs.lemmas.List.Folds.{list_any-append}
use Rattle.std.proofs.lemmas.List.Sums.{sum_by-append, sum_by-cons}
use Rattle.std.proofs.lemmas.List.Elements.{filter_map-append}
use Rattle.gfxspec.specs.State.{Settings}
use Rattle.gfxspec.specs.Assembly.{Primitive, draw_primitives, draw_indexed_primitives}
use Rattle.gfxspec.specs.Items.{Drawn}
use Rattle.gfxspec.specs.Commands.{Command, Draw, DrawIndexed, Begin, End}
use Rattle.gfxspec.specs.Recorded.{settings_after, open_after, queries_open, ends, items_at, items_behind, items, drawn_items, is_drawn, triangle_count, issues, query_begun}
use Rattle.meaning.specs.OneMore.{triangles_of, without, queries_with}
use Rattle.gfxspec.specs.Accepted.{IsAccepted, AcceptedBehind, AreAccepted}

-- the items of one more command stand at the end
pub items_behind-push : (begun earlier cs : List Command) (c : Command) → items_behind begun earlier (cs ++ c ∷ []) ≡ items_behind begun earlier cs ++ items_at (settings_after (earlier ++ cs)) (open_after (begun ++ (earlier ++ cs))) c
items_behind-push begun earlier [] c =
    append-nil _ ∙ ap (λ e. items_at (settings_after e) (open_after (begun ++ e)) c) (sym (append-nil earlier))
items_behind-push begun earlier (d ∷ cs) c =
    ap (λ x. items_at (settings_after earlier) (open_after (begun ++ earlier)) d ++ x) (items_behind-push begun (earlier ++ d ∷ []) cs c)
    ∙ ap (λ e. items_at (settings_after earlier) (open_after (begun ++ earlier)) d ++ (items_behind begun (earlier ++ d ∷ []) cs ++ items_at (settings_after e) (open_after (begun ++ e)) c)) (append_assoc earlier (d ∷ []) cs)
    ∙ sym (append_assoc (items_at (settings_after earlier) (open_after (begun ++ earlier)) d) (items_behind begun (earlier ++ d ∷ []) cs) (items_at (settings_after (earlier ++ (d ∷ cs))) (open_after (begun ++ (earlier ++ (d ∷ cs)))) c))

pub items-push : (cs : List Command) (c : Command) → items (cs ++ c ∷ []) ≡ items cs ++ items_at (settings_after cs) (open_after cs) c
items-push cs c = items_behind-push [] [] cs c

pub issues-push : (cs : List Command) (c : Command) → issues (cs ++ c ∷ []) ≡ issues cs ++ issues (c ∷ [])
issues-push cs c = filter_map-append query_begun cs (c ∷ [])

drawn_count : (s : Settings) (opened : List ℕ) (ps : List Primitive) → count_by is_drawn (drawn_items s opened ps) ≡ length ps
drawn_count s opened [] = refl
drawn_count s opened (p ∷ ps) =
    sum_by-cons (λ i. cond (is_drawn i) 1 0) (Drawn p s opened) (drawn_items s opened ps) ∙ ap (λ n. 1 + n) (drawn_count s opened ps) ∙ one-add (length ps)

count-items_at : (s : Settings) (opened : List ℕ) (c : Command) → count_by is_drawn (items_at s opened c) ≡ triangles_of s c
count-items_at s opened (Draw count start) = drawn_count s opened (draw_primitives s count start)
count-items_at s opened (DrawIndexed count start base) = drawn_count s opened (draw_indexed_primitives s count start base)
count-items_at s opened c = refl

-- each command adds its triangles to those of the list
pub triangle_count-push : (cs : List Command) (c : Command) → triangle_count (cs ++ c ∷ []) ≡ triangle_count cs + triangles_of (settings_after cs) c
triangle_count-push cs c =
    ap (count_by is_drawn) (items-push cs c)
    ∙ sum_by-append (λ i. cond (is_drawn i) 1 0) (items cs) (items_at (settings_after cs) (open_after cs) c)
    ∙ ap (λ n. triangle_count cs + n) (count-items_at (settings_after cs) (open_after cs) c)

-- a command that is accepted behind accepted ones
pub accepted_behind-push : (earlier cs : List Command) (c : Command) → AcceptedBehind earlier cs → IsAccepted (earlier ++ cs) c → AcceptedBehind earlier (cs ++ c ∷ [])
accepted_behind-push earlier [] c h k = (subst (λ e. IsAccepted e c) (append-nil earlier) k, tt)
accepted_behind-push earlier (d ∷ cs) c h k = (h.0, accepted_behind-push (earlier ++ d ∷ []) cs c h.1 (subst (λ e. IsAccepted e c) (sym (append_assoc earlier (d ∷ []) cs)) k))

pub accepted-push : (cs : List Command) (c : Command) → AreAccepted cs → IsAccepted cs c → AreAccepted (cs ++ c ∷ [])
accepted-push cs c h k = accepted_behind-push [] cs c h k

begun-push : (cs : List Command) (q : ℕ) → queries_open (cs ++ Begin q ∷ []) ≡ queries_open cs ++ q ∷ []
begun-push [] q = refl
begun-push (Begin p ∷ cs) q =
    ap (λ b. cond b (queries_open (cs ++ Begin q ∷ [])) (p ∷ queries_open (cs ++ Begin q ∷ []))) (list_any-append (ends p) cs (Begin q ∷ []) ∙ or-false (list_any (ends p) cs))
    ∙ chosen (list_any (ends p) cs) (begun-push cs q)
  where
    chosen : (b : Bool) → queries_open (cs ++ Begin q ∷ []) ≡ queries_open cs ++ q ∷ [] → cond b (queries_open (cs ++ Begin q ∷ [])) (p ∷ queries_open (cs ++ Begin q ∷ [])) ≡ cond b (queries_open cs) (p ∷ queries_open cs) ++ q ∷ []
    chosen true e = e
    chosen false e = ap (λ qs. p ∷ qs) e
begun-push (c ∷ cs) q = begun-push cs q

ended-push : (cs : List Command) (q : ℕ) → queries_open (cs ++ End q ∷ []) ≡ without q (queries_open cs)
ended-push [] q = refl
ended-push (Begin p ∷ cs) q =
    ap (λ b. cond b (queries_open (cs ++ End q ∷ [])) (p ∷ queries_open (cs ++ End q ∷ []))) (list_any-append (ends p) cs (End q ∷ []))
    ∙ chosen (list_any (ends p) cs) (q == p) refl (ended-push cs q)
  where
    chosen : (b e : Bool) → (q == p) ≡ e → queries_open (cs ++ End q ∷ []) ≡ without q (queries_open cs) → cond (b || (e || false)) (queries_open (cs ++ End q ∷ [])) (p ∷ queries_open (cs ++ End q ∷ [])) ≡ without q (cond b (queries_open cs) (p ∷ queries_open cs))
    chosen true e is h = h
    chosen false true is h = h ∙ rw is refl
    chosen false false is h = ap (λ qs. p ∷ qs) h ∙ rw is refl
ended-push (c ∷ cs) q = ended-push cs q

-- a command that neither begins nor ends a query
still-push : (cs : List Command) (c : Command) → ((p : ℕ) → ends p c ≡ false) → queries_open (c ∷ []) ≡ [] → queries_open (cs ++ c ∷ []) ≡ queries_open cs
still-push [] c h k = k
still-push (Begin p ∷ cs) c h k =
    ap (λ b. cond b (queries_open (cs ++ c ∷ [])) (p ∷ queries_open (cs ++ c ∷ []))) (list_any-append (ends p) cs (c ∷ []) ∙ ap (λ b. list_any (ends p) cs || (b || false)) (h p) ∙ or-false (list_any (ends p) cs))
    ∙ ap (λ qs. cond (list_any (ends p) cs) qs (p ∷ qs)) (still-push cs c h k)
still-push (d ∷ cs) c h k = still-push cs c h k

pub queries_open-push : (cs : List Command) (c : Command) → queries_open (cs ++ c ∷ []) ≡ queries_with c (queries_open cs)
queries_open-push cs (Begin q) = begun-push cs q
queries_open-push cs (End q) = ended-push cs q
queries_open-push cs c = still-push cs c (λ p. refl) refl

-- no more queries are open than were begun
pub open_few : (cs : List Command) → length (queries_open cs) ≤ length (issues cs)
open_few [] = omega arith
open_few (Begin q ∷ cs) = fewer (list_any (ends q) cs) (open_few cs)
  where
    fewer : (b : Bool) → length (queries_open cs) ≤ length (issues cs) → length (cond b (queries_open cs) (q ∷ queries_open cs)) ≤ length (q ∷ issues cs)
    fewer true h = omega arith
    fewer false h = omega arith
open_few (c ∷ cs) = open_few cs
