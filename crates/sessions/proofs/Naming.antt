-- The lines that events come from: step n of the immediate context is its line n.
use Rattle.std.proofs.Common.{rules, ◌≡◌, ◌∙◌, ap, sym, subst, refl, arith, ℕ, suc, zero, ◌+◌, ◌<◌, ◌≤◌, true, List, [], ◌∷◌, ◌++◌, length, map, take, drop, get_or, append_assoc, length-append}
use Rattle.std.specs.Prelude.{All}
use Rattle.std.proofs.lemmas.List.{take_all, take_more, drop_more, take-append-drop, length-take-le, append-nil}
use Rattle.gfxspec.specs.declared.geometry.Size.{Size}
use Rattle.gfxspec.specs.Session.{Step, Records, Flushes}
use Rattle.scenetext.specs.Scene.{Verb, Call, Finish, Flush, Execute, Query, Pixel, Line}
use Rattle.scenetext.specs.Commands.{may_take}
use Rattle.scenetext.specs.Spelling.{AreLines, is_immediate_actor}
use Rattle.recorders.specs.Apart.{a_line, line_at}
use Rattle.pixelevents.specs.declared.Event.{Event}
use Rattle.pixelevents.specs.declared.Origin.{Origin}
use Rattle.pixelevents.specs.declared.NamedEvent.{NamedEvent}
use Rattle.pixelevents.specs.Named.{named_by}
use Rattle.pixelevents.specs.Origins.{ComesOf, IsOriginOf, AreNamed}
use Rattle.pixelevents.specs.Sessions.{session_history}
use Rattle.pixelevents.proofs.OriginLaws.{named_as}
use Rattle.pixelhistory.specs.declared.session.SessionTrace.{SessionTrace}
use Rattle.pixelhistory.proofs.Naming.{events_named, names_are}
use Rattle.sessions.specs.Lists.{steps_of, steps_behind, actor_steps, verb_steps}
use Rattle.sessions.specs.Playing.{own_count, own_place}
use Rattle.sessions.specs.Histories.{IsOfLine, IsNamedHistory, named_event}
use Rattle.sessions.proofs.Played.{steps_of-push}
use Rattle.sessions.proofs.Steps.{IsNext, next_line, none_steps, all_own}

-- ---- lists

-- an element at the same place in two spellings of a list
module _ {A : Type 0} where
  same_at : (xs : List A) (x : A) (ys front : List A) (c : A) (back : List A) → xs ++ x ∷ ys ≡ front ++ c ∷ back → length xs ≡ length front → (xs ≡ front) × (x ≡ c)
  same_at [] x ys [] c back h l = (refl, cc)
  same_at [] x ys (f ∷ fs) c back h l = absurd (omega (arith, l))
  same_at (y ∷ xs) x ys [] c back h l = absurd (omega (arith, l))
  same_at (y ∷ xs) x ys (f ∷ fs) c back h l =
      let rest : xs ++ x ∷ ys ≡ fs ++ c ∷ back = cc in
      let first : y ≡ f = cc in
      let more = same_at xs x ys fs c back rest (omega (arith, l)) in
      (ap (λ z. z ∷ xs) first ∙ ap (λ zs. f ∷ zs) more.0, more.1)

-- ---- steps of lines

-- a line of the immediate context is one step
one_step : (e : List Line) (v : Verb) → may_take v true ≡ true → (s : Step) × (verb_steps e v ≡ s ∷ [])
one_step e (Call k) h = (Records k, refl)
one_step e (Finish restore) h = absurd cc
one_step e Flush h = (Flushes, refl)
one_step e (Execute k n restore) h = (_, refl)
one_step e (Query q) h = (Flushes, refl)
one_step e (Pixel x y) h = (Flushes, refl)

-- the steps of lines are those of the first, and of the others behind them
steps_apart : (earlier front back : List Line) → steps_behind earlier (front ++ back) ≡ steps_behind earlier front ++ steps_behind (earlier ++ front) back
steps_apart earlier [] back = ap (λ e. steps_behind e back) (sym (append-nil earlier))
steps_apart earlier (l ∷ ls) back =
    ap (λ ss. actor_steps earlier l.actor l.verb ++ ss) (steps_apart (earlier ++ l ∷ []) ls back)
    ∙ sym (append_assoc (actor_steps earlier l.actor l.verb) (steps_behind (earlier ++ l ∷ []) ls) (steps_behind ((earlier ++ l ∷ []) ++ ls) back))
    ∙ ap (λ e. (actor_steps earlier l.actor l.verb ++ steps_behind (earlier ++ l ∷ []) ls) ++ steps_behind e back) (append_assoc earlier (l ∷ []) ls)

module _ (size : Size) (ls : List Line) (sound : AreLines [] ls) where
  -- line n of the immediate context
  record IsOwn (n : ℕ) : Type 0 where
    next : IsNext ls n (line_at ls (own_place ls n))
    step : Step
    does : actor_steps (take (own_place ls n) ls) (line_at ls (own_place ls n)).actor (line_at ls (own_place ls n)).verb ≡ step ∷ []

  own_line : (n : ℕ) → n < own_count ls → IsOwn n
  own_line n low =
      let l = line_at ls (own_place ls n) in
      let next = next_line ls n l sound low refl in
      let one = one_step (take (own_place ls n) ls) l.verb (ap (λ a. may_take l.verb (is_immediate_actor a)) (sym next.own) ∙ next.is.taken) in
      record { next = next; step = one.0; does = ap (λ a. actor_steps (take (own_place ls n) ls) a l.verb) next.own ∙ one.1 }

  -- it has n steps before it
  steps_before : (n : ℕ) → n ≤ own_count ls → length (steps_of (take (own_place ls n) ls)) ≡ n
  steps_before zero low = ap length (sym (none_steps size ls sound))
  steps_before (suc n) low =
      let p = own_place ls n in
      let l = line_at ls p in
      let own = own_line n (omega (arith, low)) in
      subst (λ m. length (steps_of (take (own_place ls m) ls)) ≡ m) (more n)
      (ap length (sym (own.next.on size).steps
      ∙ ap steps_of (take_more ls p l own.next.below)
      ∙ steps_of-push (take p ls) (get_or ls p l)
      ∙ ap (λ (m : Line). steps_of (take p ls) ++ actor_steps (take p ls) m.actor m.verb) (here own.next.below)
      ∙ ap (λ ss. steps_of (take p ls) ++ ss) own.does)
      ∙ length-append (steps_of (take p ls)) (own.step ∷ [])
      ∙ ap (λ k. k + 1) (steps_before n (omega (arith, low))))
    where
      more : (n : ℕ) → n + 1 ≡ suc n
      more n = omega arith

      here : own_place ls n < length ls → get_or ls (own_place ls n) (line_at ls (own_place ls n)) ≡ line_at ls (own_place ls n)
      here h = search rules

  -- there are as many steps as own lines
  pub steps_counted : length (steps_of ls) ≡ own_count ls
  steps_counted =
      ap (λ l. length (steps_of l)) (sym (take_all (length ls) ls (omega arith)) ∙ ap (λ n. take n ls) (sym (all_own ls)))
      ∙ steps_before (own_count ls) (omega arith)

  -- the origin of an item names its line
  pub of_line : (item : ℕ) (o : Origin) → IsOriginOf size (steps_of ls) item o → IsOfLine size ls item (own_place ls o.step + 2) o.place
  of_line item o h =
      let n = o.step in
      let p = own_place ls n in
      let l = line_at ls p in
      let low : n < own_count ls = below (length (steps_of ls)) (length h.front) n (length h.back) (ap length h.split ∙ length-append h.front (h.step ∷ h.back)) h.before steps_counted in
      let own = own_line n low in
      let whole : ls ≡ take p ls ++ l ∷ drop (p + 1) ls = split p own.next.below in
      let steps : steps_of ls ≡ steps_of (take p ls) ++ own.step ∷ steps_behind (take p ls ++ l ∷ []) (drop (p + 1) ls) =
      ap steps_of whole ∙ steps_apart [] (take p ls) (l ∷ drop (p + 1) ls)
      ∙ ap (λ ss. steps_of (take p ls) ++ (ss ++ steps_behind (take p ls ++ l ∷ []) (drop (p + 1) ls))) own.does in
      let same = same_at (steps_of (take p ls)) own.step (steps_behind (take p ls ++ l ∷ []) (drop (p + 1) ls)) h.front h.step h.back (sym steps ∙ h.split) (steps_before n (omega (arith, low)) ∙ h.before) in
      record {
        front = take p ls;
        own = l;
        back = drop (p + 1) ls;
        split = whole;
        before = ap (λ k. k + 2) (sym (length-take-le p ls (omega (arith, own.next.below))));
        step = own.step;
        does = own.does;
        comes = subst (λ ss. ComesOf size ss own.step item o.place) (sym same.0) (subst (λ s. ComesOf size h.front s item o.place) (sym same.1) h.comes);
      }
    where
      below : (all f n b : ℕ) → all ≡ f + suc b → n ≡ f → all ≡ own_count ls → n < own_count ls
      below all f n b p q r = omega (arith, p, q, r)

      split : (p : ℕ) → p < length ls → ls ≡ take p ls ++ line_at ls p ∷ drop (p + 1) ls
      split p h = sym (take-append-drop p ls) ∙ ap (λ r. take p ls ++ r) (drop_more ls p a_line h)

  pub numbers_low : (es : List Event) (os : List Origin) → AreNamed (IsOriginOf size (steps_of ls)) es os → AreNamed (λ k o. o.step < own_count ls) es os
  numbers_low es os h = named_as (IsOriginOf size (steps_of ls)) (λ k o. o.step < own_count ls) (λ k o g. low o g.front g.back g.before (ap length g.split ∙ length-append g.front (g.step ∷ g.back))) es os h
    where
      low : (o : Origin) (front back : List Step) → o.step ≡ length front → length (steps_of ls) ≡ length front + suc (length back) → o.step < own_count ls
      low o front back p q = omega (arith, p, q, steps_counted)

-- the named history, from what the trace has
pub named_history : {A : Type 0} (size : Size) (ls : List Line) → AreLines [] ls → (x y : ℕ) (t : SessionTrace A) → t.trace.events.items ≡ session_history size (steps_of ls) x y → AreNamed (IsOriginOf size (steps_of ls)) t.trace.events.items t.origins.items → (events : List NamedEvent) → events ≡ named_by (named_event ls) t.trace.events.items t.origins.items → IsNamedHistory size ls x y events
named_history size ls sound x y t history named events told =
    let P = IsOriginOf size (steps_of ls) in
    record {
      events_are = ap (map (λ (e : NamedEvent). e.event)) told ∙ events_named (named_event ls) (λ e o. refl) P t.trace.events.items t.origins.items named ∙ history;
      named = subst (All (λ (e : NamedEvent). IsOfLine size ls e.event.item e.line e.place)) (sym told)
          (names_are (named_event ls) P (λ (e : NamedEvent). IsOfLine size ls e.event.item e.line e.place) (λ e o. of_line size ls sound e.item o) t.trace.events.items t.origins.items named);
    }
