-- How calls answer that lines spell, from what the calls of the contexts say.
use Rattle.std.proofs.Common.{◌≡◌, ◌∙◌, ⊎_elim, ap, sym, subst, refl, ℕ, ◌<◌, arith, Bool, true, false, List, [], length, set, get_or, inl, inr, Option, Some}
use Rattle.std.specs.Prelude.{slice_index_or, Result, Ok, Err, IfOk, OnOk, OnErr}
use Rattle.std.proofs.lemmas.List.{get_or-set_same, get_or-set_other, get_or_default, set-get_or}
use Rattle.gfxspec.specs.declared.error.GfxError.{GfxError}
use Rattle.gfxspec.specs.Error.{error_number}
use Rattle.gfxspec.specs.declared.pixel.Pixel.{Pixel as PixelValue}
use Rattle.gfxspec.specs.Commands.{Command}
use Rattle.gfxspec.specs.Recorded.{queries_open}
use Rattle.gfxspec.specs.Refusals.{AnswersBy, flush_rows, pixel_rows, query_rows}
use Rattle.gfxspec.specs.Accepted.{AreAccepted}
use Rattle.command.specs.Calls.{RecordsCall}
use Rattle.scenetext.specs.Scene.{Immediate, Deferred, Verb, Call, Finish, Flush, Execute, Query, Pixel}
use Rattle.scenetext.specs.Commands.{may_take}
use Rattle.immediate.specs.Held.{Held, held_more, shown, answered, Runs, Enqueues, IsRefused}
use Rattle.recorders.specs.Recording.{Recording, nothing_recorded, with_verb, deferred_rows}
use Rattle.answers.specs.declared.line.Answer.{Answer}
use Rattle.sessions.specs.Calling.{DeferredCalled}
use Rattle.player.specs.Lines.{deferred_of, contexts_of, IsLeft}
use Rattle.player.specs.Answered.{untold, count_told, pixel_told, ImmediateAnswers, CallAnswers}

-- ---- on the immediate context

module _ (d : ℕ → Recording) (old new : Held) where
  pub recorded : (c : Command) (r : Result (Unit {0}) GfxError) → RecordsCall (λ (h : Held). h.pending) held_more old c new r → ImmediateAnswers d (Call c) old new (untold r)
  recorded c (Ok done) call = (record { answer = call.answer; ok = call.ok; err = tt }, refl)
  recorded c (Err e) call = (call.answer, inl call.err)

  pub flushed : (r : Result (Unit {0}) GfxError) → Runs (flush_rows (queries_open old.pending)) [] true old new r → ImmediateAnswers d Flush old new (untold r)
  flushed (Ok done) runs = (record { answer = runs.answer; ok = runs.ok; err = tt }, refl)
  flushed (Err e) runs = (runs.answer, runs.err)

  executed_as : (k n : ℕ) (restore : Bool) (r : Result (Unit {0}) GfxError) → queries_open (slice_index_or (d k).lists n []) ≡ [] → AreAccepted (slice_index_or (d k).lists n []) → Enqueues (flush_rows (queries_open old.pending)) (slice_index_or (d k).lists n []) restore old new r → ImmediateAnswers d (Execute k n restore) old new (untold r)
  executed_as k n restore (Ok done) none accepted runs = (record { none_open = none; accepted = accepted; called = inr (record { answer = runs.answer; ok = runs.ok; err = tt }) }, refl)
  executed_as k n restore (Err e) none accepted runs = (runs.answer, runs.err)

  pub executed : (k n : ℕ) (restore : Bool) (list : List Command) (r : Result (Unit {0}) GfxError) → list ≡ slice_index_or (d k).lists n [] → queries_open list ≡ [] → AreAccepted list → Enqueues (flush_rows (queries_open old.pending)) list restore old new r → ImmediateAnswers d (Execute k n restore) old new (untold r)
  executed k n restore list r same none accepted runs =
      executed_as k n restore r (subst (λ (l : List Command). queries_open l ≡ []) same none) (subst AreAccepted same accepted)
      (subst (λ (l : List Command). Enqueues (flush_rows (queries_open old.pending)) l restore old new r) same runs)

  pub asked : (q : ℕ) (r : Result ℕ GfxError) → Runs (query_rows (queries_open old.pending) (answered old q) q) [] true old new r → IfOk r (λ count. Some count ≡ answered old q) → ImmediateAnswers d (Query q) old new (count_told q r)
  asked q (Ok count) runs value = (count, record { answer = runs.answer; ok = runs.ok; err = tt }, value, refl)
  asked q (Err e) runs value = (runs.answer, runs.err)

  pub looked : (x y : ℕ) (r : Result PixelValue GfxError) → Runs (pixel_rows old.surface.size (queries_open old.pending) x y) [] true old new r → IfOk r (λ p. p ≡ shown old x y) → ImmediateAnswers d (Pixel x y) old new (pixel_told x y r)
  looked x y (Ok value) runs is = (value, record { answer = runs.answer; ok = runs.ok; err = tt }, is, refl)
  looked x y (Err e) runs is = (runs.answer, runs.err)

-- ---- on a deferred context

called_as : (v : Verb) (old : Recording) → may_take v false ≡ true → AnswersBy {T = Unit {0}} (deferred_rows old.current v) (Ok tt) → DeferredCalled v old (with_verb old v)
called_as (Call c) old taken accepted = (record { answer = accepted; ok = refl; err = tt }, refl)
called_as (Finish restore) old taken accepted = (old.current, accepted, refl, refl, refl)
called_as Flush old taken accepted = absurd cc
called_as (Execute k n restore) old taken accepted = absurd cc
called_as (Query q) old taken accepted = absurd cc
called_as (Pixel x y) old taken accepted = absurd cc

-- of the eight, context k is answered, and the others stay
module _ (h : Held) (k : ℕ) (v : Verb) (taken : may_take v false ≡ true) where
  on_items : (p : List Recording) (one : Recording) (r : Result (Unit {0}) GfxError) → k < length p → AnswersBy (deferred_rows (deferred_of p k).current v) r → OnOk r (one ≡ with_verb (deferred_of p k) v) → CallAnswers (contexts_of p h) (Deferred k) v (contexts_of (set p k one) h) (untold r)
  on_items p one (Err e) low answer ok = (answer, inl refl)
  on_items p one (Ok done) low answer ok = (own, others, refl, refl)
    where
      own : DeferredCalled v (deferred_of p k) (deferred_of (set p k one) k)
      own = subst (DeferredCalled v (deferred_of p k)) (sym (get_or-set_same p k one nothing_recorded low ∙ ok)) (called_as v (deferred_of p k) taken answer)

      others : (j : ℕ) → (j ≡ k → ⊥) → deferred_of (set p k one) j ≡ deferred_of p j
      others j other = get_or-set_other p k j one nothing_recorded other

pub on_deferred : (items p : List Recording) (h : Held) (k : ℕ) (v : Verb) → items ≡ p → k < 8 → length items ≡ 8 → may_take v false ≡ true → (was one : Recording) → was ≡ get_or items k was → (r : Result (Unit {0}) GfxError) → AnswersBy (deferred_rows was.current v) r → OnOk r (one ≡ with_verb was v) → OnErr r (one ≡ was) → CallAnswers (contexts_of p h) (Deferred k) v (contexts_of (set items k one) h) (untold r)
on_deferred items p h k v same low wide taken was one at r answer ok err =
    let inside : k < length items = omega (arith, low, wide) in
    let here : was ≡ deferred_of items k = at ∙ get_or_default items k was nothing_recorded inside in
    subst (λ (xs : List Recording). CallAnswers (contexts_of xs h) (Deferred k) v (contexts_of (set items k one) h) (untold r)) same
    (on_items h k v taken items one r inside (subst (λ (x : Recording). AnswersBy (deferred_rows x.current v) r) here answer) (subst (λ (x : Recording). OnOk r (one ≡ with_verb x v)) here ok))

-- and where it refuses, nothing is changed
pub unchanged : (items p : List Recording) (k : ℕ) (was one : Recording) (r : Result (Unit {0}) GfxError) (t : Result (Option Answer) GfxError) → t ≡ untold r → items ≡ p → was ≡ get_or items k was → OnErr r (one ≡ was) → OnErr t (set items k one ≡ p)
unchanged items p k was one (Ok done) t is same at err = subst (λ x. OnErr x (set items k one ≡ p)) (sym is) tt
unchanged items p k was one (Err e) t is same at err =
    subst (λ x. OnErr x (set items k one ≡ p)) (sym is) (ap (set items k) (err ∙ at) ∙ set-get_or items k was ∙ same)

pub on_immediate : (p : List Recording) (v : Verb) (old new : Held) (r : Result _ GfxError) → ImmediateAnswers (deferred_of p) v old new r → CallAnswers (contexts_of p old) Immediate v (contexts_of p new) r
on_immediate p v old new (Ok told) a = (a, λ k. refl)
on_immediate p v old new (Err e) a = a

-- a list of a context that was looked up
pub list_of : (p : List Recording) (k n : ℕ) (one : Recording) (list : List Command) → k < 8 → length p ≡ 8 → one ≡ get_or p k one → list ≡ slice_index_or one.lists n [] → list ≡ slice_index_or (deferred_of p k).lists n []
list_of p k n one list low wide at is =
    let inside : k < length p = omega (arith, low, wide) in
    is ∙ ap (λ (x : Recording). slice_index_or x.lists n []) (at ∙ get_or_default p k one nothing_recorded inside)

-- what a refused call leaves, by its number
pub left_by : (e : GfxError) (number : ℕ) (old new : Held) → number ≡ error_number e → IsRefused e old new → IsLeft number old new
left_by e number old new numbered refused = ⊎_elim (λ same. inl same) (λ memory. inr (numbered ∙ ap error_number memory.0, memory.1)) refused
