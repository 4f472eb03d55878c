-- Lines that are accepted and answered, one by one, and one more line of the immediate context.
use Rattle.std.proofs.Common.{◌≡◌, ◌∙◌, ◌⊎◌, inl, inr, ap, sym, subst, refl, ℕ, ◌+◌, ◌<◌, ◌≤◌, arith, Bool, true, false, true≢false, List, [], ◌∷◌, ◌++◌, length, take, map, get_or, below_more, Option, None, Some, zero, suc, ◌-◌, ◌%◌, ◌==◌, drop, append_assoc}
use Rattle.std.specs.Prelude.{if◌then◌else◌, is_none, Result, Ok, Err, OnOk, IfErr, MatchOption, MatchResult}
use Rattle.std.proofs.lemmas.List.{length-map, take_more, take_all, append-nil, get_or-map, get_or_past, length-append}
use Rattle.gfxspec.specs.declared.geometry.Size.{Size}
use Rattle.gfxspec.specs.declared.error.GfxError.{GfxError}
use Rattle.gfxspec.specs.Commands.{Command}
use Rattle.gfxspec.specs.Refusals.{first_row, AnswersBy}
use Rattle.meaning.specs.Standing.{Stands, IsNew}
use Rattle.meaning.proofs.Contexts.{stands_new}
use Rattle.scenetext.specs.Seen.{verb_value}
use Rattle.scenetext.specs.Scene.{Actor, Immediate, Deferred, Verb, Call, Finish, Flush, Execute, Query, Pixel, Line}
use Rattle.scenetext.specs.Commands.{may_take}
use Rattle.scenetext.specs.Spelling.{is_immediate_actor, HasList, IsLine, AreLines}
use Rattle.recorders.specs.Recording.{recording_of, listed}
use Rattle.recorders.specs.Apart.{a_line, line_at, Cause}
use Rattle.recorders.proofs.Recordings.{lists_counted}
use Rattle.recorders.proofs.Growing.{listed_early}
use Rattle.recorders.specs.Dealing.{taker_of, places_of}
use Rattle.recorders.proofs.Places.{IsFirst, first, next_place, kept_on}
use Rattle.immediate.specs.Held.{Held, Executed, Ran, context_of}
use Rattle.sessions.specs.declared.play.Played.{Played}
use Rattle.sessions.specs.declared.play.Interruption.{Interruption}
use Rattle.sessions.specs.declared.play.Interruption.TheVariants.{Refused}
use Rattle.gfxspec.specs.Session.{Step, Executes, Flushes}
use Rattle.sessions.specs.Lists.{taken_steps, verb_steps, actor_steps, steps_of}
use Rattle.answers.specs.declared.line.Answer.{Answer}
use Rattle.answers.specs.Lines.{answer_lines, answer_line}
use Rattle.sessions.specs.Answers.{answer_of, line_rows, refusal, answers_behind, answers_or, answers_from}
use Rattle.sessions.specs.Playing.{own_count, own_place, IsPlayed, ListsOf, ImmediateAccepts, HasReached, IsInterrupted, IsTold, IsPlayedTo, HasTakenAll, HasFinished, HasEndedWith}
use Rattle.sessions.specs.Taking.{held_rows, HasTaken, HasRun, held_answers, Interrupts, TracesOn}
use Rattle.sessions.proofs.Played.{steps_of-push, rows_are, next_played, answers_are}
use Rattle.std.proofs.lemmas.Bool.{eqb-true}
use Rattle.std.proofs.Math.Nat.{mod-lt}
use Rattle.std.proofs.lemmas.List.Concat.{flat_map-append}
use Rattle.std.proofs.Math.Seq.{take-add, take-append_seam}
use Rattle.scenetext.specs.declared.scene.Verb as code_verb
use Rattle.scenetext.specs.declared.scene.Verb.TheVariants as verbs

line_behind : (earlier ls : List Line) (i : ℕ) → i < length ls → AreLines earlier ls → IsLine (earlier ++ take i ls) (line_at ls i)
line_behind earlier [] i below h = absurd (omega (arith, below))
line_behind earlier (l ∷ ls) zero below h = subst (λ e. IsLine e l) (sym (append-nil earlier)) h.0
line_behind earlier (l ∷ ls) (suc i) below h = subst (λ e. IsLine e (line_at ls i)) (append_assoc earlier (l ∷ []) (take i ls)) (line_behind (earlier ++ l ∷ []) ls i (omega (arith, below)) h.1)

pub is_line : (ls : List Line) (i : ℕ) → i < length ls → AreLines [] ls → IsLine (take i ls) (line_at ls i)
is_line ls i below h = line_behind [] ls i below h

-- line i of the scene is this
pub line_is : {X : Type 0} (f : X → Line) (xs : List X) (i : ℕ) (x : X) → i < length xs → x ≡ get_or xs i x → f x ≡ line_at (map f xs) i
line_is f xs i x below at = ap f at ∙ sym (get_or-map f xs i x a_line below)

-- ---- what lines are answered

behind-append : (size : Size) (earlier xs ys : List Line) → answers_behind size earlier (xs ++ ys) ≡ answers_behind size earlier xs ++ answers_behind size (earlier ++ xs) ys
behind-append size earlier [] ys = ap (λ e. answers_behind size e ys) (sym (append-nil earlier))
behind-append size earlier (m ∷ xs) ys =
    ap (λ xs. answer_of size earlier m.verb ++ xs) (behind-append size (earlier ++ m ∷ []) xs ys ∙ ap (λ e. answers_behind size (earlier ++ m ∷ []) xs ++ answers_behind size e ys) (append_assoc earlier (m ∷ []) xs))
    ∙ sym (append_assoc (answer_of size earlier m.verb) _ _)

module _ (size : Size) (ls : List Line) where
  -- by the first i lines
  abbrev pub said : ℕ → List Answer
  said i = answers_behind size [] (take i ls)

  pub one_more : (i : ℕ) → i < length ls → said (i + 1) ≡ said i ++ answer_of size (take i ls) (line_at ls i).verb
  one_more i below =
      ap (answers_behind size []) (take_more ls i a_line below) ∙ behind-append size [] (take i ls) (line_at ls i ∷ [])
      ∙ ap (λ xs. said i ++ xs) (append-nil (answer_of size (take i ls) (line_at ls i).verb))

  -- the answers of fewer lines are the first of them
  pub first_told : (few i n : ℕ) → few ≤ i → length (said few) ≡ n → take n (said i) ≡ said few
  first_told few i n less count =
      let split : i ≡ few + (i - few) = omega (arith, less) in
      let more = answers_behind size (take few ls) (take (i - few) (drop few ls)) in
      ap (λ m. take n (said m)) split ∙ ap (λ xs. take n (answers_behind size [] xs)) (take-add few (i - few) ls)
      ∙ ap (take n) (behind-append size [] (take few ls) (take (i - few) (drop few ls))) ∙ ap (λ m. take m (said few ++ more)) (sym count) ∙ take-append_seam (said few) more

  -- one more line is answered
  pub told_more : (i : ℕ) (text new : List ℕ) (added : List Answer) → i < length ls → IsTold size ls i text → answer_of size (take i ls) (line_at ls i).verb ≡ added → new ≡ text ++ answer_lines added → IsTold size ls (i + 1) new
  told_more i text new added below told is grown =
      grown ∙ ap (λ t. t ++ answer_lines added) told ∙ sym (flat_map-append answer_line (said i) added)
      ∙ ap answer_lines (ap (λ a. said i ++ a) (sym is) ∙ sym (one_more i below))

  pub told_none : (i : ℕ) (text : List ℕ) → i < length ls → IsTold size ls i text → answer_of size (take i ls) (line_at ls i).verb ≡ [] → IsTold size ls (i + 1) text
  told_none i text below told none = told_more i text text [] below told none (sym (append-nil text))

-- a line that asks or doesn't
pub counted_more : {X : Type 0} (f : X → Line) (xs : List X) (i : ℕ) (x : X) (count new : ℕ) (asks : Bool) → i < length xs → x ≡ get_or xs i x → ((size : Size) (earlier : List Line) → length (answer_of size earlier (f x).verb) ≡ (if asks then 1 else 0))
    → ((size : Size) → length (said size (map f xs) i) ≡ count) → new ≡ (if asks then count + 1 else count) → (size : Size) → length (said size (map f xs) (i + 1)) ≡ new
counted_more f xs i x count new asks below at asked counted same size =
    let ls = map f xs in
    let inside : i < length ls = subst (λ n. i < n) (sym (length-map xs f)) below in
    ap length (one_more size ls i inside) ∙ length-append (said size ls i) (answer_of size (take i ls) (line_at ls i).verb)
    ∙ ap (λ n. n + length (answer_of size (take i ls) (line_at ls i).verb)) (counted size)
    ∙ ap (λ n. count + n) (ap (λ (l : Line). length (answer_of size (take i ls) l.verb)) (sym (line_is f xs i x below at)) ∙ asked size (take i ls)) ∙ sum asks same
  where
    sum : (b : Bool) → new ≡ (if b then count + 1 else count) → count + (if b then 1 else 0) ≡ new
    sum true is = sym is
    sum false is = omega (arith, is)

-- a verb that asks for nothing
pub quiet : {A : Type 0} (v : code_verb.Verb A) → ((q : ℕ) → v ≡ verbs.Query q → ⊥) → ((x y : ℕ) → v ≡ verbs.Pixel x y → ⊥) → (size : Size) (earlier : List Line) → length (answer_of size earlier (verb_value v)) ≡ 0
quiet (verbs.Query q) no_query no_pixel size earlier = absurd (no_query q refl)
quiet (verbs.Pixel x y) no_query no_pixel size earlier = absurd (no_pixel x y refl)
quiet v no_query no_pixel size earlier = refl

-- lines that are accepted are answered one by one
pub accepted_from : (size : Size) (e ls : List Line) (i : ℕ) → i ≤ length ls → ((j : ℕ) → j < i → refusal size (e ++ take j ls) (line_at ls j) ≡ None)
    → answers_from size e ls ≡ answers_behind size e (take i ls) ++ answers_from size (e ++ take i ls) (drop i ls)
accepted_from size e ls zero few none = ap (λ x. answers_from size x ls) (sym (append-nil e))
accepted_from size e [] (suc i) few none = absurd (omega (arith, few))
accepted_from size e (l ∷ ls) (suc i) few none =
    let first = answer_of size e l.verb in
    ap (λ o. answers_or o (length e + 2) (first ++ answers_from size (e ++ l ∷ []) ls)) (ap (λ x. refusal size x l) (sym (append-nil e)) ∙ none 0 (omega arith))
    ∙ ap (λ r. first ++ r)
    (accepted_from size (e ++ l ∷ []) ls i (omega (arith, few)) (λ j low. ap (λ x. refusal size x (line_at ls j)) (append_assoc e (l ∷ []) (take j ls)) ∙ none (suc j) (omega (arith, low))))
    ∙ sym (append_assoc first (answers_behind size (e ++ l ∷ []) (take i ls)) _)
    ∙ ap (λ x. (first ++ answers_behind size (e ++ l ∷ []) (take i ls)) ++ answers_from size x (drop i ls)) (append_assoc e (l ∷ []) (take i ls))

pub accepts_more : (size : Size) (ls : List Line) (i : ℕ) → ImmediateAccepts size ls i → (is_immediate_actor (line_at ls i).actor ≡ true → refusal size (take i ls) (line_at ls i) ≡ None) → ImmediateAccepts size ls (i + 1)
accepts_more size ls i h one = below_more (λ j. is_immediate_actor (line_at ls j).actor ≡ true → refusal size (take j ls) (line_at ls j) ≡ None) i h one

-- ---- lines of others

-- a context of the caller's, or another's
own_actor : (a : Actor) → (taker_of a == 4) ≡ true → a ≡ Immediate
own_actor Immediate own = refl
own_actor (Deferred k) own = let low : k % 4 < 4 = mod-lt k (omega arith) in absurd (omega (arith, low, eqb-true (k % 4) 4 own))

other_actor : (a : Actor) → (taker_of a == 4) ≡ false → (k : ℕ) × (a ≡ Deferred k)
other_actor Immediate other = absurd cc
other_actor (Deferred k) other = (k, refl)

-- lines from i to j that change nothing for the immediate context
pub record ArePassed (size : Size) (ls : List Line) (i j : ℕ) : Type 0 where
  pub steps : steps_of (take i ls) ≡ steps_of (take j ls)
  pub accepts : ImmediateAccepts size ls i → ImmediateAccepts size ls j
  pub told : (text : List ℕ) → IsTold size ls i text → IsTold size ls j text

module _ (size : Size) (ls : List Line) (sound : AreLines [] ls) where
  silent : (e : List Line) (v : Verb) → may_take v false ≡ true → answer_of size e v ≡ []
  silent e (Query q) may = absurd (true≢false (sym may))
  silent e (Pixel x y) may = absurd (true≢false (sym may))
  silent e v may = refl

  one_passed : (i k : ℕ) → i < length ls → (line_at ls i).actor ≡ Deferred k → ArePassed size ls i (i + 1)
  one_passed i k below other = record {
    steps =
        sym (ap steps_of (take_more ls i a_line below) ∙ steps_of-push (take i ls) (line_at ls i)
        ∙ ap (λ a. steps_of (take i ls) ++ actor_steps (take i ls) a (line_at ls i).verb) other ∙ append-nil (steps_of (take i ls)));
    accepts = λ h. accepts_more size ls i h (λ own. absurd (true≢false (sym own ∙ ap is_immediate_actor other)));
    told = λ text h.
        told_none size ls i text below h (silent (take i ls) (line_at ls i).verb (ap (λ a. may_take (line_at ls i).verb (is_immediate_actor a)) (sym other) ∙ (is_line ls i below sound).taken));
  }

  pub passed : (i j : ℕ) → IsFirst ls 4 i j → ArePassed size ls i j
  passed i j first =
      kept_on (ArePassed size ls i) ls 4 i j first
      (λ m low at before.
      let other = other_actor (line_at ls m).actor at in
      let one = one_passed m other.0 low other.1 in
      record { steps = before.steps ∙ one.steps; accepts = λ h. one.accepts (before.accepts h); told = λ text h. one.told text (before.told text h) })
      record { steps = refl; accepts = λ h. h; told = λ text h. h }

pub reached_on : (size : Size) (ls : List Line) (i j : ℕ) (c : Held) (text : List ℕ) → ArePassed size ls i j → HasReached size ls i c text → HasReached size ls j c text
reached_on size ls i j c text p h = record {
  played = record { size_is = h.played.size_is; stands = subst (λ ss. Stands size ss (context_of c)) p.steps h.played.stands };
  accepted = p.accepts h.accepted;
  told = p.told text h.told;
}

-- line n of the immediate context is this
pub record IsNext (ls : List Line) (n : ℕ) (l : Line) : Type 0 where
  pub here : l ≡ line_at ls (own_place ls n)
  pub below : own_place ls n < length ls
  pub is : IsLine (take (own_place ls n) ls) l
  pub own : l.actor ≡ Immediate
  pub on : (size : Size) → ArePassed size ls (own_place ls n + 1) (own_place ls (n + 1))

pub next_line : (ls : List Line) (n : ℕ) (l : Line) → AreLines [] ls → n < own_count ls → l ≡ line_at ls (own_place ls n) → IsNext ls n l
next_line ls n l sound low here =
    let place = next_place ls 4 n low in
    record {
      here = here;
      below = place.inside;
      is = subst (IsLine (take (own_place ls n) ls)) (sym here) (is_line ls (own_place ls n) place.inside sound);
      own = ap (λ (m : Line). m.actor) here ∙ own_actor (line_at ls (own_place ls n)).actor place.own;
      on = λ size. passed size ls sound _ _ place.next;
    }

pub immediate_line : (l : Line) (v : Verb) → l.actor ≡ Immediate → l.verb ≡ v → l ≡ record { actor = Immediate; verb = v }
immediate_line l v a e = rw (a, e) refl

-- the list that an execution names
pub executed_list : (ls : List Line) (j : ℕ) (l : Line) → IsNext ls j l → (w : ℕ → ℕ → List Command) → ListsOf ls w → (k n : ℕ) (restore : Bool) → l.verb ≡ Execute k n restore → w k n ≡ listed (take (own_place ls j) ls) k n
executed_list ls j l next w right k n restore at =
    let i = own_place ls j in
    let has : HasList (take i ls) (Execute k n restore) = subst (HasList (take i ls)) at next.is.has_list in
    let few : n < length (recording_of k (take i ls)).lists = subst (λ m. n < m) (sym (lists_counted k (take i ls))) has in
    right k n ∙ listed_early k i n ls few

-- the steps of a verb whose list, where it executes one, is this
taken_are : (w : ℕ → ℕ → List Command) (e : List Line) (v : Verb) → ((k n : ℕ) (restore : Bool) → v ≡ Execute k n restore → w k n ≡ listed e k n) → taken_steps w v ≡ verb_steps e v
taken_are w e (Call k) right = refl
taken_are w e (Finish restore) right = refl
taken_are w e Flush right = refl
taken_are w e (Execute k n restore) right = ap (λ l. Executes l restore ∷ []) (right k n restore refl)
taken_are w e (Query q) right = refl
taken_are w e (Pixel x y) right = refl

-- what is traced on behind steps of which the context has the size
traced_on : (size : Size) (steps : List Step) (c : Held) → c.surface.size ≡ size → Stands size steps (context_of c) → {C : Type 0} (traces : Size → List Step → ℕ → ℕ → C → Type 0) (more : List Step) (x y : ℕ) (old new : C) → TracesOn traces c more old new → traces size steps x y old → traces size (steps ++ more) x y new
traced_on size steps c at stands traces more x y old new on t =
    subst (λ z. traces z (steps ++ more) x y new) at
    (on steps x y (subst (λ z. Stands z steps (context_of c)) (sym at) stands) (subst (λ z. traces z steps x y old) (sym at) t))

-- ---- one more line

module _ (size : Size) (ls : List Line) (n : ℕ) (l : Line) (c : Held) (text : List ℕ) (next : IsNext ls n l) (h : HasReached size ls (own_place ls n) c text) where
  abbrev i : ℕ
  i = own_place ls n

  refusal_is : refusal size (take i ls) (line_at ls i) ≡ first_row (held_rows c l.verb)
  refusal_is =
      ap (refusal size (take i ls)) (sym next.here) ∙ ap (λ a. first_row (line_rows size (take i ls) a l.verb)) next.own
      ∙ sym (rows_are size (take i ls) c h.played l.verb)

  pub reached_next : (heard : Bool) (flushed : Held → Held → Type 0) → ((old new : Held) → flushed old new → Executed [] true old new) → (w : ℕ → ℕ → List Command) (d : Held) (new : List ℕ) → ListsOf ls w → first_row (held_rows c l.verb) ≡ None → HasTaken heard flushed w l.verb c d → new ≡ text ++ answer_lines (held_answers l.verb c) → HasReached size ls (own_place ls (n + 1)) d new
  reached_next heard flushed runs w d new right none took grown =
      let step = next_played size (take i ls) c h.played heard flushed runs w l.verb d (executed_list ls n l next w right) next.is.verb none took in
      let says = answers_are size (take i ls) c h.played l.verb none in
      reached_on size ls (i + 1) (own_place ls (n + 1)) d new (next.on size) record {
        played = subst (λ x. IsPlayed size x d) (ap (λ m. take i ls ++ m ∷ []) (sym (immediate_line l l.verb next.own refl) ∙ next.here) ∙ sym (take_more ls i a_line next.below)) step;
        accepted = accepts_more size ls i h.accepted (λ o. refusal_is ∙ none);
        told = told_more size ls i text new (held_answers l.verb c) next.below h.told (ap (λ (m : Line). answer_of size (take i ls) m.verb) (sym next.here) ∙ says) grown;
      }

  -- and the answers are written, if they are heard
  pub written_next : (heard : Bool) (flushed : Held → Held → Type 0) → ((old new : Held) → flushed old new → Executed [] true old new) → (w : ℕ → ℕ → List Command) (d : Held) (old new : List ℕ) → ListsOf ls w → first_row (held_rows c l.verb) ≡ None → HasTaken heard flushed w l.verb c d → (heard ≡ true → old ≡ text) → (heard ≡ true → new ≡ old ++ answer_lines (held_answers l.verb c))
      → (more : List ℕ) × (heard ≡ true → new ≡ more) × HasReached size ls (own_place ls (n + 1)) d more
  written_next heard flushed runs w d old new right none took before grown = (
    text ++ answer_lines (held_answers l.verb c),
    (λ is. grown is ∙ ap (λ t. t ++ answer_lines (held_answers l.verb c)) (before is)),
    reached_next heard flushed runs w d (text ++ answer_lines (held_answers l.verb c)) right none took refl,
  )

  pub interrupted : (why : Interruption) → Interrupts (first_row (held_rows c l.verb)) l.verb why → IsInterrupted size ls i why text
  interrupted why cause = record {
    below = let inside = next.below in omega (arith, inside);
    accepted = h.accepted;
    told = h.told;
    cause = subst (λ (m : Line). Interrupts (refusal size (take i ls) (line_at ls i)) m.verb why) next.here (subst (λ o. Interrupts o l.verb why) (sym refusal_is) cause);
  }

  steps_next : (w : ℕ → ℕ → List Command) → ListsOf ls w → steps_of (take i ls) ++ taken_steps w l.verb ≡ steps_of (take (own_place ls (n + 1)) ls)
  steps_next w right =
      ap (λ ss. steps_of (take i ls) ++ ss) (taken_are w (take i ls) l.verb (executed_list ls n l next w right) ∙ ap (λ a. actor_steps (take i ls) a l.verb) (sym next.own))
      ∙ sym (steps_of-push (take i ls) l)
      ∙ ap (λ m. steps_of (take i ls ++ m ∷ [])) next.here
      ∙ ap steps_of (sym (take_more ls i a_line next.below))
      ∙ (next.on size).steps

  -- what is traced beside the context
  pub traced_next : {C : Type 0} (traces : Size → List Step → ℕ → ℕ → C → Type 0) (w : ℕ → ℕ → List Command) (x y : ℕ) (old new : C) → ListsOf ls w → TracesOn traces c (taken_steps w l.verb) old new → traces size (steps_of (take i ls)) x y old → traces size (steps_of (take (own_place ls (n + 1)) ls)) x y new
  traced_next traces w x y old new right on t =
      subst (λ ss. traces size ss x y new) (steps_next w right) (traced_on size (steps_of (take i ls)) c h.played.size_is h.played.stands traces (taken_steps w l.verb) x y old new on t)

-- ---- before the first line, and behind the last

pub none_reached : (ls : List Line) (c : Held) (text : List ℕ) → AreLines [] ls → IsNew c.surface.size (context_of c) → text ≡ [] → HasReached c.surface.size ls (own_place ls 0) c text
none_reached ls c text sound new none =
    reached_on c.surface.size ls 0 (own_place ls 0) c text (passed c.surface.size ls sound 0 _ (first ls 4 ls 0 refl (omega arith))) record {
      played = record { size_is = refl; stands = stands_new c.surface.size (context_of c) new };
      accepted = λ j low own. absurd (omega (arith, low));
      told = none;
    }

pub last_interrupted : (size : Size) (ls : List Line) (c : Held) (text : List ℕ) (why : Interruption) (e : GfxError) → HasReached size ls (length ls) c text → Cause (first_row (held_rows c Flush)) e → why ≡ Refused e → IsInterrupted size ls (length ls) why text
last_interrupted size ls c text why e h cause is = record {
  below = omega arith;
  accepted = h.accepted;
  told = h.told;
  cause =
      subst (Interrupts (refusal size (take (length ls) ls) (line_at ls (length ls))) (line_at ls (length ls)).verb) (sym is)
      (subst (λ o. Cause o e) (rows_are size (take (length ls) ls) c h.played Flush ∙ ap (refusal size (take (length ls) ls)) (sym (get_or_past ls (length ls) a_line (omega arith)))) cause);
}

pub more_inside : (i n : ℕ) → i < n → i + 1 ≤ n
more_inside i n p = omega (arith, p)

-- before its first line no step was taken, and behind its last there is no line
pub none_steps : (size : Size) (ls : List Line) → AreLines [] ls → [] ≡ steps_of (take (own_place ls 0) ls)
none_steps size ls sound = (passed size ls sound 0 _ (first ls 4 ls 0 refl (omega arith))).steps

pub all_own : (ls : List Line) → own_place ls (own_count ls) ≡ length ls
all_own ls = get_or_past (places_of 4 0 ls) (own_count ls) (length ls) (omega arith)

-- what is traced beside a new context, before its first line
pub none_traced : (size : Size) (ls : List Line) → AreLines [] ls → {C : Type 0} (traces : Size → List Step → ℕ → ℕ → C → Type 0) (x y : ℕ) (c : C) → traces size [] x y c → traces size (steps_of (take (own_place ls 0) ls)) x y c
none_traced size ls sound traces x y c t =
    subst (λ ss. traces size ss x y c) (none_steps size ls sound) t

-- ---- behind the last line

-- no line is left
pub all_reached : (size : Size) (ls : List Line) (n : ℕ) (c : Held) (text : List ℕ) → own_count ls ≤ n → HasReached size ls (own_place ls n) c text → HasReached size ls (length ls) c text
all_reached size ls n c text most h = subst (λ m. HasReached size ls m c text) (get_or_past (places_of 4 0 ls) n (length ls) most) h

pub all_traced : (size : Size) (ls : List Line) (n : ℕ) → own_count ls ≤ n → {C : Type 0} (traces : Size → List Step → ℕ → ℕ → C → Type 0) (x y : ℕ) (c : C) → traces size (steps_of (take (own_place ls n) ls)) x y c → traces size (steps_of ls) x y c
all_traced size ls n most traces x y c t =
    subst (λ l. traces size (steps_of l) x y c) (ap (λ m. take m ls) (get_or_past (places_of 4 0 ls) n (length ls) most) ∙ take_all (length ls) ls (omega arith)) t

-- a context that was interrupted before is so still, and one that was not has reached the end
pub interrupted_still : (P Q : Type 0) (R : (ℕ × Interruption) → Type 0) (o : Option (ℕ × Interruption)) → is_none o ≡ false → MatchOption o P R → MatchOption o Q R
interrupted_still P Q R None some h = absurd cc
interrupted_still P Q R (Some at) some h = h

pub uninterrupted : (P : Type 0) (R : (ℕ × Interruption) → Type 0) (o : Option (ℕ × Interruption)) → is_none o ≡ true → MatchOption o P R → P
uninterrupted P R None none h = h
uninterrupted P R (Some at) none h = absurd cc

-- what is said of the last run
abbrev pub IsLast : {C A : Type 0} → ℕ → Result (Unit {0}) GfxError → Played C A → Type 0
IsLast place last r = MatchResult last (λ done. r.interruption ≡ None) (λ e. r.interruption ≡ Some (place, Refused e))

module _ {C A : Type 0} (size : Size) (ls : List Line) (before : Held) (text : List ℕ) (reached : HasReached size ls (length ls) before text) (r : Played C A) where
  last_to : (done : C → Type 0) (place : ℕ) (last : Result (Unit {0}) GfxError) → place ≡ length ls → IfErr last (Cause (first_row (held_rows before Flush))) → OnOk last (done r.context) → IsLast place last r → IsPlayedTo done size ls text r
  last_to done place (Ok u) end cause is none = subst (λ (o : Option (ℕ × Interruption)). MatchOption o (done r.context) (λ at. IsInterrupted size ls at.0 at.1 text)) (sym none) is
  last_to done place (Err e) end cause is some =
      subst (λ (o : Option (ℕ × Interruption)). MatchOption o (done r.context) (λ at. IsInterrupted size ls at.0 at.1 text)) (sym some)
      (subst (λ n. IsInterrupted size ls n (Refused e) text) (sym end) (last_interrupted size ls before text (Refused e) e reached cause refl))

  -- it was made
  pub last_made : (held : C → Held) (place : ℕ) (c : C) (last : Result (Unit {0}) GfxError) → place ≡ length ls → HasRun (Ran [] true before (held c)) (held_rows before Flush) last → r.context ≡ c → IsLast place last r → IsPlayedTo (λ d. HasFinished size ls (held d) text) size ls text r
  last_made held place c last end ran context is = last_to (λ d. HasFinished size ls (held d) text) place last end ran.cause (finished last ran.accepted ran.did) is
    where
      finished : (last : Result (Unit {0}) GfxError) → OnOk last (first_row (held_rows before Flush) ≡ None) → OnOk last (Ran [] true before (held c)) → OnOk last (HasFinished size ls (held r.context) text)
      finished (Ok u) accepted did = record {
        all = record { before = before; reached = reached; accepted = accepted };
        ran = subst (λ (d : C). Ran [] true before (held d)) (sym context) did;
      }
      finished (Err e) accepted did = tt

  -- nothing refuses it
  pub last_allowed : (place : ℕ) (last : Result (Unit {0}) GfxError) → place ≡ length ls → AnswersBy (held_rows before Flush) last → IsLast place last r → HasEndedWith size ls text r
  last_allowed place last end answer is =
      last_to (λ c. HasTakenAll size ls text) place last end (cause last answer) (taken last answer) is
    where
      cause : (last : Result (Unit {0}) GfxError) → AnswersBy (held_rows before Flush) last → IfErr last (Cause (first_row (held_rows before Flush)))
      cause (Ok u) a = tt
      cause (Err e) (inl row) = inl row
      cause (Err e) (inr memory) = inr memory.1

      taken : (last : Result (Unit {0}) GfxError) → AnswersBy (held_rows before Flush) last → OnOk last (HasTakenAll size ls text)
      taken (Ok u) a = record { before = before; reached = reached; accepted = a }
      taken (Err e) a = tt
