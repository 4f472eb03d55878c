-- Calls on contexts, line by line beside the script that spells them.
use Rattle.std.proofs.Common.{◌≡◌, ◌∙◌, ap, sym, subst, refl, ℕ, ◌<◌, ◌⊎◌, ⊎_elim, Bool, true, false, true≢false, cond, List, [], ◌∷◌, ◌++◌, length, append_assoc, None}
use Rattle.std.specs.Prelude.{if◌then◌else◌, unwrap_or, slice_index_or, ◌==◌, ◌+◌}
use Rattle.std.proofs.lemmas.List.{append-nil}
use Rattle.std.proofs.lemmas.List.Sums.{fold-append}
use Rattle.std.proofs.lemmas.Bool.{eqb-true, eq-eqb}
use Rattle.gfxspec.specs.declared.TheConstants.{QUERY_LIMIT}
use Rattle.gfxspec.specs.declared.geometry.Size.{Size}
use Rattle.gfxspec.specs.declared.error.GfxError.TheVariants.{TargetSize}
use Rattle.gfxspec.specs.Error.{error_number}
use Rattle.gfxspec.specs.Commands.{Command}
use Rattle.gfxspec.specs.Recorded.{queries_open, after_finish}
use Rattle.gfxspec.specs.Refusals.{first_row, flush_rows}
use Rattle.gfxspec.specs.Accepted.{AreAccepted}
use Rattle.gfxspec.specs.Session.{open_now}
use Rattle.meaning.specs.Contexts as contexts
use Rattle.meaning.specs.Standing.{Stands, session_result}
use Rattle.meaning.proofs.Contexts.{stands_new, shows}
use Rattle.immediate.specs.Held.{Held, context_of, shown, answered, Executed, Ran}
use Rattle.scenetext.specs.Scene.{Actor, Immediate, Deferred, Verb, Call, Finish, Flush, Execute, Query, Pixel, Line, Scene}
use Rattle.scenetext.specs.Commands.{IsVerb}
use Rattle.scenetext.specs.Spelling.{AreLines, Spells}
use Rattle.recorders.specs.Recording.{Recording, nothing_recorded, with_verb, with_line, recording_of, deferred_rows, listed}
use Rattle.tga.specs.Image.{image_bytes}
use Rattle.tga.proofs.ImageLemmas.{same_image}
use Rattle.answers.specs.declared.line.Answer.{Answer}
use Rattle.answers.specs.declared.line.Answer.TheVariants.{Counted, Shown, Refused}
use Rattle.answers.specs.Lines.{answer_lines}
use Rattle.sessions.specs.declared.outcome.Ended.TheVariants as ended
use Rattle.sessions.specs.Lists.{steps_of}
use Rattle.sessions.specs.Answers.{refusal, answer_of, answers_or, answers_from, answers, image, pixel_after}
use Rattle.sessions.specs.Writing.{end_of, image_at, scene_output}
use Rattle.sessions.specs.Playing.{IsPlayed}
use Rattle.sessions.specs.Taking.{held_rows, HasTaken, held_answers}
use Rattle.sessions.specs.Calling.{Contexts, ExecutesList, ImmediateCalled, DeferredCalled, CalledOn, AreCalled, AreFresh, HoldWhatIsLeft}
use Rattle.sessions.proofs.Ran.{ran_executed}
use Rattle.sessions.proofs.Played.{steps_of-push, rows_are, next_played, answers_are, pixels_are}
use Rattle.sessions.proofs.Endings.{end_one, sized}

recorded-push : (k : ℕ) (e : List Line) (l : Line) → recording_of k (e ++ l ∷ []) ≡ with_line k (recording_of k e) l
recorded-push k e l = fold-append (with_line k) nothing_recorded e (l ∷ [])

-- ---- what a call on the immediate context did, in the words of lines

executed : (list : List Command) (restore : Bool) (h d : Held) → ExecutesList list restore h d → Executed list restore h d
executed list restore h d x = ⊎_elim (λ r. let ran = r.ok in record { size = ran.size; run = ran.run }) (λ r. r.ok) x.called

not_refused : (list : List Command) (restore : Bool) (h d : Held) → ExecutesList list restore h d → first_row (flush_rows (queries_open h.pending)) ≡ None
not_refused list restore h d x = ⊎_elim (λ r. r.answer) (λ r. r.answer) x.called

-- it was accepted, did what its line does, and told the answers of that
pub record IsTaken (e : List Line) (v : Verb) (h d : Held) (told : List Answer) : Type 0 where
  pub none : first_row (held_rows h v) ≡ None
  pub taken : HasTaken true (Ran [] true) (λ k n. listed e k n) v h d
  pub told_is : told ≡ held_answers v h

taken_by : (e : List Line) (deferred : ℕ → Recording) (v : Verb) (h d : Held) (told : List Answer) → ((k : ℕ) → deferred k ≡ recording_of k e) → ImmediateCalled deferred v h d told → IsTaken e v h d told
taken_by e deferred (Call c) h d told same r = record { none = r.0.answer; taken = r.0.ok; told_is = r.1 }
taken_by e deferred Flush h d told same r = record { none = r.0.answer; taken = r.0.ok; told_is = r.1 }
taken_by e deferred (Execute k n restore) h d told same r =
    let list = slice_index_or (deferred k).lists n [] in
    let list_is : list ≡ listed e k n = ap (λ (x : Recording). slice_index_or x.lists n []) (same k) in
    record {
      none = not_refused list restore h d r.0;
      taken = subst (λ cs. (queries_open cs ≡ []) × AreAccepted cs × Executed cs restore h d) list_is (r.0.none_open, r.0.accepted, executed list restore h d r.0);
      told_is = r.1;
    }
taken_by e deferred (Query q) h d told same r =
    record { none = r.1.answer; taken = r.1.ok; told_is = r.3 ∙ ap (λ o. Counted q (unwrap_or o 0) ∷ []) r.2 }
taken_by e deferred (Pixel x y) h d told same r =
    record { none = r.1.answer; taken = r.1.ok; told_is = r.3 ∙ ap (λ p. Shown x y p ∷ []) r.2 }
taken_by e deferred (Finish restore) h d told same r = absurd r

-- ---- what a call on a deferred context did

recording_is : (new : Recording) (lists : List (List Command)) (current : List Command) → new.lists ≡ lists → new.current ≡ current → new ≡ record { lists = lists; current = current }
recording_is new lists current a b = rw (a, b) refl

recorded_by : (v : Verb) (old new : Recording) → DeferredCalled v old new → new ≡ with_verb old v
recorded_by (Call c) old new r = recording_is new old.lists (old.current ++ c ∷ []) r.1 r.0.ok
recorded_by (Finish restore) old new r =
    recording_is new (old.lists ++ old.current ∷ []) (after_finish restore old.current) (r.4 ∙ ap (λ list. old.lists ++ list ∷ []) r.2) r.3
recorded_by v old new r = absurd r

not_refused_by : (v : Verb) (old new : Recording) → DeferredCalled v old new → first_row (deferred_rows old.current v) ≡ None
not_refused_by (Call c) old new r = r.0.answer
not_refused_by (Finish restore) old new r = r.1
not_refused_by v old new r = absurd r

silent : (size : Size) (e : List Line) (v : Verb) (old new : Recording) → DeferredCalled v old new → answer_of size e v ≡ []
silent size e (Call c) old new r = refl
silent size e (Finish restore) old new r = refl
silent size e v old new r = absurd r

-- ---- contexts behind accepted lines

module _ (size : Size) where
  pub record AreBehind (e : List Line) (c : Contexts) : Type 0 where
    pub played : IsPlayed size e c.immediate
    pub recorded : (k : ℕ) → c.deferred k ≡ recording_of k e

  -- one more line was accepted, and its call told its answers
  pub record IsNext (e : List Line) (l : Line) (c : Contexts) (told : List Answer) : Type 0 where
    pub behind : AreBehind (e ++ l ∷ []) c
    pub accepted : refusal size e l ≡ None
    pub told_is : told ≡ answer_of size e l.verb

  on_immediate : (e : List Line) (v : Verb) (old new : Contexts) (told : List Answer) → AreBehind e old → IsVerb v → CalledOn Immediate v old new told → IsNext e (record { actor = Immediate; verb = v }) new told
  on_immediate e v old new told b sound r =
      let l : Line = record { actor = Immediate; verb = v } in
      let h = old.immediate in
      let t = taken_by e old.deferred v h new.immediate told b.recorded r.0 in
      record {
        behind = record {
          played = next_played size e h b.played true (Ran [] true) (ran_executed [] true) (λ k n. listed e k n) v new.immediate (λ k n restore same. refl) sound t.none t.taken;
          recorded = λ k. r.1 k ∙ b.recorded k ∙ sym (recorded-push k e l);
        };
        accepted = sym (rows_are size e h b.played v) ∙ t.none;
        told_is = t.told_is ∙ sym (answers_are size e h b.played v t.none);
      }

  on_deferred : (e : List Line) (j : ℕ) (v : Verb) (old new : Contexts) (told : List Answer) → AreBehind e old → CalledOn (Deferred j) v old new told → IsNext e (record { actor = Deferred j; verb = v }) new told
  on_deferred e j v old new told b r =
      let own = r.0 in
      record {
        behind = record { played = played; recorded = recorded };
        accepted = sym (ap (λ (x : Recording). first_row (deferred_rows x.current v)) (b.recorded j)) ∙ not_refused_by v (old.deferred j) (new.deferred j) own;
        told_is = r.3 ∙ sym (silent size e v (old.deferred j) (new.deferred j) own);
      }
    where
      l : Line
      l = record { actor = Deferred j; verb = v }

      played : IsPlayed size (e ++ l ∷ []) new.immediate
      played =
          let same : steps_of e ≡ steps_of (e ++ l ∷ []) = sym (steps_of-push e l ∙ append-nil (steps_of e)) in
          subst (IsPlayed size (e ++ l ∷ [])) (sym r.2)
          (record { size_is = b.played.size_is; stands = subst (λ ss. Stands size ss (context_of old.immediate)) same b.played.stands })

      by : (k : ℕ) (own : Bool) → (j == k) ≡ own → new.deferred k ≡ cond own (with_verb (recording_of k e) v) (recording_of k e)
      by k true at =
          let same : j ≡ k = eqb-true j k at in
          subst (λ i. new.deferred i ≡ with_verb (recording_of i e) v) same
          (recorded_by v (old.deferred j) (new.deferred j) r.0 ∙ ap (λ x. with_verb x v) (b.recorded j))
      by k false other = r.1 k (λ same. absurd (not_same k same other)) ∙ b.recorded k
        where
          not_same : (i : ℕ) → i ≡ j → (j == i) ≡ false → ⊥
          not_same i same other = absurd (true≢false (sym (eq-eqb j i (sym same)) ∙ other))

      recorded : (k : ℕ) → new.deferred k ≡ recording_of k (e ++ l ∷ [])
      recorded k = by k (j == k) refl ∙ sym (recorded-push k e l)

  next : (e : List Line) (a : Actor) (v : Verb) (old new : Contexts) (told : List Answer) → AreBehind e old → IsVerb v → CalledOn a v old new told → IsNext e (record { actor = a; verb = v }) new told
  next e Immediate v old new told b sound r = on_immediate e v old new told b sound r
  next e (Deferred j) v old new told b sound r = on_deferred e j v old new told b r

  -- ---- behind all lines

  pub record AreThrough (e ls : List Line) (c : Contexts) (told : List Answer) : Type 0 where
    pub behind : AreBehind (e ++ ls) c
    pub answers_are : answers_from size e ls ≡ told ++ answers_from size (e ++ ls) []
    pub end_is : end_of told ≡ ended.Done

  through : (e ls : List Line) (old new : Contexts) (told : List Answer) → AreBehind e old → AreLines e ls → AreCalled ls old new told → AreThrough e ls new told
  through e [] old new told b sound r =
      let longer : e ≡ e ++ [] = sym (append-nil e) in
      record {
        behind = subst (AreBehind (e ++ [])) (sym r.0) (subst (λ x. AreBehind x old) longer b);
        answers_are = ap (λ x. answers_from size x []) longer ∙ ap (λ t. t ++ answers_from size (e ++ []) []) (sym r.1);
        end_is = ap end_of r.1;
      }
  through e (l ∷ ls) old new told b sound r =
      let between = r.0 in
      let first = r.1 in
      let rest = r.2 in
      let one = next e l.actor l.verb old between first b sound.0.verb r.3 in
      let more = through (e ++ l ∷ []) ls between new rest one.behind sound.1 r.4 in
      let joined : (e ++ l ∷ []) ++ ls ≡ e ++ l ∷ ls = append_assoc e (l ∷ []) ls in
      let last = answers_from size (e ++ l ∷ ls) [] in
      record {
        behind = subst (λ x. AreBehind x new) joined more.behind;
        answers_are =
            ap (λ o. answers_or o (length e + 2) (answer_of size e l.verb ++ answers_from size (e ++ l ∷ []) ls)) one.accepted
            ∙ ap (λ a. a ++ answers_from size (e ++ l ∷ []) ls) (sym one.told_is)
            ∙ ap (λ a. first ++ a) (more.answers_are ∙ ap (λ x. rest ++ answers_from size x []) joined)
            ∙ sym (append_assoc first rest last)
            ∙ ap (λ t. t ++ last) (sym r.5);
        end_is = ap end_of r.5 ∙ ap (λ a. end_of (a ++ rest)) one.told_is ∙ end_one size e l.verb rest ∙ more.end_is;
      }

-- ---- what the script leaves

pub held : (text : List ℕ) (scene : Scene) (before after : Contexts) (told : List Answer) → Spells text scene → AreFresh scene.size before → AreCalled scene.lines before after told → HoldWhatIsLeft scene told after
held text scene before after told spelled fresh called = record { pixels = pixels; counts = counts; output = output }
  where
    size : Size
    size = scene.size

    lines : List Line
    lines = scene.lines

    h : Held
    h = after.immediate

    start : AreBehind size [] before
    start = record {
      played = record { size_is = fresh.size_is; stands = stands_new size (context_of before.immediate) fresh.immediate };
      recorded = fresh.deferred;
    }

    end : AreThrough size [] lines after told
    end = through size [] lines before after told start spelled.scene_is.1 called

    played : IsPlayed size lines h
    played = end.behind.played

    pixels : (x y : ℕ) → x < size.width → y < size.height → shown h x y ≡ pixel_after size lines x y
    pixels x y column row = pixels_are size lines h played x y column row

    counts : (q : ℕ) → q < QUERY_LIMIT → answered h q ≡ session_result size (steps_of lines) q
    counts q low =
        ap (λ s. contexts.answered s (context_of h) q) played.size_is ∙ (shows size (steps_of lines) (context_of h) played.stands).answers q low

    output : queries_open h.pending ≡ [] → scene_output scene ≡ record { lines = answer_lines told; image = image_bytes size (shown h); ended = ended.Done }
    output none =
        let last : first_row (flush_rows (open_now (steps_of lines))) ≡ None = sym (rows_are size lines h played Flush) ∙ ap (λ o. first_row (flush_rows o)) none in
        let told_is : answers scene ≡ told =
        ap (λ b. if b then answers_from size [] lines else Refused 1 (error_number TargetSize) ∷ []) (sized size fresh.allowed)
        ∙ end.answers_are
        ∙ ap (λ o. told ++ answers_or o (length lines + 2) []) last
        ∙ append-nil told in
        let image_is : image scene ≡ image_bytes size (shown h) = sym (same_image size (shown h) (pixel_after size lines) pixels) in
        ap (λ a. record { lines = answer_lines a; image = image_at (end_of a) (image scene); ended = end_of a }) told_is
        ∙ ap (λ n. record { lines = answer_lines told; image = image_at n (image scene); ended = n }) end.end_is
        ∙ ap (λ i. record { lines = answer_lines told; image = i; ended = ended.Done }) image_is
