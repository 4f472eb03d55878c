-- Lines that are played, beside the script that has them.
use Rattle.std.proofs.Common.{◌≡◌, ◌∙◌, ap, sym, subst, refl, ℕ, zero, suc, ◌+◌, ◌<◌, arith, Bool, true, false, true≢false, cond, ◌&&◌, List, [], ◌∷◌, ◌++◌, length, append_assoc}
use Rattle.std.specs.Prelude.{◌==◌, codes, decimal, count_by}
use Rattle.std.specs.List.{join_with_byte}
use Rattle.std.proofs.lemmas.List.{append-nil, length-append, length_push}
use Rattle.std.proofs.lemmas.List.Sums.{sum_by_push}
use Rattle.std.proofs.lemmas.Bool.{eqb-true, eq-eqb}
use Rattle.gfxspec.specs.declared.geometry.Size.{Size}
use Rattle.scenetext.specs.Scene.{Actor, Immediate, Deferred, Verb, Call, Finish, Line, Scene}
use Rattle.scenetext.specs.Text.{line_text}
use Rattle.scenetext.specs.Spelling.{is_finish, is_deferred, finishes_list, size_words, IsTarget, Spells}
use Rattle.scenetext.proofs.TextLemmas.{lines_of-line}
use Rattle.scenetext.proofs.SceneLemmas.{size_texts}
use Rattle.scenetext.proofs.LoopLemmas.{SoFar, starts, goes_on, is_read}
use Rattle.recorders.specs.Recording.{Recording}
use Rattle.answers.specs.declared.line.Answer.{Answer}
use Rattle.sessions.specs.Calling.{Contexts, DeferredCalled, CalledOn, AreCalled, AreFresh}
use Rattle.sessions.proofs.Called.{held as calls_held}
use Rattle.player.specs.Lines.{finished_by, PlaysLine}
use Rattle.player.specs.Scripts.{ArePlayed, HoldWhatTheScriptLeaves}
use Rattle.player.proofs.Counting.{counted}

-- ---- how many lists are finished

own_lists : (v : Verb) (old new : Recording) → DeferredCalled v old new → length new.lists ≡ length old.lists + cond (is_finish v) 1 0
own_lists (Call c) old new r = omega (arith, ap length r.1)
own_lists (Finish restore) old new r = omega (arith, ap length r.4, length_push old.lists r.0)
own_lists v old new r = absurd r

-- a call finishes a list of the context whose line it is
one_more : (a : Actor) (v : Verb) (old new : Contexts) (told : List Answer) → CalledOn a v old new told → (k : ℕ) → length (new.deferred k).lists ≡ length (old.deferred k).lists + cond (is_deferred k a && is_finish v) 1 0
one_more Immediate v old new told r k = omega (arith, ap (λ (x : Recording). length x.lists) (r.1 k))
one_more (Deferred j) v old new told r k = by (j == k) refl
  where
    by : (own : Bool) → (j == k) ≡ own → length (new.deferred k).lists ≡ length (old.deferred k).lists + cond (own && is_finish v) 1 0
    by true at = subst (λ i. length (new.deferred i).lists ≡ length (old.deferred i).lists + cond (is_finish v) 1 0) (eqb-true j k at) (own_lists v (old.deferred j) (new.deferred j) r.0)
    by false other = omega (arith, ap (λ (x : Recording). length x.lists) (r.1 k (λ same. absurd (true≢false (sym (eq-eqb j k (sym same)) ∙ other)))))

-- ---- a text of which some lines are read and played

read_with : (whole : List ℕ) (size : Size) (ls : List Line) (finished rest : List ℕ) (d : ℕ → Recording) → SoFar whole size ls finished rest → ((k : ℕ) → k < 8 → length (d k).lists ≡ count_by (finishes_list k) ls) → SoFar whole size ls (finished_by d) rest
read_with whole size ls finished rest d s counts = record {
  whole = s.whole;
  fault = s.fault;
  size_is = s.size_is;
  lines_are = s.lines_are;
  counts = λ k h. counted d k h ∙ counts k h;
  wide = refl;
  room = s.room;
}

next : (whole : List ℕ) (size : Size) (ls : List Line) (text rest : List ℕ) (old new : Contexts) (told : List Answer) → SoFar whole size ls (finished_by old.deferred) text → (p : PlaysLine text old new told rest) → SoFar whole size (ls ++ p.line ∷ []) (finished_by new.deferred) rest
next whole size ls text rest old new told s p =
    read_with whole size (ls ++ p.line ∷ []) _ rest new.deferred (goes_on whole size ls (finished_by old.deferred) rest text p.line s p.read) counts
  where
    counts : (k : ℕ) → k < 8 → length (new.deferred k).lists ≡ count_by (finishes_list k) (ls ++ p.line ∷ [])
    counts k h =
        let one = one_more p.line.actor p.line.verb old new told p.called k in
        let before = counted old.deferred k h in
        omega (arith, one, before, s.counts k h, sum_by_push (λ x. cond (finishes_list k x) 1 0) ls p.line)

pub record IsThrough (whole : List ℕ) (size : Size) (done : List Line) (old new : Contexts) (told : List Answer) : Type 0 where
  pub lines : List Line
  pub called : AreCalled lines old new told
  pub read : SoFar whole size (done ++ lines) (finished_by new.deferred) []

through : (whole : List ℕ) (size : Size) (n : ℕ) (done : List Line) (text : List ℕ) (old new : Contexts) (told : List Answer) → SoFar whole size done (finished_by old.deferred) text → ArePlayed n text old new told → IsThrough whole size done old new told
through whole size zero done text old new told s r = record {
  lines = [];
  called = (r.1, r.2);
  read = subst (λ (c : Contexts). SoFar whole size (done ++ []) (finished_by c.deferred) []) (sym r.1)
      (subst (λ ls. SoFar whole size ls (finished_by old.deferred) []) (sym (append-nil done)) (subst (SoFar whole size done (finished_by old.deferred)) r.0 s));
}
through whole size (suc n) done text old new told s r =
    let rest = r.0 in
    let between = r.1 in
    let first = r.2 in
    let later = r.3 in
    let line = r.4.line in
    let more = through whole size n (done ++ line ∷ []) rest between new later (next whole size done text rest old between first s r.4) r.5 in
    record {
      lines = line ∷ more.lines;
      called = (between, first, later, r.4.called, more.called, r.6);
      read = subst (λ ls. SoFar whole size ls (finished_by new.deferred) []) (append_assoc done (line ∷ []) more.lines) more.read;
    }

pub held : (size : Size) (count : ℕ) (text : List ℕ) (before after : Contexts) (told : List Answer) → IsTarget size → AreFresh size before → ArePlayed count text before after told → HoldWhatTheScriptLeaves size text told after
held size count text before after told target fresh played =
    record { scene = scene; size_is = refl; spells = spelled; left = calls_held whole scene before after told spelled fresh end.called }
  where
    whole : List ℕ
    whole = line_text (size_words size) ++ text

    none : (k : ℕ) → k < 8 → length (before.deferred k).lists ≡ 0
    none k h = ap (λ (x : Recording). length x.lists) (fresh.deferred k)

    begun : SoFar whole size [] (finished_by before.deferred) text
    begun = read_with whole size [] _ text before.deferred
        (starts whole text size record {
          lines = lines_of-line (codes "target") (decimal size.width ∷ decimal size.height ∷ []) text (size_texts size target);
          size = target;
          shorter = omega (arith, length-append (line_text (size_words size)) text, length_push (join_with_byte 32 (size_words size)) 10);
        }) none

    end : IsThrough whole size [] before after told
    end = through whole size count [] text before after told begun played

    scene : Scene
    scene = record { size = size; lines = end.lines }

    spelled : Spells whole scene
    spelled = is_read whole size end.lines (finished_by after.deferred) [] end.read refl
