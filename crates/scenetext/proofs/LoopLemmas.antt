-- Reading line by line.
use Rattle.std.proofs.Common.{◌≡◌, ◌≢◌, ℕ, ◌+◌, ◌<◌, ◌≤◌, ◌^◌, Bool, true, false, cond, not, ◌&&◌, eqb, eq-eqb, List, [], ◌∷◌, ◌++◌, length, get_or, set, map, Option, Some, None, replicate, refl, sym, ap, subst, ◌∙◌, append_assoc, arith, inl, inr}
use Rattle.std.specs.Prelude.{count_by, slice_index}
use Rattle.std.specs.Option.{option_map_or}
use Rattle.std.specs.List.{flat_map, join_with_byte}
use Rattle.std.proofs.lemmas.List.{map-append, length-append, length-map, length-set, append-nil, get_or-set_same, get_or-set_other, get_or-replicate}
use Rattle.std.proofs.lemmas.Bool.{eqb-true}
use Rattle.std.proofs.lemmas.List.Sums.{sum_by_push, count_by-le-length}
use Rattle.scenetext.specs.declared.fault.Fault.{Fault}
use Rattle.scenetext.specs.declared.fault.Fault.TheVariants as faults
use Rattle.scenetext.specs.declared.fault.ReadError.{ReadError}
use Rattle.scenetext.specs.declared.fault.ReadError.TheVariants as errors
use Rattle.gfxspec.specs.declared.geometry.Size.{Size}
use Rattle.scenetext.specs.Scene.{Actor, Immediate, Deferred, Verb, Execute, Line}
use Rattle.scenetext.specs.declared.scene.Line as code_line
use Rattle.scenetext.specs.Seen.{line_value}
use Rattle.scenetext.specs.Text.{TextLine, before_lines, lines_of, line_text}
use Rattle.scenetext.specs.Commands.{IsVerb}
use Rattle.scenetext.specs.Spelling.{is_finish, is_deferred, finishes_list, line_words, size_words, HasList, IsLine, AreLines, IsTarget, Spells}
use Rattle.scenetext.specs.Faults.{number_of_fault, found_in, line_fault, first_fault, fault_of_lines, fault_of, last_read}
use Rattle.scenetext.specs.Reading.{Counts, HasCounted, HasRoom, ReadsLine, line_record, CutsLine, ReadsSize, number_of_error, counted_for, counted_by, ReadsFirst, RefusesText, ReadsNext, RefusesNext, Refused}
use Rattle.scenetext.proofs.TextLemmas.{line_bytes, text_from-lines_of, join-words_of}
use Rattle.scenetext.proofs.SceneLemmas.{raw, raw_line, earlier_of, texts_of, count-earlier, line_faultless, first_faultless}
use Rattle.scenetext.proofs.ReadingLaw.{bytes_of}

-- ---- one line

pub first_read : (text line rest : List ℕ) (s : Size) → CutsLine text line rest → ReadsSize line s → ReadsFirst text s rest
first_read text line rest s c r = record { lines = c.lines ∙ ap (λ x. line_record x ∷ lines_of rest) (sym (join-words_of line) ∙ ap (join_with_byte 32) (sym r.words_are)); size = r.size; shorter = c.shorter }

pub next_read : (finished text line rest : List ℕ) (l : Line) → CutsLine text line rest → ReadsLine finished line l → ReadsNext finished text l rest
next_read finished text line rest l c r =
    let same : line ≡ join_with_byte 32 (line_words l) = sym (join-words_of line) ∙ ap (join_with_byte 32) (sym r.words_are) in
    record { lines = c.lines ∙ ap (λ x. line_record x ∷ lines_of rest) same; line = subst (λ x. ReadsLine finished x l) same r; shorter = c.shorter }

-- ---- a text of which some lines are read

pub record SoFar (text : List ℕ) (size : Size) (ls : List Line) (finished rest : List ℕ) : Type 0 where
  pub whole : lines_of text ≡ earlier_of size ls ++ lines_of rest
  pub fault : fault_of text ≡ first_fault (earlier_of size ls) (lines_of rest)
  pub size_is : IsTarget size
  pub lines_are : AreLines [] ls
  pub counts : (k : ℕ) → k < 8 → slice_index finished k ≡ count_by (finishes_list k) ls
  pub wide : length finished ≡ 8
  pub room : length ls + length rest < length text

-- the counts of finished lists have room for one more
pub has_room : (text : List ℕ) (size : Size) (ls : List Line) (finished rest : List ℕ) → SoFar text size ls finished rest → length text < 2 ^ 63 → HasRoom finished
has_room text size ls finished rest s few k h = omega (arith, s.counts k h, count_by-le-length (finishes_list k) ls, s.room, few)

zero_counts : (k : ℕ) → k < 8 → get_or {A = ℕ} (replicate 8 0) k 0 ≡ 0
zero_counts k h = get_or-replicate 8 k 0 0 h

pub starts : (text rest : List ℕ) (s : Size) → ReadsFirst text s rest → SoFar text s [] (replicate 8 0) rest
starts text rest s r =
    record {
      whole = r.lines;
      fault = ap fault_of_lines r.lines ∙ ap (λ o. found_in 1 o (first_fault (raw (size_words s) ∷ []) (lines_of rest))) (first_faultless s r.size);
      size_is = r.size;
      lines_are = tt;
      counts = zero_counts;
      wide = refl;
      room = omega (arith, r.shorter);
    }

counted_at : (finished : List ℕ) (a : Actor) (ends : Bool) (k n : ℕ) → k < 8 → length finished ≡ 8 → slice_index finished k ≡ n → slice_index (counted_for finished a ends) k ≡ n + cond (is_deferred k a && ends) 1 0
counted_at finished Immediate ends k n h w e = e ∙ omega arith
counted_at finished (Deferred j) ends k n h w e = by ends (eqb j k) refl
  where
    by : (t u : Bool) → eqb j k ≡ u → slice_index (cond t (set finished j (slice_index finished j + 1)) finished) k ≡ n + cond (u && t) 1 0
    by true true q = let same : j ≡ k = eqb-true j k q in rw same (get_or-set_same finished k (slice_index finished k + 1) 0 (omega arith) ∙ ap (λ m. m + 1) e)
    by true false q = get_or-set_other finished j k (slice_index finished j + 1) 0 (λ same. (let f = sym q ∙ eq-eqb j k (sym same) in absurd cc)) ∙ e ∙ omega arith
    by false true q = e ∙ omega arith
    by false false q = e ∙ omega arith

list_is : (finished : List ℕ) (ls : List Line) (v : Verb) → ((k : ℕ) → k < 8 → slice_index finished k ≡ count_by (finishes_list k) ls) → IsVerb v → HasCounted finished v → HasList ls v
list_is finished ls (Execute k list restore) n i h = omega (arith, n k i.0)
list_is finished ls v n i h = tt

AreLines-push : (before ls : List Line) (l : Line) → AreLines before ls → IsLine (before ++ ls) l → AreLines before (ls ++ l ∷ [])
AreLines-push before [] l h i = (subst (λ x. IsLine x l) (append-nil before) i, tt)
AreLines-push before (m ∷ ls) l h i = (h.0, AreLines-push (before ++ m ∷ []) ls l h.1 (subst (λ x. IsLine x l) (sym (append_assoc before (m ∷ []) ls)) i))

earlier-push : (size : Size) (ls : List Line) (l : Line) → earlier_of size ls ++ raw_line l ∷ [] ≡ earlier_of size (ls ++ l ∷ [])
earlier-push size ls l = ap (λ (xs : List TextLine). raw (size_words size) ∷ xs) (sym (map-append raw_line ls (l ∷ [])))

pub goes_on : (text : List ℕ) (size : Size) (ls : List Line) (finished more rest : List ℕ) (l : Line) → SoFar text size ls finished rest → ReadsNext finished rest l more → SoFar text size (ls ++ l ∷ []) (counted_by finished l) more
goes_on text size ls finished more rest l s r =
    let line : IsLine ls l = record { actor = r.line.actor; verb = r.line.verb; taken = r.line.taken; has_list = list_is finished ls l.verb s.counts r.line.verb r.line.has_list } in
    let here = line_faultless size ls l s.size_is (texts_of [] ls s.lines_are) line in
    let moved = earlier-push size ls l in
    record {
      whole = s.whole ∙ ap (λ x. earlier_of size ls ++ x) r.lines ∙ sym (append_assoc (earlier_of size ls) (raw_line l ∷ []) (lines_of more)) ∙ ap (λ x. x ++ lines_of more) moved;
      fault = s.fault ∙ ap (first_fault (earlier_of size ls)) r.lines ∙ ap (λ o. found_in (length (earlier_of size ls) + 1) o (first_fault (earlier_of size ls ++ raw_line l ∷ []) (lines_of more))) here ∙ ap (λ x. first_fault x (lines_of more)) moved;
      size_is = s.size_is;
      lines_are = AreLines-push [] ls l s.lines_are line;
      counts = λ k h. counted_at finished l.actor (is_finish l.verb) k (count_by (finishes_list k) ls) h s.wide (s.counts k h) ∙ sym (sum_by_push (λ x. cond (finishes_list k x) 1 0) ls l);
      wide = stays_wide finished l.actor (is_finish l.verb) s.wide;
      room = omega (arith, s.room, r.shorter, length-append ls (l ∷ []));
    }
  where
    stays_wide : (finished : List ℕ) (a : Actor) (ends : Bool) → length finished ≡ 8 → length (counted_for finished a ends) ≡ 8
    stays_wide finished Immediate ends e = e
    stays_wide finished (Deferred k) true e = length-set finished k (slice_index finished k + 1) ∙ e
    stays_wide finished (Deferred k) false e = e

-- the lines with one more, as they are seen
pub seen_more : {A : Type 0} (old new : List (code_line.Line A)) (x : code_line.Line A) (ok failed : Bool) → new ≡ cond ok (old ++ x ∷ []) old → ok ≡ not failed → failed ≡ false → map line_value old ++ line_value x ∷ [] ≡ map line_value new
seen_more old new x ok failed e n f = sym (ap (map line_value) (e ∙ ap (λ b. cond b (old ++ x ∷ []) old) (n ∙ ap not f)) ∙ map-append line_value old (x ∷ []))

counts_of : (text : List ℕ) (size : Size) (ls : List Line) (finished rest : List ℕ) → SoFar text size ls finished rest → Counts (earlier_of size ls) finished
counts_of text size ls finished rest s = λ k h. s.counts k h ∙ sym (count-earlier k size ls s.size_is (texts_of [] ls s.lines_are))

found_after : (earlier ls : List TextLine) (n : ℕ) (f : Fault) → first_fault earlier ls ≡ Some (n, f) → length earlier + 1 ≤ n
found_after earlier [] n f h = absurd cc
found_after earlier (l ∷ ls) n f h = by (line_fault earlier l) refl h (found_after (earlier ++ l ∷ []) ls n f)
  where
    by : (o : Option Fault) → line_fault earlier l ≡ o → found_in (length earlier + 1) o (first_fault (earlier ++ l ∷ []) ls) ≡ Some (n, f) → (first_fault (earlier ++ l ∷ []) ls ≡ Some (n, f) → length (earlier ++ l ∷ []) + 1 ≤ n) → length earlier + 1 ≤ n
    by (Some g) e h more =
        let here : ℕ × Fault = (length earlier + 1, g) in
        let there : ℕ × Fault = (n, f) in
        let same : here ≡ there = cc in
        omega (arith, ap (λ (p : ℕ × Fault). p.0) same)
    by None e h more = omega (arith, more h, length-append earlier (l ∷ []))

some_line : (bs : List ℕ) → 0 < length bs → 0 < length (lines_of bs)
some_line [] h = absurd (omega arith)
some_line (b ∷ bs) h = by (eqb b 10) (lines_of bs)
  where
    by : (t : Bool) (ls : List TextLine) → 0 < length (cond t (line_record [] ∷ ls) (before_lines b ls))
    by true ls = omega arith
    by false [] = omega arith
    by false (l ∷ ls) = omega arith

reached : (text : List ℕ) (size : Size) (ls : List Line) (finished rest : List ℕ) → SoFar text size ls finished rest → 0 < length rest → length ls + 2 ≤ last_read text
reached text size ls finished rest s h = by (fault_of text) refl
  where
    by : (o : Option (ℕ × Fault)) → fault_of text ≡ o → length ls + 2 ≤ option_map_or (λ f. f.0) o (length (lines_of text))
    by None e = omega (arith, ap length s.whole, length-append (earlier_of size ls) (lines_of rest), length-map ls raw_line, some_line rest h)
    by (Some f) e = omega (arith, found_after (earlier_of size ls) (lines_of rest) f.0 f.1 (sym s.fault ∙ e), length-map ls raw_line)

pub fails : (text : List ℕ) (size : Size) (ls : List Line) (finished rest : List ℕ) (e : ReadError) → SoFar text size ls finished rest → 0 < length rest → RefusesNext finished rest e → Refused text (length ls + 2, number_of_error e)
fails text size ls finished rest errors.Memory s h r = inr (refl, omega arith, reached text size ls finished rest s h)
fails text size ls finished rest (errors.Fault f) s h r =
    let n : length (earlier_of size ls) + 1 ≡ length ls + 2 = omega (arith, length-map ls raw_line) in
    inl (record { fault = f; first = s.fault ∙ r (raw (size_words size)) (map raw_line ls) (counts_of text size ls finished rest s) ∙ ap (λ m. Some (m, f)) n; numbered = refl })

pub first_fails : (text : List ℕ) (e : ReadError) → RefusesText text e → Refused text (1, number_of_error e)
first_fails text errors.Memory r = absurd r
first_fails text (errors.Fault f) r = inl (record { fault = f; first = r; numbered = refl })

pub first_known : (text : List ℕ) (e : ReadError) → RefusesText text e → number_of_error e ≢ 1
first_known text errors.Memory r = absurd r
first_known text (errors.Fault f) r = named f
  where
    named : (f : Fault) → number_of_fault f ≢ 1
    named faults.LineForm = λ e. absurd (omega arith)
    named faults.FirstLine = λ e. absurd (omega arith)
    named faults.Actor = λ e. absurd (omega arith)
    named faults.Command = λ e. absurd (omega arith)
    named faults.ArgumentCount = λ e. absurd (omega arith)
    named faults.Argument = λ e. absurd (omega arith)
    named faults.NoSuchList = λ e. absurd (omega arith)

pub is_read : (text : List ℕ) (size : Size) (ls : List Line) (finished rest : List ℕ) → SoFar text size ls finished rest → length rest ≡ 0 → Spells text (record { size = size; lines = ls })
is_read text size ls finished [] s h =
    let whole : lines_of text ≡ earlier_of size ls = s.whole ∙ append-nil (earlier_of size ls) in
    record {
      scene_is = (s.size_is, s.lines_are);
      text_is = sym (text_from-lines_of text) ∙ ap (flat_map line_bytes) whole ∙ ap (λ (xs : List ℕ). line_text (size_words size) ++ xs) (bytes_of ls);
    }
is_read text size ls finished (b ∷ bs) s h = absurd (omega arith)
