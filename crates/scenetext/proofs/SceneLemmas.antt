-- What is spelled has no fault.
use Rattle.std.proofs.Common.{◌≡◌, ℕ, ◌+◌, Bool, true, false, cond, ◌&&◌, ◌||◌, List, [], ◌∷◌, ◌++◌, length, map, None, refl, sym, ap, subst, ◌∙◌, arith}
use Rattle.std.specs.Prelude.{decimal, bytes_eq, codes, count_by}
use Rattle.std.specs.List.{AllByRecursion, flat_map, join_with_byte}
use Rattle.std.proofs.lemmas.Bool.Decides.{nat_tests}
use Rattle.std.proofs.lemmas.List.{map-append}
use Rattle.std.proofs.lemmas.List.Sums.{sum_by-cons}
use Rattle.std.proofs.lemmas.Fmt.{digits_value-decimal}
use Rattle.gfxspec.specs.declared.geometry.Size.{Size}
use Rattle.gfxspec.specs.Commands as gfx
use Rattle.scenetext.specs.Scene.{Actor, Immediate, Deferred, Verb, Call, Execute, Line, Scene}
use Rattle.scenetext.specs.Text.{TextLine, lines_of, words_of, line_text}
use Rattle.scenetext.specs.Numbers.{context_word, is_context}
use Rattle.scenetext.specs.Commands.{name, serves, verb_words, may_take, IsVerb}
use Rattle.scenetext.specs.Spelling.{actor_word, is_immediate_actor, line_words, size_words, text_of, IsActor, is_finish, is_deferred, finishes_list, HasList, IsLine, AreLines, IsTarget, IsScene, Spells}
use Rattle.scenetext.specs.declared.fault.Fault.TheVariants as faults
use Rattle.scenetext.specs.Faults.{word, unless, found_in, fault_of_lines, is_immediate, finishes, has_list, first_line_fault, later_line_fault, line_fault, first_fault, fault_of}
use Rattle.scenetext.proofs.TextLemmas.{IsWordText, joined_words, has_form-joined, lines_of-line}
use Rattle.scenetext.proofs.NumberLemmas.{own, IsWordText-decimal, IsWordText-context, natural_fits, context_fits}
use Rattle.scenetext.proofs.VerbLemmas.{Fits, command_named-name, IsWordText-known, IsWordText-name, verb_fits}
use Rattle.scenetext.proofs.GroupLemmas.{All-join}

-- words as a line of a text, and the lines of a scene so far
abbrev pub raw : List (List ℕ) → TextLine
raw ws = record { bytes = join_with_byte 32 ws; ended = true }

abbrev pub raw_line : Line → TextLine
raw_line l = raw (line_words l)

abbrev pub earlier_of : Size → List Line → List TextLine
earlier_of size ls = raw (size_words size) ∷ map raw_line ls

pub size_texts : (s : Size) → IsTarget s → AllByRecursion IsWordText (size_words s)
size_texts s h = (IsWordText-known (codes "target") refl refl refl, (IsWordText-decimal s.width (omega (arith, h.width.high)), (IsWordText-decimal s.height (omega (arith, h.height.high)), tt)))

actor_text : (a : Actor) → IsActor a → IsWordText (actor_word a)
actor_text Immediate h = IsWordText-known (codes "i") refl refl refl
actor_text (Deferred k) h = IsWordText-context k h

verb_texts : (v : Verb) → Fits v → AllByRecursion IsWordText (verb_words v)
verb_texts v f = subst (λ ws. AllByRecursion IsWordText ws) (sym f.words_are) (IsWordText-name f.command, f.texts)

pub line_texts : (earlier : List Line) (l : Line) → IsLine earlier l → AllByRecursion IsWordText (line_words l)
line_texts earlier l h = (actor_text l.actor h.actor, verb_texts l.verb (verb_fits l.verb h.verb))

actor_is : (k : ℕ) (a : Actor) → bytes_eq (actor_word a) (context_word k) ≡ is_deferred k a
actor_is k Immediate = refl
actor_is k (Deferred j) = grind (arith, nat_tests)

verb_is : (v : Verb) → bytes_eq (word (verb_words v) 0) (codes "finish") ≡ is_finish v
verb_is (Call (gfx.SetVertices vertices)) = refl
verb_is v = refl

finishes-raw : (k : ℕ) (l : Line) → AllByRecursion IsWordText (line_words l) → finishes (context_word k) (raw_line l) ≡ finishes_list k l
finishes-raw k l h = rw (joined_words (actor_word l.actor) (verb_words l.verb) h, actor_is k l.actor, verb_is l.verb) refl

abbrev pub AreTexts : List Line → Type 0
AreTexts ls = AllByRecursion (λ l. AllByRecursion IsWordText (line_words l)) ls

count-lines : (k : ℕ) (ls : List Line) → AreTexts ls → count_by (finishes (context_word k)) (map raw_line ls) ≡ count_by (finishes_list k) ls
count-lines k [] h = refl
count-lines k (l ∷ ls) h =
    let one = finishes-raw k l h.0 in
    let more = count-lines k ls h.1 in
    sum_by-cons (λ x. cond (finishes (context_word k) x) 1 0) (raw_line l) (map raw_line ls)
    ∙ rw (one, more) (sym (sum_by-cons (λ x. cond (finishes_list k x) 1 0) l ls))

skips : {X : Type 0} (p : X → Bool) (x : X) (xs : List X) → p x ≡ false → count_by p (x ∷ xs) ≡ count_by p xs
skips p x xs h = sum_by-cons (λ y. cond (p y) 1 0) x xs ∙ rw h (omega arith)

-- the lists that earlier lines finished, of the text and of the scene
pub count-earlier : (k : ℕ) (size : Size) (ls : List Line) → IsTarget size → AreTexts ls → count_by (finishes (context_word k)) (earlier_of size ls) ≡ count_by (finishes_list k) ls
count-earlier k size ls s h =
    let first : finishes (context_word k) (raw (size_words size)) ≡ false = ap (λ ws. bytes_eq (word ws 0) (context_word k) && bytes_eq (word ws 1) (codes "finish")) (joined_words (codes "target") (decimal size.width ∷ decimal size.height ∷ []) (size_texts size s)) in
    skips (finishes (context_word k)) (raw (size_words size)) (map raw_line ls) first ∙ count-lines k ls h

pub actor_known : (a : Actor) → IsActor a → (is_immediate (actor_word a) || is_context (actor_word a)) ≡ true
actor_known Immediate h = refl
actor_known (Deferred k) h = context_fits k h

pub immediate_is : (a : Actor) → is_immediate (actor_word a) ≡ is_immediate_actor a
immediate_is Immediate = refl
immediate_is (Deferred k) = refl

has_list-typed : (earlier : List TextLine) (ls : List Line) (a : Actor) (v : Verb) → ((k : ℕ) → count_by (finishes (context_word k)) earlier ≡ count_by (finishes_list k) ls) → IsVerb v → HasList ls v → has_list earlier (actor_word a ∷ verb_words v) ≡ true
has_list-typed earlier ls a (Execute context list restore) c i h =
    rw (digits_value-decimal own list (omega (arith, i.1.0.high)), c context) (grind (arith, nat_tests))
has_list-typed earlier ls a (Call (gfx.SetVertices vertices)) c i h = refl
has_list-typed earlier ls a v c i h = refl

-- the rows behind the actor's
later_faultless : (earlier : List TextLine) (a : Actor) (v : Verb) (f : Fits v) → IsActor a → may_take v (is_immediate_actor a) ≡ true → has_list earlier (actor_word a ∷ verb_words v) ≡ true → later_line_fault earlier (actor_word a ∷ verb_words v) ≡ None
later_faultless earlier a v f i t l =
    let taken : serves f.command (is_immediate_actor a) ≡ true = sym (f.taken (is_immediate_actor a)) ∙ t in
    let listed : has_list earlier (actor_word a ∷ name f.command ∷ f.arguments) ≡ true = ap (λ ws. has_list earlier (actor_word a ∷ ws)) (sym f.words_are) ∙ l in
    ap (λ ws. later_line_fault earlier (actor_word a ∷ ws)) f.words_are
    ∙ rw (actor_known a i, immediate_is a, command_named-name f.command (is_immediate_actor a) taken, f.found, f.fits, listed) refl

-- a line of a scene has no fault
pub line_faultless : (size : Size) (before : List Line) (l : Line) → IsTarget size → AreTexts before → IsLine before l → line_fault (earlier_of size before) (raw_line l) ≡ None
line_faultless size before l s t h =
    let texts = line_texts before l h in
    let listed = has_list-typed (earlier_of size before) before l.actor l.verb (λ k. count-earlier k size before s t) h.verb h.has_list in
    rw (has_form-joined (actor_word l.actor) (verb_words l.verb) texts, joined_words (actor_word l.actor) (verb_words l.verb) texts)
    (later_faultless (earlier_of size before) l.actor l.verb (verb_fits l.verb h.verb) h.actor h.taken listed)

pub first_faultless : (size : Size) → IsTarget size → line_fault [] (raw (size_words size)) ≡ None
first_faultless size s =
    let form = has_form-joined (codes "target") (decimal size.width ∷ decimal size.height ∷ []) (size_texts size s) in
    let words = joined_words (codes "target") (decimal size.width ∷ decimal size.height ∷ []) (size_texts size s) in
    let rows : first_line_fault (size_words size) ≡ None = rw (natural_fits 0 4294967295 size.width s.width.low s.width.high (omega (arith, s.width.high)), natural_fits 0 4294967295 size.height s.height.low s.height.high (omega (arith, s.height.high))) refl in
    ap (λ b. unless b faults.LineForm (first_line_fault (words_of (raw (size_words size)).bytes))) form ∙ ap first_line_fault words ∙ rows

-- lines of a scene behind earlier ones
faultless_lines : (size : Size) (before ls : List Line) → IsTarget size → AreTexts before → AreLines before ls → first_fault (earlier_of size before) (map raw_line ls) ≡ None
faultless_lines size before [] s t h = refl
faultless_lines size before (l ∷ ls) s t h =
    let here = line_faultless size before l s t h.0 in
    let moved : earlier_of size before ++ raw_line l ∷ [] ≡ earlier_of size (before ++ l ∷ []) = ap (λ (xs : List TextLine). raw (size_words size) ∷ xs) (sym (map-append raw_line before (l ∷ []))) in
    let rest = faultless_lines size (before ++ l ∷ []) ls s (All-join (λ (m : Line). AllByRecursion IsWordText (line_words m)) before (l ∷ []) t (line_texts before l h.0, tt)) h.1 in
    ap (λ f. found_in (length (earlier_of size before) + 1) f (first_fault (earlier_of size before ++ raw_line l ∷ []) (map raw_line ls))) here ∙ ap (λ e. first_fault e (map raw_line ls)) moved ∙ rest

pub texts_of : (before ls : List Line) → AreLines before ls → AreTexts ls
texts_of before [] h = tt
texts_of before (l ∷ ls) h = (line_texts before l h.0, texts_of (before ++ l ∷ []) ls h.1)

cut_lines : (ls : List Line) → AreTexts ls → lines_of (flat_map (λ l. line_text (line_words l)) ls) ≡ map raw_line ls
cut_lines [] h = refl
cut_lines (l ∷ ls) h =
    lines_of-line (actor_word l.actor) (verb_words l.verb) (flat_map (λ l. line_text (line_words l)) ls) h.0
    ∙ ap (λ (xs : List TextLine). raw_line l ∷ xs) (cut_lines ls h.1)

pub lines_of-text_of : (scene : Scene) → IsScene scene → lines_of (text_of scene) ≡ raw (size_words scene.size) ∷ map raw_line scene.lines
lines_of-text_of scene h =
    lines_of-line (codes "target") (decimal scene.size.width ∷ decimal scene.size.height ∷ []) (flat_map (λ l. line_text (line_words l)) scene.lines) (size_texts scene.size h.0)
    ∙ ap (λ (xs : List TextLine). raw (size_words scene.size) ∷ xs) (cut_lines scene.lines (texts_of [] scene.lines h.1))

-- a text that spells a scene has no fault
pub spelled_faultless : (text : List ℕ) (scene : Scene) → Spells text scene → fault_of text ≡ None
spelled_faultless text scene h =
    let s = h.scene_is.0 in
    let first = first_faultless scene.size s in
    let rest = faultless_lines scene.size [] scene.lines s tt h.scene_is.1 in
    ap fault_of h.text_is ∙ ap fault_of_lines (lines_of-text_of scene h.scene_is)
    ∙ ap (λ f. found_in 1 f (first_fault (raw (size_words scene.size) ∷ []) (map raw_line scene.lines))) first ∙ rest
