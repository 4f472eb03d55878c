-- Each text spells one scene or has one fault.
use Rattle.std.proofs.Common.{◌≡◌, ◌⊎◌, ℕ, ◌+◌, Bool, true, false, cond, not, ◌&&◌, ◌||◌, leb, List, [], ◌∷◌, ◌++◌, length, map, drop, Option, Some, None, refl, sym, ap, subst, ◌∙◌, arith, inl, inr}
use Rattle.std.specs.Prelude.{decimal, bytes_eq, codes, count_by, find, unwrap_or}
use Rattle.std.specs.List.{list_all, AllByRecursion, flat_map}
use Rattle.std.proofs.lemmas.Bool.Decides.{nat_tests}
use Rattle.std.proofs.lemmas.List.{map-append}
use Rattle.std.proofs.lemmas.Slice.Eq.{bytes_eq-Decides}
use Rattle.std.proofs.lemmas.Fmt.{digits_value-decimal}
use Rattle.gfxspec.specs.declared.geometry.Size.{Size}
use Rattle.scenetext.specs.declared.fault.Fault.{Fault}
use Rattle.scenetext.specs.declared.fault.Fault.TheVariants as faults
use Rattle.scenetext.specs.declared.verbs.CommandWord.{CommandWord}
use Rattle.scenetext.specs.declared.verbs.CommandWord.TheVariants.{Vb}
use Rattle.scenetext.specs.Scene.{Actor, Immediate, Deferred, Verb, Execute, Line, Scene}
use Rattle.scenetext.specs.Text.{TextLine, lines_of, words_of, has_form, line_text, is_printable, is_word}
use Rattle.scenetext.specs.Numbers.{context_word, fit, is_context}
use Rattle.scenetext.specs.Commands.{OneOf, name, serves, shape, kinds_of, is_named, commands, command_named, verb_words, may_take, IsVerb}
use Rattle.scenetext.specs.Spelling.{actor_word, is_immediate_actor, line_words, size_words, IsActor, finishes_list, HasList, IsLine, AreLines, IsTarget, Spells}
use Rattle.scenetext.specs.Faults.{number_of_fault, word, unless, or_fault, found_in, is_immediate, finishes, has_list, arguments_fault, first_line_fault, later_line_fault, line_fault, first_fault, fault_of_lines, fault_of, HasFault}
use Rattle.scenetext.specs.Ranges.{kinds, AreIn}
use Rattle.scenetext.proofs.TextLemmas.{IsWordText, and_left, and_right, line_bytes, text_from-lines_of, join-words_of, joined_words}
use Rattle.scenetext.proofs.NumberLemmas.{own, value, context, context_is, value-decimal}
use Rattle.scenetext.proofs.RangeLemmas.{naturals_back}
use Rattle.scenetext.specs.declared.range.TheConstants.{U32}
use Rattle.scenetext.proofs.GroupLemmas.{All-join}
use Rattle.scenetext.proofs.VerbLemmas.{IsWordText-name, command_named-name, verb_from, one_of, verb_fits, backs}
use Rattle.scenetext.proofs.SceneLemmas.{raw, raw_line, earlier_of, AreTexts, line_texts, size_texts, immediate_is, count-earlier, lines_of-text_of, spelled_faultless}

pub unless_none : (test : Bool) (f : Fault) (rows : Option Fault) → unless test f rows ≡ None → (test ≡ true) × (rows ≡ None)
unless_none true f rows h = (refl, h)
unless_none false f rows h = absurd cc

pub or_fault_none : {A : Type 0} (o : Option A) (f : Fault) (rows : A → Option Fault) → or_fault o f rows ≡ None → (x : A) × (o ≡ Some x) × (rows x ≡ None)
or_fault_none None f rows h = absurd cc
or_fault_none (Some x) f rows h = (x, refl, h)

pub found_none : (n : ℕ) (o : Option Fault) (r : Option (ℕ × Fault)) → found_in n o r ≡ None → (o ≡ None) × (r ≡ None)
found_none n None r h = (refl, h)
found_none n (Some f) r h = absurd cc

find_step : {X : Type 0} (p : X → Bool) (y x : X) (rest : Option X) (t : Bool) → p y ≡ t → cond t (Some y) rest ≡ Some x → (rest ≡ Some x → p x ≡ true) → p x ≡ true
find_step p y x rest true e g more = let same : y ≡ x = cc in ap p (sym same) ∙ e
find_step p y x rest false e g more = more g

pub find_passes : {X : Type 0} (p : X → Bool) (xs : List X) (x : X) → find p xs ≡ Some x → p x ≡ true
find_passes p [] x h = absurd cc
find_passes p (y ∷ ys) x h = find_step p y x (find p ys) (p y) refl h (find_passes p ys x)

-- ---- the scene of some lines

abbrev pub actor_from : List ℕ → Actor
actor_from w = cond (is_immediate w) Immediate (Deferred (context w))

abbrev pub command_at : List (List ℕ) → CommandWord
command_at ws = unwrap_or (command_named (word ws 1) (is_immediate (word ws 0))) Vb

abbrev pub from_words : List (List ℕ) → Line
from_words ws = record { actor = actor_from (word ws 0); verb = verb_from (command_at ws) (drop 2 ws) }

abbrev pub line_from : TextLine → Line
line_from l = from_words (words_of l.bytes)

abbrev pub size_from : TextLine → Size
size_from l = record { width = value (word (words_of l.bytes) 1); height = value (word (words_of l.bytes) 2) }

abbrev pub scene_from : List TextLine → Scene
scene_from [] = record { size = record { width = 0; height = 0 }; lines = [] }
scene_from (l ∷ ls) = record { size = size_from l; lines = map line_from ls }

actor_back : (w : List ℕ) → (is_immediate w || is_context w) ≡ true → (actor_word (actor_from w) ≡ w) × IsActor (actor_from w) × (is_immediate_actor (actor_from w) ≡ is_immediate w)
actor_back w h = test (is_immediate w) refl h
  where
    test : (t : Bool) → is_immediate w ≡ t → (t || is_context w) ≡ true → (actor_word (cond t Immediate (Deferred (context w))) ≡ w) × IsActor (cond t Immediate (Deferred (context w))) × (is_immediate_actor (cond t Immediate (Deferred (context w))) ≡ t)
    test true e g = (sym ((bytes_eq-Decides w (codes "i")).0 e), tt, refl)
    test false e g = let c = context_is w g in (sym c.0, c.1, refl)

two_words : (ws : List (List ℕ)) (c : CommandWord) → word ws 1 ≡ name c → ws ≡ word ws 0 ∷ word ws 1 ∷ drop 2 ws
two_words [] c e = let n : is_word [] ≡ true = subst (λ w. is_word w ≡ true) (sym e) (IsWordText-name c).is in absurd cc
two_words (a ∷ []) c e = let n : is_word [] ≡ true = subst (λ w. is_word w ≡ true) (sym e) (IsWordText-name c).is in absurd cc
two_words (a ∷ b ∷ ws) c e = refl

-- a later line without fault is a line of a scene
pub record LineBack (earlier : List TextLine) (ws : List (List ℕ)) : Type 0 where
  pub words : line_words (from_words ws) ≡ ws
  pub actor : IsActor (from_words ws).actor
  pub verb : IsVerb (from_words ws).verb
  pub taken : may_take (from_words ws).verb (is_immediate_actor (from_words ws).actor) ≡ true
  pub has_list : has_list earlier ws ≡ true

later_back : (earlier : List TextLine) (ws : List (List ℕ)) → later_line_fault earlier ws ≡ None → LineBack earlier ws
later_back earlier ws h =
    let im = is_immediate (word ws 0) in
    let r0 = unless_none (im || is_context (word ws 0)) faults.Actor _ h in
    let r1 = or_fault_none (command_named (word ws 1) im) faults.Command (λ command. arguments_fault (shape command) (drop 2 ws) (unless (has_list earlier ws) faults.NoSuchList None)) r0.1 in
    let c = r1.0 in
    let r2 = or_fault_none (kinds_of (shape c) (length (drop 2 ws))) faults.ArgumentCount (λ kinds. unless (fit kinds (drop 2 ws)) faults.Argument (unless (has_list earlier ws) faults.NoSuchList None)) r1.2 in
    let r3 = unless_none (fit r2.0 (drop 2 ws)) faults.Argument (unless (has_list earlier ws) faults.NoSuchList None) r2.2 in
    let r4 = unless_none (has_list earlier ws) faults.NoSuchList None r3.1 in
    let a = actor_back (word ws 0) r0.0 in
    let b = backs c r2.0 (drop 2 ws) r2.1 r3.0 in
    let passes = find_passes (is_named (word ws 1) im) commands c r1.1 in
    let named : word ws 1 ≡ name c = (bytes_eq-Decides (word ws 1) (name c)).0 (and_left (bytes_eq (word ws 1) (name c)) (serves c im) passes) in
    let at : command_at ws ≡ c = ap (λ o. unwrap_or o Vb) r1.1 in
    let made : (from_words ws).verb ≡ verb_from c (drop 2 ws) = ap (λ d. verb_from d (drop 2 ws)) at in
    record {
      words = ap (λ w. w ∷ verb_words (from_words ws).verb) a.0
          ∙ ap (λ v. word ws 0 ∷ verb_words v) made
          ∙ ap (λ rest. word ws 0 ∷ rest) b.words
          ∙ ap (λ w. word ws 0 ∷ w ∷ drop 2 ws) (sym named)
          ∙ sym (two_words ws c named);
      actor = a.1;
      verb = subst (λ v. IsVerb v) (sym made) b.verb;
      taken = ap (λ v. may_take v (is_immediate_actor (from_words ws).actor)) made ∙ b.taken (is_immediate_actor (from_words ws).actor) ∙ ap (serves c) a.2 ∙ and_right (bytes_eq (word ws 1) (name c)) (serves c im) passes;
      has_list = r4.0;
    }

has_list_back : (earlier : List TextLine) (ls : List Line) (a : Actor) (v : Verb) → ((k : ℕ) → count_by (finishes (context_word k)) earlier ≡ count_by (finishes_list k) ls) → IsVerb v → has_list earlier (actor_word a ∷ verb_words v) ≡ true → HasList ls v
has_list_back earlier ls a (Execute context list restore) c i h =
    let g : not (leb (count_by (finishes_list context) ls) list) ≡ true = rw (digits_value-decimal own list (omega (arith, i.1.0.high)), c context) at h in
    grind (arith, nat_tests)
has_list_back earlier ls a v c i h = tt

-- the first line
size_back : (ws : List (List ℕ)) → first_line_fault ws ≡ None → (size_words (record { width = value (word ws 1); height = value (word ws 2) }) ≡ ws) × IsTarget (record { width = value (word ws 1); height = value (word ws 2) })
size_back ws h =
    let r0 = unless_none (bytes_eq (word ws 0) (codes "target")) faults.FirstLine _ h in
    let r1 = or_fault_none (kinds_of (OneOf (kinds (U32 ∷ U32 ∷ []) ∷ [])) (length (drop 1 ws))) faults.ArgumentCount (λ kinds. unless (fit kinds (drop 1 ws)) faults.Argument None) r0.1 in
    let r2 = unless_none (fit r1.0 (drop 1 ws)) faults.Argument None r1.2 in
    let g = one_of (kinds (U32 ∷ U32 ∷ [])) r1.0 (length (drop 1 ws)) r1.1 in
    let b = naturals_back (U32 ∷ U32 ∷ []) (drop 1 ws) refl g.0 (subst (λ ks. fit ks (drop 1 ws) ≡ true) (sym g.1) r2.0) in
    three ws ((bytes_eq-Decides (word ws 0) (codes "target")).0 r0.0) g.0 b.0 b.1
  where
    three : (ws : List (List ℕ)) → word ws 0 ≡ codes "target" → 2 ≡ length (drop 1 ws) → map decimal (map value (drop 1 ws)) ≡ drop 1 ws → AreIn (U32 ∷ U32 ∷ []) (map value (drop 1 ws))
        → (size_words (record { width = value (word ws 1); height = value (word ws 2) }) ≡ ws) × IsTarget (record { width = value (word ws 1); height = value (word ws 2) })
    three [] e l f i = absurd i
    three (a ∷ []) e l f i = absurd i
    three (a ∷ b ∷ []) e l f i = absurd i.1
    three (a ∷ b ∷ c ∷ []) e l f i = (ap (λ w. w ∷ decimal (value b) ∷ decimal (value c) ∷ []) (sym e) ∙ ap (λ x. a ∷ x) f, record { width = i.0; height = i.1.0 })
    three (a ∷ b ∷ c ∷ d ∷ ws) e l f i = absurd (omega arith)

-- a line that has its form is its words
raw_words : (l : TextLine) → has_form l ≡ true → raw (words_of l.bytes) ≡ l
raw_words l h =
    let e : l.ended ≡ true = and_left l.ended (list_all is_printable l.bytes) (and_left (l.ended && list_all is_printable l.bytes) (list_all is_word (words_of l.bytes)) h) in
    ap (λ bs. record { bytes = bs; ended = true }) (join-words_of l.bytes) ∙ ap (λ b. record { bytes = l.bytes; ended = b }) (sym e)

lines_back : (size : Size) (before : List Line) (rest : List TextLine) → IsTarget size → AreTexts before → first_fault (earlier_of size before) rest ≡ None → (map raw_line (map line_from rest) ≡ rest) × AreLines before (map line_from rest)
lines_back size before [] s t h = (refl, tt)
lines_back size before (l ∷ ls) s t h =
    let r0 = found_none (length (earlier_of size before) + 1) (line_fault (earlier_of size before) l) (first_fault (earlier_of size before ++ l ∷ []) ls) h in
    let r1 = unless_none (has_form l) faults.LineForm (later_line_fault (earlier_of size before) (words_of l.bytes)) r0.0 in
    let b = later_back (earlier_of size before) (words_of l.bytes) r1.1 in
    let same : raw_line (line_from l) ≡ l = ap raw b.words ∙ raw_words l r1.0 in
    let typed : HasList before (line_from l).verb = has_list_back (earlier_of size before) before (line_from l).actor (line_from l).verb (λ k. count-earlier k size before s t) b.verb (subst (λ ws. has_list (earlier_of size before) ws ≡ true) (sym b.words) b.has_list) in
    let line : IsLine before (line_from l) = record { actor = b.actor; verb = b.verb; taken = b.taken; has_list = typed } in
    let moved : earlier_of size before ++ l ∷ [] ≡ earlier_of size (before ++ line_from l ∷ []) =
    ap (λ x. earlier_of size before ++ x ∷ []) (sym same) ∙ ap (λ (xs : List TextLine). raw (size_words size) ∷ xs) (sym (map-append raw_line before (line_from l ∷ []))) in
    let more = lines_back size (before ++ line_from l ∷ []) ls s (All-join (λ (m : Line). AllByRecursion IsWordText (line_words m)) before (line_from l ∷ []) t (line_texts before (line_from l) line, tt)) (ap (λ e. first_fault e ls) (sym moved) ∙ r0.1) in
    (ap (λ x. x ∷ map raw_line (map line_from ls)) same ∙ ap (λ (xs : List TextLine). l ∷ xs) more.0, (line, more.1))

pub bytes_of : (ls : List Line) → flat_map line_bytes (map raw_line ls) ≡ flat_map (λ l. line_text (line_words l)) ls
bytes_of [] = refl
bytes_of (l ∷ ls) = ap (λ (xs : List ℕ). line_text (line_words l) ++ xs) (bytes_of ls)

of_lines : (text : List ℕ) (lines : List TextLine) → lines_of text ≡ lines → fault_of_lines lines ≡ None → Spells text (scene_from lines)
of_lines text [] e h = absurd cc
of_lines text (l ∷ ls) e h =
    let r0 = found_none 1 (line_fault [] l) (first_fault (l ∷ []) ls) h in
    let r1 = unless_none (has_form l) faults.LineForm (first_line_fault (words_of l.bytes)) r0.0 in
    let s = size_back (words_of l.bytes) r1.1 in
    let same : raw (size_words (size_from l)) ≡ l = ap raw s.0 ∙ raw_words l r1.0 in
    let b = lines_back (size_from l) [] ls s.1 tt (ap (λ x. first_fault (x ∷ []) ls) same ∙ r0.1) in
    record {
      scene_is = (s.1, b.1);
      text_is = sym (text_from-lines_of text) ∙ ap (flat_map line_bytes) e
          ∙ ap (λ x. flat_map line_bytes (x ∷ ls)) (sym same) ∙ ap (λ (xs : List TextLine). flat_map line_bytes (raw (size_words (size_from l)) ∷ xs)) (sym b.0)
          ∙ ap (λ (xs : List ℕ). line_text (size_words (size_from l)) ++ xs) (bytes_of (map line_from ls));
    }

-- the scene of a text without fault
pub faultless_spells : (text : List ℕ) → fault_of text ≡ None → Spells text (scene_from (lines_of text))
faultless_spells text h = of_lines text (lines_of text) refl h

-- ---- one scene

actor_again : (a : Actor) → IsActor a → actor_from (actor_word a) ≡ a
actor_again Immediate h = refl
actor_again (Deferred k) h = ap Deferred (omega arith)

line_again : (before : List Line) (l : Line) → IsLine before l → from_words (line_words l) ≡ l
line_again before l h =
    let f = verb_fits l.verb h.verb in
    let im = is_immediate_actor l.actor in
    let taken : serves f.command im ≡ true = sym (f.taken im) ∙ h.taken in
    let at : command_at (actor_word l.actor ∷ name f.command ∷ f.arguments) ≡ f.command = ap (λ b. unwrap_or (command_named (name f.command) b) Vb) (immediate_is l.actor) ∙ ap (λ o. unwrap_or o Vb) (command_named-name f.command im taken) in
    ap (λ ws. from_words (actor_word l.actor ∷ ws)) f.words_are
    ∙ ap (λ a. record { actor = a; verb = verb_from (command_at (actor_word l.actor ∷ name f.command ∷ f.arguments)) f.arguments }) (actor_again l.actor h.actor)
    ∙ ap (λ c. record { actor = l.actor; verb = verb_from c f.arguments }) at
    ∙ ap (λ v. record { actor = l.actor; verb = v }) f.again

lines_again : (before ls : List Line) → AreLines before ls → map line_from (map raw_line ls) ≡ ls
lines_again before [] h = refl
lines_again before (l ∷ ls) h =
    let words = joined_words (actor_word l.actor) (verb_words l.verb) (line_texts before l h.0) in
    ap (λ x. x ∷ map line_from (map raw_line ls)) (ap from_words words ∙ line_again before l h.0)
    ∙ ap (λ (xs : List Line). l ∷ xs) (lines_again (before ++ l ∷ []) ls h.1)

size_again : (s : Size) → IsTarget s → size_from (raw (size_words s)) ≡ s
size_again s h =
    let words = joined_words (codes "target") (decimal s.width ∷ decimal s.height ∷ []) (size_texts s h) in
    ap (λ ws. record { width = value (word ws 1); height = value (word ws 2) }) words
    ∙ ap (λ w. record { width = w; height = value (decimal s.height) }) (value-decimal s.width (omega (arith, h.width.high)))
    ∙ ap (λ w. record { width = s.width; height = w }) (value-decimal s.height (omega (arith, h.height.high)))

-- a scene is that of the lines of its spelling
pub scene_again : (text : List ℕ) (scene : Scene) → Spells text scene → scene_from (lines_of text) ≡ scene
scene_again text scene h =
    ap (λ t. scene_from (lines_of t)) h.text_is ∙ ap scene_from (lines_of-text_of scene h.scene_is)
    ∙ ap (λ z. record { size = z; lines = map line_from (map raw_line scene.lines) }) (size_again scene.size h.scene_is.0)
    ∙ ap (λ ls. record { size = scene.size; lines = ls }) (lines_again [] scene.lines h.scene_is.1)

-- ---- the law

either_by : (text : List ℕ) (o : Option (ℕ × Fault)) → fault_of text ≡ o → ((scene : Scene) × Spells text scene) ⊎ ((line : ℕ) × (number : ℕ) × HasFault text line number)
either_by text None e = inl (scene_from (lines_of text), faultless_spells text e)
either_by text (Some f) e = inr (f.0, number_of_fault f.1, record { fault = f.1; first = e; numbered = refl })

pub either : (text : List ℕ) → ((scene : Scene) × Spells text scene) ⊎ ((line : ℕ) × (number : ℕ) × HasFault text line number)
either text = either_by text (fault_of text) refl

pub never_both : (text : List ℕ) (scene : Scene) (line number : ℕ) → Spells text scene → HasFault text line number → ⊥
never_both text scene line number s f = let e = sym (spelled_faultless text scene s) ∙ f.first in absurd cc

pub one_scene : (text : List ℕ) (s t : Scene) → Spells text s → Spells text t → s ≡ t
one_scene text s t g h = sym (scene_again text s g) ∙ scene_again text t h

pub one_fault : (text : List ℕ) (l m : ℕ) (j k : ℕ) → HasFault text l j → HasFault text m k → (l ≡ m) × (j ≡ k)
one_fault text l m j k g h =
    let e = sym g.first ∙ h.first in
    let here : ℕ × Fault = (l, g.fault) in
    let there : ℕ × Fault = (m, h.fault) in
    let same : here ≡ there = cc in
    (ap (λ (p : ℕ × Fault). p.0) same, g.numbered ∙ ap (λ (p : ℕ × Fault). number_of_fault p.1) same ∙ sym h.numbered)
