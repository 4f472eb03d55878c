-- What the parts of the reader promise.
use Rattle.std.specs.List.{join_with_byte, list_all, position_or_len}
use Rattle.std.specs.Char.{is_ascii_digit}
use Rattle.std.specs.Str.Parse.{AllDigits, digits_value}
use Rattle.std.specs.Prelude.{ℕ, Bool, ◌≡◌, ◌⊎◌, ◌+◌, ◌==◌, ◌&&◌, slice_set, if◌then◌else◌, ◌<◌, ◌≤◌, ◌^◌, nat_le, length, take, true, false, Option, Some, None, List, [], ◌∷◌, ◌++◌, slice_index, count_by}
use Rattle.scenetext.specs.declared.fault.Fault.{Fault}
use Rattle.scenetext.specs.declared.fault.Fault.TheVariants as faults
use Rattle.scenetext.specs.declared.range.Range.{Range}
use Rattle.scenetext.specs.declared.range.TheConstants.{U32}
use Rattle.scenetext.specs.declared.fault.ReadError.{ReadError}
use Rattle.scenetext.specs.declared.fault.ReadError.TheVariants as errors
use Rattle.scenetext.specs.declared.verbs.CommandWord.{CommandWord}
use Rattle.scenetext.specs.declared.text.FrontForm.{FrontForm}
use Rattle.gfxspec.specs.declared.geometry.Size.{Size}
use Rattle.scenetext.specs.Scene.{Actor, Immediate, Deferred, Verb, Execute, Line}
use Rattle.scenetext.specs.Text.{TextLine, lines_of, words_of, is_printable, has_form}
use Rattle.scenetext.specs.Numbers.{context_word}
use Rattle.scenetext.specs.Commands.{Shape, name, shape, serves, verb_words, may_take, IsVerb}
use Rattle.scenetext.specs.Spelling.{actor_word, is_immediate_actor, line_words, size_words, is_finish, IsActor, IsTarget}
use Rattle.scenetext.specs.Faults.{number_of_fault, unless, arguments_fault, finishes, has_list, first_line_fault, later_line_fault, first_fault, fault_of, last_read, HasFault}

-- these words are the arguments of this verb
pub record Reads (command : CommandWord) (words : List (List ℕ)) (v : Verb) : Type 0 where
  pub words_are : verb_words v ≡ name command ∷ words
  pub verb : IsVerb v
  pub taken : (immediate : Bool) → may_take v immediate ≡ serves command immediate

-- the first row that applies to these arguments, whatever rows come after them; want of memory says nothing
abbrev pub RefusesShape : Shape → List (List ℕ) → ReadError → Type 0
RefusesShape s words errors.Memory = Unit {0}
RefusesShape s words (errors.Fault f) = (rows : Option Fault) → arguments_fault s words rows ≡ Some f

abbrev pub Refuses : CommandWord → List (List ℕ) → ReadError → Type 0
Refuses command words e = RefusesShape (shape command) words e

-- how many lists each context has finished, as earlier lines say
abbrev pub Counts : List TextLine → List ℕ → Type 0
Counts earlier finished = (k : ℕ) → k < 8 → slice_index finished k ≡ count_by (finishes (context_word k)) earlier

abbrev pub HasCounted : List ℕ → Verb → Type 0
HasCounted finished (Execute context list restore) = list < slice_index finished context
HasCounted finished v = Unit {0}

-- these words are the arguments of this verb, and a list that it executes is finished
pub record ReadsCounted (finished : List ℕ) (command : CommandWord) (words : List (List ℕ)) (v : Verb) : Type 0 where
  pub reads : Reads command words v
  pub has_list : HasCounted finished v

-- the first row that applies to these arguments, with that on lists; want of memory says nothing
abbrev pub RefusesCounted : List ℕ → CommandWord → List (List ℕ) → ReadError → Type 0
RefusesCounted finished command words errors.Memory = Unit {0}
RefusesCounted finished command words (errors.Fault f) = (earlier : List TextLine) (actor : List ℕ) → Counts earlier finished → arguments_fault (shape command) words (unless (has_list earlier (actor ∷ name command ∷ words)) faults.NoSuchList None) ≡ Some f

-- this line of a script is a line of a scene
pub record ReadsLine (finished bytes : List ℕ) (l : Line) : Type 0 where
  pub words_are : line_words l ≡ words_of bytes
  pub actor : IsActor l.actor
  pub verb : IsVerb l.verb
  pub taken : may_take l.verb (is_immediate_actor l.actor) ≡ true
  pub has_list : HasCounted finished l.verb

-- the first row that applies to a later line
abbrev pub RefusesLine : List ℕ → List ℕ → ReadError → Type 0
RefusesLine finished bytes errors.Memory = Unit {0}
RefusesLine finished bytes (errors.Fault f) = (earlier : List TextLine) → Counts earlier finished → later_line_fault earlier (words_of bytes) ≡ Some f

-- the first two words of a later line
pub record IsHead (old : List (List ℕ)) (a : Actor) (command : CommandWord) (rest : List (List ℕ)) : Type 0 where
  pub words_are : old ≡ actor_word a ∷ name command ∷ rest
  pub actor : IsActor a
  pub serves : serves command (is_immediate_actor a) ≡ true

abbrev pub RefusesHead : List (List ℕ) → ReadError → Type 0
RefusesHead words errors.Memory = Unit {0}
RefusesHead words (errors.Fault f) = (earlier : List TextLine) → later_line_fault earlier words ≡ Some f

abbrev pub line_record : List ℕ → TextLine
line_record bs = record { bytes = bs; ended = true }

-- has the rest of a line its form, where a word has begun or must begin?
abbrev pub form : Bool → List ℕ → Bool
form begun [] = false
form begun (b ∷ bs) = if b == 10 then begun else if b == 32 then begun && form false bs else is_printable b && form true bs

-- what some bytes say of the form of a line with whatever bytes behind them
pub record HasForm (begun : Bool) (bytes : List ℕ) (f : FrontForm) : Type 0 where
  pub printable : list_all is_printable bytes ≡ true
  pub spaces : f.spaces ≡ count_by (λ b. b == 32) bytes
  pub behind : (rest : List ℕ) → form begun (bytes ++ rest) ≡ (f.separates && form f.in_word rest)

-- the same of bytes with these behind them
abbrev pub AddsForm : List ℕ → FrontForm → FrontForm → Type 0
AddsForm bytes f g = (begun : Bool) (before : List ℕ) → HasForm begun before f → HasForm begun (before ++ bytes) g

-- so many digits stand at the front of a line, and this is their number; the count ends at ten
pub record LeadsWith (line : List ℕ) (count value : ℕ) : Type 0 where
  pub within : count ≤ length line
  pub few : count ≤ 10
  pub digits : AllDigits 10 (take count line)
  pub value_is : value ≡ digits_value 10 (take count line)
  pub ends : count < 10 → count < length line → is_ascii_digit (slice_index line count) ≡ false

-- the first word of a line
abbrev pub first_length : List ℕ → ℕ
first_length line = position_or_len (λ b. b == 32) line

abbrev pub first_word : List ℕ → List ℕ
first_word line = take (first_length line) line

-- the first line of a text has its form, and this is the text behind it
pub record CutsLine (text line rest : List ℕ) : Type 0 where
  pub lines : lines_of text ≡ line_record line ∷ lines_of rest
  pub form : has_form (line_record line) ≡ true
  pub shorter : length rest < length text

-- the first line of a text has not
pub record BadForm (text : List ℕ) : Type 0 where
  pub line : TextLine
  pub rest : List TextLine
  pub lines : lines_of text ≡ line ∷ rest
  pub form : has_form line ≡ false

pub record ReadsSize (line : List ℕ) (s : Size) : Type 0 where
  pub words_are : size_words s ≡ words_of line
  pub size : IsTarget s

-- the first line takes no memory
abbrev pub RefusesFirst : List ℕ → ReadError → Type 0
RefusesFirst line errors.Memory = ⊥
RefusesFirst line (errors.Fault f) = first_line_fault (words_of line) ≡ Some f

abbrev pub number_of_error : ReadError → ℕ
number_of_error errors.Memory = 1
number_of_error (errors.Fault f) = number_of_fault f

-- the counts of finished lists behind one more line
abbrev pub counted_for : List ℕ → Actor → Bool → List ℕ
counted_for finished Immediate ends = finished
counted_for finished (Deferred k) ends = if ends then slice_set finished k (slice_index finished k + 1) else finished

abbrev pub counted_by : List ℕ → Line → List ℕ
counted_by finished l = counted_for finished l.actor (is_finish l.verb)

abbrev pub HasRoom : List ℕ → Type 0
HasRoom finished = (k : ℕ) → k < 8 → slice_index finished k < 2 ^ 63

-- a text whose first line gives this size
pub record ReadsFirst (text : List ℕ) (s : Size) (rest : List ℕ) : Type 0 where
  pub lines : lines_of text ≡ line_record (join_with_byte 32 (size_words s)) ∷ lines_of rest
  pub size : IsTarget s
  pub shorter : length rest < length text

abbrev pub RefusesText : List ℕ → ReadError → Type 0
RefusesText text errors.Memory = ⊥
RefusesText text (errors.Fault f) = fault_of text ≡ Some (1, f)

-- a text whose first line is this one, behind others
pub record ReadsNext (finished text : List ℕ) (l : Line) (rest : List ℕ) : Type 0 where
  pub lines : lines_of text ≡ line_record (join_with_byte 32 (line_words l)) ∷ lines_of rest
  pub line : ReadsLine finished (join_with_byte 32 (line_words l)) l
  pub shorter : length rest < length text

abbrev pub RefusesNext : List ℕ → List ℕ → ReadError → Type 0
RefusesNext finished text errors.Memory = Unit {0}
RefusesNext finished text (errors.Fault f) = (e : TextLine) (es : List TextLine) → Counts (e ∷ es) finished → first_fault (e ∷ es) (lines_of text) ≡ Some (length (e ∷ es) + 1, f)

-- the number for which the line at the front of a text that follows other lines is refused
pub record IsFaulty (finished text : List ℕ) (number : ℕ) : Type 0 where
  pub error : ReadError
  pub refuses : RefusesNext finished text error
  pub numbered : number ≡ number_of_error error

-- why a text could not be read: its fault, or want of memory in a line that was reached
abbrev pub Refused : List ℕ → ℕ × ℕ → Type 0
Refused text e = HasFault text e.0 e.1 ⊎ ((e.1 ≡ 1) × (1 ≤ e.0) × (e.0 ≤ last_read text))

-- the numbers that stand for the values of a type
pub record Numbering (T : Type 0) : Type 0 where
  pub range : Range
  pub number : T → ℕ
  pub small : nat_le range.high U32.high ≡ true
