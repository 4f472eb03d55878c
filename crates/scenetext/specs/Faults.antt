-- What is wrong with a text: the first faulty line, and the first row of the table of faults that applies to it.
use Rattle.std.specs.Option.{option_map_or}
use Rattle.std.specs.Prelude.{ℕ, ◌+◌, ◌≡◌, nat_le, Bool, ◌&&◌, ◌||◌, not, List, [], ◌∷◌, ◌++◌, length, drop, Option, Some, None, bytes_eq, codes, count_by, slice_index_or, if◌then◌else◌}
use Rattle.std.specs.Str.Parse.{digits_value}
use Rattle.scenetext.specs.declared.fault.Fault.{Fault}
use Rattle.scenetext.specs.declared.fault.Fault.TheVariants as faults
use Rattle.scenetext.specs.declared.range.TheConstants.{U32}
use Rattle.scenetext.specs.Text.{TextLine, lines_of, words_of, has_form}
use Rattle.scenetext.specs.Numbers.{is_context, fit}
use Rattle.scenetext.specs.Ranges.{kinds}
use Rattle.scenetext.specs.Commands.{Shape, OneOf, shape, kinds_of, command_named}

-- the numbers of the faults
abbrev pub number_of_fault : Fault → ℕ
number_of_fault faults.LineForm = 101
number_of_fault faults.FirstLine = 102
number_of_fault faults.Actor = 103
number_of_fault faults.Command = 104
number_of_fault faults.ArgumentCount = 105
number_of_fault faults.Argument = 106
number_of_fault faults.NoSuchList = 107

-- the word at a place, empty where there is none
abbrev pub word : List (List ℕ) → ℕ → List ℕ
word words i = slice_index_or words i []

-- a row that applies where there is no value, and else the rows after it
abbrev pub or_fault : {A : Type 0} → Option A → Fault → (A → Option Fault) → Option Fault
or_fault None fault rows = Some fault
or_fault (Some x) fault rows = rows x

-- a row that applies where a test fails, and else the rows after it
abbrev pub unless : Bool → Fault → Option Fault → Option Fault
unless test fault rows = if test then rows else Some fault

abbrev pub is_immediate : List ℕ → Bool
is_immediate w = bytes_eq w (codes "i")

-- is this line `finish` of this context?
abbrev pub finishes : List ℕ → TextLine → Bool
finishes context line = bytes_eq (word (words_of line.bytes) 0) context && bytes_eq (word (words_of line.bytes) 1) (codes "finish")

-- the rows on arguments
abbrev pub arguments_fault : Shape → List (List ℕ) → Option Fault → Option Fault
arguments_fault s arguments rows =
    or_fault (kinds_of s (length arguments)) faults.ArgumentCount (λ kinds.
    unless (fit kinds arguments) faults.Argument rows)

-- an `exec` names a list that an earlier line finished
abbrev pub has_list : List TextLine → List (List ℕ) → Bool
has_list earlier words =
    not (bytes_eq (word words 1) (codes "exec"))
    || not (nat_le (count_by (finishes (word words 2)) earlier) (digits_value 10 (word words 3)))

abbrev pub target_shape : Shape
target_shape = OneOf (kinds (U32 ∷ U32 ∷ []) ∷ [])

-- the rows for the first line
abbrev pub first_line_fault : List (List ℕ) → Option Fault
first_line_fault words =
    unless (bytes_eq (word words 0) (codes "target")) faults.FirstLine
    (arguments_fault target_shape (drop 1 words) None)

-- the rows for a later line
abbrev pub later_line_fault : List TextLine → List (List ℕ) → Option Fault
later_line_fault earlier words =
    unless (is_immediate (word words 0) || is_context (word words 0)) faults.Actor
    (or_fault (command_named (word words 1) (is_immediate (word words 0))) faults.Command (λ command.
    arguments_fault (shape command) (drop 2 words)
    (unless (has_list earlier words) faults.NoSuchList None)))

-- the rows behind the form of a line
abbrev pub words_fault : List TextLine → List (List ℕ) → Option Fault
words_fault [] words = first_line_fault words
words_fault (line ∷ lines) words = later_line_fault (line ∷ lines) words

-- the first row that applies to a line, with the lines before it
abbrev pub line_fault : List TextLine → TextLine → Option Fault
line_fault earlier line = unless (has_form line) faults.LineForm (words_fault earlier (words_of line.bytes))

-- a line, counted from 1, and its fault
abbrev pub found_in : ℕ → Option Fault → Option (ℕ × Fault) → Option (ℕ × Fault)
found_in line (Some fault) rest = Some (line, fault)
found_in line None rest = rest

-- the first faulty line of those behind some earlier lines
abbrev pub first_fault : List TextLine → List TextLine → Option (ℕ × Fault)
first_fault earlier [] = None
first_fault earlier (line ∷ lines) = found_in (length earlier + 1) (line_fault earlier line) (first_fault (earlier ++ line ∷ []) lines)

-- the first faulty line of a text; an empty text has no first line
abbrev pub fault_of_lines : List TextLine → Option (ℕ × Fault)
fault_of_lines [] = Some (1, faults.FirstLine)
fault_of_lines (line ∷ lines) = first_fault [] (line ∷ lines)

abbrev pub fault_of : List ℕ → Option (ℕ × Fault)
fault_of text = fault_of_lines (lines_of text)

-- this text has the fault of this number in this line
pub record HasFault (text : List ℕ) (line number : ℕ) : Type 0 where
  pub fault : Fault
  pub first : fault_of text ≡ Some (line, fault)
  pub numbered : number ≡ number_of_fault fault

-- the line at which reading ends: that of the fault, or the last
abbrev pub last_read : List ℕ → ℕ
last_read text = option_map_or (λ f. f.0) (fault_of text) (length (lines_of text))
