-- A line of a script that is played on contexts that stay: it is read as in a script, and is the call that it spells (this project's own).
use Rattle.std.specs.Prelude.{ℕ, ◌≡◌, ◌⊎◌, List, [], ◌∷◌, length, map, slice_index_or, Err}
use Rattle.gfxspec.specs.declared.error.GfxError.{GfxError}
use Rattle.gfxspec.specs.Error.{error_number}
use Rattle.gfxspec.specs.Refusals.{Row, AnswersBy}
use Rattle.scenetext.specs.Scene.{Actor, Immediate, Deferred, Verb, Line}
use Rattle.scenetext.specs.Reading.{ReadsNext, IsFaulty}
use Rattle.immediate.specs.Held.{Held, MayHaveRun}
use Rattle.recorders.specs.Recording.{Recording, nothing_recorded, deferred_rows}
use Rattle.answers.specs.declared.line.Answer.{Answer}
use Rattle.sessions.specs.Taking.{held_rows}
use Rattle.sessions.specs.Calling.{Contexts, CalledOn}

-- the deferred contexts by their numbers, and the immediate one beside them
abbrev pub deferred_of : List Recording → ℕ → Recording
deferred_of contexts k = slice_index_or contexts k nothing_recorded

abbrev pub contexts_of : List Recording → Held → Contexts
contexts_of contexts h = record { immediate = h; deferred = deferred_of contexts }

-- how many lists each of the eight has finished
abbrev pub finished_by : (ℕ → Recording) → List ℕ
finished_by deferred = map (λ k. length (deferred k).lists) (0 ∷ 1 ∷ 2 ∷ 3 ∷ 4 ∷ 5 ∷ 6 ∷ 7 ∷ [])

-- the rows of the call that a line spells
abbrev pub call_rows : Contexts → Actor → Verb → List Row
call_rows c Immediate v = held_rows c.immediate v
call_rows c (Deferred k) v = deferred_rows (c.deferred k).current v

-- the line at the front of a text was read, and the call was made that it spells; what that told, and the text behind the line
pub record PlaysLine (text : List ℕ) (old new : Contexts) (told : List Answer) (rest : List ℕ) : Type 0 where
  pub line : Line
  pub read : ReadsNext (finished_by old.deferred) text line rest
  pub called : CalledOn line.actor line.verb old new told

-- the call that the line spells is refused with this number
pub record RefusesCall (text : List ℕ) (c : Contexts) (number : ℕ) : Type 0 where
  pub line : Line
  pub rest : List ℕ
  pub read : ReadsNext (finished_by c.deferred) text line rest
  pub refusal : GfxError
  pub refused : AnswersBy {T = Unit {0}} (call_rows c line.actor line.verb) (Err refusal)
  pub numbered : number ≡ error_number refusal

-- why the line isn't played: it has a fault, or its call is refused
abbrev pub RefusesLine : List ℕ → Contexts → ℕ → Type 0
RefusesLine text c number = IsFaulty (finished_by c.deferred) text number ⊎ RefusesCall text c number

-- what a line that isn't played leaves: without memory what is pending may have run
abbrev pub IsLeft : ℕ → Held → Held → Type 0
IsLeft number old new = (new ≡ old) ⊎ ((number ≡ 1) × MayHaveRun old new)
