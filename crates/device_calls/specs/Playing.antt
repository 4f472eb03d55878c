-- A line of a script that is played by handles (this project's own).
use Rattle.std.specs.Prelude.{ℕ, ◌≡◌, ◌+◌, ◌==◌, List, length, take, MatchBool}
use Rattle.immediate.specs.Held.{Held}
use Rattle.recorders.specs.Recording.{Recording}
use Rattle.answers.specs.declared.line.Answer.{Answer}
use Rattle.answers.specs.Lines.{answer_lines}
use Rattle.player.specs.Lines.{contexts_of, PlaysLine, RefusesLine, IsLeft}
use Rattle.device_calls.specs.declared.playing.LineTold.{LineTold}

-- the line was played: its bytes are counted, and the area begins with its answer line, if it asks
pub record IsLinePlayed (text : List ℕ) (contexts : List Recording) (h : Held) (contexts_after : List Recording) (h_after : Held) (told : LineTold) (answer : List ℕ) : Type 0 where
  pub tells : List Answer
  pub rest : List ℕ
  pub plays : PlaysLine text (contexts_of contexts h) (contexts_of contexts_after h_after) tells rest
  pub taken : told.taken + length rest ≡ length text
  pub size : told.answer ≡ length (answer_lines tells)
  pub line : take told.answer answer ≡ answer_lines tells

-- it was refused: the deferred contexts are as they were, and the immediate one, but that without memory what is pending may have run
pub record IsLineRefused (text : List ℕ) (contexts : List Recording) (h : Held) (contexts_after : List Recording) (h_after : Held) (number : ℕ) : Type 0 where
  pub refused : RefusesLine text (contexts_of contexts h) number
  pub same : contexts_after ≡ contexts
  pub left : IsLeft number h h_after

-- by the number that answers it
abbrev pub IsPlayed : List ℕ → List Recording → Held → List Recording → Held → LineTold → List ℕ → ℕ → Type 0
IsPlayed text p h q k told answer number =
    MatchBool (number == 0) (IsLinePlayed text p h q k told answer) (IsLineRefused text p h q k number)
