-- Scenes as plain records: what a script says.
use Rattle.std.specs.Prelude.{ℕ, Bool, List}
use Rattle.gfxspec.specs.declared.geometry.Size.{Size}
use Rattle.gfxspec.specs.Commands.{Command}

-- who takes a line: the immediate context, or a deferred one by its number
pub data Actor : Type 0 where
  Immediate : Actor
  Deferred : (context : ℕ) → Actor

-- a recorded call, or another command word with its arguments
pub data Verb : Type 0 where
  Call : (c : Command) → Verb
  Finish : (restore : Bool) → Verb
  Flush : Verb
  Execute : (context list : ℕ) (restore : Bool) → Verb
  Query : (query : ℕ) → Verb
  Pixel : (x y : ℕ) → Verb

pub record Line : Type 0 where
  pub actor : Actor
  pub verb : Verb

-- the size of the target, and the lines behind the first
pub record Scene : Type 0 where
  pub size : Size
  pub lines : List Line
