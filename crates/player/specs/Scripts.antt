-- Lines of a text that are played one behind the other, and the script that has them behind its target (this project's own).
use Rattle.std.specs.Prelude.{ℕ, zero, suc, ◌≡◌, List, [], ◌++◌}
use Rattle.gfxspec.specs.declared.geometry.Size.{Size}
use Rattle.scenetext.specs.Scene.{Scene}
use Rattle.scenetext.specs.Text.{line_text}
use Rattle.scenetext.specs.Spelling.{Spells, size_words}
use Rattle.answers.specs.declared.line.Answer.{Answer}
use Rattle.sessions.specs.Calling.{Contexts, HoldWhatIsLeft}
use Rattle.player.specs.Lines.{PlaysLine}

-- so many lines were played, the whole text; what they told
abbrev pub ArePlayed : ℕ → List ℕ → Contexts → Contexts → List Answer → Type 0
ArePlayed zero text old new told = (text ≡ []) × (new ≡ old) × (told ≡ [])
ArePlayed (suc n) text old new told =
    (rest : List ℕ) × (between : Contexts) × (first : List Answer) × (later : List Answer)
    × PlaysLine text old between first rest × ArePlayed n rest between new later × (told ≡ first ++ later)

-- contexts that hold what the script leaves that has the text behind its target
pub record HoldWhatTheScriptLeaves (size : Size) (text : List ℕ) (told : List Answer) (c : Contexts) : Type 0 where
  pub scene : Scene
  pub size_is : scene.size ≡ size
  pub spells : Spells (line_text (size_words size) ++ text) scene
  pub left : HoldWhatIsLeft scene told c
