-- The spelling of a scene: what stands in its text, line by line.
use Rattle.std.specs.Prelude.{ℕ, ◌≡◌, ◌<◌, Bool, true, false, ◌&&◌, ◌==◌, List, [], ◌∷◌, ◌++◌, decimal, codes, count_by}
use Rattle.std.specs.List.{flat_map}
use Rattle.gfxspec.specs.declared.geometry.Size.{Size}
use Rattle.scenetext.specs.Scene.{Actor, Immediate, Deferred, Verb, Finish, Execute, Line, Scene}
use Rattle.scenetext.specs.Text.{line_text}
use Rattle.scenetext.specs.declared.range.TheConstants.{U32}
use Rattle.scenetext.specs.Numbers.{context_word}
use Rattle.scenetext.specs.Ranges.{IsIn}
use Rattle.scenetext.specs.Commands.{verb_words, may_take, IsVerb}

abbrev pub actor_word : Actor → List ℕ
actor_word Immediate = codes "i"
actor_word (Deferred k) = context_word k

abbrev pub is_immediate_actor : Actor → Bool
is_immediate_actor Immediate = true
is_immediate_actor (Deferred k) = false

abbrev pub line_words : Line → List (List ℕ)
line_words l = actor_word l.actor ∷ verb_words l.verb

abbrev pub size_words : Size → List (List ℕ)
size_words s = codes "target" ∷ decimal s.width ∷ decimal s.height ∷ []

abbrev pub text_of : Scene → List ℕ
text_of scene = line_text (size_words scene.size) ++ flat_map (λ l. line_text (line_words l)) scene.lines

abbrev pub IsActor : Actor → Type 0
IsActor Immediate = Unit {0}
IsActor (Deferred k) = k < 8

-- does this line finish a list of the context?
abbrev pub is_finish : Verb → Bool
is_finish (Finish restore) = true
is_finish v = false

abbrev pub is_deferred : ℕ → Actor → Bool
is_deferred k Immediate = false
is_deferred k (Deferred j) = j == k

abbrev pub finishes_list : ℕ → Line → Bool
finishes_list k l = is_deferred k l.actor && is_finish l.verb

-- an `exec` names a list that an earlier line finished; the lists of a context are numbered from 0
abbrev pub HasList : List Line → Verb → Type 0
HasList earlier (Execute context list restore) = list < count_by (finishes_list context) earlier
HasList earlier v = Unit {0}

pub record IsLine (earlier : List Line) (l : Line) : Type 0 where
  pub actor : IsActor l.actor
  pub verb : IsVerb l.verb
  pub taken : may_take l.verb (is_immediate_actor l.actor) ≡ true
  pub has_list : HasList earlier l.verb

-- each line may stand behind the earlier ones
abbrev pub AreLines : List Line → List Line → Type 0
AreLines earlier [] = Unit {0}
AreLines earlier (l ∷ ls) = IsLine earlier l × AreLines (earlier ++ l ∷ []) ls

-- the numbers of a `target` line
pub record IsTarget (s : Size) : Type 0 where
  pub width : IsIn U32 s.width
  pub height : IsIn U32 s.height

abbrev pub IsScene : Scene → Type 0
IsScene scene = IsTarget scene.size × AreLines [] scene.lines

-- this text spells this scene
pub record Spells (text : List ℕ) (scene : Scene) : Type 0 where
  pub scene_is : IsScene scene
  pub text_is : text ≡ text_of scene
