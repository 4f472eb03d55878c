-- What a deferred context records by its own lines: its finished lists, and the list that it is recording (Microsoft Learn, "Immediate and Deferred Rendering").
use Rattle.std.specs.Prelude.{ℕ, List, [], ◌∷◌, ◌++◌, fold, slice_index_or, if◌then◌else◌}
use Rattle.gfxspec.specs.Commands.{Command}
use Rattle.gfxspec.specs.Recorded.{after_finish}
use Rattle.gfxspec.specs.Refusals.{Row, list_rows, finish_rows}
use Rattle.scenetext.specs.Scene.{Verb, Call, Finish, Line}
use Rattle.scenetext.specs.Spelling.{is_deferred}

pub record Recording : Type 0 where
  pub lists : List (List Command)
  pub current : List Command

abbrev pub nothing_recorded : Recording
nothing_recorded = record { lists = []; current = [] }

abbrev pub with_verb : Recording → Verb → Recording
with_verb r (Call c) = record { lists = r.lists; current = r.current ++ c ∷ [] }
with_verb r (Finish restore) = record { lists = r.lists ++ r.current ∷ []; current = after_finish restore r.current }
with_verb r v = r

-- of context k, behind one more line
abbrev pub with_line : ℕ → Recording → Line → Recording
with_line k r l = if is_deferred k l.actor then with_verb r l.verb else r

-- of context k, behind some lines
abbrev pub recording_of : ℕ → List Line → Recording
recording_of k earlier = fold (with_line k) nothing_recorded earlier

-- the rows of a verb on a deferred context that is recording this list
abbrev pub deferred_rows : List Command → Verb → List Row
deferred_rows list (Call c) = list_rows list c
deferred_rows list (Finish restore) = finish_rows list
deferred_rows list verb = []

-- list n of context k, in the whole scene
abbrev pub listed : List Line → ℕ → ℕ → List Command
listed ls k n = slice_index_or (recording_of k ls).lists n []
