-- What a recorder keeps beside its commands.
use Rattle.std.specs.Prelude.{ℕ, ◌≡◌, ◌≤◌, Bool, true, false, List, [], ◌∷◌, length, map, replicate, slice_set, Option, Some, None}
use Rattle.gfxspec.specs.declared.TheConstants.{LIST_LIMIT}
use Rattle.gfxspec.specs.Commands.{Command, Begin, Kept}
use Rattle.gfxspec.specs.Recorded.{settings_after, issues, queries_named, queries_open, triangle_count}
use Rattle.gfxspec.specs.Refusals.{first_row, list_rows, too_long}
use Rattle.gfxspec.specs.Accepted.{AreAccepted}
use Rattle.meaning.specs.OneMore.{triangles_of}
use Rattle.command.specs.Seen.{settings_value, command_value}
use Rattle.cmdlist.specs.declared.context.DeferredContext.TheInside as context
use Rattle.cmdlist.specs.declared.list.CommandList.TheInside as list
use Rattle.cmdlist.specs.declared.list.Commands.TheInside as lent

-- the commands that were recorded
abbrev pub commands_of : {A : Type 0} → context.Inside A → List Command
commands_of c = map command_value c.commands.items

-- marks with one more, if there is one
abbrev pub marked_by : List Bool → Option ℕ → List Bool
marked_by marks None = marks
marked_by marks (Some query) = slice_set marks query true

-- a mark for each query that is among these
abbrev pub marked : List Bool → List ℕ → List Bool
marked marks [] = marks
marked marks (q ∷ qs) = marked (slice_set marks q true) qs

abbrev pub marks_of : List ℕ → List Bool
marks_of queries = marked (replicate 64 false) queries

-- The commands are accepted ones, and what stands beside them is what the definitions give of them.
pub record IsRecorded {A : Type 0} (c : context.Inside A) : Type 0 where
  pub accepted : AreAccepted (commands_of c)
  pub settings : settings_value c.settings ≡ settings_after (commands_of c)
  pub triangles : c.triangles ≡ triangle_count (commands_of c)
  pub few_triangles : c.triangles ≤ LIST_LIMIT
  pub few_commands : length (commands_of c) ≤ LIST_LIMIT
  pub begun : c.queries.begun ≡ marks_of (issues (commands_of c))
  pub named : c.queries.named ≡ marks_of (queries_named (commands_of c))
  pub issues : c.queries.issues ≡ length (issues (commands_of c))
  pub few_issues : c.queries.issues ≤ 64
  pub opened : c.queries.opened.items ≡ queries_open (commands_of c)

-- the commands of a finished list
abbrev pub list_commands : {A : Type 0} → list.Inside A → List Command
list_commands l = map command_value l.commands.items

-- they are accepted ones and leave no query open, and what stands beside them is what the definitions give of them
pub record IsFinished {A : Type 0} (l : list.Inside A) : Type 0 where
  pub accepted : AreAccepted (list_commands l)
  pub none_open : queries_open (list_commands l) ≡ []
  pub triangles : l.triangles ≡ triangle_count (list_commands l)
  pub issues : l.issues ≡ length (issues (list_commands l))

-- the commands that are lent
abbrev pub lent_commands : {A : Type 0} → lent.Inside A → List Command
lent_commands l = map command_value l.commands.now

pub record AreCounted {A : Type 0} (l : lent.Inside A) : Type 0 where
  pub accepted : AreAccepted (lent_commands l)
  pub triangles : l.triangles ≡ triangle_count (lent_commands l)
  pub issues : l.issues ≡ length (issues (lent_commands l))

-- a command that is a call of its own
abbrev pub is_call : Command → Bool
is_call (Kept s) = false
is_call c = true

abbrev pub is_begin : Command → Bool
is_begin (Begin query) = true
is_begin c = false

-- nothing but the kept state of the list before
abbrev pub is_kept_alone : List Command → Bool
is_kept_alone (Kept s ∷ []) = true
is_kept_alone list = false

-- Of the rows of a call that draws so many triangles only that on the length of the list may apply.
pub record OnlyLength (list : List Command) (c : Command) (triangles : ℕ) : Type 0 where
  pub call : is_call c ≡ true
  pub counted : triangles ≡ triangles_of (settings_after list) c
  pub rows : first_row (list_rows list c) ≡ first_row (too_long list triangles ∷ [])
