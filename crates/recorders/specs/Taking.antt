-- A deferred context that takes a line.
use Rattle.std.specs.Prelude.{ℕ, ◌≡◌, ◌+◌, Bool, true, List, [], ◌∷◌, ◌++◌, Option, Some, None}
use Rattle.gfxspec.specs.declared.error.GfxError.{GfxError}
use Rattle.gfxspec.specs.Commands.{Command}
use Rattle.gfxspec.specs.Recorded.{after_finish}
use Rattle.gfxspec.specs.Refusals.{first_row}
use Rattle.scenetext.specs.Scene.{Verb, Call, Finish, Line}
use Rattle.scenetext.specs.Spelling.{is_deferred}
use Rattle.recorders.specs.declared.ports.Recorded.{Recorded}
use Rattle.recorders.specs.declared.refusal.ContextEnd.{ContextEnd}
use Rattle.recorders.specs.declared.refusal.RefusedLine.{RefusedLine}
use Rattle.recorders.specs.Recording.{deferred_rows}
use Rattle.recorders.specs.Apart.{Cause}

-- a context, the list that it is recording, and how many it has finished before a line that it refused
pub record AtWork : Type 0 where
  pub context : ℕ
  pub current : List Command
  pub end : ContextEnd

abbrev pub starting : ℕ → AtWork
starting k = record { context = k; current = []; end = record { lists = 0; refused = None } }

-- what an accepted verb leaves as the list, and how many are finished behind it
abbrev pub current_after : Verb → List Command → List Command
current_after (Call c) list = list ++ c ∷ []
current_after (Finish restore) list = after_finish restore list
current_after v list = list

abbrev pub lists_after : Verb → ℕ → ℕ
lists_after (Finish restore) n = n + 1
lists_after v n = n

-- the list that a verb finishes
abbrev pub given_by : Verb → AtWork → List (Recorded (List Command))
given_by (Finish restore) r = record { context = r.context; number = r.end.lists; list = r.current } ∷ []
given_by v r = []

-- a verb was taken, and the lists that were put before and behind
pub record VerbTaken (v : Verb) (old new : AtWork) (before after : List (Recorded (List Command))) : Type 0 where
  pub accepts : first_row (deferred_rows old.current v) ≡ None
  pub context_is : new.context ≡ old.context
  pub current_is : new.current ≡ current_after v old.current
  pub lists_are : new.end.lists ≡ lists_after v old.end.lists
  pub refused_is : new.end.refused ≡ old.end.refused
  pub gives : after ≡ before ++ given_by v old

pub record VerbRefused (v : Verb) (old new : AtWork) (before after : List (Recorded (List Command))) (e : GfxError) : Type 0 where
  pub cause : Cause (first_row (deferred_rows old.current v)) e
  pub context_is : new.context ≡ old.context
  pub lists_are : new.end.lists ≡ old.end.lists
  pub nothing : after ≡ before

-- of a line: passed over behind a refused one, and where it is none of the context; else its verb is taken, or it is the first that is refused
abbrev pub TakenIf : Option RefusedLine → Bool → Option RefusedLine → ℕ → Verb → AtWork → AtWork → List (Recorded (List Command)) → List (Recorded (List Command)) → Type 0
TakenIf None true None place v old new before after = VerbTaken v old new before after
TakenIf None true (Some s) place v old new before after = (s.place ≡ place) × VerbRefused v old new before after s.refusal
TakenIf earlier own now place v old new before after = (new ≡ old) × (after ≡ before)

abbrev pub HasTaken : ℕ → Line → AtWork → AtWork → List (Recorded (List Command)) → List (Recorded (List Command)) → Type 0
HasTaken place l old new before after = TakenIf old.end.refused (is_deferred old.context l.actor) new.end.refused place l.verb old new before after
