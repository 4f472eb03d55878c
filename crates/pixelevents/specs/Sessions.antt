-- The history of a pixel over a session, and what a run adds to it (this project's own).
use Rattle.std.specs.Prelude.{ℕ, ◌≡◌, ◌<◌, ◌+◌, Bool, List, [], ◌∷◌, ◌++◌, length}
use Rattle.gfxspec.specs.declared.geometry.Size.{Size}
use Rattle.gfxspec.specs.declared.pixel.Pixel.{Pixel}
use Rattle.gfxspec.specs.Items.{Item, after_items, opening}
use Rattle.gfxspec.specs.Commands.{Command}
use Rattle.gfxspec.specs.Recorded.{items, queries_open}
use Rattle.gfxspec.specs.Accepted.{AreAccepted}
use Rattle.gfxspec.specs.Session.{Step, Executes, Flushes, items_of_session}
use Rattle.gfxspec.specs.Predication.{performed_session}
use Rattle.meaning.specs.Contexts.{Context, performed_pending, performed_next, shown}
use Rattle.meaning.specs.Standing.{session_pixels, settled, Stands}
use Rattle.pixelevents.specs.declared.Event.{Event}
use Rattle.pixelevents.specs.History.{history_from}
use Rattle.pixelevents.specs.Laws.{left_by}

-- the items of a session, of which each is performed
abbrev pub performed_items : Size → List Step → List Item
performed_items size steps = items_of_session (performed_session size steps)

-- the history of a pixel of a new target
abbrev pub session_history : Size → List Step → ℕ → ℕ → List Event
session_history size steps x y = history_from 0 (performed_items size steps) x y opening

-- the steps behind have the history of those before, and behind it that under these items from this pixel
pub record GrowsBy (size : Size) (x y : ℕ) (before behind : List Step) (is : List Item) (pixel : Pixel) : Type 0 where
  pub events : session_history size behind x y ≡ session_history size before x y ++ history_from (length (performed_items size before)) is x y pixel
  pub items : length (performed_items size behind) ≡ length (performed_items size before) + length is
  pub left : session_pixels size behind x y ≡ after_items is x y pixel

-- the history of a session ends with what the pixel holds
abbrev pub SessionEndsShown : Type 0
SessionEndsShown =
    (size : Size) (steps : List Step) (x y : ℕ) → left_by opening (session_history size steps x y) ≡ session_pixels size steps x y

-- what is pending adds its own history, from the stored pixel
abbrev pub PendingAdds : Type 0
PendingAdds =
    (size : Size) (steps : List Step) (c : Context) (x y : ℕ) → Stands size steps c → x < size.width → y < size.height → GrowsBy size x y (settled steps) steps (items (performed_pending c)) (c.stored x y)

-- an execution adds that of its list, from what was shown
abbrev pub ExecutionAdds : Type 0
ExecutionAdds =
    (size : Size) (steps : List Step) (c : Context) (list : List Command) (restore : Bool) (x y : ℕ) → Stands size steps c → queries_open c.pending ≡ [] → AreAccepted list → x < size.width → y < size.height → GrowsBy size x y steps (steps ++ Executes list restore ∷ []) (items (performed_next size c list)) (shown c x y)

-- a flush, wherever it stands, changes no history
abbrev pub FlushAddsNothing : Type 0
FlushAddsNothing =
    (size : Size) (before after : List Step) (x y : ℕ) → session_history size (before ++ Flushes ∷ after) x y ≡ session_history size (before ++ after) x y
