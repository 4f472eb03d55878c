-- The history of a pixel that was told into an area of C's (this project's own).
use Rattle.std.specs.Prelude.{ℕ, ◌≡◌, List, length, nat_le, if◌then◌else◌}
use Rattle.immediate.specs.Held.{Held}
use Rattle.immediate.specs.Histories.{IsHistory}
use Rattle.pixelevents.specs.declared.NamedEvent.{NamedEvent}
use Rattle.pixelevents.specs.declared.told.EventTold.{EventTold}
use Rattle.pixelevents.specs.Named.{events_filled}

-- the events of the pixel were counted, and stand at the front of the area, where this has room for all
pub record TellsHistory (h : Held) (x y : ℕ) (area after : List EventTold) (count : ℕ) : Type 0 where
  pub events : List NamedEvent
  pub history : IsHistory h x y events
  pub counted : count ≡ length events
  pub filled : after ≡ (if nat_le (length events) (length area) then events_filled area events else area)
