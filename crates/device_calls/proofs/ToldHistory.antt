-- The history of a pixel that is told by a handle.
use Rattle.std.proofs.Common.{◌≡◌, sym, subst, ℕ, List, length, nat_le, Option, Some}
use Rattle.std.specs.Prelude.{IfSome, if◌then◌else◌}
use Rattle.immediate.specs.Held.{Held}
use Rattle.immediate.specs.Histories.{IsHistory}
use Rattle.pixelevents.specs.declared.NamedEvent.{NamedEvent}
use Rattle.pixelevents.specs.declared.told.EventTold.{EventTold}
use Rattle.pixelevents.specs.Named.{events_filled}
use Rattle.device_calls.specs.Telling.{TellsHistory}

pub told_history : (o : Option Held) (h : Held) (x y : ℕ) (area after : List EventTold) (count : ℕ) (events : List NamedEvent) → o ≡ Some h → IsHistory h x y events → count ≡ length events → after ≡ (if nat_le (length events) (length area) then events_filled area events else area) → IfSome o (λ old. TellsHistory old x y area after count)
told_history o h x y area after count events held history counted filled =
    subst (λ (p : Option Held). IfSome p (λ old. TellsHistory old x y area after count)) (sym held) record { events = events; history = history; counted = counted; filled = filled }
