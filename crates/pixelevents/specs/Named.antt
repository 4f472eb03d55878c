-- Events with what they come from, and as an area of memory has them (this project's own).
use Rattle.std.specs.Prelude.{ℕ, Bool, List, [], ◌∷◌, ◌++◌, length, map, drop, if◌then◌else◌}
use Rattle.pixelevents.specs.declared.Event.{Event}
use Rattle.pixelevents.specs.declared.Origin.{Origin}
use Rattle.pixelevents.specs.declared.NamedEvent.{NamedEvent}
use Rattle.pixelevents.specs.declared.told.EventTold.{EventTold}

-- events, each named by the origin that stands at its place in another list
abbrev pub named_by : (Event → Origin → NamedEvent) → List Event → List Origin → List NamedEvent
named_by name [] [] = []
named_by name (e ∷ es) (o ∷ os) = name e o ∷ named_by name es os
named_by name es os = []

abbrev pub bit : Bool → ℕ
bit b = if b then 1 else 0

abbrev pub event_told : NamedEvent → EventTold
event_told named =
    record {
      item = named.event.item;
      line = named.line;
      command = named.place.command;
      triangle = named.place.triangle;
      depth_before = named.event.before.ds.depth;
      depth_after = named.event.after.ds.depth;
      color_before = named.event.before.rgba;
      color_after = named.event.after.rgba;
      stencil_before = named.event.before.ds.stencil;
      stencil_after = named.event.after.ds.stencil;
      stencil_passed = bit named.event.stencil_passed;
      depth_passed = bit named.event.depth_passed;
      passed = bit named.event.passed;
    }

-- an area with these events at its front, and behind them what was there
abbrev pub events_filled : List EventTold → List NamedEvent → List EventTold
events_filled area events = map event_told events ++ drop (length events) area
