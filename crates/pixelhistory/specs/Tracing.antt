-- What is kept of a pixel on the way through the items.
use Rattle.std.specs.Prelude.{ℕ, ◌≡◌, ◌+◌, List, [], ◌∷◌, ◌++◌, length, Option, Some, None}
use Rattle.gfxspec.specs.Items.{Item, after_items, opening}
use Rattle.pixelevents.specs.declared.Event.{Event}
use Rattle.pixelevents.specs.History.{history_from}
use Rattle.pixelevents.specs.Laws.{left_by}
use Rattle.pixelhistory.specs.declared.trace.Trace.{Trace}

abbrev pub events_of : Option Event → List Event
events_of None = []
events_of (Some e) = e ∷ []

-- one item was gone past, and this is its event
pub record Adds {A : Type 0} (event : Option Event) (old new : Trace A) : Type 0 where
  pub pixel : new.pixel ≡ left_by old.pixel (events_of event)
  pub items : new.items ≡ old.items + 1
  pub events : new.events.items ≡ old.events.items ++ events_of event

-- these items were gone past
pub record GoesPast {A : Type 0} (is : List Item) (x y : ℕ) (old new : Trace A) : Type 0 where
  pub pixel : new.pixel ≡ after_items is x y old.pixel
  pub items : new.items ≡ old.items + length is
  pub events : new.events.items ≡ old.events.items ++ history_from old.items is x y old.pixel

-- from what a new target holds these items were gone past
pub record IsTraceOf {A : Type 0} (is : List Item) (x y : ℕ) (t : Trace A) : Type 0 where
  pub pixel : t.pixel ≡ after_items is x y opening
  pub items : t.items ≡ length is
  pub events : t.events.items ≡ history_from 0 is x y opening
