-- Executions that run as one: their items, and what these leave of what the context holds (Microsoft Learn, ID3D11DeviceContext::ExecuteCommandList).
use Rattle.std.specs.Prelude.{ℕ, ◌≡◌, ◌<◌, ◌-◌, ◌++◌, List, take, drop}
use Rattle.gfxspec.specs.Commands.{Command}
use Rattle.gfxspec.specs.Items.{Item, after_items}
use Rattle.gfxspec.specs.Recorded.{items}
use Rattle.tileblock.specs.Surface.{pixel_of}
use Rattle.immediate.specs.Outputs.{Outputs, performed_over, cut_over}

-- the items of the pending commands, and behind them those of a list; none of these begins a query, so the stored results tell what is performed
abbrev pub executed_items : Outputs → List Command → List Command → List Item
executed_items o pending list = items (performed_over o pending) ++ items (performed_over o list)

-- the items were drawn, and nothing else changed
pub record HasDrawn (is : List Item) (old new : Outputs) : Type 0 where
  pub size : new.surface.size ≡ old.surface.size
  pub pixels : (x y : ℕ) → x < old.surface.size.width → y < old.surface.size.height → pixel_of new.surface x y ≡ after_items is x y (pixel_of old.surface x y)
  pub results : new.results ≡ old.results

-- the segments from one place up to another
abbrev pub part : ℕ → ℕ → List (List Command) → List (List Command)
part from to segments = take (to - from) (drop from segments)

-- the first of the segments that waited were drawn, and the others wait
pub record PartDrawn (old : Outputs) (waited : List (List Command)) (new : Outputs) (waiting : List (List Command)) : Type 0 where
  pub gone : List (List Command)
  pub split : waited ≡ gone ++ waiting
  pub drawn : HasDrawn (cut_over old gone) old new
