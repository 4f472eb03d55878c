-- The history of a pixel: what each item of a list that touches it finds and leaves there (this project's own).
use Rattle.std.specs.Prelude.{ℕ, ◌+◌, Bool, true, ◌&&◌, List, [], ◌∷◌, ◌++◌, if◌then◌else◌}
use Rattle.gfxspec.specs.declared.pixel.Pixel.{Pixel}
use Rattle.gfxspec.specs.DepthStencil.{stencil_passes, depth_passes}
use Rattle.gfxspec.specs.Items.{Item, Drawn, ColorCleared, DepthStencilCleared, reaches, facing, face_setting, depth_of, after_item}
use Rattle.pixelevents.specs.declared.Event.{Event}

-- a triangle touches the pixels that it reaches, a clear each
abbrev pub touches : Item → ℕ → ℕ → Bool
touches (Drawn p s opened) x y = reaches p s x y
touches (ColorCleared rgba) x y = true
touches (DepthStencilCleared depth stencil) x y = true

-- the stencil test of an item at a pixel; a clear has none to fail
abbrev pub passes_stencil : Item → Pixel → Bool
passes_stencil (Drawn p s opened) old =
    stencil_passes s.depth_stencil (face_setting (facing p s) s.depth_stencil) s.reference old.ds.stencil
passes_stencil (ColorCleared rgba) old = true
passes_stencil (DepthStencilCleared depth stencil) old = true

-- its depth test, of the depth that a triangle has there
abbrev pub passes_depth : Item → ℕ → ℕ → Pixel → Bool
passes_depth (Drawn p s opened) x y old = depth_passes s.depth_stencil (depth_of p s x y) old.ds.depth
passes_depth (ColorCleared rgba) x y old = true
passes_depth (DepthStencilCleared depth stencil) x y old = true

-- what the item of number k does to a pixel that it touches
abbrev pub event : ℕ → Item → ℕ → ℕ → Pixel → Event
event k item x y old =
    record {
      item = k;
      stencil_passed = passes_stencil item old;
      depth_passed = passes_depth item x y old;
      passed = passes_stencil item old && passes_depth item x y old;
      before = old;
      after = after_item item x y old;
    }

-- the event of one item, where it touches the pixel
abbrev pub events_at : ℕ → Item → ℕ → ℕ → Pixel → List Event
events_at k item x y old = if touches item x y then event k item x y old ∷ [] else []

-- the history of a pixel under items whose numbers begin at k
abbrev pub history_from : ℕ → List Item → ℕ → ℕ → Pixel → List Event
history_from k [] x y old = []
history_from k (item ∷ items) x y old =
    events_at k item x y old ++ history_from (k + 1) items x y (after_item item x y old)
