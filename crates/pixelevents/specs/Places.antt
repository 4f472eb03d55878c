-- Where the items of a list stand: which command, and which of its triangles (this project's own).
use Rattle.std.specs.Prelude.{ℕ, ◌≡◌, ◌<◌, ◌+◌, Bool, List, [], ◌∷◌, ◌++◌, length, Some, slice_get}
use Rattle.gfxspec.specs.State.{Settings}
use Rattle.gfxspec.specs.Assembly.{Primitive, draw_primitives, draw_indexed_primitives}
use Rattle.gfxspec.specs.Items.{Item, Drawn}
use Rattle.gfxspec.specs.Commands.{Command, Draw, DrawIndexed}
use Rattle.gfxspec.specs.Recorded.{items, settings_after, open_after}
use Rattle.gfxspec.specs.Predication.{performed}
use Rattle.meaning.specs.OneMore.{performed_items}
use Rattle.pixelevents.specs.declared.Place.{Place}

-- the items of a command behind those before it in its list, unless its predicate withholds them
abbrev pub items_of_command : (ℕ → Bool) → List Command → Command → List Item
items_of_command results earlier c = performed_items results (settings_after earlier) (open_after earlier) c

-- The item of this number in a list stands at this place: so many commands are before its own, and so many of its command's items before it.
pub record StandsAt (results : ℕ → Bool) (commands : List Command) (item : ℕ) (place : Place) : Type 0 where
  pub front : List Command
  pub command : Command
  pub back : List Command
  pub split : commands ≡ front ++ command ∷ back
  pub before : place.command ≡ length front
  pub number : item ≡ length (items (performed results front)) + place.triangle
  pub within : place.triangle < length (items_of_command results front command)

-- the triangles that a command draws, in the order in which they are assembled
abbrev pub triangles_at : Settings → Command → List Primitive
triangles_at s (Draw count start) = draw_primitives s count start
triangles_at s (DrawIndexed count start base) = draw_indexed_primitives s count start base
triangles_at s c = []

-- the item of a number is the one at its place: of the items of that command the one of that number
abbrev pub PlacesName : Type 0
PlacesName =
    (results : ℕ → Bool) (commands : List Command) (item : ℕ) (place : Place) (h : StandsAt results commands item place) → slice_get (items (performed results commands)) item ≡ slice_get (items_of_command results h.front h.command) place.triangle

-- the triangle of a draw that is performed at a place is the one of that number among those that are assembled
abbrev pub PlacesNameTriangles : Type 0
PlacesNameTriangles =
    (results : ℕ → Bool) (commands : List Command) (item : ℕ) (place : Place) (h : StandsAt results commands item place) (p : Primitive) → slice_get (triangles_at (settings_after h.front) h.command) place.triangle ≡ Some p → slice_get (items (performed results commands)) item ≡ Some (Drawn p (settings_after h.front) (open_after h.front))
