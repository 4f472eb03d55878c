-- What is drawn and cleared, as the definitions have it.
use Rattle.std.specs.Prelude.{ℕ, ◌≡◌, true, List, [], ◌∷◌, IsTrue}
use Rattle.std.specs.List.{list_all}
use Rattle.gfxspec.specs.State.{Settings}
use Rattle.gfxspec.specs.Assembly.{Primitive}
use Rattle.gfxspec.specs.Items.{Item, ColorCleared, DepthStencilCleared}
use Rattle.gfxspec.specs.Commands.{Command}
use Rattle.gfxspec.specs.Recorded.{drawn_items, is_drawing}
use Rattle.gfxspec.specs.Refusals.{is_in_range}
use Rattle.assemble.specs.Drawing.{IsInRange, triangles_of}
use Rattle.cmdlist.specs.declared.draws.Drawing.{Drawing}
use Rattle.cmdlist.specs.declared.draws.Drawing.TheVariants.{Nothing, Triangles, ClearColor, ClearDepthStencil}

-- its items under these settings, with these issues open
abbrev pub drawing_items : Settings → List ℕ → Drawing → List Item
drawing_items s opened Nothing = []
drawing_items s opened (Triangles draw) = drawn_items s opened (triangles_of draw)
drawing_items s opened (ClearColor rgba) = ColorCleared rgba ∷ []
drawing_items s opened (ClearDepthStencil value) = DepthStencilCleared value.depth value.stencil ∷ []

-- if triangles are drawn, then these, of vertices in range
abbrev pub Draws : List Primitive → Drawing → Type 0
Draws primitives (Triangles draw) = IsInRange draw × IsTrue (list_all is_in_range draw.vertices.now) × (triangles_of draw ≡ primitives)
Draws primitives drawing = Unit {0}

-- what draws or clears comes of a command that does
abbrev pub IsOf : Command → Drawing → Type 0
IsOf c Nothing = Unit {0}
IsOf c drawing = is_drawing c ≡ true
