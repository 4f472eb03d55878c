-- What a command draws under the state before it, and whether it does (Microsoft Learn, ID3D11DeviceContext).
use Rattle.std.specs.Prelude.{ℕ, ◌≡◌, Bool, false, List, [], slice_index_or, None}
use Rattle.gfxspec.specs.State.{Settings}
use Rattle.gfxspec.specs.Assembly.{Primitive, draw_primitives, draw_indexed_primitives}
use Rattle.gfxspec.specs.Commands.{Command, Draw, DrawIndexed}
use Rattle.gfxspec.specs.Refusals.{first_row}
use Rattle.gfxspec.specs.Accepted.{AreSound}
use Rattle.cmdlist.specs.DrawRows.{draw_rows, draw_indexed_rows}

-- a command that no row but that on the length of the list refuses under these settings
abbrev pub DrawsWithin : Settings → Command → Type 0
DrawsWithin s (Draw count start) = first_row (draw_rows s count start) ≡ None
DrawsWithin s (DrawIndexed count start base) = first_row (draw_indexed_rows s count start base) ≡ None
DrawsWithin s c = Unit {0}

pub record IsDrawable (s : Settings) (c : Command) : Type 0 where
  pub sound : AreSound s
  pub within : DrawsWithin s c

-- the triangles that a command draws
abbrev pub drawn_by : Settings → Command → List Primitive
drawn_by s (Draw count start) = draw_primitives s count start
drawn_by s (DrawIndexed count start base) = draw_indexed_primitives s count start base
drawn_by s c = []

-- query results as a list has them, FALSE beyond it
abbrev pub told : List Bool → ℕ → Bool
told results query = slice_index_or results query false
