-- Which way a triangle faces, and which triangles are dropped (Direct3D 11.3 Functional Specification, "Rasterizer Stage": front and back facing, cull modes).
use Rattle.std.specs.Prelude.{Bool, true, false, pos, int_lt, if◌then◌else◌}
use Rattle.gfxspec.specs.declared.geometry.Facing.{Facing}
use Rattle.gfxspec.specs.declared.geometry.Facing.TheVariants.{Front, Back, Empty}
use Rattle.gfxspec.specs.declared.state.Cull.{Cull}
use Rattle.gfxspec.specs.declared.state.Cull.TheVariants as C
use Rattle.gfxspec.specs.Raster.{Triangle, area, is_empty}

-- by FrontCounterClockwise, and by whether the vertices go round clockwise on the target
abbrev pub facing_by : Bool → Bool → Facing
facing_by false true = Front
facing_by false false = Back
facing_by true true = Back
facing_by true false = Front

abbrev pub facing_of : Bool → Triangle → Facing
facing_of front_ccw t = if is_empty t then Empty else facing_by front_ccw (int_lt (pos 0) (area t))

-- what is dropped in each mode
abbrev pub is_culled : Cull → Facing → Bool
is_culled C.None Front = false
is_culled C.None Back = false
is_culled C.None Empty = true
is_culled C.Front Front = true
is_culled C.Front Back = false
is_culled C.Front Empty = true
is_culled C.Back Front = false
is_culled C.Back Back = true
is_culled C.Back Empty = true
