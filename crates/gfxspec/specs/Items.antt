-- What a list of items leaves at a pixel, and how often its triangles passed there: one primitive and one pixel at a time (Direct3D 11.3 Functional Specification, "Rasterization Rules", "Rasterizer Stage", "Output Merger Stage"; occlusion queries under "Asynchronous Notification").
use Rattle.std.specs.Prelude.{ℕ, zero, suc, ◌+◌, Bool, false, not, ◌&&◌, ◌||◌, ◌==◌, nat_lt, nat_le, List, [], ◌∷◌, if◌then◌else◌}
use Rattle.std.specs.List.{list_any}
use Rattle.gfxspec.specs.declared.geometry.Vertex.{Vertex}
use Rattle.gfxspec.specs.declared.geometry.PixelRect.{PixelRect}
use Rattle.gfxspec.specs.declared.geometry.Facing.{Facing}
use Rattle.gfxspec.specs.declared.geometry.Facing.TheVariants.{Front, Back, Empty}
use Rattle.gfxspec.specs.declared.pixel.Pixel.{Pixel}
use Rattle.gfxspec.specs.Snapping.{snapped}
use Rattle.gfxspec.specs.Raster.{Point, Triangle, centre, covers}
use Rattle.gfxspec.specs.Facing.{facing_of, is_culled}
use Rattle.gfxspec.specs.Depth.{depth_at, biased}
use Rattle.gfxspec.specs.DepthStencil.{DepthStencilSetting, FaceSetting, TestOutcome, tested}
use Rattle.gfxspec.specs.Color.{written_color}
use Rattle.gfxspec.specs.State.{Settings}
use Rattle.gfxspec.specs.Assembly.{Primitive}

-- a triangle with its settings and the open issues, or a clear of one kind
pub data Item : Type 0 where
  Drawn : (p : Primitive) (s : Settings) (opened : List ℕ) → Item
  ColorCleared : (rgba : List ℕ) → Item
  DepthStencilCleared : (depth stencil : ℕ) → Item

abbrev pub position : Vertex → Point
position v = record { x = snapped v.x; y = snapped v.y }

abbrev pub snapped_triangle : Primitive → Triangle
snapped_triangle p = record { first = position p.first; second = position p.second; third = position p.third }

abbrev pub is_in_rect : PixelRect → ℕ → ℕ → Bool
is_in_rect r x y = nat_le r.left x && (nat_lt x r.right && (nat_le r.top y && nat_lt y r.bottom))

abbrev pub in_scissor : Settings → ℕ → ℕ → Bool
in_scissor s x y = not s.raster.scissor || is_in_rect s.scissor x y

abbrev pub facing : Primitive → Settings → Facing
facing p s = facing_of s.raster.front_ccw (snapped_triangle p)

-- the triangle isn't dropped, covers the centre, and an enabled scissor rectangle lets it through
abbrev pub reaches : Primitive → Settings → ℕ → ℕ → Bool
reaches p s x y =
    not (is_culled s.raster.cull (facing p s)) && (covers (snapped_triangle p) (centre x y) && in_scissor s x y)

-- a front-facing triangle uses the front operations, a back-facing one the back operations
abbrev pub face_setting : Facing → DepthStencilSetting → FaceSetting
face_setting Front s = s.front
face_setting Back s = s.back
face_setting Empty s = s.back

-- the depth that a triangle has at a pixel
abbrev pub depth_of : Primitive → Settings → ℕ → ℕ → ℕ
depth_of p s x y = biased s.raster.depth_bias (depth_at (snapped_triangle p) p.first.z p.second.z p.third.z (centre x y))

-- both tests of a triangle at a pixel that it reaches
abbrev pub outcome : Primitive → Settings → ℕ → ℕ → Pixel → TestOutcome
outcome p s x y old =
    tested s.depth_stencil (face_setting (facing p s) s.depth_stencil) s.reference (depth_of p s x y) old.ds

-- a reached pixel after a triangle: what the tests leave, and the leading vertex's colour where both passed
abbrev pub drawn : Primitive → Settings → TestOutcome → Pixel → Pixel
drawn p s tests old =
    record {
      rgba = if tests.passed then written_color s.blend p.first.rgba old.rgba else old.rgba;
      ds = tests.after;
    }

-- a pixel after one item
abbrev pub after_item : Item → ℕ → ℕ → Pixel → Pixel
after_item (Drawn p s opened) x y old = if reaches p s x y then drawn p s (outcome p s x y old) old else old
after_item (ColorCleared rgba) x y old = record { rgba = rgba; ds = old.ds }
after_item (DepthStencilCleared depth stencil) x y old =
    record { rgba = old.rgba; ds = record { depth = depth; stencil = stencil } }

-- a pixel after the items in order
abbrev pub after_items : List Item → ℕ → ℕ → Pixel → Pixel
after_items [] x y old = old
after_items (item ∷ items) x y old = after_items items x y (after_item item x y old)

-- an item of the issue that reaches the pixel and passes both tests there
abbrev pub counts_for : ℕ → Item → ℕ → ℕ → Pixel → Bool
counts_for issue (Drawn p s opened) x y old =
    list_any (λ k. k == issue) opened && (reaches p s x y && (outcome p s x y old).passed)
counts_for issue (ColorCleared rgba) x y old = false
counts_for issue (DepthStencilCleared depth stencil) x y old = false

-- how many items of the issue pass at one pixel, each at its place in the order
abbrev pub count_at : ℕ → List Item → ℕ → ℕ → Pixel → ℕ
count_at issue [] x y old = 0
count_at issue (item ∷ items) x y old =
    (if counts_for issue item x y old then 1 else 0) + count_at issue items x y (after_item item x y old)

-- f 0 + f 1 + .. below n
abbrev pub sum_below : ℕ → (ℕ → ℕ) → ℕ
sum_below zero f = 0
sum_below (suc n) f = sum_below n f + f n

-- the count of an issue over a target, from what each pixel holds at first
abbrev pub issue_count : ℕ → List Item → ℕ → ℕ → (ℕ → ℕ → Pixel) → ℕ
issue_count issue items width height opening =
    sum_below height (λ y. sum_below width (λ x. count_at issue items x y (opening x y)))

-- what each pixel of a new target holds (this project's own)
abbrev pub opening : Pixel
opening = record { rgba = 0 ∷ 0 ∷ 0 ∷ 0 ∷ []; ds = record { depth = 16777215; stencil = 0 } }
