-- Worked examples of the definitions, each computed.
use Rattle.std.proofs.Common.{◌≡◌, refl, ℕ, ◌*◌, List, [], ◌∷◌, true, false}
use Rattle.std.specs.Prelude.{pos, negsuc}
use Rattle.gfxspec.specs.declared.geometry.Vertex.{Vertex}
use Rattle.gfxspec.specs.declared.state.StencilOp.TheVariants.{IncrSat, Incr, DecrSat, Decr, Invert}
use Rattle.gfxspec.specs.declared.state.LogicOp.TheVariants as L
use Rattle.gfxspec.specs.Snapping.{snapped}
use Rattle.gfxspec.specs.Raster.{centre, covers}
use Rattle.gfxspec.specs.Depth.{depth_at}
use Rattle.gfxspec.specs.DepthStencil.{stencil_result, masked}
use Rattle.gfxspec.specs.Color.{logic_byte, written_color}
use Rattle.gfxspec.specs.State.{Settings, defaults, default_raster, default_depth_stencil, default_face}
use Rattle.gfxspec.specs.Assembly.{Primitive}
use Rattle.gfxspec.specs.Items.{Item, Drawn, ColorCleared, DepthStencilCleared, opening, snapped_triangle, after_items, issue_count}

-- a vertex at whole pixels
abbrev pub at : ℕ → ℕ → ℕ → List ℕ → Vertex
at x y z rgba = record { x = pos (65536 * x); y = pos (65536 * y); z = z; rgba = rgba }

abbrev pub grey : ℕ → List ℕ
grey n = n ∷ n ∷ n ∷ n ∷ []

abbrev pub upper_left : Primitive
upper_left = record { first = at 0 0 0 (grey 1); second = at 4 0 10 (grey 2); third = at 0 4 0 (grey 3) }

abbrev pub lower_right : Primitive
lower_right = record { first = at 4 0 0 (grey 2); second = at 4 4 0 (grey 4); third = at 0 4 0 (grey 3) }

abbrev pub other_way : Primitive
other_way = record { first = at 0 0 0 (grey 1); second = at 0 4 0 (grey 2); third = at 4 0 0 (grey 3) }

abbrev pub count_of : List Item → ℕ
count_of items = issue_count 0 items 4 4 (λ x y. opening)

abbrev draw : Primitive → Item
draw p = Drawn p defaults (0 ∷ [])

half_has_six : count_of (draw upper_left ∷ []) ≡ 6
half_has_six = refl

other_half_has_ten : count_of (draw lower_right ∷ []) ≡ 10
other_half_has_ten = refl

-- none is drawn twice, though the second is drawn in front
both_have_sixteen : count_of (Drawn upper_left (record defaults { depth_stencil = record default_depth_stencil { depth = false } }) (0 ∷ []) ∷ Drawn lower_right (record defaults { depth_stencil = record default_depth_stencil { depth = false } }) (0 ∷ []) ∷ []) ≡ 16
both_have_sixteen = refl

on_the_diagonal : (covers (snapped_triangle upper_left) (centre 2 1) ≡ false) × (covers (snapped_triangle lower_right) (centre 2 1) ≡ true) × (covers (snapped_triangle upper_left) (centre 2 0) ≡ true)
on_the_diagonal = (refl, refl, refl)

back_is_culled : count_of (draw other_way ∷ []) ≡ 0
back_is_culled = refl

counter_clockwise_front : count_of (Drawn other_way (record defaults { raster = record default_raster { front_ccw = true } }) (0 ∷ []) ∷ []) ≡ 6
counter_clockwise_front = refl

strip_colors : ((after_items (draw upper_left ∷ draw lower_right ∷ []) 2 0 opening).rgba ≡ grey 1) × ((after_items (draw upper_left ∷ draw lower_right ∷ []) 3 0 opening).rgba ≡ grey 2)
strip_colors = (refl, refl)

snaps : (snapped (pos 128) ≡ pos 0) × (snapped (pos 384) ≡ pos 2) × (snapped (negsuc 127) ≡ pos 0) × (snapped (negsuc 383) ≡ negsuc 1)
snaps = (refl, refl, refl, refl)

depths : (depth_at (snapped_triangle upper_left) 0 10 0 (centre 0 0) ≡ 1) × (depth_at (snapped_triangle upper_left) 0 10 0 (centre 1 0) ≡ 3) × (depth_at (snapped_triangle upper_left) 0 10 0 (centre 2 0) ≡ 6)
depths = (refl, refl, refl)

stencil_ops : (stencil_result IncrSat 255 0 ≡ 255) × (stencil_result Incr 255 0 ≡ 0) × (stencil_result DecrSat 0 0 ≡ 0) × (stencil_result Decr 0 0 ≡ 255) × (masked 0x3C (stencil_result Invert 0x0F 0) 0x0F ≡ 0x33)
stencil_ops = (refl, refl, refl, refl, refl)

logic_ops : (logic_byte L.Xor 0x35 0x0F ≡ 0x3A) × (logic_byte L.Equiv 0x35 0x0F ≡ 0xC5) × (logic_byte L.Xor 0x35 0x3A ≡ 0x0F)
logic_ops = (refl, refl, refl)

logic_table : (logic_byte L.Clear 0x35 0x0F ≡ 0) × (logic_byte L.Set 0x35 0x0F ≡ 0xFF) × (logic_byte L.Copy 0x35 0x0F ≡ 0x35) × (logic_byte L.CopyInverted 0x35 0x0F ≡ 0xCA) × (logic_byte L.Noop 0x35 0x0F ≡ 0x0F) × (logic_byte L.Invert 0x35 0x0F ≡ 0xF0) × (logic_byte L.And 0x35 0x0F ≡ 0x05) × (logic_byte L.Nand 0x35 0x0F ≡ 0xFA) × (logic_byte L.Or 0x35 0x0F ≡ 0x3F) × (logic_byte L.Nor 0x35 0x0F ≡ 0xC0) × (logic_byte L.AndReverse 0x35 0x0F ≡ 0x30) × (logic_byte L.AndInverted 0x35 0x0F ≡ 0x0A) × (logic_byte L.OrReverse 0x35 0x0F ≡ 0xF5) × (logic_byte L.OrInverted 0x35 0x0F ≡ 0xCF)
logic_table = (refl, refl, refl, refl, refl, refl, refl, refl, refl, refl, refl, refl, refl, refl)

masked_color : written_color (record { logic = true; op = L.Xor; mask = 5 }) (grey 0x35) (grey 0x0F) ≡ 0x3A ∷ 0x0F ∷ 0x3A ∷ 0x0F ∷ []
masked_color = refl

-- cleared before and after: the count stays, the colour is the clear's
cleared_after : (count_of (draw upper_left ∷ ColorCleared (1 ∷ 2 ∷ 3 ∷ 4 ∷ []) ∷ DepthStencilCleared 16777215 0 ∷ []) ≡ 6) × ((after_items (draw upper_left ∷ ColorCleared (1 ∷ 2 ∷ 3 ∷ 4 ∷ []) ∷ []) 0 0 opening).rgba ≡ 1 ∷ 2 ∷ 3 ∷ 4 ∷ [])
cleared_after = (refl, refl)

-- wholly behind: nothing passes, and the stencil counts on the six pixels
abbrev counting : Settings
counting = record defaults { depth_stencil = record default_depth_stencil { stencil = true; front = record default_face { depth_fail = Incr } } }

behind : (count_of (DepthStencilCleared 0 0 ∷ Drawn upper_left counting (0 ∷ []) ∷ []) ≡ 0) × (after_items (DepthStencilCleared 0 0 ∷ Drawn upper_left counting (0 ∷ []) ∷ []) 0 0 opening ≡ record { rgba = grey 0; ds = record { depth = 0; stencil = 1 } }) × (after_items (DepthStencilCleared 0 0 ∷ Drawn upper_left counting (0 ∷ []) ∷ []) 3 0 opening ≡ record { rgba = grey 0; ds = record { depth = 0; stencil = 0 } })
behind = (refl, refl, refl)

scissored : (count_of (Drawn upper_left (record defaults { raster = record default_raster { scissor = true } }) (0 ∷ []) ∷ []) ≡ 0) × (count_of (Drawn upper_left (record defaults { raster = record default_raster { scissor = true }; scissor = record { left = 1; top = 0; right = 3; bottom = 4 } }) (0 ∷ []) ∷ []) ≡ 3)
scissored = (refl, refl)

-- a wrong cover rule fails on these
thirty_three : issue_count 0 (Drawn (record { first = at 0 0 0 (grey 1); second = at 33 0 0 (grey 2); third = at 0 33 0 (grey 3) }) defaults (0 ∷ []) ∷ []) 33 33 (λ x y. opening) ≡ 528
thirty_three = refl
