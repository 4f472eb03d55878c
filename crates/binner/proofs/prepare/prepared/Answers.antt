use Rattle.std.proofs.Common.{rules, arith, ◌≤◌, ap, refl, sym, subst, ◌≡◌, ◌<◌, ◌&&◌, ◌∙◌, ℕ, [], pos, true, false, min, max, get_or, w32, w64, FitsSigned}
use Rattle.std.proofs.lemmas.Int.{to_z-of_z}
use Rattle.gfxspec.specs.declared.geometry.PixelRect.{PixelRect}
use Rattle.gfxspec.specs.declared.geometry.Vertex.{Vertex}
use Rattle.gfxspec.specs.Depth.{biased}
use Rattle.gfxspec.specs.Vertices.{IsDepth}
use Rattle.gfxspec.proofs.Threes.{All_three}
use Rattle.gfxspec.specs.Assembly.{Primitive}
use Rattle.gfxspec.specs.Items.{face_setting, in_scissor, is_in_rect, snapped_triangle}
use Rattle.gfxspec.specs.Limits.{side_bound}
use Rattle.gfxspec.specs.Raster.{Triangle, centre, covers}
use Rattle.snap.specs.Corners.{triangle_of}
use Rattle.depthplane.specs.Height.{AreDepths, DeepTriangle}
use Rattle.assemble.specs.Triangle.{primitive_of}
use Rattle.command.specs.Seen.{state_value}
use Rattle.binner.proofs.Preparing.{solid, same_primitive, all_ready, culled_is, culled_out, empty_out, facing_is, out_of_sight}
use Rattle.binner.proofs.prepare.prepared.Goals as goal

abbrev none : Vertex
none = record { x = pos 0; y = pos 0; z = 0; rgba = [] }

pub of_sides-plane-requires-clause-depths : goal.of_sides-plane-requires-clause-depths
of_sides-plane-requires-clause-depths c =
    let ready = all_ready c.args.vertices.now none (search rules) c.requires in
    All_three IsDepth _ _ _ ready.first.deep ready.second.deep ready.third.deep

pub returns-then-culled-clause-dropped : goal.returns-then-culled-clause-dropped
returns-then-culled-clause-dropped c n x y small_x small_y within_x within_y =
    let t = primitive_of (record { v = c.args.vertices.now }) in
    let s = state_value c.args.state.now in
    let corners = ap triangle_of c.of-sides.ensures ∙ c.of-corners.ensures ∙ ap snapped_triangle (same_primitive c.args.vertices.now none (search rules)) in
    let a : FitsSigned w64 c.of-sides.result.area = search rules in
    let facing = simp to_z-of_z at c.facing_by_area-facing.ensures in
    let faces = facing_is t s c.facing_by_area-facing.result c.front_ccw.result _ (facing (triangle_of c.of-sides.result.triangle) c.of-sides.result.area_is) c.front_ccw.ensures corners in
    culled_out t s (culled_is t s c.facing_by_area-facing.result c.cull.result c.culled.result true faces c.cull.ensures c.culled.ensures c.if-culled.true) x y

pub returns-then-not-is_seen-clause-dropped : goal.returns-then-not-is_seen-clause-dropped
returns-then-not-is_seen-clause-dropped c n x y small_x small_y within_x within_y =
    let t = primitive_of (record { v = c.args.vertices.now }) in
    let s = state_value c.args.state.now in
    let same = same_primitive c.args.vertices.now none (search rules) in
    out_of_sight t s c.in_ok-edges.edges c.within_reach-bounds.result x y (c.in_ok-edges.ensures.set ∙ ap triangle_of c.of-sides.ensures ∙ c.of-corners.ensures ∙ ap snapped_triangle same)
    (c.within_reach-bounds.ensures.reach x y small_x small_y) (c.is_seen.ensures.unseen (search rules) x y within_x within_y)

pub invariant_of-result : goal.invariant_of-result
invariant_of-result c =
    let ready = all_ready c.args.vertices.now none (search rules) c.requires in
    let f : FitsSigned w32 c.depth_bias-bias.result = search rules in
    let plane = simp to_z-of_z at c.of_sides-plane.ensures in
    let lowest = simp to_z-of_z at c.with_bias.ensures in
    let highest = simp to_z-of_z at c.with_bias-2.ensures in
    record {
      same = c.in_ok-edges.ensures.set ∙ sym (ap (λ d. d.triangle) plane);
      solid = solid _ c.of_sides-plane.result.triangle (ap (λ d. d.triangle) plane) (search rules);
      deep = subst AreDepths (sym plane) (record { z0 = ready.first.deep; z1 = ready.second.deep; z2 = ready.third.deep });
      least = lowest ∙ ap (biased c.depth_bias-bias.result) (c.min-2.ensures ∙ ap (λ m. min m (get_or c.args.vertices.now 2 none).z) c.min.ensures) ∙ ap (λ (d : DeepTriangle). biased d.bias (min (min d.z0 d.z1) d.z2)) (sym plane);
      greatest = highest ∙ ap (biased c.depth_bias-bias.result) (c.max-2.ensures ∙ ap (λ m. max m (get_or c.args.vertices.now 2 none).z) c.max.ensures) ∙ ap (λ (d : DeepTriangle). biased d.bias (max (max d.z0 d.z1) d.z2)) (sym plane);
      right = subst (λ (r : PixelRect). r.right ≤ side_bound) (sym c.of.ensures) c.within_reach-bounds.ensures.right;
      bottom = subst (λ (r : PixelRect). r.bottom ≤ side_bound) (sym c.of.ensures) c.within_reach-bounds.ensures.bottom;
    }

pub returns-clause-setup : goal.returns-clause-setup
returns-clause-setup c =
    let t = primitive_of (record { v = c.args.vertices.now }) in
    let s = state_value c.args.state.now in
    let same = same_primitive c.args.vertices.now none (search rules) in
    let corners = ap triangle_of c.of-sides.ensures ∙ c.of-corners.ensures ∙ ap snapped_triangle same in
    let a : FitsSigned w64 c.of-sides.result.area = search rules in
    let f : FitsSigned w32 c.depth_bias-bias.result = search rules in
    let plane = simp to_z-of_z at c.of_sides-plane.ensures in
    let facing = simp to_z-of_z at c.facing_by_area-facing.ensures in
    let faces = facing_is t s c.facing_by_area-facing.result c.front_ccw.result _ (facing (triangle_of c.of-sides.result.triangle) c.of-sides.result.area_is) c.front_ccw.ensures corners in
    let Reach : PixelRect → Triangle → Type 0 = λ r e. (x y : ℕ) → x < side_bound → y < side_bound → (is_in_rect r x y && covers e (centre x y)) ≡ (covers e (centre x y) && in_scissor s x y) in
    record {
      triangle = ap (λ d. d.triangle) plane ∙ corners;
      z0 = ap (λ d. d.z0) plane ∙ ap (λ (p : Primitive). p.first.z) same;
      z1 = ap (λ d. d.z1) plane ∙ ap (λ (p : Primitive). p.second.z) same;
      z2 = ap (λ d. d.z2) plane ∙ ap (λ (p : Primitive). p.third.z) same;
      bias = ap (λ d. d.bias) plane ∙ c.depth_bias-bias.ensures;
      kept = culled_is t s c.facing_by_area-facing.result c.cull.result c.culled.result false faces c.cull.ensures c.culled.ensures c.if-culled.false;
      face = λ d. c.is_front.ensures d ∙ ap (λ f. face_setting f d) faces;
      rgba = ap (λ (p : Primitive). p.first.rgba) same;
      reach = subst (λ r. Reach r c.of_sides-plane.result.triangle) (sym c.of.ensures) (subst (Reach c.within_reach-bounds.result) (c.in_ok-edges.ensures.set ∙ sym (ap (λ d. d.triangle) plane)) c.within_reach-bounds.ensures.reach);
    }

pub of-requires-clause-left : goal.of-requires-clause-left
of-requires-clause-left c =
    let wide = c.is_seen.ensures.wide (search rules) in
    let right = c.within_reach-bounds.ensures.right in
    omega (arith, wide, right)

pub of-requires-clause-top : goal.of-requires-clause-top
of-requires-clause-top c =
    let high = c.is_seen.ensures.high (search rules) in
    let bottom = c.within_reach-bounds.ensures.bottom in
    omega (arith, high, bottom)

pub bounds-vertices-0 : goal.bounds-vertices-0
bounds-vertices-0 c = search rules

pub bounds-vertices-1 : goal.bounds-vertices-1
bounds-vertices-1 c = search rules

pub bounds-vertices-2 : goal.bounds-vertices-2
bounds-vertices-2 c = search rules

pub front_ccw-requires : goal.front_ccw-requires
front_ccw-requires c = search rules

pub facing_by_area-facing-requires : goal.facing_by_area-facing-requires
facing_by_area-facing-requires c = search rules

pub cull-requires : goal.cull-requires
cull-requires c = search rules

pub culled-requires : goal.culled-requires
culled-requires c = search rules

pub returns-then-culled-clause-setup : goal.returns-then-culled-clause-setup
returns-then-culled-clause-setup c = search rules

pub of-sides-requires : goal.of-sides-requires
of-sides-requires c = search rules

pub of_sides-requires : goal.of_sides-requires
of_sides-requires c = search rules

pub branch-edges-requires : goal.branch-edges-requires
branch-edges-requires c κs = search rules

pub from_residual-requires : goal.from_residual-requires
from_residual-requires c κs = search rules

pub returns-in_err-edges-clause-setup : goal.returns-in_err-edges-clause-setup
returns-in_err-edges-clause-setup c = search rules

pub returns-in_err-edges-clause-dropped : goal.returns-in_err-edges-clause-dropped
returns-in_err-edges-clause-dropped c n x y small_x small_y within_x within_y =
    let same = same_primitive c.args.vertices.now none (search rules) in
    empty_out (primitive_of (record { v = c.args.vertices.now })) (state_value c.args.state.now) (triangle_of c.of-sides.result.triangle) (ap triangle_of c.of-sides.ensures ∙ c.of-corners.ensures ∙ ap snapped_triangle same) (c.in_err-edges.ensures.none.0 refl) x y

pub within_reach-bounds-requires : goal.within_reach-bounds-requires
within_reach-bounds-requires c = search rules

pub is_seen-requires : goal.is_seen-requires
is_seen-requires c = search rules

pub returns-then-not-is_seen-clause-setup : goal.returns-then-not-is_seen-clause-setup
returns-then-not-is_seen-clause-setup c = search rules

pub of_sides-plane-requires-clause-area : goal.of_sides-plane-requires-clause-area
of_sides-plane-requires-clause-area c = search rules

pub is_front-requires : goal.is_front-requires
is_front-requires c = search rules

pub min-requires : goal.min-requires
min-requires c = search rules

pub min-requires-2 : goal.min-requires-2
min-requires-2 c = search rules

pub max-requires : goal.max-requires
max-requires c = search rules

pub max-requires-2 : goal.max-requires-2
max-requires-2 c = search rules

pub returns-clause-dropped : goal.returns-clause-dropped
returns-clause-dropped c = search rules
