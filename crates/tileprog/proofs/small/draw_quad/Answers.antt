use Rattle.std.proofs.Common.{◌≡◌, ◌∙◌, ap, sym, refl}
use Rattle.std.specs.Prelude.{slice_index, ◌&&◌, if◌then◌else◌}
use Rattle.std.proofs.lemmas.List.{get_or-replicate}
use Rattle.gfxspec.specs.DepthStencil.{compares}
use Rattle.tileblock.specs.QuadStored.{quad_pixel}
use Rattle.tileprog.specs.Brushes.{tested_by}
use Rattle.tileprog.specs.Counting.{one_if}
use Rattle.tileprog.specs.Quads.{deepened_quad, picked}
use Rattle.tileprog.proofs.FourLanes.{quad_changed, quad_joined, ones_both, picked_one}
use Rattle.tileprog.proofs.Lanes.{depth_passes, kept_drawn}
use Rattle.tileprog.proofs.small.draw_quad.Goals as goal

pub returns-clause-passed : goal.returns-clause-passed
returns-clause-passed c = λ j h.
    let b = c.args.brush.now in
    let cover = c.args.pixels.picked in
    let p = quad_pixel c.args.block.now c.args.pixels.quad c.args.pixels.row j in
    let z = slice_index c.args.new.now j in
    ones_both (slice_index c.select4-ones.result j) (slice_index cover j) (slice_index c.compared4-deep.result j) (picked cover j) (tested_by b.brush z p.ds).passed
    (c.select4-ones.ensures j h ∙ ap (λ d. if picked cover j then slice_index c.compared4-deep.result j else d) (get_or-replicate 4 j 0 0 h)) refl
    (c.compared4-deep.ensures j h ∙ ap (λ d. if compares b.func z d then 1 else 0) (c.depth_quad-old.ensures j h) ∙ ap (λ t. if t then 1 else 0) (sym (depth_passes b.brush b.func b.write b.kind z p.ds)))

pub returns-clause-block : goal.returns-clause-block
returns-clause-block c =
    let b = c.args.brush.now in
    let cover = c.args.pixels.picked in
    let ones = c.select4-ones.result in
    quad_changed _ _ _ _ _ _ (quad_joined _ _ _ _ _ _ _ c.keep_quad.ensures c.paint_quad.ensures) (λ j h.
    let p = quad_pixel c.args.block.now c.args.pixels.quad c.args.pixels.row j in
    let z = slice_index c.args.new.now j in
    let one : slice_index ones j ≡ one_if (picked cover j && (tested_by b.brush z p.ds).passed) =
    ones_both (slice_index ones j) (slice_index cover j) (slice_index c.compared4-deep.result j) (picked cover j) (tested_by b.brush z p.ds).passed
    (c.select4-ones.ensures j h ∙ ap (λ d. if picked cover j then slice_index c.compared4-deep.result j else d) (get_or-replicate 4 j 0 0 h)) refl
    (c.compared4-deep.ensures j h ∙ ap (λ d. if compares b.func z d then 1 else 0) (c.depth_quad-old.ensures j h) ∙ ap (λ t. if t then 1 else 0) (sym (depth_passes b.brush b.func b.write b.kind z p.ds))) in
    kept_drawn b.brush b.func b.write b.kind z (picked cover j) (picked ones j) p (deepened_quad b.write ones c.args.new.now j p) (picked_one (slice_index ones j) _ one) refl)
