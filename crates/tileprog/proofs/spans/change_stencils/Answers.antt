use Rattle.std.proofs.Common.{◌∙◌, ap, subst}
use Rattle.std.specs.Prelude.{◌<◌}
use Rattle.lanes.specs.Stencil.{has, stencil_after}
use Rattle.tileblock.specs.SpanStored.{lane_pixel}
use Rattle.tileprog.proofs.Spanning.{changed, unchanged}
use Rattle.tileprog.proofs.Lanes.{stencil_kept, stencil_changed}
use Rattle.tileprog.proofs.spans.change_stencils.Goals as goal

pub returns-then-keeps : goal.returns-then-keeps
returns-then-keeps c =
    unchanged c.args.block.now c.args.pixels.span c.args.pixels.row _ (λ j h.
    let p = lane_pixel c.args.block.now c.args.pixels.span c.args.pixels.row j in
    let is = c.requires.stored j h in
    stencil_kept p (has c.args.pixels.bits j) _ (λ k. c.keeps.ensures c.if-keeps.true j p.ds.stencil h k (subst (λ n. n < 256) is (c.requires.small j h))))

pub returns : goal.returns
returns c =
    changed _ _ _ _ _ _ c.put_stencils.ensures (λ j h.
    let p = lane_pixel c.args.block.now c.args.pixels.span c.args.pixels.row j in
    stencil_changed p (has c.args.pixels.bits j) _ _ (c.after.ensures j h ∙ ap (λ v. stencil_after c.args.test.now (has c.args.passing j) (has c.args.deep j) v) (c.requires.stored j h)))
