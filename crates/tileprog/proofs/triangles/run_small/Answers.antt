use Rattle.std.proofs.Common.{false, true≢false, sym, subst}
use Rattle.tileblock.specs.Block.{Block}
use Rattle.tileprog.proofs.Hiding.{vertices_lie, kept_if}
use Rattle.tileprog.specs.Under.{DrewUnder}
use Rattle.tileprog.proofs.triangles.run_small.Goals as goal

pub keep_after-requires : goal.keep_after-requires
keep_after-requires c =
    let t = c.args.triangle.now in
    let b = c.args.block.now in
    kept_if t c.args.entry.now c.args.mask.now c.args.flip b c.draw_small_under-passed.new.block c.args.clip.now t.least_depth t.greatest_depth c.depth_bounds-stored.result c.bounds_after-after.result false
    c.requires.tile c.requires.class c.requires.bounded c.requires.inside (vertices_lie t b.rect) c.depth_bounds-stored.ensures (λ whole. absurd (true≢false (sym whole))) c.bounds_after-after.ensures
    c.draw_small_under-passed.ensures.rect c.draw_small_under-passed.ensures.pixels

pub returns : goal.returns
returns c =
    let D : Block → Type 0 = λ b. DrewUnder c.args.mask.now c.args.triangle.now c.args.entry.now c.args.flip c.args.block.now b c.draw_small_under-passed.result in
    subst D (sym c.keep_after.ensures) c.draw_small_under-passed.ensures
