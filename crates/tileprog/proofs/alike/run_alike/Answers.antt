use Rattle.std.proofs.Common.{◌∙◌, ap, sym, refl, ◌-◌, ◌*◌}
use Rattle.gfxspec.specs.declared.geometry.PixelRect.{PixelRect}
use Rattle.tileblock.specs.Block.{pixel_at}
use Rattle.binner.specs.Program.{outcome}
use Rattle.tileprog.specs.Alike.{operated}
use Rattle.tileprog.specs.Painting.{flipped}
use Rattle.tileprog.proofs.AlikeLaws.{alike_pixel, alike_passes, all_counted, none_counted}
use Rattle.tileprog.proofs.Lanes.{has_all}
use Rattle.tileprog.proofs.alike.run_alike.Goals as goal

pub operate-requires-clause-bits : goal.operate-requires-clause-bits
operate-requires-clause-bits c = λ j h. has_all 255 j refl h

pub returns-then-deep-clause-pixels : goal.returns-then-deep-clause-pixels
returns-then-deep-clause-pixels c = λ flip u v is.
    let b = c.args.block.now in
    ap (flipped flip) (c.operate.ensures.pixels u v is ∙ (λ i. operated (c.stencil_test-test.ensures i) (sym c.if-deep.true i) (pixel_at b u v)))
    ∙ alike_pixel c.args.triangle.now c.args.entry.now c.args.deep c.requires.alike b u v (c.requires.outcome u v is) flip

pub returns-then-deep-clause-count : goal.returns-then-deep-clause-count
returns-then-deep-clause-count c =
    let t = c.args.triangle.now in
    let e = c.args.entry.now in
    let b = c.args.block.now in
    c.pixels_in.ensures.value
    ∙ ap (λ (r : PixelRect). (r.right - r.left) * (r.bottom - r.top)) c.rect-rect.ensures
    ∙ all_counted b.rect (λ u v. (outcome t e u v (pixel_at b u v)).passed) (λ u v is. alike_passes t e c.args.deep c.requires.alike b u v (c.requires.outcome u v is) ∙ c.if-deep.true)

pub returns-clause-pixels : goal.returns-clause-pixels
returns-clause-pixels c = λ flip u v is.
    let b = c.args.block.now in
    ap (flipped flip) (c.operate-2.ensures.pixels u v is ∙ (λ i. operated (c.stencil_test-test.ensures i) (sym c.if-deep.false i) (pixel_at b u v)))
    ∙ alike_pixel c.args.triangle.now c.args.entry.now c.args.deep c.requires.alike b u v (c.requires.outcome u v is) flip

pub returns-clause-count : goal.returns-clause-count
returns-clause-count c =
    let t = c.args.triangle.now in
    let e = c.args.entry.now in
    let b = c.args.block.now in
    none_counted b.rect (λ u v. (outcome t e u v (pixel_at b u v)).passed) (λ u v is. alike_passes t e c.args.deep c.requires.alike b u v (c.requires.outcome u v is) ∙ c.if-deep.false)
