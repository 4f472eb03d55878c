use Rattle.std.proofs.Common.{sym, subst}
use Rattle.tileword.specs.EdgeMask.{edge_bits}
use Rattle.logicop.specs.declared.color_write.ColorWrite.{ColorWrite}
use Rattle.tileprog.specs.Painting.{PaintsAs}
use Rattle.tileprog.specs.Strokes.{IsNamed}
use Rattle.tileprog.proofs.Under.{is_named, IsBrushOf, drew_under}
use Rattle.tileprog.proofs.triangles.draw_under.Goals as goal

pub draw-requires-clause-named : goal.draw-requires-clause-named
draw-requires-clause-named c =
    let p = c.args.triangle.now in
    let r = c.args.block.now.rect in
    subst (λ n. IsNamed p.plane n r) (sym c.bits.ensures.value) (is_named (edge_bits c.args.mask.now) p r c.requires.class)

pub returns : goal.returns
returns c =
    let p = c.args.triangle.now in
    let e = c.args.entry.now in
    let b = c.make_brush-brush.result in
    let made = c.make_brush-brush.ensures in
    let P : ColorWrite → Type 0 = λ w. PaintsAs w e.blend p.rgba c.args.flip in
    let k : IsBrushOf b p e c.args.flip = record { state = made.state; front = made.front; reference = made.reference; paints = subst P (sym made.write) c.write_under-write.ensures } in
    drew_under p e c.args.mask.now c.args.clip.now c.args.block.now c.draw.new.block c.requires.tile c.requires.class c.requires.bounded c.requires.inside b c.args.flip k c.draw.result c.bits.result c.bits.ensures.value
    (record { drew = c.draw.ensures.drew; count = c.draw.ensures.count; few = c.draw.ensures.few })
