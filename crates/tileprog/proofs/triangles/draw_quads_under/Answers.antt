use Rattle.std.proofs.Common.{sym, subst, ℕ, Option, Some, None}
use Rattle.std.specs.Prelude.{IfSome}
use Rattle.tileword.specs.EdgeMask.{edge_bits}
use Rattle.logicop.specs.declared.color_write.ColorWrite.{ColorWrite}
use Rattle.tileprog.specs.Painting.{PaintsAs}
use Rattle.tileprog.specs.Strokes.{IsNamed}
use Rattle.tileprog.proofs.Under.{is_named, IsBrushOf, drew_under}
use Rattle.tileprog.proofs.triangles.draw_quads_under.Goals as goal

if_some : (P Q : ℕ → Type 0) (o : Option ℕ) → ((n : ℕ) → P n → Q n) → IfSome o P → IfSome o Q
if_some P Q None f h = h
if_some P Q (Some n) f h = f n h

pub draw_quads-requires-clause-named : goal.draw_quads-requires-clause-named
draw_quads-requires-clause-named c =
    let p = c.args.triangle.now in
    let r = c.args.block.now.rect in
    subst (λ n. IsNamed p.plane n r) (sym c.bits.ensures.value) (is_named (edge_bits c.args.mask) p r c.requires.class)

pub returns-clause-drew : goal.returns-clause-drew
returns-clause-drew c =
    let p = c.args.triangle.now in
    let e = c.args.entry.now in
    let b = c.make_brush-brush.result in
    let made = c.make_brush-brush.ensures in
    let P : ColorWrite → Type 0 = λ w. PaintsAs w e.blend p.rgba c.args.flip in
    let k : IsBrushOf b p e c.args.flip = record { state = made.state; front = made.front; reference = made.reference; paints = subst P (sym made.write) c.write_under-colors.ensures } in
    if_some _ _ c.draw_quads.result
    (λ n. drew_under p e c.args.mask c.args.clip c.args.block.now c.draw_quads.new.block c.requires.tile c.requires.class c.requires.bounded c.requires.inside b c.args.flip k n c.bits.result c.bits.ensures.value)
    c.draw_quads.ensures.drew
