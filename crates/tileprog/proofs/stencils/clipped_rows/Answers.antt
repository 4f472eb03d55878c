use Rattle.std.proofs.Common.{ap, refl, arith, ◌+◌, ◌-◌}
use Rattle.gfxspec.specs.declared.geometry.PixelRect.{PixelRect}
use Rattle.tileprog.specs.Columns.{stroke_in}
use Rattle.tileprog.proofs.Columning.{rows_are, column_behind}
use Rattle.tileprog.proofs.stencils.clipped_rows.Goals as goal

pub returns : goal.returns
returns g c =
    let k = c.args.column.now in
    let s = stroke_in c.args.brush.now.brush k in
    let old = c.args.block.now in
    let top_is = ap (λ (r : PixelRect). r.top) c.rect-rect.ensures in
    let within = c.requires.column.within in
    let tile = c.requires.column.tile in
    let row = k.clip.top - c.rect-rect.result.top in
    let past = k.clip.bottom - c.rect-rect.result.top in
    let rows = rows_are s k.plane.now old c.each_row.new.block k.x (old.rect.top + row) (old.rect.top + past) k.clip.top k.clip.bottom c.each_row.result c.each_row.ensures
    refl (omega (arith, top_is, within.top)) (omega (arith, top_is, within.top, within.high)) in
    column_behind s old c.each_row.new.block k.x k.clip.top k.clip.bottom c.each_row.result rows refl refl (omega (arith, within.top, within.bottom, tile.bottom))
