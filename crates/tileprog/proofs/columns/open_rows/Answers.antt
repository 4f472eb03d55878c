use Rattle.std.proofs.Common.{◌≡◌, ◌∙◌, ap, sym, refl, rules, arith, ◌+◌, ◌-◌, ◌≤◌}
use Rattle.gfxspec.specs.declared.geometry.PixelRect.{PixelRect}
use Rattle.tileprog.specs.Columns.{stroke_in}
use Rattle.tileprog.proofs.Columning.{no_row, row_more, all_rows}
use Rattle.tileprog.proofs.columns.open_rows.Goals as goal

pub loop-row-preserved : goal.loop-row-preserved
loop-row-preserved c =
    let k = c.args.column.now in
    let s = stroke_in c.args.brush k in
    let old = c.args.block.now in
    let mid = c.loop-row.block in
    let row = c.loop-row.row in
    let y = old.rect.top + row in
    let inv = c.loop-row.invariant in
    let below : k.clip.top ≤ y = search rules in
    record {
      edges = search rules;
      so_far = row_more s k.plane.now old mid c.open_row-more.new.block k.x y (old.rect.top + (row + 1)) (mid.rect.top + c.pixels_left-pixels.result.row) c.loop-row.passed c.open_row-more.result c.requires.column.within below inv.so_far c.open_row-more.ensures
          refl (λ i. (inv.so_far.drew.rect i).top + c.pixels_left-pixels.ensures.row i) (omega arith);
      few = let more = c.open_row-more.ensures.few in let was = inv.few in omega arith;
    }

pub returns : goal.returns
returns c =
    let k = c.args.column.now in
    let s = stroke_in c.args.brush k in
    let old = c.args.block.now in
    all_rows s old c.loop-row.block k.x (old.rect.top + c.loop-row.row) c.loop-row.passed (search rules) c.loop-row.invariant.so_far (search rules)

pub loop-row-init : goal.loop-row-init
loop-row-init c =
    let k = c.args.column.now in
    let s = stroke_in c.args.brush k in
    let old = c.args.block.now in
    let row = k.clip.top - c.rect-rect.result.top in
    let top_is = ap (λ (r : PixelRect). r.top) c.rect-rect.ensures in
    let within = c.requires.column.within.top in
    let first : k.clip.top ≡ old.rect.top + row = omega (arith, top_is, within) in
    record {
      edges = c.copied-edges.ensures ∙ c.requires.edges.place ∙ (λ i. record c.args.edges.now { triangle = k.plane.now.triangle; x = k.x; y = first i });
      so_far = no_row s old k.x (old.rect.top + row) (sym first);
      few = omega arith;
    }
