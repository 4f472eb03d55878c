use Rattle.std.proofs.Common.{rules, pos, w32, FitsSigned, slice_index_or}
use Rattle.std.proofs.lemmas.Int.{to_z-of_z}
use Rattle.snap.specs.Corners.{triangle_of}
use Rattle.depthplane.proofs.StartLaws.{start_of}
use Rattle.depthplane.proofs.start.Start.of.Goals as goal

pub returns-clause-start : goal.returns-clause-start
returns-clause-start c =
    let x = c.args.triangle.now.x in
    let y = c.args.triangle.now.y in
    let x0 : FitsSigned w32 (slice_index_or x 0 (pos 0)) = search rules in
    let x1 : FitsSigned w32 (slice_index_or x 1 (pos 0)) = search rules in
    let x2 : FitsSigned w32 (slice_index_or x 2 (pos 0)) = search rules in
    let y0 : FitsSigned w32 (slice_index_or y 0 (pos 0)) = search rules in
    let y1 : FitsSigned w32 (slice_index_or y 1 (pos 0)) = search rules in
    let y2 : FitsSigned w32 (slice_index_or y 2 (pos 0)) = search rules in
    let left : FitsSigned w32 c.extremes-left.result.0 = search rules in
    let right : FitsSigned w32 c.extremes-left.result.1 = search rules in
    let top : FitsSigned w32 c.extremes-top.result.0 = search rules in
    let bottom : FitsSigned w32 c.extremes-top.result.1 = search rules in
    let a = simp to_z-of_z at c.extremes-left.ensures in
    let b = simp to_z-of_z at c.extremes-top.ensures in
    let across = simp to_z-of_z at c.line_start-across.ensures.start in
    let down = simp to_z-of_z at c.line_start-down.ensures.start in
    start_of (triangle_of c.args.triangle.now) c.line_start-across.result c.line_start-down.result (rw (a.least, a.greatest) at across) (rw (b.least, b.greatest) at down)
