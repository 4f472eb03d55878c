use Rattle.std.proofs.Common.{subst, ℕ, ◌+◌, ◌*◌, ◌≤◌, Option, Some}
use Rattle.std.specs.Prelude.{IfSome, IsTrue}
use Rattle.gfxspec.specs.declared.geometry.PixelRect.{PixelRect}
use Rattle.gfxspec.specs.Raster.{centre, covers}
use Rattle.depthplane.specs.Place.{depth_of}
use Rattle.tileblock.specs.Cells.{CellLies}
use Rattle.tileblock.specs.declared.pixels.DepthBounds.{DepthBounds}
use Rattle.tileprog.specs.Alike.{HasOutcome}
use Rattle.tileprog.specs.Cells.{InRows, HaveOutcome, IsUnwritten}
use Rattle.tileprog.proofs.CellLaws.{joined, cell_has}
use Rattle.tileprog.proofs.cells.deep_from.Goals as goal

pub returns-then-is_some : goal.returns-then-is_some
returns-then-is_some c =
    let k = c.args.column.now in
    let b = c.args.block.now in
    let s = c.args.brush.now.state in
    let d = k.plane.now in
    let w = k.corners in
    let known = c.in-Some.known in
    let row = 8 * c.args.cell in
    let P : Option DepthBounds → Type 0 = λ o. IfSome o (λ (w : DepthBounds). CellLies b k.span c.args.cell w.least w.greatest) in
    let stored : P (Some known) = subst P c.in-Some.is c.cell_bounds.ensures in
    joined c.outcome_between-near.result (HasOutcome s w.least w.greatest (Some known)) (IsUnwritten s) (λ deep. HaveOutcome deep c.args.brush.now k b row (row + 8))
    (λ deep has unwritten. record { all = cell_has deep s d b k.span c.args.cell k.x w.least w.greatest known c.requires.column.x stored (λ u v here covered. c.requires.column.corners u v covered) has; unwritten = unwritten })
    c.outcome_between-near.ensures.deep c.outcome_between-near.ensures.unwritten

pub returns : goal.returns
returns c =
    let k = c.args.column.now in
    let b = c.args.block.now in
    let s = c.args.brush.now.state in
    let d = k.plane.now in
    let range = c.in-Some-cell_range.range in
    let known = c.in-Some.known in
    let row = 8 * c.args.cell in
    let L : PixelRect → Type 0 = λ r. (u v : ℕ) → InRows r k.x row (row + 8) u v → IsTrue (covers d.triangle (centre u v)) → (range.least ≤ depth_of d u v) × (depth_of d u v ≤ range.greatest) in
    let lie : L b.rect = subst L c.rect.ensures c.in-Some-cell_range.ensures in
    let P : Option DepthBounds → Type 0 = λ o. IfSome o (λ (w : DepthBounds). CellLies b k.span c.args.cell w.least w.greatest) in
    let stored : P (Some known) = subst P c.in-Some.is c.cell_bounds.ensures in
    joined c.outcome_between.result (HasOutcome s range.least range.greatest (Some known)) (IsUnwritten s) (λ deep. HaveOutcome deep c.args.brush.now k b row (row + 8))
    (λ deep has unwritten. record { all = cell_has deep s d b k.span c.args.cell k.x range.least range.greatest known c.requires.column.x stored lie has; unwritten = unwritten })
    c.outcome_between.ensures.deep c.outcome_between.ensures.unwritten
