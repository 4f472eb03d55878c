use Rattle.std.proofs.Common.{subst, ◌+◌, Bool, Option, Some}
use Rattle.std.specs.Prelude.{IfSome}
use Rattle.tileprog.specs.Cells.{HaveOutcome}
use Rattle.tileprog.proofs.Leaving.{none_left, walked_left, alike_left}
use Rattle.tileprog.proofs.rows.stencil_row.Goals as goal

pub returns-then-cover-eq0 : goal.returns-then-cover-eq0
returns-then-cover-eq0 g c =
    let p = c.args.pixels in
    let left = c.requires.left in
    none_left c.args.brush.now.brush c.args.column.now c.args.block.now c.requires.column p.span p.row p.bits left.span left.row left.lanes c.if-cover-eq0.true

pub returns : goal.returns
returns g c =
    let p = c.args.pixels in
    let left = c.requires.left in
    walked_left c.args.brush.now.brush c.args.column.now c.args.block.now c.requires.column p.span p.row p.bits left.span left.row left.lanes
    (g.W.Walks.place c.args.walk.now) c.depths-depths.result c.requires.walk c.depths-depths.ensures
    c.draw_stencils-bits.new.block c.draw_stencils-bits.result c.lanes_in-2.result c.draw_stencils-bits.ensures.block c.draw_stencils-bits.ensures.bits c.lanes_in-2.ensures.value c.lanes_in-2.ensures.few

pub draw_alike-alike-requires-clause-unwritten : goal.draw_alike-alike-requires-clause-unwritten
draw_alike-alike-requires-clause-unwritten g c =
    let p = c.args.pixels in
    let P : Option Bool → Type 0 = λ o. IfSome o (λ deep. HaveOutcome deep c.args.brush.now.brush c.args.column.now c.args.block.now p.row (p.row + 1)) in
    let known : P (Some c.in-Some.deep) = subst P c.in-Some.is c.requires.known in
    known.unwritten

pub returns-in-Some : goal.returns-in-Some
returns-in-Some g c =
    let k = c.args.column.now in
    let b = c.args.brush.now.brush in
    let old = c.args.block.now in
    let p = c.args.pixels in
    let left = c.requires.left in
    let P : Option Bool → Type 0 = λ o. IfSome o (λ deep. HaveOutcome deep b k old p.row (p.row + 1)) in
    let known : P (Some c.in-Some.deep) = subst P c.in-Some.is c.requires.known in
    alike_left b k old c.requires.column p.span p.row p.bits left.span left.row left.lanes c.in-Some.deep known.all
    c.draw_alike-alike.new.block c.draw_alike-alike.result c.lanes_in.result c.draw_alike-alike.ensures.block c.draw_alike-alike.ensures.bits c.lanes_in.ensures.value c.lanes_in.ensures.few
