use Rattle.std.proofs.Common.{◌≡◌, rules, Some}
use Rattle.tileprog.specs.Painting.{stands_for}
use Rattle.tileprog.specs.Passing.{shown}
use Rattle.tileprog.proofs.Totals.{state_passed, color_passed, depth_passed, tri_passed, names_color, names_depth, names_class}
use Rattle.tileprog.proofs.words.run_word.Goals as goal

pub run_unless_hidden-requires-clause-class : goal.run_unless_hidden-requires-clause-class
run_unless_hidden-requires-clause-class g c = names_class c.args.compiled.now.tables c.args.block.now.rect (shown c.args.force) c.args.word c.requires.fits c.in-Tri.number c.in-Tri.mask c.tri.result.now c.in-Tri.is c.tri.ensures

pub color-requires : goal.color-requires
color-requires g c = names_color c.args.compiled.now.tables c.args.block.now.rect (shown c.args.force) c.args.word c.requires.fits c.in-ClearC.number c.in-ClearC.is

pub depth_stencil-requires : goal.depth_stencil-requires
depth_stencil-requires g c = names_depth c.args.compiled.now.tables c.args.block.now.rect (shown c.args.force) c.args.word c.requires.fits c.in-ClearDs.number c.in-ClearDs.is

pub returns-in-State-clause-passed : goal.returns-in-State-clause-passed
returns-in-State-clause-passed g c = state_passed c.args.compiled.now.tables (shown c.args.force) c.args.word c.args.block.now.rect (stands_for c.args.flip.now c.args.block.now) _ c.in-State.is

pub returns-in-ClearC-clause-passed : goal.returns-in-ClearC-clause-passed
returns-in-ClearC-clause-passed g c = color_passed c.args.compiled.now.tables (shown c.args.force) c.args.word c.args.block.now.rect (stands_for c.args.flip.now c.args.block.now) _ c.in-ClearC.is

pub returns-in-ClearDs-clause-passed : goal.returns-in-ClearDs-clause-passed
returns-in-ClearDs-clause-passed g c = depth_passed c.args.compiled.now.tables (shown c.args.force) c.args.word c.args.block.now.rect (stands_for c.args.flip.now c.args.block.now) _ c.in-ClearDs.is

pub returns-in-Some-clause-passed : goal.returns-in-Some-clause-passed
returns-in-Some-clause-passed g c =
    let force : shown c.args.force ≡ Some c.in-Some.entry.now = search rules in
    tri_passed c.args.compiled.now.tables (shown c.args.force) c.args.word c.args.block.now.rect (stands_for c.args.flip.now c.args.block.now) c.in-Tri.number c.run_unless_hidden.result c.in-Tri.mask c.tri.result.now c.in-Some.entry.now c.in-Tri.is c.tri.ensures force c.run_unless_hidden.ensures.count
