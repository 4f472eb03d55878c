use Rattle.std.proofs.Common.{arith, ◌∙◌, ◌<◌, length}
use Rattle.binmem.proofs.ListLemmas.{pushed}
use Rattle.binmem.proofs.tests.push_round.Goals as goal

pub push-requires-clause-room : goal.push-requires-clause-room
push-requires-clause-room g c =
    let count = c.loop-tile.invariant.count in
    let test = c.loop-tile-test.true in
    let room = c.requires.room in
    omega (arith, count, test, room)

pub loop-tile-preserved : goal.loop-tile-preserved
loop-tile-preserved g c =
    let test = c.loop-tile-test.true in let long = c.loop-tile.invariant.long in
    let inside : c.loop-tile.tile < length c.loop-tile.bins = omega (arith, test, long) in
    let more = pushed c.loop-tile.bins c.push.new.self c.loop-tile.tile _ _ inside c.push.ensures.lists in
    let count = c.loop-tile.invariant.count in
    let one = more.1 in
    record { long = more.0 ∙ long; count = omega (arith, count, one) }
