use Rattle.std.proofs.Common.{◌≡◌, ◌∙◌, sym, ap, subst, refl, arith, ◌+◌, get_or, take}
use Rattle.tileblock.specs.Block.{Block}
use Rattle.tileblock.specs.Surface.{Surface, with_block}
use Rattle.tileblock.proofs.Running.{replaced}
use Rattle.tilerun.proofs.Lists.{listed_at}
use Rattle.tileprog.proofs.Programs.{ran_of}
use Rattle.tileprog.proofs.Ordering.{RanSoFar, none_so_far, room_left, one_so_far, programs_ran, list_ran}
use Rattle.tileprog.proofs.order.run_order.Goals as goal

pub loop-tile-init : goal.loop-tile-init
loop-tile-init g c = none_so_far c.args.compiled.now c.args.order.now c.args.target.now _ c.size-2.ensures.sound c.requires.target.0 refl c.size.ensures.sound.issues

pub add_tile-requires : goal.add_tile-requires
add_tile-requires g c =
    room_left c.args.compiled.now c.args.order.now c.loop-tile.tile-index c.args.target.now c.loop-tile.target c.loop-tile.totals c.size.ensures.sound c.requires.order c.loop-tile-test.true c.loop-tile.invariant

pub loop-tile-preserved : goal.loop-tile-preserved
loop-tile-preserved g c =
    let m = c.args.compiled.now in
    let l = c.loop-tile in
    let n = l.tile-index in
    let t = get_or c.args.order.now n 0 in
    let done = c.run_tile-done.result in
    let is = c.run_tile-done.ensures in
    let a = c.take.result.block in
    let ran = ran_of done.compiled.value m done.number t done.opening.value done.block a done.counts done.ran is.compiled is.opening (is.number ∙ c.take.ensures.number) in
    let went : c.put.new.self ≡ replaced l.target t done.block
    = c.put.ensures ∙ ap (λ (b : Block). with_block c.take.new.self t b) c.into_block.ensures ∙ ap (λ (s : Surface). with_block s t done.block) c.take.ensures.after in
    subst (λ (s : Surface). RanSoFar m c.args.order.now (n + 1) c.args.target.now s c.add_tile.new.totals) (sym went)
    (one_so_far m c.args.order.now n t c.args.target.now l.target a done.block l.totals c.add_tile.new.totals done.counts c.requires.order c.size.ensures.sound.issues c.requires.target.1
    (listed_at c.args.order.now c.args.order.now n refl c.loop-tile-test.true) l.invariant c.take.ensures.block c.take.ensures.rect ran c.add_tile.ensures c.add_tile.array_long)

pub returns-clause-programs : goal.returns-clause-programs
returns-clause-programs g c =
    let l = c.loop-tile in
    programs_ran c.args.compiled.now c.args.order.now l.tile-index c.args.target.now l.target l.totals c.first_of.result.items c.size.ensures.sound c.requires.order (omega (arith, c.loop-tile-test.false, l.auto.tile-index-end)) l.invariant (c.first_of.ensures ∙ ap (λ k. take k l.totals) c.issues.ensures.value)

pub returns-clause-means : goal.returns-clause-means
returns-clause-means g c = λ list means.
    list_ran list c.args.compiled.now c.args.target.now c.loop-tile.target c.first_of.result.items c.size.ensures.sound c.requires.target.1 means (returns-clause-programs g c)
