use Rattle.std.proofs.Common.{ap, sym, refl, ◌∙◌, subst, ℕ, List, [], Bool}
use Rattle.gfxspec.specs.declared.geometry.Size.{Size}
use Rattle.gfxspec.specs.Tiles.{tile_count}
use Rattle.tileprog.specs.Several.{AreMarked}
use Rattle.tileprog.proofs.Marking.{none_marked, first_gathered, next_gathered, all_gathered, size_at, marked_tiles}
use Rattle.tileprog.proofs.Touched.{few_tiles_in}
use Rattle.tileprog.proofs.gathering.gather_touched.Goals as goal

pub add_touched-requires : goal.add_touched-requires
add_touched-requires g c =
    let size = c.args.first.now.size in
    subst (λ (tiles : List ℕ). AreMarked size c.in_ok-seen.seen.items tiles) (sym c.new-tiles.ensures.items)
    (subst (λ (seen : List Bool). AreMarked size seen []) (sym c.in_ok-seen.ensures) (none_marked size c.tile_count.result (c.tile_count.ensures.value ∙ ap tile_count c.size.ensures.value)))

pub loop-list-init : goal.loop-list-init
loop-list-init g c = first_gathered c.args.first.now.size c.add_touched.new.seen.items c.add_touched.new.tiles.items c.args.first.now c.args.behind.now c.in_ok-add_touched.ensures.marked c.in_ok-add_touched.ensures.words

pub add_touched-requires-in-loop-list : goal.add_touched-requires-in-loop-list
add_touched-requires-in-loop-list g c =
    let l = c.loop-list in
    let same = size_at c.args.first.now.size c.args.behind.now l.list-index c.list-item.result c.requires c.loop-list-test.true c.list-item.is in
    subst (λ (s : Size). AreMarked s l.seen.items l.tiles.items) (sym same) l.invariant.marked

pub loop-list-preserved : goal.loop-list-preserved
loop-list-preserved g c =
    let l = c.loop-list in
    let ran = c.add_touched-in-loop-list in
    let is = c.in_ok-add_touched-2.ensures in
    next_gathered c.args.first.now.size l.seen.items ran.new.seen.items l.tiles.items ran.new.tiles.items c.args.first.now c.args.behind.now l.list-index c.list-item.result l.invariant c.loop-list-test.true c.list-item.is
    (size_at c.args.first.now.size c.args.behind.now l.list-index c.list-item.result c.requires c.loop-list-test.true c.list-item.is)
    is.marked is.kept is.words

pub returns-clause-few : goal.returns-clause-few
returns-clause-few g c =
    let l = c.loop-list in
    let size = c.args.first.now.size in
    few_tiles_in size c.in_ok-add_touched.ensures.sound.size l.tiles.items (marked_tiles size l.seen.items l.tiles.items l.invariant.marked)

pub returns-clause-lists : goal.returns-clause-lists
returns-clause-lists g c =
    let l = c.loop-list in
    all_gathered c.args.first.now.size l.seen.items l.tiles.items c.args.first.now c.args.behind.now l.list-index l.invariant c.loop-list-test.false refl c.requires
