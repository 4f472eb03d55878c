use Rattle.std.proofs.Common.{◌≡◌, ◌∙◌, sym, subst, refl, rules, Some}
use Rattle.tileword.specs.Word.{decoded}
use Rattle.gfxspec.specs.declared.geometry.PixelRect.{PixelRect}
use Rattle.gfxspec.specs.Tiles.{IsIn}
use Rattle.tileblock.specs.Block.{pixel_at}
use Rattle.binmem.specs.Lists.{words_of}
use Rattle.binner.specs.Meaning.{ProgramFits}
use Rattle.tileprog.specs.Painting.{stands_for}
use Rattle.tileprog.specs.Passing.{shown, IsTile}
use Rattle.tileprog.proofs.Totals.{ProgramLeft, WordCounted, all_left, next_fits, names_state, one_done, none_left, counted_some, counted_none, passed_few}
use Rattle.tileprog.proofs.Painted.{stands_itself}
use Rattle.tileprog.proofs.Targets.{tile_is}
use Rattle.tileprog.proofs.words.run_words.Goals.{then-passed-ne0, else-passed-ne0}
use Rattle.tileprog.proofs.words.run_words.Goals as goal

pub loop-number-init : goal.loop-number-init
loop-number-init g c =
    let m = c.args.compiled.now in
    let k = c.args.tile in
    let numbers = words_of m.numbers k in
    let opening = c.args.block.now in
    let sound = c.size-size.ensures.sound in
    let fits = subst (λ r. ProgramFits m.tables r numbers) (sym c.requires.rect) (sound.programs k c.requires.tile) in
    let at_first : c.into_iter-number-iterator.result ≡ numbers = search rules in
    record {
      rect = refl;
      left = subst (λ rest. ProgramLeft m.tables numbers rest _ opening.rect (pixel_at opening) (stands_for 0 opening) _) (sym at_first)
          (all_left m.tables numbers opening.rect (pixel_at opening) (stands_for 0 opening) _ (stands_itself opening) fits (sound.short k) refl);
    }

pub next_force-force-requires : goal.next_force-force-requires
next_force-force-requires g c =
    let m = c.args.compiled.now in
    let numbers = words_of m.numbers c.args.tile in
    let opening = c.args.block.now in
    let is : decoded c.in-Some.number ≡ Some c.in-Some-decode.word = sym c.decode.ensures.value ∙ c.in-Some-decode.is in
    names_state m.tables opening.rect (shown c.loop-number.force) c.in-Some-decode.word
    (next_fits m.tables numbers opening.rect (pixel_at opening) c.loop-number.number-iterator c.next.new.self c.in-Some.number c.in-Some-decode.word c.in-Some.ensures.steps is (shown c.loop-number.force) (stands_for c.loop-number.flip c.loop-number.block) c.loop-number.counts
    c.loop-number.invariant.left)

pub count_word-requires-clause-few : goal.count_word-requires-clause-few
count_word-requires-clause-few g c =
    let m = c.args.compiled.now in
    let opening = c.args.block.now in
    let tile = tile_is m.size c.args.tile opening.rect c.size-size.ensures.sound.size c.requires.tile c.requires.rect in
    passed_few m.tables (shown c.loop-number.force) c.in-Some-decode.word c.loop-number.block.rect (stands_for c.loop-number.flip c.loop-number.block) c.run_word-passed.result c.run_word-passed.ensures.passed (subst IsTile (sym c.loop-number.invariant.rect) tile)

pub loop-number-preserved : goal.loop-number-preserved
loop-number-preserved g c =
    let m = c.args.compiled.now in
    let numbers = words_of m.numbers c.args.tile in
    let opening = c.args.block.now in
    let e = shown c.loop-number.force in
    let w = c.in-Some-decode.word in
    let mid = c.loop-number.block in
    let stood = stands_for c.loop-number.flip mid in
    let same = c.loop-number.invariant.rect in
    let ran = c.run_word-passed in
    let is : decoded c.in-Some.number ≡ Some w = sym c.decode.ensures.value ∙ c.in-Some-decode.is in
    let counted : WordCounted m.tables e w mid.rect stood c.loop-number.counts c.if-passed-ne0.counts
    = elim c.if-passed-ne0.branch [
      | then-passed-ne0 v ↦ rw (v.counts-is) (counted_some m.tables e w mid.rect stood ran.result c.loop-number.counts v.count_word.new.counts ran.ensures.passed v.count_word.ensures)
      | else-passed-ne0 v ↦ rw (v.counts-is) (counted_none m.tables e w mid.rect stood ran.result c.loop-number.counts ran.ensures.passed v.if-passed-ne0.false)
    ] in
    record {
      rect = ran.ensures.rect ∙ same;
      left = one_done m.tables numbers opening.rect (pixel_at opening) c.loop-number.number-iterator c.next.new.self c.in-Some.number w c.in-Some.ensures.steps is e (shown c.next_force-force.result) stood (stands_for ran.new.flip ran.new.block) c.loop-number.counts c.if-passed-ne0.counts
          c.loop-number.invariant.left c.next_force-force.ensures (λ u v inside. ran.ensures.pixels u v (subst (λ (r : PixelRect). IsIn r u v) (sym same) inside)) (subst (λ r. WordCounted m.tables e w r stood c.loop-number.counts c.if-passed-ne0.counts) same counted)
          (tile_is m.size c.args.tile opening.rect c.size-size.ensures.sound.size c.requires.tile c.requires.rect);
    }

pub flip_tile-requires : goal.flip_tile-requires
flip_tile-requires g c =
    let tile = tile_is c.args.compiled.now.size c.args.tile c.args.block.now.rect c.size-size.ensures.sound.size c.requires.tile c.requires.rect in
    (subst IsTile (sym c.loop-number.invariant.rect) tile).place

pub returns : goal.returns
returns g c =
    let opening = c.args.block.now in
    let same = c.loop-number.invariant.rect in
    none_left c.args.compiled.now.tables (words_of c.args.compiled.now.numbers c.args.tile) opening c.args.compiled.now c.args.tile c.loop-number.number-iterator (shown c.loop-number.force) (stands_for c.loop-number.flip c.loop-number.block) c.flip_tile.new.block c.loop-number.counts
    refl refl c.in-None.ensures.steps.0 (c.flip_tile.ensures.rect ∙ same)
    (λ u v inside. c.flip_tile.ensures.pixels u v (subst (λ (r : PixelRect). IsIn r u v) (sym same) inside)) c.loop-number.invariant.left

pub size-size-requires : goal.size-size-requires
size-size-requires g c κs = search rules

pub words-number-items-requires : goal.words-number-items-requires
words-number-items-requires g c = search rules

pub into_iter-number-iterator-requires : goal.into_iter-number-iterator-requires
into_iter-number-iterator-requires g c κs = search rules

pub next-requires : goal.next-requires
next-requires g c = search rules

pub decode-requires : goal.decode-requires
decode-requires g c = search rules

pub unreachable-requires : goal.unreachable-requires
unreachable-requires g c = search rules

pub unreachable-unreachable : goal.unreachable-unreachable
unreachable-unreachable g c = search rules

pub run_word-passed-requires-clause-tile : goal.run_word-passed-requires-clause-tile
run_word-passed-requires-clause-tile g c =
    let m = c.args.compiled.now in
    let opening = c.args.block.now in
    subst IsTile (sym c.loop-number.invariant.rect) (tile_is m.size c.args.tile opening.rect c.size-size.ensures.sound.size c.requires.tile c.requires.rect)

pub run_word-passed-requires-clause-fits : goal.run_word-passed-requires-clause-fits
run_word-passed-requires-clause-fits g c = search rules

pub count_word-requires-clause-room : goal.count_word-requires-clause-room
count_word-requires-clause-room g c = search rules

pub loop-number-smaller : goal.loop-number-smaller
loop-number-smaller g c = search rules
