use Rattle.std.specs.Prelude.{◌≡◌}
use Rattle.tileblock.specs.Block.{pixel_at}
use Rattle.binmem.specs.Lists.{words_of}
use Rattle.tileprog.specs.Painting.{stands_for}
use Rattle.tileprog.specs.Passing.{shown}
use Rattle.tileprog.proofs.Totals.{ProgramLeft}
use Rattle.tileprog.proofs.words.run_words.Given as goal

abbrev pub invariant-loop-number : goal.invariant-loop-number
invariant-loop-number g l = record {
  rect : l.block.rect ≡ l.fn.block.rect;
  left : ProgramLeft l.compiled.tables (words_of l.compiled.numbers l.tile) l.number-iterator (shown l.force) l.fn.block.rect (pixel_at l.fn.block) (stands_for l.flip l.block) l.counts;
}
