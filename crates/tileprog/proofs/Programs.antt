-- What a tile that ran keeps, in the words of a job.
use Rattle.std.proofs.Common.{◌≡◌, ◌∙◌, ap, sym, subst, arith, ℕ, ◌≤◌, List, None}
use Rattle.gfxspec.specs.declared.geometry.PixelRect.{PixelRect}
use Rattle.gfxspec.specs.Tiles.{tile_rect, IsIn}
use Rattle.tileblock.specs.Block.{Block, pixel_at}
use Rattle.binmem.specs.Lists.{words_of}
use Rattle.binner.specs.Program.{words_count, program, program_count}
use Rattle.binner.specs.Compiled.{Compilation}
use Rattle.tileprog.specs.Runs.{RunsTo}
use Rattle.tileprog.specs.Programs.{TileRan, pixel_by_all}
use Rattle.tileprog.proofs.Summing.{sum_over_same}

module _ (d c : Compilation) (number t : ℕ) (opening after was : Block) (counts : List ℕ) (ran : RunsTo d number opening after counts) (list : d ≡ c) (same : opening ≡ was) (numbered : number ≡ t) where
  pub ran_of : RunsTo c t was after counts
  ran_of = subst (λ (b : Block). RunsTo c t b after counts) same (subst (λ (n : ℕ). RunsTo c n opening after counts) numbered (subst (λ (e : Compilation). RunsTo e number opening after counts) list ran))

-- what a tile that ran keeps: its list's program ran on its block, and then those of the lists behind it
pub tile_ran : (c : Compilation) (behind : List Compilation) (t : ℕ) (was mid after : Block) (counts : List ℕ) → RunsTo c t was mid counts → was.rect ≡ tile_rect c.size t → c.issues ≤ 64 → after.rect ≡ mid.rect → ((x y : ℕ) → IsIn mid.rect x y → pixel_at after x y ≡ pixel_by_all behind t x y (pixel_at mid x y)) → TileRan c behind t was after counts
tile_ran c behind t was mid after counts ran rect few same pixels = record {
  rect = same ∙ ran.rect;
  pixels = λ x y inside. pixels x y (subst (λ (r : PixelRect). IsIn r x y) (sym ran.rect) inside) ∙ ap (pixel_by_all behind t x y) (ran.pixels x y inside);
  counts = λ issue at_first less agree.
      ran.counts issue (omega arith)
      ∙ sum_over_same was.rect _ _ (λ u v inside. ap (words_count c.tables None issue (program (words_of c.numbers t)) u v) (sym (agree u v inside)))
      ∙ ap (λ (r : PixelRect). program_count c.tables issue (words_of c.numbers t) r at_first) rect;
  few = λ issue less. let small = ran.few issue (omega arith) in omega arith;
}
