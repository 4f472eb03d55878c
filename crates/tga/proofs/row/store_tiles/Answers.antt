use Rattle.std.proofs.Common.{◌≡◌, ◌∙◌, ap, ⊎_elim, arith, ◌*◌, ◌%◌, ◌<◌, ◌+◌}
use Rattle.std.proofs.lemmas.Bool.{cases_lt, and_parts}
use Rattle.gfxspec.specs.declared.geometry.Size.{Size}
use Rattle.gfxspec.specs.Tiles.{tiles_along}
use Rattle.tileblock.specs.Surface.{block_of}
use Rattle.tileblock.proofs.Rows.{along_is}
use Rattle.tga.proofs.TileRows.{tile_stored}
use Rattle.tga.proofs.row.store_tiles.Goals as goal

pub loop-column-preserved : goal.loop-column-preserved
loop-column-preserved g c =
    let column = c.loop-column.column in
    let s = c.args.target.now in
    let n = c.div_ceil-along.result in
    let along : n ≡ tiles_along s.size.width = c.div_ceil-along.ensures ∙ along_is c.size.result.width ∙ ap (λ (z : Size). tiles_along z.width) c.size.ensures.value in
    let inside : column < n = omega arith in
    let stored = c.store_tile-one.ensures in
    let found = c.block-block.ensures.block in
    record {
      len = stored.len;
      pixels = λ x less wide. ⊎_elim
          (λ before. stored.before x before ∙ c.loop-column.invariant.pixels x before wide)
          (λ here. tile_stored s c.store_tile-one.new.row n column x c.args.y c.block-block.result.now c.size.ensures.sound along inside here less found stored.here)
          (cases_lt x (32 * column));
      alike = λ both v x band less wide.
          let parts = and_parts c.loop-column.alike c.store_tile-one.result both in
          ⊎_elim
          (λ before. stored.before x before ∙ c.loop-column.invariant.alike parts.0 v x band before wide)
          (λ here. tile_stored s c.store_tile-one.new.row n column x v c.block-block.result.now c.size.ensures.sound along inside here less (ap (λ b. block_of s (b * n + column)) band ∙ found) (λ j h. stored.alike parts.1 j (v % 32) h))
          (cases_lt x (32 * column));
    }
