use Rattle.std.proofs.Common.{subst}
use Rattle.gfxspec.specs.declared.geometry.Size.{Size}
use Rattle.tileblock.specs.Surface.{pixel_of}
use Rattle.tilerun.specs.Touched.{AreTiles}
use Rattle.tilerun.proofs.Finishing.{still_out, may_come_back, opens, is_drawn}
use Rattle.tilerun.proofs.running.run_in_threads.Goals as goal

pub finish-counts-requires-clause-placed : goal.finish-counts-requires-clause-placed
finish-counts-requires-clause-placed g c κs within = let t = g.J.TileJob in let b = g.J.BlockJob in let tiles = b.touched c.args.job in let placed = c.run_all-seat.result.view.placed in
    may_come_back t.tile_number b.open_block tiles c.args.target.now c.begin.new.target placed (still_out t.tile_number b.open_block tiles c.args.target.now c.begin.new.target c.in-Ok.seat.view.placed placed c.run_all-seat.ensures.idle.1 c.in-Ok.ensures.out)
    (subst (λ (z : Size). AreTiles z tiles) c.requires.target.1 c.in-Ok.ensures.tiles) c.requires.target.0

pub returns-in-Ok-clause-drawn : goal.returns-in-Ok-clause-drawn
returns-in-Ok-clause-drawn g c = let t = g.J.TileJob in let b = g.J.BlockJob in let tiles = b.touched c.args.job in let placed = c.run_all-seat.result.view.placed in
    is_drawn t.tile_number b.open_block tiles c.args.target.now c.begin.new.target placed (still_out t.tile_number b.open_block tiles c.args.target.now c.begin.new.target c.in-Ok.seat.view.placed placed c.run_all-seat.ensures.idle.1 c.in-Ok.ensures.out)
    (b.drawn c.args.job) c.finish-counts.new.target c.requires.target.0 c.finish-counts.ensures.run

pub returns-in-Ok-clause-counts : goal.returns-in-Ok-clause-counts
returns-in-Ok-clause-counts g c = let t = g.J.TileJob in let b = g.J.BlockJob in let tiles = b.touched c.args.job in let placed = c.run_all-seat.result.view.placed in
    c.finish-counts.ensures.counts (pixel_of c.args.target.now) (opens t.tile_number b.open_block tiles c.args.target.now c.begin.new.target placed (still_out t.tile_number b.open_block tiles c.args.target.now c.begin.new.target c.in-Ok.seat.view.placed placed c.run_all-seat.ensures.idle.1 c.in-Ok.ensures.out))
