use Rattle.std.proofs.Common.{◌≡◌, take}
use Rattle.board.specs.declared.view.Hand.TheVariants.{Empty}
use Rattle.board.specs.Known.{IsSeatOf}
use Rattle.tilerun.specs.Moving.{AreOut}
use Rattle.tilerun.proofs.running.place_all.Given as goal

abbrev pub invariant-loop-place : goal.invariant-loop-place
invariant-loop-place g l = record {
  own : IsSeatOf l.board l.seat;
  ready : (l.seat.view.weight ≡ l.initial.seat.view.weight) × (l.seat.view.hand ≡ Empty);
  out : AreOut g.J.TileJob.tile_number g.J.BlockJob.open_block (take l.place (g.J.BlockJob.touched l.job)) l.fn.target l.target l.seat.view.placed;
}
