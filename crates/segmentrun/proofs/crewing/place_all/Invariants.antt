use Rattle.std.proofs.Common.{◌≡◌, length}
use Rattle.board.specs.declared.view.Hand.TheVariants.{Empty}
use Rattle.board.specs.Known.{IsSeatOf}
use Rattle.segmentrun.proofs.Placing.{AreNumbered}
use Rattle.segmentrun.proofs.crewing.place_all.Given as goal

abbrev pub invariant-loop-number : goal.invariant-loop-number
invariant-loop-number g l = record {
  own : IsSeatOf l.board l.seat;
  ready : (length l.seat.view.placed ≡ l.number) × (l.seat.view.hand ≡ Empty) × (l.seat.view.weight ≡ 16);
  placed : AreNumbered l.seat.view.placed;
}
