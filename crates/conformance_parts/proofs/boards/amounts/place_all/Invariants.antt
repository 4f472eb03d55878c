use Rattle.std.proofs.Common.{◌≡◌, length}
use Rattle.board.specs.declared.view.Hand.TheVariants.{Empty}
use Rattle.board.specs.Known.{IsSeatOf}
use Rattle.conformance_parts.proofs.boards.amounts.place_all.Given as goal

abbrev pub invariant-loop-number : goal.invariant-loop-number
invariant-loop-number g l = record {
  own : IsSeatOf l.board l.seat;
  ready : (l.seat.view.weight ≡ 16) × (l.seat.view.hand ≡ Empty);
  so_far : length l.seat.view.placed ≡ l.number;
}
