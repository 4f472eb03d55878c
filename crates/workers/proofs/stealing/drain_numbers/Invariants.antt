use Rattle.std.proofs.Common.{◌≡◌, All, length}
use Rattle.board.specs.Known.{IsSeatOf, IsReady}
use Rattle.board.specs.Views.{KnowsEach}
use Rattle.workers.proofs.stealing.drain_numbers.Given as goal

abbrev pub invariant-loop-step : goal.invariant-loop-step
invariant-loop-step g l = record {
  own : IsSeatOf l.board l.seat;
  ready : IsReady g.J.TileJob.tile_count l.board l.seat;
  same : (l.seat.view.weight ≡ l.initial.seat.view.weight) × (l.seat.view.placed ≡ l.initial.seat.view.placed);
  queues : All (λ t. t ≡ g.J.TileJob.tile_count l.board.job) l.queues × (length l.queues ≡ length l.initial.queues);
  each : length l.initial.queues ≡ 0 → KnowsEach l.seat.view l.step;
}
