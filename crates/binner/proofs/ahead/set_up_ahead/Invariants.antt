use Rattle.std.proofs.Common.{◌≡◌}
use Rattle.std.specs.Prelude.{All}
use Rattle.command.specs.Seen.{state_value}
use Rattle.binner.specs.Setups.{MatchesDraw, settings_at}
use Rattle.binner.proofs.ahead.set_up_ahead.Given as goal

abbrev pub invariant-loop-place : goal.invariant-loop-place
invariant-loop-place g l = record {
  state : state_value l.state ≡ settings_at l.commands l.place;
  ahead : All (MatchesDraw l.commands l.size) l.ahead.items;
}
