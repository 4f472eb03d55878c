use Rattle.std.proofs.Common.{◌≡◌, replicate}
use Rattle.recorders.specs.Recording.{nothing_recorded}
use Rattle.player.proofs.lines.Player.new.Given as goal

abbrev pub invariant-loop : goal.invariant-loop
invariant-loop g l = l.contexts.items ≡ replicate l.counter nothing_recorded
