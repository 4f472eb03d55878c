use Rattle.std.proofs.Common.{get_or}
use Rattle.command.specs.Seen.{command_value}
use Rattle.immediate.proofs.Storing.{StoredSoFar}
use Rattle.immediate.proofs.counts.store_counts.Given as goal

abbrev pub invariant-loop-command : goal.invariant-loop-command
invariant-loop-command g l = StoredSoFar command_value l.fn.commands (λ issue. get_or l.fn.counts issue 0) l.fn.results l.command-index l.issue l.results
