use Rattle.std.proofs.Common.{rules, ◌≡◌, ◌∙◌, sym, ap, get_or}
use Rattle.gfxspec.specs.Recorded.{query_begun}
use Rattle.command.specs.Seen.{command_value}
use Rattle.immediate.proofs.Storing.{none_stored, begin_stored, other_stored, all_stored}
use Rattle.immediate.proofs.counts.store_counts.Goals as goal
use Rattle.immediate.proofs.counts.store_counts.Goals.{in-Some, in_default}

pub loop-command-init : goal.loop-command-init
loop-command-init g c = none_stored command_value c.args.commands.now (λ issue. get_or c.args.counts.now issue 0) c.args.results.now

pub loop-command-preserved : goal.loop-command-preserved
loop-command-preserved g c =
    let l = c.loop-command in
    let d = c.command-item.result in
    let cs = c.args.commands.now in
    let told : query_begun (command_value (get_or cs l.command-index d)) ≡ c.query_begun.result
    = ap (λ k. query_begun (command_value k)) (sym c.command-item.is) ∙ sym c.query_begun.ensures in
    elim c.match-query_begun.branch [
      | in-Some w ↦
          begin_stored command_value cs (λ issue. get_or c.args.counts.now issue 0) c.args.results.now l.command-index l.issue c.match-query_begun.issue w.in-Some.query d l.results c.match-query_begun.results c.loop-command-test.true (told ∙ w.in-Some.is) (search rules) (search rules) l.invariant
      | in_default w ↦
          other_stored command_value cs (λ issue. get_or c.args.counts.now issue 0) c.args.results.now l.command-index l.issue c.match-query_begun.issue d l.results c.match-query_begun.results c.loop-command-test.true (told ∙ search rules) (search rules) (search rules) l.invariant
    ]

pub returns : goal.returns
returns g c =
    all_stored command_value c.args.commands.now (λ issue. get_or c.args.counts.now issue 0) c.args.results.now c.loop-command.command-index c.loop-command.issue c.loop-command.results c.loop-command-test.false c.loop-command.invariant
