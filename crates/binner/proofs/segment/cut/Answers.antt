use Rattle.std.proofs.Common.{sym, subst, List, []}
use Rattle.gfxspec.specs.Commands.{Command}
use Rattle.gfxspec.specs.Recorded.{settings_after}
use Rattle.command.specs.Seen.{command_value}
use Rattle.binner.specs.Segments.{CanFollow, IsMore}
use Rattle.std.proofs.lemmas.Result.{on_ok_weaker}
use Rattle.binner.proofs.Cutting.{Cut, none_cut, can_follow, one_cut, all_cut}
use Rattle.binner.proofs.segment.cut.Goals as goal

pub loop-command-init : goal.loop-command-init
loop-command-init g c =
    let start = c.args.segments.now.items in
    subst (λ (xs : List Command). Cut start [] start xs) (sym c.new-opened.ensures) (none_cut start)

pub add-requires : goal.add-requires
add-requires g c =
    let l = c.loop-command in
    let d = c.command-item.result in
    record {
      follows = subst (λ k. CanFollow (settings_after l.opened) (command_value k)) (sym c.command-item.is)
          (can_follow c.args.commands.now l.command-index d c.loop-command-test.true c.args.segments.now.items l.segments.items l.opened c.requires.accepted c.requires.unissued l.invariant);
    }

pub loop-command-preserved : goal.loop-command-preserved
loop-command-preserved g c =
    let l = c.loop-command in
    let d = c.command-item.result in
    one_cut c.args.commands.now l.command-index d c.loop-command-test.true c.args.segments.now.items l.segments.items l.opened c.add.new.segments.items c.in_ok-opened.opened c.requires.unissued l.invariant
    (subst (λ k. IsMore (command_value k) l.segments.items l.opened c.add.new.segments.items c.in_ok-opened.opened) c.command-item.is c.in_ok-opened.ensures)

pub returns : goal.returns
returns g c =
    let l = c.loop-command in
    record {
      means = λ results.
          on_ok_weaker c.end.result
          (all_cut results c.args.commands.now l.command-index c.args.segments.now.items l.segments.items l.opened c.end.new.segments.items c.loop-command-test.false l.invariant)
          c.end.ensures;
    }
