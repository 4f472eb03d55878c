use Rattle.std.proofs.Common.{map, subst, sym, []}
use Rattle.std.specs.Prelude.{All}
use Rattle.gfxspec.specs.declared.geometry.Size.{Size}
use Rattle.gfxspec.specs.Predication.{performed}
use Rattle.command.specs.Seen.{command_value}
use Rattle.binner.specs.Compiled.{MeansList}
use Rattle.cmdlist.specs.Drawable.{told}
use Rattle.binner.specs.Setups.{MatchesDraw}
use Rattle.binner.proofs.Accepted.{can_compile}
use Rattle.binner.proofs.Ending.{is_compilation, means_items}
use Rattle.binner.proofs.compiled.compile_with.Goals as goal

pub add_commands-requires-clause-can : goal.add_commands-requires-clause-can
add_commands-requires-clause-can g c = can_compile (map command_value c.args.commands.now) c.requires.accepted

pub finished-requires : goal.finished-requires
finished-requires g c =
    let added = c.in-Ok-add_commands.ensures.added in
    is_compilation c.in-Ok-add_commands.issues c.add_commands.new.compiling _ (added.means [] c.in-Ok.ensures.fresh.compiled) added.few added.sound

pub returns-in-Ok-add_commands-clause-means : goal.returns-in-Ok-add_commands-clause-means
returns-in-Ok-add_commands-clause-means g c =
    subst (MeansList (performed (told c.args.results.now) (map command_value c.args.commands.now))) (sym c.finished.ensures)
    (means_items c.in-Ok-add_commands.issues c.add_commands.new.compiling _ (c.in-Ok-add_commands.ensures.added.means [] c.in-Ok.ensures.fresh.compiled))

pub add_commands-requires-clause-ahead : goal.add_commands-requires-clause-ahead
add_commands-requires-clause-ahead g c =
    let h : All (MatchesDraw c.args.commands.now c.args.size) c.args.ahead.items = c.requires.ahead in
    subst (λ (s : Size). All (MatchesDraw c.args.commands.now s) c.args.ahead.items) (sym c.in-Ok.ensures.size) h
