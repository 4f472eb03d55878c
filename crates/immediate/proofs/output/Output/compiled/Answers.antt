use Rattle.std.proofs.Common.{ap, ◌∙◌, map}
use Rattle.command.specs.Seen.{command_value}
use Rattle.immediate.specs.Outputs.{Outputs, performed_over}
use Rattle.immediate.proofs.Telling.{performed_told}
use Rattle.immediate.proofs.Runs.{compiled_by}
use Rattle.immediate.proofs.output.Output.compiled.Goals as goal

pub returns-in-Ok-clause-compiled : goal.returns-in-Ok-clause-compiled
returns-in-Ok-clause-compiled g c =
    let list = map command_value c.args.commands.now in
    let same = c.self.view_is ∙ c.in_ok-bins.ensures.same in
    let made = c.requires.engine.listed _ _ _ _ _ c.in-Ok.ensures in
    compiled_by list c.args.self.now c.size-size.result c.told_by-told.result c.in-Ok.compiled (c.size-size.ensures.value ∙ ap (λ (o : Outputs). o.surface.size) same)
    (performed_told c.told_by-told.result c.self.inside.results list c.requires.accepted c.told_by-told.ensures ∙ ap (λ (o : Outputs). performed_over o list) same)
    made.for_size made.issued made.means

pub returns-in-Err-clause-memory : goal.returns-in-Err-clause-memory
returns-in-Err-clause-memory g c =
    let made = c.requires.engine.listed _ _ _ _ _ c.in-Err.ensures in
    ap (λ e. e.0) made.refused
