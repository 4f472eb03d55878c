use Rattle.std.proofs.Common.{rules}
use Rattle.command.proofs.settings.Settings.state.Goals as goal

pub returns : goal.returns
returns g c = search rules
