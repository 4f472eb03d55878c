use Rattle.std.proofs.Common.{rules}
use Rattle.commandline.proofs.request.SettingsFaultFromAllocError.from.Goals as goal

pub returns : goal.returns
returns c = search rules
