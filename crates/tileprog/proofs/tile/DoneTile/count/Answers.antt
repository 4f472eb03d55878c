use Rattle.std.proofs.Common.{rules}
use Rattle.tileprog.proofs.tile.DoneTile.count.Goals as goal

pub returns : goal.returns
returns g c = search rules
