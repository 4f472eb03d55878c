use Rattle.std.proofs.Common.{rules}
use Rattle.tileprog.proofs.tile.DoneTile.into_block.Goals as goal

pub returns : goal.returns
returns g c = search rules
