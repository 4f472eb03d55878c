use Rattle.std.proofs.Common.{rules}
use Rattle.binner.proofs.Tiles.{placed}
use Rattle.binner.proofs.lists.rect_at.Goals as goal

pub returns-clause-value : goal.returns-clause-value
returns-clause-value c = placed c.args.size c.args.column c.args.row c.min.result c.min-2.result c.requires.column (search rules) (search rules)
