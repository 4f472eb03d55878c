use Rattle.std.proofs.Common.{w8, rules}
use Rattle.lanes.proofs.Masks.{picked_is}
use Rattle.lanes.proofs.stencil.select_bytes8.Goals as goal

pub returns : goal.returns
returns c = λ j h. picked_is w8 c.args.bits j c.args.a.now c.args.b.now h (search rules) (search rules)
