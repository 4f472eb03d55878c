use Rattle.std.proofs.Common.{rules, refl}
use Rattle.pixelhistory.proofs.Standing.{traced_new}
use Rattle.pixelhistory.proofs.session.SessionTrace.new.Goals as goal

pub returns : goal.returns
returns g c size x y = traced_new size x y _ (c.new.ensures x y) (search rules) refl
