use Rattle.std.proofs.Common.{◌∙◌, sym, refl}
use Rattle.tileprog.proofs.Lanes.{has_all}
use Rattle.tileprog.proofs.spans.all_lanes.Goals as goal

pub returns-then-set : goal.returns-then-set
returns-then-set c = λ j h. has_all 255 j refl h ∙ sym c.if-set.true
