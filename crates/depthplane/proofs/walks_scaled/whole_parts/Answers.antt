use Rattle.depthplane.proofs.WholeParts.{they_fit, they_are}
use Rattle.depthplane.proofs.walks_scaled.whole_parts.Goals as goal

pub overflow_cast-result : goal.overflow_cast-result
overflow_cast-result c = they_fit 8 c.args.lanes.now c.told-lanes

pub returns : goal.returns
returns c = they_are 8 c.args.lanes.now c.told-lanes
