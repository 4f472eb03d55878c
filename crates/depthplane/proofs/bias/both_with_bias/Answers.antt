use Rattle.std.proofs.Common.{rules}
use Rattle.depthplane.proofs.Biases.{unbiased}
use Rattle.depthplane.proofs.bias.both_with_bias.Goals as goal

pub returns-then-bias-eq0-clause-first : goal.returns-then-bias-eq0-clause-first
returns-then-bias-eq0-clause-first c = unbiased c.args.first c.args.bias c.requires.first (search rules)

pub returns-then-bias-eq0-clause-second : goal.returns-then-bias-eq0-clause-second
returns-then-bias-eq0-clause-second c = unbiased c.args.second c.args.bias c.requires.second (search rules)
