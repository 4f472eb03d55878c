use Rattle.std.proofs.Common.{◌≡◌, rules, length}
use Rattle.tileblock.proofs.Lesser.{long_by_less, lesser_lane, greater_lane}
use Rattle.tileblock.proofs.extremes.Extremes.with.Goals as goal

pub invariant_of-result : goal.invariant_of-result
invariant_of-result c =
    let least = c.args.self.least in
    let greatest = c.args.self.greatest in
    let values = c.args.values.now in
    let long : length values ≡ 8 = search rules in
    record {
      least_lanes = long_by_less least values least values c.args.self.least_lanes long c.args.self.least_lanes long;
      greatest_lanes = long_by_less greatest values values greatest c.args.self.greatest_lanes long long c.args.self.greatest_lanes;
    }

pub returns-clause-least : goal.returns-clause-least
returns-clause-least c =
    let values = c.args.values.now in
    let long : length values ≡ 8 = search rules in
    lesser_lane c.args.self.least values c.args.self.least_lanes long

pub returns-clause-greatest : goal.returns-clause-greatest
returns-clause-greatest c =
    let values = c.args.values.now in
    let long : length values ≡ 8 = search rules in
    greater_lane c.args.self.greatest values c.args.self.greatest_lanes long
