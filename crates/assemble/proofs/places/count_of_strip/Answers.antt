use Rattle.std.proofs.Common.{arith, length, ◌≤◌}
use Rattle.std.proofs.lemmas.List.{at_drop_all}
use Rattle.assemble.proofs.CountLaws.{tail_count, count_is}
use Rattle.assemble.proofs.places.count_of_strip.Goals as goal

pub returns : goal.returns
returns c vs base =
    let l = c.loop-index in
    let over : length c.args.indices.now ≤ l.index-index = omega arith in
    let all = at_drop_all (tail_count l.run) c.args.indices.now l.index-index over in
    let counted = l.invariant.counted in
    let whole = count_is vs base c.args.indices.now in
    omega arith
