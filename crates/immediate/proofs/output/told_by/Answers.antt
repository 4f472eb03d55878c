use Rattle.std.proofs.Common.{rules, ◌∙◌, arith, length-set}
use Rattle.immediate.proofs.Telling.{told_next, told_each}
use Rattle.immediate.proofs.output.told_by.Goals as goal

pub loop-query-preserved : goal.loop-query-preserved
loop-query-preserved c =
    let inv = c.loop-query.invariant in
    let i = c.loop-query.query in
    record {
      long = length-set c.loop-query.told i _ ∙ inv.long;
      each = told_next c.args.results.now i c.loop-query.told _ (omega (arith, inv.long)) (search rules) inv.each;
    }

pub returns : goal.returns
returns c = told_each c.args.results.now c.loop-query.told c.loop-query.query (search rules) (search rules) c.loop-query.invariant
