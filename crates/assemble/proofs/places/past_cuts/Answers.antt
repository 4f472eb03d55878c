use Rattle.std.proofs.Common.{◌∙◌, sym, rules}
use Rattle.assemble.specs.Order.{topology_of}
use Rattle.assemble.proofs.CutLaws.{past_one, used_further, strip_of, ready_of}
use Rattle.assemble.proofs.places.past_cuts.Goals as goal

pub loop-behind-preserved : goal.loop-behind-preserved
loop-behind-preserved c =
    let l = c.loop-behind in
    let cut = c.in-Some.ensures in
    record {
      strip = search rules;
      triangles = λ vs base. past_one vs base l.order l.rest.now c.in-Some.behind.now l.invariant.strip cut ∙ l.invariant.triangles vs base;
      used = λ vs base h. rw cut.rest (used_further (topology_of c.args.begun) vs base _ l.rest.now (l.invariant.used vs base h));
    }

pub returns : goal.returns
returns c =
    let l = c.loop-behind in
    record {
      topology = l.invariant.strip ∙ sym (strip_of c.args.begun c.in_default.not-List);
      triangles = l.invariant.triangles;
      used = l.invariant.used;
      ready = ready_of l.order l.rest.now c.in_default-behind_cut.ensures;
    }
