use Rattle.std.proofs.Common.{◌∙◌}
use Rattle.recorders.proofs.PortLemmas.{more_more}
use Rattle.recorders.proofs.received.ReceivedLists.take_all.Goals as goal

pub returns-then-not-take_one-clause-more : goal.returns-then-not-take_one-clause-more
returns-then-not-take_one-clause-more g c = more_more c.loop.invariant.more c.take_one.ensures.more

pub loop-preserved : goal.loop-preserved
loop-preserved g c = record {
  more = more_more c.loop.invariant.more c.take_one.ensures.more;
  same = c.take_one.ensures.same ∙ c.loop.invariant.same;
}
