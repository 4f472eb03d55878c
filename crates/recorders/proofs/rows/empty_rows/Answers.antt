use Rattle.recorders.proofs.RowLemmas.{still_none}
use Rattle.recorders.proofs.rows.empty_rows.Goals as goal

pub loop-preserved : goal.loop-preserved
loop-preserved g c = still_none (λ v. v.items) c.loop.rows.items c.push.new.self.items c.new.result c.push.result c.push.ensures.items c.new.ensures.items c.loop.invariant
