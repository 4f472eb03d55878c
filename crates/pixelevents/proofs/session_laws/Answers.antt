use Rattle.gfxspec.specs.Items.{opening}
use Rattle.pixelevents.specs.Sessions.{performed_items}
use Rattle.pixelevents.proofs.HistoryLaws.{last}
use Rattle.pixelevents.proofs.SessionLaws.{pending_adds, execution_adds, flush_adds_nothing}
use Rattle.pixelevents.proofs.session_laws.Goals as goal

pub returns : goal.returns
returns c = record {
  ends = λ size steps x y. last 0 (performed_items size steps) x y opening;
  pending = λ size steps c x y h. pending_adds size steps c h x y;
  executed = λ size steps c list restore x y h. execution_adds size steps c h list restore x y;
  flushed = flush_adds_nothing;
}
