use Rattle.pixelevents.proofs.OriginLaws.{pending_comes, executed_comes}
use Rattle.pixelevents.proofs.origin_laws.Goals as goal

pub returns : goal.returns
returns c = record {
  pending = λ size steps. pending_comes size steps;
  executed = executed_comes;
}
