use Rattle.pixelevents.proofs.HistoryLaws.{last, chain, follow, same_issues, counts, no_color}
use Rattle.pixelevents.proofs.history_laws.Goals as goal

pub returns : goal.returns
returns c = record {
  last = last;
  counts = counts;
  chain = chain;
  parts = follow;
  issues = same_issues;
  color = no_color;
}
