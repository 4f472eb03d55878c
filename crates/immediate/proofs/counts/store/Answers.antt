use Rattle.std.proofs.Common.{rules}
use Rattle.immediate.proofs.counts.store.Goals as goal

pub offset_bounds-results-query : goal.offset_bounds-results-query
offset_bounds-results-query c = search rules

pub bounds-results-query : goal.bounds-results-query
bounds-results-query c = search rules

pub returns-then-query-lt-QUERY_LIMIT : goal.returns-then-query-lt-QUERY_LIMIT
returns-then-query-lt-QUERY_LIMIT c = search rules
