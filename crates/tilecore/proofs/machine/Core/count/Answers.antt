use Rattle.std.proofs.Common.{◌≡◌, ◌<◌, ◌+◌, ◌∙◌, sym, subst, arith, length, set, get_or, rules}
use Rattle.std.proofs.lemmas.List.{get_or_default}
use Rattle.tilecore.specs.Schedule.{worker, a_tile, counts, was_counted, IsReached}
use Rattle.tilecore.proofs.Reaching.{reached_after, its_counts, its_share}
use Rattle.tilecore.proofs.Applying.{has_tile, has_none, the_worker_is, written_back, count_refused, count_added}
use Rattle.tilecore.proofs.machine.Core.count.Goals as goal
use Rattle.std.proofs.lemmas.Grind.{common_steps}

pub returns-then-is_none-clause-step : goal.returns-then-is_none-clause-step
returns-then-is_none-clause-step g c =
    count_refused c.self.inside.tiles.items c.self.inside.workers.items c.self.inside.sums.items c.args.self.now c.self.view_is c.args.worker c.index_mut-crew.result.now c.index_mut-crew.ensures.value c.requires.0 c.args.issue c.args.amount
    (has_none c.index_mut-crew.result.now.holding c.if-is_none.ensures)

pub returns-then-is_none-clause-reached : goal.returns-then-is_none-clause-reached
returns-then-is_none-clause-reached g c =
    subst IsReached (sym (written_back c.self.inside.tiles.items c.self.inside.workers.items c.self.inside.sums.items c.args.self.now c.self.view_is c.args.worker c.index_mut-crew.result.now c.index_mut-crew.ensures.value c.requires.0)) (subst IsReached c.self.view_is c.self.invariant.1)

pub index_mut-requires : goal.index_mut-requires
index_mut-requires g c =
    let t = has_tile c.index_mut-crew.result.now.holding c.if-is_none.ensures in
    let at = the_worker_is c.self.inside.tiles.items c.self.inside.workers.items c.self.inside.sums.items c.args.self.now c.self.view_is c.args.worker c.index_mut-crew.result.now c.index_mut-crew.ensures.value c.requires.0 (a_tile t.0) t.1 in
    let long : length c.index_mut-crew.result.now.added.items ≡ length c.args.self.now.sums = its_counts c.args.self.now (subst IsReached c.self.view_is c.self.invariant.1) c.args.worker t.0 c.index_mut-crew.result.now.added.items at in
    let near = c.requires.1 in let b = c.index_mut-crew.result.now.added.ok.0 in omega arith

pub overflow_add-index_mut : goal.overflow_add-index_mut
overflow_add-index_mut g c =
    let t = has_tile c.index_mut-crew.result.now.holding c.if-is_none.ensures in
    let at = the_worker_is c.self.inside.tiles.items c.self.inside.workers.items c.self.inside.sums.items c.args.self.now c.self.view_is c.args.worker c.index_mut-crew.result.now c.index_mut-crew.ensures.value c.requires.0 (a_tile t.0) t.1 in
    let long : length c.index_mut-crew.result.now.added.items ≡ length c.args.self.now.sums = its_counts c.args.self.now (subst IsReached c.self.view_is c.self.invariant.1) c.args.worker t.0 c.index_mut-crew.result.now.added.items at in
    let near = c.requires.1 in
    let share = its_share c.args.self.now (subst IsReached c.self.view_is c.self.invariant.1) c.args.worker (a_tile t.0) c.index_mut-crew.result.now.added.items at c.args.issue in
    let same : c.index_mut.result.now ≡ get_or c.index_mut-crew.result.now.added.items c.args.issue 0 = c.index_mut.ensures.value ∙ get_or_default c.index_mut-crew.result.now.added.items c.args.issue c.index_mut.result.now 0 (omega arith) in
    let small = c.requires.2 in omega arith

pub returns-clause-step : goal.returns-clause-step
returns-clause-step g c =
    let t = has_tile c.index_mut-crew.result.now.holding c.if-is_none.ensures in
    let at = the_worker_is c.self.inside.tiles.items c.self.inside.workers.items c.self.inside.sums.items c.args.self.now c.self.view_is c.args.worker c.index_mut-crew.result.now c.index_mut-crew.ensures.value c.requires.0 (a_tile t.0) t.1 in
    let long : length c.index_mut-crew.result.now.added.items ≡ length c.args.self.now.sums = its_counts c.args.self.now (subst IsReached c.self.view_is c.self.invariant.1) c.args.worker t.0 c.index_mut-crew.result.now.added.items at in
    let near : c.args.issue < length c.args.self.now.sums = c.requires.1 in
    let same : c.index_mut.result.now ≡ get_or c.index_mut-crew.result.now.added.items c.args.issue 0 = c.index_mut.ensures.value ∙ get_or_default c.index_mut-crew.result.now.added.items c.args.issue c.index_mut.result.now 0 (omega arith) in
    count_added c.self.inside.tiles.items c.self.inside.workers.items c.self.inside.sums.items c.args.self.now c.self.view_is c.args.worker c.index_mut-crew.result.now c.index_mut-crew.ensures.value c.requires.0 t.0 c.args.issue c.args.amount _ t.1 near
    (λ i. worker (t.1 i) (set c.index_mut-crew.result.now.added.items c.args.issue (same i + c.args.amount)))

pub returns-clause-reached : goal.returns-clause-reached
returns-clause-reached g c = reached_after c.args.self.now (counts c.args.worker c.args.issue c.args.amount) was_counted _ (subst IsReached c.self.view_is c.self.invariant.1) c.requires (returns-clause-step g c)

pub invariant_of-self-2 : goal.invariant_of-self-2
invariant_of-self-2 g c = (c.self.invariant.0, returns-clause-reached g c)

pub index_mut-crew-requires : goal.index_mut-crew-requires
index_mut-crew-requires g c = grind (arith, common_steps)

pub is_none-requires : goal.is_none-requires
is_none-requires g c κs = search rules

pub invariant_of-self : goal.invariant_of-self
invariant_of-self g c = grind (arith, common_steps)

pub returns-then-is_none-clause-was_reached : goal.returns-then-is_none-clause-was_reached
returns-then-is_none-clause-was_reached g c = search rules

pub returns-clause-was_reached : goal.returns-clause-was_reached
returns-clause-was_reached g c = search rules
