use Rattle.std.proofs.Common.{rules, ◌≡◌, ◌<◌, ◌^◌, ℕ, List, ◌∙◌, sym, ap, subst, arith, length, get_or, replicate, length-set}
use Rattle.tilecore.specs.declared.machine.Place.TheVariants.{Finished}
use Rattle.tilecore.specs.Schedule.{Schedule, nothing, worker, a_tile, hands_in, was_done, IsReached}
use Rattle.tilecore.specs.Meaning.{hands_of}
use Rattle.tilecore.proofs.Reaching.{reached_after, its_tile, its_counts, its_share_fits}
use Rattle.tilecore.proofs.Applying.{from_not, from_not', same_lists, other_lists, the_worker_is, written_back, hand_in_refused, hand_in_differs, hand_in_done, tile_count}
use Rattle.tilecore.proofs.machine.Core.hand_in.Goals as goal
use Rattle.std.proofs.lemmas.Grind.{common_steps}

pub returns-in_default-clause-step : goal.returns-in_default-clause-step
returns-in_default-clause-step g c =
    hand_in_refused c.self.inside.tiles.items c.self.inside.workers.items c.self.inside.sums.items c.args.self.now c.self.view_is c.args.worker c.index_mut-crew.result.now c.index_mut-crew.ensures.value c.requires c.args.sums.now (ap hands_of c.in_default.is)

pub returns-in_default-clause-reached : goal.returns-in_default-clause-reached
returns-in_default-clause-reached g c =
    subst IsReached (sym (written_back c.self.inside.tiles.items c.self.inside.workers.items c.self.inside.sums.items c.args.self.now c.self.view_is c.args.worker c.index_mut-crew.result.now c.index_mut-crew.ensures.value c.requires)) (subst IsReached c.self.view_is c.self.invariant.1)

pub returns-then-ne-clause-step : goal.returns-then-ne-clause-step
returns-then-ne-clause-step g c =
    hand_in_differs c.self.inside.tiles.items c.self.inside.workers.items c.self.inside.sums.items c.args.self.now c.self.view_is c.args.worker c.index_mut-crew.result.now c.index_mut-crew.ensures.value c.requires c.args.sums.now
    (λ e. other_lists c.as_slice.result.now c.args.sums.now (from_not _ c.if-ne.ensures) (c.as_slice.ensures.value ∙ e))

pub returns-then-ne-clause-reached : goal.returns-then-ne-clause-reached
returns-then-ne-clause-reached g c =
    subst IsReached (sym (written_back c.self.inside.tiles.items c.self.inside.workers.items c.self.inside.sums.items c.args.self.now c.self.view_is c.args.worker c.index_mut-crew.result.now c.index_mut-crew.ensures.value c.requires)) (subst IsReached c.self.view_is c.self.invariant.1)

pub index_mut-requires : goal.index_mut-requires
index_mut-requires g c =
    let at = the_worker_is c.self.inside.tiles.items c.self.inside.workers.items c.self.inside.sums.items c.args.self.now c.self.view_is c.args.worker c.index_mut-crew.result.now c.index_mut-crew.ensures.value c.requires (a_tile c.in-Some.number) (ap hands_of c.in-Some.is) in
    let a : c.in-Some.number < length c.args.self.now.tiles = its_tile c.args.self.now (subst IsReached c.self.view_is c.self.invariant.1) c.args.worker c.in-Some.number c.index_mut-crew.result.now.added.items at in
    let b = tile_count c.self.inside.tiles.items c.self.inside.workers.items c.self.inside.sums.items c.args.self.now c.self.view_is in
    let d = c.self.inside.tiles.ok.0 in omega arith

pub add_all-requires-clause-long : goal.add_all-requires-clause-long
add_all-requires-clause-long g c =
    let at = the_worker_is c.self.inside.tiles.items c.self.inside.workers.items c.self.inside.sums.items c.args.self.now c.self.view_is c.args.worker c.index_mut-crew.result.now c.index_mut-crew.ensures.value c.requires (a_tile c.in-Some.number) (ap hands_of c.in-Some.is) in
    let long = its_counts c.args.self.now (subst IsReached c.self.view_is c.self.invariant.1) c.args.worker c.in-Some.number c.index_mut-crew.result.now.added.items at in
    let same : c.index_mut-crew.result.now.added.items ≡ c.args.sums.now = sym c.as_slice.ensures.value ∙ same_lists c.as_slice.result.now c.args.sums.now (from_not' _ c.if-ne.ensures) in
    sym (ap length same) ∙ long ∙ sym (ap (λ (q : Schedule). length q.sums) c.self.view_is)

pub add_all-requires-clause-fits : goal.add_all-requires-clause-fits
add_all-requires-clause-fits g c = λ i less.
    let at = the_worker_is c.self.inside.tiles.items c.self.inside.workers.items c.self.inside.sums.items c.args.self.now c.self.view_is c.args.worker c.index_mut-crew.result.now c.index_mut-crew.ensures.value c.requires (a_tile c.in-Some.number) (ap hands_of c.in-Some.is) in
    let same : c.index_mut-crew.result.now.added.items ≡ c.args.sums.now = sym c.as_slice.ensures.value ∙ same_lists c.as_slice.result.now c.args.sums.now (from_not' _ c.if-ne.ensures) in
    let is : length c.self.inside.sums.items ≡ length c.args.self.now.sums = ap (λ (q : Schedule). length q.sums) c.self.view_is in
    let fits = its_share_fits c.args.self.now (subst IsReached c.self.view_is c.self.invariant.1) c.args.worker c.in-Some.number c.index_mut-crew.result.now.added.items at i (omega arith) in
    let a : get_or c.self.inside.sums.items i 0 ≡ get_or c.args.self.now.sums i 0 = ap (λ (q : Schedule). get_or q.sums i 0) c.self.view_is in
    let b : get_or c.index_mut-crew.result.now.added.items i 0 ≡ get_or c.args.sums.now i 0 = ap (λ (l : List ℕ). get_or l i 0) same in omega arith

pub returns-clause-step : goal.returns-clause-step
returns-clause-step g c =
    let at = the_worker_is c.self.inside.tiles.items c.self.inside.workers.items c.self.inside.sums.items c.args.self.now c.self.view_is c.args.worker c.index_mut-crew.result.now c.index_mut-crew.ensures.value c.requires (a_tile c.in-Some.number) (ap hands_of c.in-Some.is) in
    let long = its_counts c.args.self.now (subst IsReached c.self.view_is c.self.invariant.1) c.args.worker c.in-Some.number c.index_mut-crew.result.now.added.items at in
    let same : c.index_mut-crew.result.now.added.items ≡ c.args.sums.now = sym c.as_slice.ensures.value ∙ same_lists c.as_slice.result.now c.args.sums.now (from_not' _ c.if-ne.ensures) in
    hand_in_done c.self.inside.tiles.items c.self.inside.workers.items c.self.inside.sums.items c.args.self.now c.self.view_is c.args.worker c.index_mut-crew.result.now c.index_mut-crew.ensures.value c.requires c.in-Some.number c.args.sums.now _ c.add_all.new.sums.items
    (ap hands_of c.in-Some.is) same
    (ap (worker nothing) (c.make_zero.ensures ∙ ap (λ (n : ℕ). replicate n 0) (long ∙ sym (ap (λ (q : Schedule). length q.sums) c.self.view_is))))
    c.add_all.ensures

pub returns-clause-reached : goal.returns-clause-reached
returns-clause-reached g c = reached_after c.args.self.now (hands_in c.args.worker c.args.sums.now) was_done _ (subst IsReached c.self.view_is c.self.invariant.1) c.requires (returns-clause-step g c)

pub invariant_of-self-2 : goal.invariant_of-self-2
invariant_of-self-2 g c = (subst (λ (n : ℕ). n < 2 ^ 32) (sym (length-set c.self.inside.tiles.items c.in-Some.number Finished)) c.self.invariant.0, returns-clause-reached g c)

pub returns-in_default-clause-was_reached : goal.returns-in_default-clause-was_reached
returns-in_default-clause-was_reached g c = search rules

pub as_slice-requires : goal.as_slice-requires
as_slice-requires g c κs = search rules

pub ne-requires : goal.ne-requires
ne-requires g c κs = search rules

pub returns-then-ne-clause-was_reached : goal.returns-then-ne-clause-was_reached
returns-then-ne-clause-was_reached g c = search rules

pub make_zero-requires : goal.make_zero-requires
make_zero-requires g c κs = search rules

pub returns-clause-was_reached : goal.returns-clause-was_reached
returns-clause-was_reached g c = search rules

pub index_mut-crew-requires : goal.index_mut-crew-requires
index_mut-crew-requires g c = grind (arith, common_steps)

pub invariant_of-self : goal.invariant_of-self
invariant_of-self g c = grind (arith, common_steps)

pub invariant_of-self-then-ne : goal.invariant_of-self-then-ne
invariant_of-self-then-ne g c = grind (arith, common_steps)
