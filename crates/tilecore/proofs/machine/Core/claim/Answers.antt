use Rattle.std.proofs.Common.{◌≡◌, ◌<◌, ◌^◌, ℕ, List, Some, sym, ap, subst, arith, length, map, length-set}
use mathlib.Core.Option.{some}
use lib.ListN.{get_elem?}
use Rattle.tilecore.specs.declared.machine.Place.{Place}
use Rattle.tilecore.specs.declared.machine.Place.TheVariants.{WithWorker}
use Rattle.tilecore.specs.declared.machine.Crew.{Crew}
use Rattle.tilecore.specs.Schedule.{worker, a_tile, open_tile, claims, got, IsReached}
use Rattle.tilecore.specs.Meaning.{standing_of}
use Rattle.tilecore.proofs.Lists.{map_within}
use Rattle.tilecore.proofs.Reaching.{reached_after}
use Rattle.tilecore.proofs.Applying.{has_tile, has_none, claim_refused, claim_missed, claim_hit, same_crew}
use Rattle.tilecore.proofs.machine.Core.claim.Goals as goal

pub returns-then-is_some-clause-step : goal.returns-then-is_some-clause-step
returns-then-is_some-clause-step g c =
    let t = has_tile c.index.result.now.holding (sym c.if-is_some.ensures) in
    claim_refused c.self.inside.tiles.items c.self.inside.workers.items c.self.inside.sums.items c.args.self.now c.self.view_is c.args.worker c.index.result.now c.index.ensures c.requires t.0 t.1

pub index_mut-requires : goal.index_mut-requires
index_mut-requires g c =
    let free : get_elem? (map standing_of c.self.inside.tiles.items) c.in-Some.number ≡ some open_tile = subst (λ (l : List Place). get_elem? (map standing_of l) c.in-Some.number ≡ some open_tile) c.as_slice.ensures.value c.in-Some.ensures.some in
    let a = map_within standing_of c.self.inside.tiles.items c.in-Some.number open_tile free in
    let b = c.self.inside.tiles.ok.0 in omega arith

pub overflow_cast-crew : goal.overflow_cast-crew
overflow_cast-crew g c =
    let free : get_elem? (map standing_of c.self.inside.tiles.items) c.in-Some.number ≡ some open_tile = subst (λ (l : List Place). get_elem? (map standing_of l) c.in-Some.number ≡ some open_tile) c.as_slice.ensures.value c.in-Some.ensures.some in
    let a = map_within standing_of c.self.inside.tiles.items c.in-Some.number open_tile free in
    let b : length c.self.inside.tiles.items < 2 ^ 32 = c.self.invariant.0 in omega arith

pub overflow_cast-result : goal.overflow_cast-result
overflow_cast-result g c =
    let free : get_elem? (map standing_of c.self.inside.tiles.items) c.in-Some.number ≡ some open_tile = subst (λ (l : List Place). get_elem? (map standing_of l) c.in-Some.number ≡ some open_tile) c.as_slice.ensures.value c.in-Some.ensures.some in
    let a = map_within standing_of c.self.inside.tiles.items c.in-Some.number open_tile free in
    let b : length c.self.inside.tiles.items < 2 ^ 32 = c.self.invariant.0 in omega arith

pub invariant_of-self : goal.invariant_of-self
invariant_of-self g c =
    let free : get_elem? (map standing_of c.self.inside.tiles.items) c.in-Some.number ≡ some open_tile = subst (λ (l : List Place). get_elem? (map standing_of l) c.in-Some.number ≡ some open_tile) c.as_slice.ensures.value c.in-Some.ensures.some in
    let idle = has_none c.index.result.now.holding (sym c.if-is_some.ensures) in
    let b : length c.self.inside.tiles.items < 2 ^ 32 = c.self.invariant.0 in
    let same = length-set c.self.inside.tiles.items c.in-Some.number (WithWorker c.args.worker) in
    let reached : IsReached c.args.self.now = subst IsReached c.self.view_is c.self.invariant.1 in (
      omega arith,
      reached_after c.args.self.now (claims c.args.worker) (got c.in-Some.number) _ reached c.requires
          (claim_hit c.self.inside.tiles.items c.self.inside.workers.items c.self.inside.sums.items c.args.self.now c.self.view_is c.args.worker c.index.result.now c.index.ensures c.requires c.in-Some.number
          (record { holding = Some c.in-Some.number; added = c.index_mut-crew.result.now.added }) idle free
          (ap (λ (x : Crew g.row.A.Denot). worker (a_tile c.in-Some.number) x.added.items) (same_crew c.self.inside.tiles.items c.self.inside.workers.items c.self.inside.sums.items c.args.self.now c.self.view_is c.args.worker c.index.result.now c.index.ensures c.requires c.index_mut-crew.result.now c.index_mut-crew.ensures.value))),
    )

pub returns-in-None-clause-step : goal.returns-in-None-clause-step
returns-in-None-clause-step g c =
    let idle = has_none c.index.result.now.holding (sym c.if-is_some.ensures) in
    claim_missed c.self.inside.tiles.items c.self.inside.workers.items c.self.inside.sums.items c.args.self.now c.self.view_is c.args.worker c.index.result.now c.index.ensures c.requires idle
    (subst (λ (l : List Place). (n : ℕ) → get_elem? (map standing_of l) n ≡ some open_tile → ⊥) c.as_slice.ensures.value c.in-None.ensures.none)

pub returns-in-Some-clause-step : goal.returns-in-Some-clause-step
returns-in-Some-clause-step g c =
    let free : get_elem? (map standing_of c.self.inside.tiles.items) c.in-Some.number ≡ some open_tile = subst (λ (l : List Place). get_elem? (map standing_of l) c.in-Some.number ≡ some open_tile) c.as_slice.ensures.value c.in-Some.ensures.some in
    let idle = has_none c.index.result.now.holding (sym c.if-is_some.ensures) in
    claim_hit c.self.inside.tiles.items c.self.inside.workers.items c.self.inside.sums.items c.args.self.now c.self.view_is c.args.worker c.index.result.now c.index.ensures c.requires c.in-Some.number
    (record { holding = Some c.in-Some.number; added = c.index_mut-crew.result.now.added }) idle free
    (ap (λ (x : Crew g.row.A.Denot). worker (a_tile c.in-Some.number) x.added.items) (same_crew c.self.inside.tiles.items c.self.inside.workers.items c.self.inside.sums.items c.args.self.now c.self.view_is c.args.worker c.index.result.now c.index.ensures c.requires c.index_mut-crew.result.now c.index_mut-crew.ensures.value))

pub returns-in-Some-clause-reached : goal.returns-in-Some-clause-reached
returns-in-Some-clause-reached g c = (invariant_of-self g c).1
