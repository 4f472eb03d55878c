use Rattle.std.proofs.Common.{◌≡◌, ◌∙◌, sym, ap, subst, arith, length, map, replicate}
use lib.ListN.{length-replicate}
use Rattle.tilecore.specs.Schedule.{Schedule, open_tile, IsReached, counted}
use Rattle.tilecore.specs.Meaning.{standing_of}
use Rattle.tilecore.proofs.Lists.{length_map}
use Rattle.tilecore.proofs.Reaching.{reached_start, nothing_counted}
use Rattle.tilecore.proofs.machine.Core.new.Goals as goal

pub returns-clause-start : goal.returns-clause-start
returns-clause-start g c = let zeros : c.in_ok-sums.sums.items ≡ replicate c.args.issues 0 = c.in_ok-sums.ensures.items_if_clones_equal (λ y e. e) in λ i. record { tiles = c.in_ok-places.ensures i; workers = c.in_ok-crew.ensures i; sums = zeros i }

pub returns-clause-reached : goal.returns-clause-reached
returns-clause-reached g c = subst IsReached (sym (returns-clause-start g c)) (reached_start c.args.tiles c.args.issues c.args.workers)

pub invariant_of-result : goal.invariant_of-result
invariant_of-result g c = (
  (let a : length (map standing_of c.in_ok-places.places.items) ≡ length (replicate c.args.tiles open_tile) = ap length c.in_ok-places.ensures in
      let b = length_map standing_of c.in_ok-places.places.items in let d = length-replicate c.args.tiles open_tile in let e = c.ranges.tiles.fits in omega arith),
  returns-clause-reached g c,
)

pub returns-clause-nothing : goal.returns-clause-nothing
returns-clause-nothing g c = λ i less. ap (λ (q : Schedule). counted q i) (returns-clause-start g c) ∙ nothing_counted c.args.tiles c.args.issues c.args.workers i less
