use Rattle.std.proofs.Common.{rules, refl, subst, arith, ◌∷◌, [], ◌<◌, length, length-append}
use Rattle.gfxspec.specs.Tiles.{tile_rect}
use Rattle.binner.specs.Lists.{EachChanges, TakesTriangle}
use Rattle.binner.proofs.Growing.{at_end, more_or_same}
use Rattle.binner.proofs.compiling.add_setup.Goals as goal

pub returns-clause-added : goal.returns-clause-added
returns-clause-added g c =
    let old = c.args.compiling.now in
    let setup = c.args.setup in
    let table = c.push.new.self in
    let pushed = c.in_ok-push.ensures.pushed in
    let room : length old.triangles < 65536 = search rules in
    record {
      place = at_end old.triangles table setup pushed;
      kept = more_or_same old.triangles table (setup ∷ []) pushed;
      few = rw pushed (simp length-append (omega (arith, room)));
      room = search rules;
      drawn = refl;
      lists = subst (λ n. EachChanges (λ k. TakesTriangle setup.plane.triangle setup.bounds (tile_rect old.lists.size k) c.args.current n) old.lists c.add_to_tiles.new.lists) c.len-number.ensures c.in_ok-add_to_tiles.ensures.added;
      sound = c.in_ok-add_to_tiles.ensures.sound;
      states = refl;
      colors = refl;
      depths = refl;
      current = refl;
    }
