use Rattle.std.proofs.Common.{rules, refl, subst, ◌≡◌}
use Rattle.gfxspec.specs.Tiles.{tile_rect}
use Rattle.binner.specs.Lists.{EachChanges, TakesTriangle}
use Rattle.binner.proofs.compiling.add_numbered.Goals as goal

pub returns-clause-added : goal.returns-clause-added
returns-clause-added g c setup place =
    let old = c.args.compiling.now in
    let is : c.get-setup.result.now ≡ setup = search rules in
    record {
      place = place;
      kept = λ n p h. h;
      few = c.requires.sound.triangles;
      room = search rules;
      drawn = refl;
      lists = subst (λ t. EachChanges (λ k. TakesTriangle t.plane.triangle t.bounds (tile_rect old.lists.size k) c.args.current c.args.number) old.lists c.add_to_tiles.new.lists) is c.in_ok-add_to_tiles.ensures.added;
      sound = c.in_ok-add_to_tiles.ensures.sound;
      states = refl;
      colors = refl;
      depths = refl;
      current = refl;
    }
