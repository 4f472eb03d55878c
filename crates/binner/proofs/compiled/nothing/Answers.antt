use Rattle.std.proofs.Common.{◌≡◌, replicate, false, refl, ◌∙◌, ap}
use Rattle.gfxspec.specs.Tiles.{tile_count}
use Rattle.binner.proofs.Ending.{fresh}
use Rattle.binner.proofs.compiled.nothing.Goals as goal

pub returns-clause-fresh : goal.returns-clause-fresh
returns-clause-fresh g c =
    let counted : c.in-Ok.counted.items ≡ replicate (tile_count c.args.size) false = c.in-Ok.ensures.items_if_clones_equal (λ y e. e) ∙ ap (λ n. replicate n false) c.tile_count.ensures.value in
    fresh _ c.requires.size c.requires.empty counted c.new.ensures.items refl c.in-Ok-with_room.ensures refl c.new-3.ensures.items c.new-4.ensures.items
