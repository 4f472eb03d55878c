use Rattle.std.proofs.Common.{◌∙◌, ap, sym, subst, List}
use Rattle.std.specs.Prelude.{All}
use Rattle.tileblock.specs.Block.{pixel_at}
use Rattle.binner.specs.Compiled.{Compilation}
use Rattle.tileprog.specs.Several.{behind_it, HasTile}
use Rattle.tileprog.specs.Programs.{pixel_by_all}
use Rattle.tileprog.proofs.behind.run_behind.Goals as goal

pub run_lists-requires : goal.run_lists-requires
run_lists-requires g c =
    subst (λ (cs : List Compilation). All (HasTile c.args.tile c.args.block.now.rect) cs) (ap behind_it c.in-Some.is ∙ sym c.as_slice.ensures.value) c.requires

pub returns-in-Some-clause-pixels : goal.returns-in-Some-clause-pixels
returns-in-Some-clause-pixels g c = λ x y inside.
    c.run_lists.ensures.pixels x y inside
    ∙ ap (λ (cs : List Compilation). pixel_by_all cs c.args.tile x y (pixel_at c.args.block.now x y)) (c.as_slice.ensures.value ∙ sym (ap behind_it c.in-Some.is))
