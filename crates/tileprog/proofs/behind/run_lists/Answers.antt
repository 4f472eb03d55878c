use Rattle.std.proofs.Common.{◌∙◌, ap, sym, subst, ◌+◌, List, drop}
use Rattle.std.proofs.lemmas.List.{drop_all}
use Rattle.gfxspec.specs.declared.geometry.PixelRect.{PixelRect}
use Rattle.gfxspec.specs.Tiles.{IsIn}
use Rattle.tileblock.specs.Block.{pixel_at}
use Rattle.binner.specs.Compiled.{Compilation}
use Rattle.tileprog.specs.Programs.{pixel_by_all}
use Rattle.tileprog.proofs.Several.{next_runs}
use Rattle.tileprog.proofs.behind.run_lists.Goals as goal

pub loop-list-preserved : goal.loop-list-preserved
loop-list-preserved g c =
    let l = c.loop-list in
    let ran = c.run_words in
    record {
      rect = ran.ensures.rect ∙ l.invariant.rect;
      pixels = λ x y inside.
          ap (pixel_by_all (drop (l.list-index + 1) c.args.lists.now) c.args.tile x y) (ran.ensures.pixels x y (subst (λ (r : PixelRect). IsIn r x y) (sym l.invariant.rect) inside))
          ∙ next_runs c.args.lists.now l.list-index c.list-item.result c.args.tile x y (pixel_at l.block x y) c.loop-list-test.true c.list-item.is
          ∙ l.invariant.pixels x y inside;
    }

pub returns-clause-pixels : goal.returns-clause-pixels
returns-clause-pixels g c = λ x y inside.
    ap (λ (cs : List Compilation). pixel_by_all cs c.args.tile x y (pixel_at c.loop-list.block x y)) (sym (drop_all c.loop-list.list-index c.args.lists.now c.loop-list-test.false))
    ∙ c.loop-list.invariant.pixels x y inside
