use Rattle.std.proofs.Common.{◌<◌, ◌∙◌, refl, sym, subst}
use Rattle.gfxspec.specs.Tiles.{tile_count, tile_rect}
use Rattle.classify.specs.Region.{IsClassOf}
use Rattle.classify.specs.declared.Class.TheVariants.{Cut}
use Rattle.binner.proofs.Pushing.{noted_at}
use Rattle.binner.proofs.Changing.{drawn, forced_some}
use Rattle.binner.proofs.lists.add_triangle.Goals as goal

pub returns-clause-added : goal.returns-clause-added
returns-clause-added g c =
    let r = tile_rect c.args.lists.now.size c.args.tile in
    let inside : c.args.tile < tile_count c.push_behind.new.lists.size = subst (λ z. c.args.tile < tile_count z) (sym (c.in_ok-push_behind.ensures.pushed.size ∙ c.in_ok-put_in_force.ensures.forced.size)) c.requires.tile in
    let class : IsClassOf (Cut c.in-Cut.mask) c.args.edges.now r =
    subst (λ k. IsClassOf k c.args.edges.now r) c.in-Cut.is (subst (λ k. IsClassOf c.classify.result c.args.edges.now k) c.requires.rect c.classify.ensures) in
    drawn c.args.tile c.args.current c.args.number c.in-Cut.mask c.new.result c.args.edges.now r c.args.lists.now c.put_in_force.new.lists c.push_behind.new.lists _ c.new.ensures class c.in_ok-put_in_force.ensures.forced c.in_ok-push_behind.ensures.pushed
    (noted_at c.push_behind.new.lists _ c.args.tile c.args.current.counted c.in_ok-push_behind.ensures.sound inside refl refl refl c.note_counted.ensures)

pub push_behind-requires-clause-others : goal.push_behind-requires-clause-others
push_behind-requires-clause-others g c = forced_some c.args.current _ _ c.in_ok-put_in_force.ensures.forced.here
