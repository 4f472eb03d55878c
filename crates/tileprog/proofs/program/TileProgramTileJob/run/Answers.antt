use Rattle.std.proofs.Common.{◌<◌, ℕ, rules, refl, subst}
use Rattle.std.specs.Prelude.{◌≡◌}
use Rattle.std.proofs.lemmas.List.Elements.{All-tail}
use Rattle.gfxspec.specs.Tiles.{tile_count}
use Rattle.binner.specs.Compiled.{Compilation}
use Rattle.tilerun.proofs.Lists.{contains_at}
use Rattle.tileprog.specs.Several.{behind_it}
use Rattle.tileprog.specs.Programs.{tiles_of}
use Rattle.tileprog.proofs.Programs.{tile_ran}
use Rattle.tileprog.proofs.Several.{have_tile}
use Rattle.tileprog.proofs.program.TileProgramTileJob.run.Goals as goal

pub prefetch-prefetched-requires : goal.prefetch-prefetched-requires
prefetch-prefetched-requires g c =
    let job = c.args.self.now in
    let listed = contains_at (tiles_of job) c.args.tile.place c.args.tile.tile.number c.requires.0 in
    subst (λ (t : ℕ). t < tile_count job.first.size) listed.2 (job.lists.tiles.in_range listed.0 _ listed.1)

pub run_words-counts-requires-clause-tile : goal.run_words-counts-requires-clause-tile
run_words-counts-requires-clause-tile g c =
    let job = c.args.self.now in
    let listed = contains_at (tiles_of job) c.args.tile.place c.args.tile.tile.number c.requires.0 in
    subst (λ (t : ℕ). t < tile_count job.first.size) listed.2 (job.lists.tiles.in_range listed.0 _ listed.1)

pub run_words-counts-requires-clause-rect : goal.run_words-counts-requires-clause-rect
run_words-counts-requires-clause-rect g c = search rules

pub run_behind-prefetched-requires : goal.run_behind-prefetched-requires
run_behind-prefetched-requires g c =
    let job = c.args.self.now in
    let listed = contains_at (tiles_of job) c.args.tile.place c.args.tile.tile.number c.requires.0 in
    have_tile job.first.size c.args.tile.tile.number _ (behind_it job.behind)
    (All-tail (λ (d : Compilation). d.size ≡ job.first.size) job.first (behind_it job.behind) job.lists.sizes)
    (subst (λ (t : ℕ). t < tile_count job.first.size) listed.2 (job.lists.tiles.in_range listed.0 _ listed.1))
    (search rules)

pub returns : goal.returns
returns g c =
    let job = c.args.self.now in
    let tile = c.args.tile.tile in
    let behind = c.run_behind-prefetched in (
      refl,
      c.requires.0,
      tile_ran job.first (behind_it job.behind) tile.number tile.block c.run_words-counts.new.block behind.new.block c.run_words-counts.result c.run_words-counts.ensures c.requires.1 job.few_issues behind.ensures.rect behind.ensures.pixels,
    )
