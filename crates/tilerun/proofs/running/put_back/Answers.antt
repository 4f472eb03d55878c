use Rattle.std.proofs.Common.{◌≡◌, ◌∙◌, ◌+◌, ℕ, List, ap, sym, refl, subst, length, get_or, arith, le_refl}
use mathlib.Core.Option.{some}
use lib.ListN.{get_elem?}
use Rattle.gfxspec.specs.declared.geometry.Size.{Size}
use Rattle.gfxspec.specs.Tiles.{tile_count, tile_rect}
use Rattle.tileblock.specs.Block.{Block}
use Rattle.tileblock.specs.Surface.{Surface, with_block}
use Rattle.tilerun.proofs.Lists.{listed_at, contains_at}
use Rattle.tilerun.proofs.Moves.{SoFar, none_back, one_back, all_back}
use Rattle.tilerun.proofs.running.put_back.Goals as goal

pub loop-tile-init : goal.loop-tile-init
loop-tile-init g c = record {
  at = c.requires.fresh.0;
  same = (refl, refl);
  back = none_back g.J.BlockJob.done_block (g.J.BlockJob.touched c.args.job.now) c.args.target.now c.args.finished.now.results c.requires.out;
}

pub put-requires-clause-out : goal.put-requires-clause-out
put-requires-clause-out g c =
    let i = c.loop-tile.invariant in let ts = g.J.BlockJob.touched c.args.job.now in let n = c.loop-tile.tile-index in let t = get_or c.touched-tile-items.result.now n 0 in
    let listed = listed_at c.touched-tile-items.result.now ts n c.touched-tile-items.ensures.list c.loop-tile-test.true in
    let out = c.requires.out t (contains_at ts n t listed) in (
      (let a : tile_count c.loop-tile.target.size ≡ tile_count c.args.target.now.size = ap tile_count i.back.size in let b = out.0.0 in omega arith),
      i.back.waits n t (le_refl n) listed,
    )

-- what came next is the result at the loop's place
result_at : {D : Type 0} (results left : List D) (n next : ℕ) (d : D) → left ≡ results → next ≡ n → get_elem? left next ≡ some d → get_elem? results n ≡ some d
result_at results left n next d same at e = ap (λ xs. get_elem? xs n) (sym same) ∙ (ap (get_elem? left) (sym at) ∙ e)

pub put-requires-clause-rect : goal.put-requires-clause-rect
put-requires-clause-rect g c =
    let i = c.loop-tile.invariant in let ts = g.J.BlockJob.touched c.args.job.now in let n = c.loop-tile.tile-index in let t = get_or c.touched-tile-items.result.now n 0 in
    let listed = listed_at c.touched-tile-items.result.now ts n c.touched-tile-items.ensures.list c.loop-tile-test.true in
    let at_result = result_at c.args.finished.now.results c.loop-tile.finished.results n c.loop-tile.finished.next c.in-Some.done i.same.0 i.at c.in-Some.ensures.0 in
    ap (λ (b : Block). b.rect) (sym (c.requires.shown c.into_block.result) ∙ c.into_block.ensures) ∙ (c.requires.rects n c.in-Some.done t at_result listed ∙ ap (λ (z : Size). tile_rect z t) (sym i.back.size))

pub loop-tile-preserved : goal.loop-tile-preserved
loop-tile-preserved g c =
    let i = c.loop-tile.invariant in let ts = g.J.BlockJob.touched c.args.job.now in let n = c.loop-tile.tile-index in let t = get_or c.touched-tile-items.result.now n 0 in
    let listed = listed_at c.touched-tile-items.result.now ts n c.touched-tile-items.ensures.list c.loop-tile-test.true in
    let at_result = result_at c.args.finished.now.results c.loop-tile.finished.results n c.loop-tile.finished.next c.in-Some.done i.same.0 i.at c.in-Some.ensures.0 in
    let out = c.requires.out t (contains_at ts n t listed) in
    record {
      at = ap (λ k. k.next) c.in-Some.ensures.1 ∙ ap (λ (k : ℕ). k + 1) i.at;
      same = (ap (λ k. k.results) c.in-Some.ensures.1 ∙ i.same.0, ap (λ k. k.counts) c.in-Some.ensures.1 ∙ i.same.1);
      back = subst (λ (s : Surface). SoFar g.J.BlockJob.done_block ts c.args.target.now c.args.finished.now.results (n + 1) s) (sym (c.put.ensures ∙ ap (with_block c.loop-tile.target t) (sym (c.requires.shown c.into_block.result) ∙ c.into_block.ensures)))
          (one_back g.J.BlockJob.done_block ts c.args.target.now c.args.finished.now.results c.touched-tile-items.ensures.tiles.once n c.loop-tile.target c.in-Some.done t i.back out.1 at_result listed);
    }

pub returns-clause-back : goal.returns-clause-back
returns-clause-back g c = let a = c.loop-tile-test.false in
    all_back g.J.BlockJob.done_block (g.J.BlockJob.touched c.args.job.now) c.args.target.now c.args.finished.now.results c.loop-tile.tile-index c.loop-tile.target c.loop-tile.invariant.back
    (let b : length c.touched-tile-items.result.now ≡ length (g.J.BlockJob.touched c.args.job.now) = ap length c.touched-tile-items.ensures.list in omega arith)
