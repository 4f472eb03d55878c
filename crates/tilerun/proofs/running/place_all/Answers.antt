use Rattle.std.proofs.Common.{◌≡◌, ◌∙◌, ◌+◌, ◌++◌, ◌∷◌, [], suc, ℕ, List, ap, sym, subst, length, get_or, take, arith, Some}
use Rattle.std.proofs.lemmas.List.{length-take-le}
use mathlib.Core.Option.{some}
use Rattle.tileblock.specs.Block.{Block}
use Rattle.tileblock.specs.Surface.{Surface, without, block_of}
use Rattle.tileblock.proofs.Slots.{has_block_within, IsSome-from}
use Rattle.tilerun.specs.Moving.{AreOut}
use Rattle.tilerun.proofs.Lists.{listed_at, not_before, take_next}
use Rattle.tilerun.proofs.Moves.{one_out}
use Rattle.tilerun.proofs.running.place_all.Goals as goal
use Rattle.std.proofs.lemmas.Grind.{common_steps}

pub open-requires-clause-place : goal.open-requires-clause-place
open-requires-clause-place g c =
    listed_at c.touched-tile-items.result.now (g.J.BlockJob.touched c.args.job.now) c.loop-place.place c.touched-tile-items.ensures.list c.loop-place-test.true ∙ ap some (sym c.take-number.ensures.number)

pub loop-place-preserved : goal.loop-place-preserved
loop-place-preserved g c =
    let i = c.loop-place.invariant in let ts = g.J.BlockJob.touched c.args.job.now in let n = c.loop-place.place in let t = get_or c.touched-tile-items.result.now n 0 in
    let o = c.open.result in let number = g.J.TileJob.tile_number in let block = g.J.BlockJob.open_block in
    let listed = listed_at c.touched-tile-items.result.now ts n c.touched-tile-items.ensures.list c.loop-place-test.true in
    let long : length (take n ts) ≡ n = length-take-le n ts (let a = c.loop-place-test.true in let b : length c.touched-tile-items.result.now ≡ length ts = ap length c.touched-tile-items.ensures.list in omega arith) in
    let more : take n ts ++ t ∷ [] ≡ take (n + 1) ts = let e : suc n ≡ n + 1 = omega arith in sym (take_next ts n t listed) ∙ ap (λ (k : ℕ). take k ts) e in
    let same : block o ≡ c.take-number.result.block = c.open.ensures.block ∙ c.requires.shown c.take-number.result.block in
    let was : block_of c.loop-place.target t ≡ Some (block o) = c.take-number.ensures.block ∙ ap Some (sym same) in
    let out : AreOut number block (take n ts ++ t ∷ []) c.args.target.now (without c.loop-place.target t) (c.loop-place.seat.view.placed ++ o ∷ []) =
    one_out number block c.args.target.now (take n ts) t c.loop-place.target c.loop-place.seat.view.placed o i.out (not_before ts n t c.touched-tile-items.ensures.tiles.once listed)
    (has_block_within c.loop-place.target t (IsSome-from _ (block o) was)) (c.open.ensures.place ∙ sym long) was (ap (λ (b : Block). b.rect) same ∙ c.take-number.ensures.rect) in
    record {
      own = c.place.ensures.own;
      ready = (ap (λ v. v.weight) c.place.ensures.placed ∙ i.ready.0, ap (λ v. v.hand) c.place.ensures.placed ∙ i.ready.1);
      out = subst (λ (s : Surface). AreOut number block (take (n + 1) ts) c.args.target.now s c.place.new.seat.view.placed) (sym c.take-number.ensures.after)
          (subst (λ (os : List g.row.J-Open.Denot). AreOut number block (take (n + 1) ts) c.args.target.now (without c.loop-place.target t) os) (sym (ap (λ v. v.placed) c.place.ensures.placed))
          (subst (λ (xs : List ℕ). AreOut number block xs c.args.target.now (without c.loop-place.target t) (c.loop-place.seat.view.placed ++ o ∷ [])) more out));
    }

pub loop-place-init : goal.loop-place-init
loop-place-init g c = grind (arith, common_steps)

pub returns-clause-out : goal.returns-clause-out
returns-clause-out g c = grind (arith, common_steps)
