use Rattle.std.proofs.Common.{◌≡◌, ◌∙◌, ◌++◌, ◌∷◌, [], sym, ap, subst, length, length-append, arith}
use Rattle.segmentrun.proofs.Placing.{AreNumbered, one_numbered}
use Rattle.segmentrun.proofs.crewing.place_all.Goals as goal

pub loop-number-preserved : goal.loop-number-preserved
loop-number-preserved g c =
    let i = c.loop-number.invariant in
    let placed = c.loop-number.seat.view.placed in
    let w = c.new.result in
    let now : c.place.new.seat.view.placed ≡ placed ++ w ∷ [] = ap (λ v. v.placed) c.place.ensures.placed in
    record {
      own = c.place.ensures.own;
      ready = (
        ap length now ∙ (length-append placed (w ∷ []) ∙ (let e = i.ready.0 in omega arith)),
        ap (λ v. v.hand) c.place.ensures.placed ∙ i.ready.1,
        ap (λ v. v.weight) c.place.ensures.placed ∙ i.ready.2,
      );
      placed = subst AreNumbered (sym now) (one_numbered placed w i.placed (c.new.ensures ∙ sym i.ready.0));
    }
