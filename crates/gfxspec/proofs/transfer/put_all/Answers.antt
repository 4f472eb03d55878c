use Rattle.std.proofs.Common.{◌≡◌, ◌++◌, ◌+◌, ◌-◌, ℕ, List, length, take, drop, sym, ap, ◌∙◌, append_assoc, arith}
use Rattle.std.proofs.lemmas.List.{take_all, length-drop}
use Rattle.std.proofs.Math.Seq.{take-add}
use Rattle.gfxspec.proofs.transfer.put_all.Goals as goal

whole_rest : (n : ℕ) (bs : List ℕ) → take (length bs - n) (drop n bs) ≡ drop n bs
whole_rest n bs = take_all _ _ (omega (arith, length-drop n bs))

-- what was taken of a piece, behind what was taken before
more : (start old new bs : List ℕ) (taken n : ℕ) → old ≡ start ++ take taken bs → new ≡ old ++ take n (take (length bs - taken) (drop taken bs)) → new ≡ start ++ take (taken + n) bs
more start old new bs taken n e f =
    f ∙ ap (λ x. old ++ take n x) (whole_rest taken bs) ∙ ap (λ x. x ++ take n (drop taken bs)) e
    ∙ append_assoc start (take taken bs) (take n (drop taken bs)) ∙ ap (λ x. start ++ x) (sym (take-add taken n bs))

pub loop-taken-preserved : goal.loop-taken-preserved
loop-taken-preserved g c =
    record {
      sound = c.in-Ok.ensures.sound ∙ c.loop-taken.invariant.sound;
      told = λ t. c.in-Ok.ensures.told (c.loop-taken.invariant.told t);
      bytes = λ t. more _ _ _ c.args.bytes.now c.loop-taken.taken c.in-Ok.count (c.loop-taken.invariant.bytes t) (c.in-Ok.ensures.bytes (c.loop-taken.invariant.told t));
      count = omega (arith, c.in-Ok.ensures.count, ap length (whole_rest c.loop-taken.taken c.args.bytes.now), length-drop c.loop-taken.taken c.args.bytes.now, c.loop-taken.invariant.count);
    }
