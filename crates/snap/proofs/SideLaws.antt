-- The numbers that are computed for an edge are its side.
use Rattle.std.proofs.Common.{◌≡◌, ◌∙◌, sym, ap, arith, ℕ, ◌+◌, ◌*◌}
use Rattle.std.specs.Prelude.{ℤ, pos, ◌+ℤ◌, ◌-ℤ◌, ◌*ℤ◌, neg_ℤ, int_lt}
use Rattle.std.proofs.lemmas.Int.{ints}
use Rattle.gfxspec.proofs.Integers.{spread, mul_assoc, turned_side}
use Rattle.gfxspec.specs.Raster.{Point}
use Rattle.snap.specs.Sides.{IsSideOf, IsSmallSide}
use Rattle.snap.specs.Wide.{turned}

spread_out : (dx dy sx sy : ℤ) (x y : ℕ) → dx *ℤ (pos (256 * y + 128) -ℤ sy) -ℤ dy *ℤ (pos (256 * x + 128) -ℤ sx) ≡ (dx *ℤ (pos 128 -ℤ sy) -ℤ dy *ℤ (pos 128 -ℤ sx)) +ℤ pos x *ℤ (pos 256 *ℤ neg_ℤ dy) +ℤ pos y *ℤ (pos 256 *ℤ dx)
spread_out dx dy sx sy x y = rw (← mul_assoc (pos x) (pos 256) (neg_ℤ dy), ← mul_assoc (pos y) (pos 256) dx) (simp spread (omega (arith, ints)))

pub side_is : (start end : Point) (area across down dx dy ex ey origin step_x step_y : ℤ)
    → across ≡ end.x -ℤ start.x → down ≡ end.y -ℤ start.y
    → dx ≡ turned area across → dy ≡ turned area down
    → ex ≡ pos 128 -ℤ start.x → ey ≡ pos 128 -ℤ start.y
    → origin ≡ dx *ℤ ey -ℤ dy *ℤ ex → step_x ≡ pos 256 *ℤ neg_ℤ dy → step_y ≡ pos 256 *ℤ dx
    → IsSmallSide (record { origin = origin; step_x = step_x; step_y = step_y })
    → IsSideOf (record { origin = origin; step_x = step_x; step_y = step_y }) area start end
side_is start end area across down dx dy ex ey origin step_x step_y a1 a2 a3 a4 a5 a6 a7 a8 a9 small =
    record {
      value = λ x y. rw (a7, a8, a9, a5, a6, ← spread_out dx dy start.x start.y x y, a3, a4, a1, a2)
          (sym (turned_side (int_lt area (pos 0)) (end.x -ℤ start.x) (end.y -ℤ start.y) (pos (256 * y + 128) -ℤ start.y) (pos (256 * x + 128) -ℤ start.x)));
      step_x = a8 ∙ ap (λ v. pos 256 *ℤ neg_ℤ v) (a4 ∙ ap (turned area) a2);
      step_y = a9 ∙ ap (λ v. pos 256 *ℤ v) (a3 ∙ ap (turned area) a1);
      small = small;
    }
