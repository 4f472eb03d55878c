use Rattle.std.proofs.Common.{◌≡◌, arith, refl, subst, IsTrue, Bool, true, false}
use Rattle.std.specs.Prelude.{not}
use Rattle.depthplane.specs.Height.{DeepTriangle}
use Rattle.depthplane.specs.ScaledInside.{IsScaledHeight}
use Rattle.depthplane.proofs.CoveredLaws.{of_plane}
use Rattle.depthplane.proofs.ScaledLaws.{four_lanes}
use Rattle.depthplane.proofs.plane.Plane.quads.Goals as goal

not_false : (b : Bool) → not b ≡ false → IsTrue b
not_false true e = refl
not_false false e = absurd cc

pub invariant_of-result : goal.invariant_of-result
invariant_of-result c =
    let p = c.self.inside in
    let P : DeepTriangle → Type 0 = λ d. IsScaledHeight d p.scaled in
    record {
      scaled = p.scaled;
      heights = subst P c.self.view_is (of_plane p c.self.invariant);
      four = refl;
      lanes = four_lanes p.scaled c.args.x c.args.y c.at-first.result _ _ _ c.at-first.ensures refl refl refl;
      across = refl;
      down = refl;
      sure = not_false p.scaled.sure c.if-not-scaled.false;
      still = c.is_biased.ensures.0 c.if-is_biased.false;
      column = omega (arith, c.requires.x);
      row = omega (arith, c.requires.y);
    }
