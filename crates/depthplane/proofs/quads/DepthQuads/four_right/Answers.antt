use Rattle.std.proofs.Common.{arith, ◌≡◌, ◌∙◌, ap, slice_index}
use Rattle.depthplane.specs.Places.{Places}
use Rattle.depthplane.proofs.ScaledLaws.{four_right}
use Rattle.depthplane.proofs.quads.DepthQuads.four_right.Goals as goal

pub invariant_of-self : goal.invariant_of-self
invariant_of-self c =
    let w = c.self.inside in
    let i = c.self.invariant in
    let place : w.x ≡ c.args.self.now.x = ap (λ (p : Places). p.x) c.self.view_is in
    let old = c.requires in
    record {
      scaled = i.scaled;
      heights = i.heights;
      four = c.stepped-self-inside.ensures.four;
      lanes = λ j h. four_right i.scaled w.x w.y j w.values.across (slice_index w.values.lanes j) (slice_index c.stepped-self-inside.result.lanes j) i.across (i.lanes j h) (c.stepped-self-inside.ensures.more j h);
      across = c.stepped-self-inside.ensures.across ∙ i.across;
      down = c.stepped-self-inside.ensures.down ∙ i.down;
      sure = i.sure;
      still = i.still;
      column = omega (arith, place, old);
      row = i.row;
    }
