use Rattle.std.proofs.Common.{arith, ◌≡◌, ◌∙◌, ap, ◌+◌, slice_index}
use Rattle.depthplane.specs.Places.{Places}
use Rattle.depthplane.proofs.ScaledLaws.{lanes_down}
use Rattle.depthplane.proofs.quads.DepthQuads.down.Goals as goal

pub invariant_of-self : goal.invariant_of-self
invariant_of-self c =
    let w = c.self.inside in
    let i = c.self.invariant in
    let place : w.y ≡ c.args.self.now.y = ap (λ (p : Places). p.y) c.self.view_is in
    let old = c.requires in
    record {
      scaled = i.scaled;
      heights = i.heights;
      four = c.stepped-self-inside.ensures.four;
      lanes = λ j h. lanes_down i.scaled (w.x + j) w.y w.values.down (slice_index w.values.lanes j) (slice_index c.stepped-self-inside.result.lanes j) i.down (i.lanes j h) (c.stepped-self-inside.ensures.more j h);
      across = c.stepped-self-inside.ensures.across ∙ i.across;
      down = c.stepped-self-inside.ensures.down ∙ i.down;
      sure = i.sure;
      still = i.still;
      column = i.column;
      row = omega (arith, place, old);
    }
