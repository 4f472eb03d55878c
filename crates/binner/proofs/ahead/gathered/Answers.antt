use Rattle.std.proofs.Common.{rules, sym, subst, ap, ◌∙◌, ◌≡◌, ◌++◌, map}
use Rattle.assemble.specs.Drawing.{triangles_of}
use Rattle.binner.proofs.Readying.{AreReady, draw_ready}
use Rattle.binner.proofs.Slices.{primitive_at}
use Rattle.binner.proofs.ahead.gathered.Goals as goal

pub loop-tri-init : goal.loop-tri-init
loop-tri-init g c =
    let same : c.into_iter-tri-iterator.result ≡ triangles_of c.args.draw.now = search rules in
    record {
      can_next = tt;
      is_finite = tt;
      ready = subst AreReady (sym same) (draw_ready c.args.draw.now c.requires.vertices);
      whole = ap (λ l. map primitive_at l ++ c.into_iter-tri-iterator.result) c.in_ok-tris.ensures.items ∙ same;
    }
