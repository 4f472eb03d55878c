use Rattle.std.proofs.Common.{arith}
use Rattle.tileprog.proofs.Hiding.{vertices_lie}
use Rattle.tileprog.proofs.triangles.cut_range.Goals as goal

pub returns-in_default : goal.returns-in_default
returns-in_default c = vertices_lie c.args.triangle.now c.args.rect

pub returns : goal.returns
returns c = λ u v is covered.
    let t = c.args.triangle.now in
    let corners = vertices_lie t c.args.rect u v is covered in
    let about = c.in-Some.ensures u v is covered in
    let low = corners.0 in
    let high = corners.1 in
    let near = about.0 in
    let far = about.1 in
    let least = c.max.ensures in
    let greatest = c.min.ensures in
    (omega (arith, low, near, least), omega (arith, high, far, greatest))
