use Rattle.std.proofs.Common.{rules, ◌≡◌, arith}
use Rattle.assemble.specs.Drawing.{triangles_of}
use Rattle.assemble.proofs.CountLaws.{few}
use Rattle.assemble.proofs.draws.triangles.Goals as goal

pub returns-in-None-clause-fits : goal.returns-in-None-clause-fits
returns-in-None-clause-fits c =
    let e : c.of_vertices.result ≡ triangles_of c.args.draw.now = search rules in
    let n = few c.args.draw.now c.requires in
    rw e (omega arith)

pub returns-in-Some-clause-fits : goal.returns-in-Some-clause-fits
returns-in-Some-clause-fits c =
    let e : c.of_indices.result ≡ triangles_of c.args.draw.now = search rules in
    let n = few c.args.draw.now c.requires in
    rw e (omega arith)
