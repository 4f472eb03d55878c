use Rattle.std.proofs.Common.{rules, ◌≡◌}
use Rattle.sessions.specs.Writing.{Output}
use Rattle.inmemory.specs.Areas.{measured, output_of, status_of, known}
use Rattle.inmemory.proofs.areas.sizes.Goals as goal

pub returns-in-Some : goal.returns-in-Some
returns-in-Some g c =
    let p = c.in-Some.played in
    let o : Output = output_of p.lines.items p.image.items p.ended in
    let reported : c.measured.result ≡ measured o (status_of o.ended) = search rules in
    known o c.in-Some.ensures reported
