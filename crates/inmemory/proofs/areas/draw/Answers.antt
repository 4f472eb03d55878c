use Rattle.std.proofs.Common.{rules, ◌≡◌, ◌≤◌, ◌<◌, length, refl}
use Rattle.sessions.specs.Writing.{Output}
use Rattle.inmemory.specs.Areas.{filled, measured, output_of, status_of, whole, few_lines, small_image}
use Rattle.inmemory.proofs.areas.draw.Goals as goal

pub returns-then-lines-len : goal.returns-then-lines-len
returns-then-lines-len g c =
    let p = c.in-Some.played in
    let o : Output = output_of p.lines.items p.image.items p.ended in
    let few : length c.args.lines.now < length o.lines = search rules in
    few_lines o c.in-Some.ensures few c.measured.ensures refl refl

pub returns-then-image-len : goal.returns-then-image-len
returns-then-image-len g c =
    let p = c.in-Some.played in
    let o : Output = output_of p.lines.items p.image.items p.ended in
    let lines : length o.lines ≤ length c.args.lines.now = search rules in
    let small : length c.args.image.now < length o.image = search rules in
    small_image o c.in-Some.ensures lines small c.measured-then-image-len.ensures refl refl

pub returns : goal.returns
returns g c =
    let p = c.in-Some.played in
    let o : Output = output_of p.lines.items p.image.items p.ended in
    let lines : length o.lines ≤ length c.args.lines.now = search rules in
    let image : length o.image ≤ length c.args.image.now = search rules in
    let reported : c.measured-2.result ≡ measured o (status_of o.ended) = search rules in
    let lines_after : c.fill.new.area ≡ filled c.args.lines.now o.lines = search rules in
    let image_after : c.fill-2.new.area ≡ filled c.args.image.now o.image = search rules in
    whole o c.in-Some.ensures lines image reported lines_after image_after
