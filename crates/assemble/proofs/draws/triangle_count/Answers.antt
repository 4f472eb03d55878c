use Rattle.std.proofs.Common.{◌∙◌}
use Rattle.assemble.proofs.CountLaws.{count_of_list, count_of_plain_strip}
use Rattle.assemble.proofs.draws.triangle_count.Goals as goal

pub returns-in-TriangleList-default : goal.returns-in-TriangleList-default
returns-in-TriangleList-default c =
    let d = c.args.draw.now in
    c.uncut_triangles.ensures ∙ count_of_list d.indices d c.requires c.in-TriangleList-default.is-0

pub returns-in-TriangleStrip-None : goal.returns-in-TriangleStrip-None
returns-in-TriangleStrip-None c =
    let d = c.args.draw.now in
    c.uncut_triangles-in-TriangleStrip-None.ensures ∙ count_of_plain_strip d.indices d c.requires c.in-TriangleStrip-None.is-1 c.in-TriangleStrip-None.is-0
