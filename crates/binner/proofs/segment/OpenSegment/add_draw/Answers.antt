use Rattle.std.proofs.Common.{List}
use Rattle.gfxspec.specs.Commands.{Command}
use Rattle.std.proofs.lemmas.Result.{IfOk-weaker}
use Rattle.binner.specs.Segments.{IsMore, draw_of}
use Rattle.binner.proofs.Cutting.{more_behind_same}
use Rattle.binner.proofs.segment.OpenSegment.add_draw.Goals as goal

pub returns-then-draws_lists : goal.returns-then-draws_lists
returns-then-draws_lists g c =
    let d = c.args.draw in
    let k = draw_of d.base d.count d.start in
    let fs = c.args.segments.now.items in
    let gs = c.finish_where_full.new.segments.items in
    let hs = c.add_parts.new.segments.items in
    let roomy = c.in_ok-roomy.roomy in
    IfOk-weaker c.add_parts.result (λ (s : List Command). IsMore k gs roomy hs s) (λ (s : List Command). IsMore k fs c.args.self hs s)
    (λ s m. more_behind_same k fs c.args.self gs roomy hs s c.in_ok-roomy.ensures m)
    c.add_parts.ensures

pub returns : goal.returns
returns g c =
    let d = c.args.draw in
    let k = draw_of d.base d.count d.start in
    let fs = c.args.segments.now.items in
    let gs = c.finish_where_full.new.segments.items in
    let roomy = c.in_ok-roomy.roomy in
    IfOk-weaker c.push_draw.result (λ (s : List Command). IsMore k gs roomy gs s) (λ (s : List Command). IsMore k fs c.args.self gs s)
    (λ s m. more_behind_same k fs c.args.self gs roomy gs s c.in_ok-roomy.ensures m)
    (c.push_draw.ensures gs)
