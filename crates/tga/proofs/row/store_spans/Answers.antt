use Rattle.std.proofs.Common.{◌≡◌, ◌∙◌, ap, arith, ◌+◌, [], get_or}
use Rattle.tga.proofs.TileRows.{one_span_more}
use Rattle.tga.proofs.row.store_spans.Goals as goal

pub returns-clause-here : goal.returns-clause-here
returns-clause-here g c =
    let b = c.args.block.now in
    let at = c.args.at in
    let y = c.args.y in
    let start : at + 0 ≡ at = omega arith in
    let one = one_span_more c.args.row.now c.store_span.new.row at 0 y c.color_span-first.result b (λ j h. absurd (omega (arith, h))) c.color_span-first.ensures
    (λ j h. ap (λ k. get_or c.store_span.new.row (k + j) []) start ∙ c.store_span.ensures.here j h) (λ x h. c.store_span.ensures.before x (omega (arith, h))) in
    let two = one_span_more c.store_span.new.row c.store_span-2.new.row at 8 y c.color_span-second.result b one c.color_span-second.ensures c.store_span-2.ensures.here c.store_span-2.ensures.before in
    let three = one_span_more c.store_span-2.new.row c.store_span-3.new.row at 16 y c.color_span-third.result b two c.color_span-third.ensures c.store_span-3.ensures.here c.store_span-3.ensures.before in
    one_span_more c.store_span-3.new.row c.store_span-4.new.row at 24 y c.color_span-last.result b three c.color_span-last.ensures c.store_span-4.ensures.here c.store_span-4.ensures.before
