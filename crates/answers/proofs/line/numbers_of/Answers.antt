use Rattle.std.proofs.Common.{rules, ◌≡◌, length}
use Rattle.answers.proofs.Spelled.{pixel_row}
use Rattle.answers.proofs.line.numbers_of.Goals as goal

pub returns : goal.returns
returns c =
    let value = c.args.value in
    let channels : length value.rgba ≡ 4 = search rules in
    pixel_row c.args.x c.args.y value.rgba value.ds.depth value.ds.stencil _ _ _ _ _ _ _ _ channels c.from.ensures c.from-2.ensures c.from-3.ensures c.from-4.ensures c.from-5.ensures c.from-6.ensures c.from-7.ensures c.from-8.ensures
