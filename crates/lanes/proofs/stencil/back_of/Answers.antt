use Rattle.std.proofs.Common.{rules, arith, ◌≡◌, ◌∙◌, ap, length, get_or}
use Rattle.std.proofs.lemmas.Simd.{pick_l_left, pick_l-range_with_len, get_or-chunk}
use Rattle.std.specs.List.{range_with_len}
use Rattle.lanes.proofs.stencil.back_of.Goals as goal

pub returns : goal.returns
returns c = λ j h.
    let vs = c.args.values.now in
    let long : length vs ≡ 16 = search rules in
    ap (λ xs. get_or xs j 0) (pick_l_left 0 vs vs 16 (range_with_len 8 8) long tt ∙ pick_l-range_with_len 0 vs 8 8 (omega (arith, long)))
    ∙ get_or-chunk 8 8 vs j 0 h
