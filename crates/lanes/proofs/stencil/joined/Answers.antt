use Rattle.std.proofs.Common.{rules, ◌≡◌, ◌∙◌, ◌+◌, ◌++◌, length}
use Rattle.std.proofs.lemmas.List.{length-append}
use Rattle.std.proofs.lemmas.Simd.{pick_l_whole}
use Rattle.lanes.proofs.stencil.joined.Goals as goal

pub returns : goal.returns
returns c =
    let front = c.args.front.now in
    let back = c.args.back.now in
    let lf : length front ≡ 8 = search rules in
    let lb : length back ≡ 8 = search rules in
    pick_l_whole 0 (front ++ back) 16 (length-append front back ∙ (λ i. lf i + lb i))
