use Rattle.std.proofs.Common.{◌≡◌, ◌∙◌, ℕ, ap, length, get_or, ◌<◌, rules}
use Rattle.std.specs.Int.{to_le_bytes, w32}
use Rattle.logicop.proofs.Steps.{written_bytes}
use Rattle.logicop.proofs.apply.Goals as goal

pub returns : goal.returns
returns c =
    let ls : length c.args.s ≡ 4 = search rules in
    let ld : length c.args.d ≡ 4 = search rules in
    let hs : (k : ℕ) → get_or c.args.s k 0 < 256 = search rules in
    let hd : (k : ℕ) → get_or c.args.d k 0 < 256 = search rules in
    c.to_le_bytes.ensures ∙ ap (to_le_bytes w32) c.onto.ensures
    ∙ written_bytes _ c.of.result c.args.s c.args.d _ _ c.of.ensures c.from_le_bytes.ensures c.from_le_bytes-2.ensures c.from_le_bytes-2.type_inv ls ld hs hd
