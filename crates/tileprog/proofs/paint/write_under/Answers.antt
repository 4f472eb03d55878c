use Rattle.std.proofs.Common.{◌≡◌, ◌<◌, ℕ, length, get_or, rules}
use Rattle.tileprog.proofs.Painted.{paints_under}
use Rattle.tileprog.proofs.paint.write_under.Goals as goal

pub returns : goal.returns
returns c =
    let rgba = c.args.rgba in
    let write = c.of_state-write.result in
    let ls : length rgba ≡ 4 = search rules in
    let hs : (k : ℕ) → get_or rgba k 0 < 256 = search rules in
    paints_under c.args.blend.now write rgba _ c.of_state-write.ensures c.from_le_bytes.ensures ls hs c.args.flip (search rules) (search rules)
