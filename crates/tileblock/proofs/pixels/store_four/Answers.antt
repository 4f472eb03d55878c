use Rattle.std.proofs.Common.{◌≡◌, ◌∙◌, sym, rules, length}
use Rattle.std.proofs.lemmas.Simd.{put_chunk_whole}
use Rattle.tileblock.proofs.pixels.store_four.Goals as goal

pub returns : goal.returns
returns c =
    let long : length c.args.values ≡ 4 = search rules in
    put_chunk_whole c.args.part.now c.args.values (c.requires ∙ sym long)
