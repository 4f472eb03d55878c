use Rattle.std.proofs.Common.{◌≡◌, ◌∙◌, ap, ◌%◌, ◌<◌, ℕ, List, length, get_or, rules}
use Rattle.tileblock.specs.Block.{pixel_at, span_of, value_at}
use Rattle.tileprog.specs.Painting.{flipped}
use Rattle.tileprog.proofs.Painted.{flips_later, paints_all}
use Rattle.tileprog.proofs.paint.paint_tile.Goals as goal

pub returns-then-write-clause-pixels : goal.returns-then-write-clause-pixels
returns-then-write-clause-pixels c = λ u v is.
    let b = c.args.block.now in
    let rgba = c.args.rgba in
    let ls : length rgba ≡ 4 = search rules in
    let hs : (k : ℕ) → get_or rgba k 0 < 256 = search rules in
    ap (λ (x : List ℕ). record { rgba = x; ds = (pixel_at b u v).ds })
    (flips_later c.args.blend.now c.of_state-write.result rgba _ c.of_state-write.ensures c.from_le_bytes.ensures ls hs (value_at b.colors (span_of u v) (u % 8)) c.args.flip.now (search rules) c.if-write.true)

pub returns-then-write-eq0-clause-pixels : goal.returns-then-write-eq0-clause-pixels
returns-then-write-eq0-clause-pixels c = λ u v is.
    let b = c.args.block.now in
    let rgba = c.args.rgba in
    let ls : length rgba ≡ 4 = search rules in
    let hs : (k : ℕ) → get_or rgba k 0 < 256 = search rules in
    ap (flipped 0) (c.write_tile.ensures.pixels u v is)
    ∙ ap (λ (x : List ℕ). record { rgba = x; ds = (pixel_at b u v).ds })
    (paints_all c.args.blend.now c.of_state-write.result rgba _ c.of_state-write.ensures c.from_le_bytes.ensures ls hs (value_at b.colors (span_of u v) (u % 8)) c.args.flip.now (search rules) c.if-write-eq0.true)

pub returns-clause-pixels : goal.returns-clause-pixels
returns-clause-pixels c = λ u v is.
    let b = c.args.block.now in
    ap (flipped c.args.flip.now) (c.write_tile-2.ensures.pixels u v is)
    ∙ ap (λ (x : List ℕ). record { rgba = x; ds = (pixel_at b u v).ds }) (c.write_under.ensures.gives (value_at b.colors (span_of u v) (u % 8)))
