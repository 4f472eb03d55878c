use Rattle.std.proofs.Common.{◌∙◌, ap, sym, rules, ◌<◌, ◌^◌, ◌/◌, ◌%◌, ℕ}
use Rattle.std.specs.Prelude.{slice_index, bit_and, bit_xor}
use Rattle.std.specs.Int.{to_le_bytes, w32}
use Rattle.std.proofs.lemmas.Nat.{from_le_bytes-to_le_bytes_4}
use Rattle.tileblock.specs.SpanStored.{lane_pixel}
use Rattle.tileprog.specs.Painting.{written, painted_with}
use Rattle.tileprog.proofs.Places.{none_changed, more_changed, all_changed}
use Rattle.tileprog.proofs.paint.write_tile.Goals as goal

pub loop-at-init : goal.loop-at-init
loop-at-init c = record { so_far = none_changed (written c.args.write) c.args.block.now }

pub loop-at-preserved : goal.loop-at-preserved
loop-at-preserved c =
    let w = c.args.write in
    let mid = c.loop-at.block in
    let at = c.loop-at.at in
    let stored = c.color_span-stored.result in
    let small : (j : ℕ) → slice_index stored j < 2 ^ 32 = search rules in
    record {
      so_far = more_changed (written w) c.args.block.now mid _ at _ c.requires c.loop-at.invariant.so_far c.set_color_span.ensures
          (λ j h.
          let q = slice_index stored j in
          let color =
          ap (to_le_bytes w32) (c.write8.ensures j h ∙ ap (λ n. bit_xor (bit_and n w.keep) w.flip) (sym (from_le_bytes-to_le_bytes_4 q (small j))))
          ∙ ap (painted_with w) (c.color_span-stored.ensures j h) in
          λ i. record { rgba = color i; ds = (lane_pixel mid (at % 4) (at / 4) j).ds });
    }

pub returns : goal.returns
returns c = all_changed (written c.args.write) c.args.block.now c.loop-at.block c.loop-at.at c.requires (search rules) c.loop-at.invariant.so_far
