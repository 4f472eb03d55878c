use Rattle.std.proofs.Common.{rules, ℕ, ◌<◌}
use Rattle.std.specs.Prelude.{slice_index}
use Rattle.tileprog.proofs.Places.{no_bytes, more_bytes, all_bytes}
use Rattle.tileprog.proofs.alike.read_bytes.Goals as goal

pub loop-at-init : goal.loop-at-init
loop-at-init c = record { so_far = no_bytes c.args.block.now }

pub loop-at-preserved : goal.loop-at-preserved
loop-at-preserved c =
    let small : (j : ℕ) → slice_index c.stencil_span-stored.result j < 256 = search rules in
    record { so_far = more_bytes c.args.block.now c.loop-at.at c.stencil_span-stored.result c.requires c.loop-at.invariant.so_far small c.stencil_span-stored.ensures }

pub returns : goal.returns
returns c = all_bytes c.args.block.now c.loop-at.at c.requires (search rules) c.loop-at.invariant.so_far
