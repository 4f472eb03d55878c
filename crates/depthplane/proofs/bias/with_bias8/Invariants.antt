use Rattle.std.proofs.Common.{◌≡◌, ℕ, ◌<◌, length, slice_index}
use Rattle.gfxspec.specs.Depth.{biased}
use Rattle.depthplane.proofs.bias.with_bias8.Given as goal

abbrev pub invariant-loop-j : goal.invariant-loop-j
invariant-loop-j l = record {
  long : length l.all ≡ 8;
  stored : (k : ℕ) → k < l.j → slice_index l.all k ≡ biased l.bias (slice_index l.depths k);
}
