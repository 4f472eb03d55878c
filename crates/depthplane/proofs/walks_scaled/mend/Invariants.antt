use Rattle.std.proofs.Common.{◌≡◌, ℕ, ◌<◌, ◌+◌, length, slice_index}
use Rattle.gfxspec.specs.Raster.{centre}
use Rattle.depthplane.specs.Height.{height, size_of}
use Rattle.depthplane.specs.Mended.{mended_by}
use Rattle.depthplane.proofs.walks_scaled.mend.Given as goal

abbrev pub invariant-loop-j : goal.invariant-loop-j
invariant-loop-j l = record {
  long : length l.exact ≡ 8;
  stored : (k : ℕ) → k < l.j → slice_index l.exact k ≡ mended_by (height l.plane (centre (l.x + k) l.y)) (size_of l.plane) (slice_index l.depths k);
}
