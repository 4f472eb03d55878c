-- Depths that are all the same lie between it and itself.
use Rattle.std.proofs.Common.{◌≡◌, ◌∙◌, ap, refl, arith, ℕ, ◌≤◌, ◌%◌, List, Some, replicate}
use Rattle.std.proofs.lemmas.Option.{same_Some}
use Rattle.gfxspec.specs.declared.geometry.PixelRect.{PixelRect}
use Rattle.gfxspec.specs.Tiles.{IsIn}
use Rattle.tileblock.specs.declared.pixels.DepthBounds.{DepthBounds}
use Rattle.tileblock.specs.Block.{span_of, value_at}
use Rattle.tileblock.proofs.Spans.{filled_at, span_below, lane_below}

pub filled_between : (r : PixelRect) (depths : List (List ℕ)) (n : ℕ) → depths ≡ replicate 128 (replicate 8 n) → (d : DepthBounds) → Some (record { least = n; greatest = n }) ≡ Some d →
    (x y : ℕ) → IsIn r x y → (d.least ≤ value_at depths (span_of x y) (x % 8)) × (value_at depths (span_of x y) (x % 8) ≤ d.greatest)
filled_between r depths n e d known = λ x y is.
    let same = same_Some (record { least = n; greatest = n }) d known in
    let depth : value_at depths (span_of x y) (x % 8) ≡ n = ap (λ spans. value_at spans (span_of x y) (x % 8)) e ∙ filled_at 128 8 n (span_of x y) (x % 8) refl refl (span_below x y) (lane_below x) in
    let least : n ≡ d.least = ap (λ (r : DepthBounds). r.least) same in
    let greatest : n ≡ d.greatest = ap (λ (r : DepthBounds). r.greatest) same in
    (omega (arith, depth, least), omega (arith, depth, greatest))
