-- What the depths of rows lie between.
use Rattle.std.proofs.Common.{◌≡◌, subst, arith, ℕ, ◌+◌, ◌*◌, ◌-◌, ◌/◌, ◌%◌, ◌<◌, ◌≤◌, zero, suc, slice_index, List}
use Rattle.std.specs.Prelude.{min, max}
use Rattle.gfxspec.specs.Tiles.{IsInTile}
use Rattle.tileblock.specs.declared.extremes.Extremes.{Extremes}
use Rattle.tileblock.specs.Block.{Block, pixel_at}
use Rattle.tileblock.specs.Bounds.{LieBetween}
use Rattle.tileblock.specs.Cells.{CellLies}
use Rattle.tileblock.specs.Widening.{HoldsRow, HoldsSpan, IsWider}
use Rattle.tileblock.specs.SpanStored.{lane_pixel}

-- a row that was looked at before
pub held_by_wider : (b : Block) (row : ℕ) (narrow wide : Extremes) → IsWider narrow wide → HoldsRow b row narrow → HoldsRow b row wide
held_by_wider b row narrow wide w h = record {
  least = λ span j s l. let a = h.least span j s l in let c = w.least j l in omega (arith, a, c);
  greatest = λ span j s l. let a = h.greatest span j s l in let c = w.greatest j l in omega (arith, a, c);
}

-- four spans are looked at, one after the other
module _ (b : Block) (row : ℕ) (before first second third last : Extremes) (d0 d1 d2 d3 : List ℕ)
    (e0 : (j : ℕ) → j < 8 → slice_index d0 j ≡ (lane_pixel b 0 row j).ds.depth)
    (e1 : (j : ℕ) → j < 8 → slice_index d1 j ≡ (lane_pixel b 1 row j).ds.depth)
    (e2 : (j : ℕ) → j < 8 → slice_index d2 j ≡ (lane_pixel b 2 row j).ds.depth)
    (e3 : (j : ℕ) → j < 8 → slice_index d3 j ≡ (lane_pixel b 3 row j).ds.depth)
    (l0 : (j : ℕ) → j < 8 → slice_index first.least j ≡ min (slice_index before.least j) (slice_index d0 j))
    (l1 : (j : ℕ) → j < 8 → slice_index second.least j ≡ min (slice_index first.least j) (slice_index d1 j))
    (l2 : (j : ℕ) → j < 8 → slice_index third.least j ≡ min (slice_index second.least j) (slice_index d2 j))
    (l3 : (j : ℕ) → j < 8 → slice_index last.least j ≡ min (slice_index third.least j) (slice_index d3 j))
    (g0 : (j : ℕ) → j < 8 → slice_index first.greatest j ≡ max (slice_index before.greatest j) (slice_index d0 j))
    (g1 : (j : ℕ) → j < 8 → slice_index second.greatest j ≡ max (slice_index first.greatest j) (slice_index d1 j))
    (g2 : (j : ℕ) → j < 8 → slice_index third.greatest j ≡ max (slice_index second.greatest j) (slice_index d2 j))
    (g3 : (j : ℕ) → j < 8 → slice_index last.greatest j ≡ max (slice_index third.greatest j) (slice_index d3 j)) where
  low : (span j : ℕ) → span < 4 → j < 8 → slice_index last.least j ≤ (lane_pixel b span row j).ds.depth
  low zero j s h = let a = l0 j h in let b = l1 j h in let c = l2 j h in let d = l3 j h in let e = e0 j h in omega (arith, a, b, c, d, e)
  low (suc zero) j s h = let b = l1 j h in let c = l2 j h in let d = l3 j h in let e = e1 j h in omega (arith, b, c, d, e)
  low (suc (suc zero)) j s h = let c = l2 j h in let d = l3 j h in let e = e2 j h in omega (arith, c, d, e)
  low (suc (suc (suc zero))) j s h = let d = l3 j h in let e = e3 j h in omega (arith, d, e)
  low (suc (suc (suc (suc n)))) j s h = absurd (omega arith)

  high : (span j : ℕ) → span < 4 → j < 8 → (lane_pixel b span row j).ds.depth ≤ slice_index last.greatest j
  high zero j s h = let a = g0 j h in let b = g1 j h in let c = g2 j h in let d = g3 j h in let e = e0 j h in omega (arith, a, b, c, d, e)
  high (suc zero) j s h = let b = g1 j h in let c = g2 j h in let d = g3 j h in let e = e1 j h in omega (arith, b, c, d, e)
  high (suc (suc zero)) j s h = let c = g2 j h in let d = g3 j h in let e = e2 j h in omega (arith, c, d, e)
  high (suc (suc (suc zero))) j s h = let d = g3 j h in let e = e3 j h in omega (arith, d, e)
  high (suc (suc (suc (suc n)))) j s h = absurd (omega arith)

  pub row_held : HoldsRow b row last
  row_held = record { least = low; greatest = high }

  pub row_wider : IsWider before last
  row_wider = record {
    least = λ j h. let a = l0 j h in let b = l1 j h in let c = l2 j h in let d = l3 j h in omega (arith, a, b, c, d);
    greatest = λ j h. let a = g0 j h in let b = g1 j h in let c = g2 j h in let d = g3 j h in omega (arith, a, b, c, d);
  }

-- a pixel of the rectangle lies in a span of a row
pub rows_between : (b : Block) (e : Extremes) (least greatest : ℕ) → IsInTile b.rect → ((row : ℕ) → row < 32 → HoldsRow b row e)
    → ((j : ℕ) → j < 8 → least ≤ slice_index e.least j) → ((j : ℕ) → j < 8 → slice_index e.greatest j ≤ greatest) → LieBetween b least greatest
rows_between b e least greatest tile rows low high x y is =
    let left = is.left in
    let right = is.right in
    let top = is.top in
    let bottom = is.bottom in
    let wide = tile.right in
    let tall = tile.bottom in
    let n = x - b.rect.left in
    let row = y - b.rect.top in
    let span = n / 8 in
    let j = n % 8 in
    let few : span < 4 = omega arith in
    let lane : j < 8 = omega arith in
    let in_tile : row < 32 = omega arith in
    let at_x : b.rect.left + 8 * span + j ≡ x = omega arith in
    let at_y : b.rect.top + row ≡ y = omega arith in
    let P : ℕ → ℕ → Type 0 = λ u v. (least ≤ (pixel_at b u v).ds.depth) × ((pixel_at b u v).ds.depth ≤ greatest) in
    let l = low j lane in
    let h = high j lane in
    let k = (rows row in_tile).least span j few lane in
    let m = (rows row in_tile).greatest span j few lane in
    let here : P (b.rect.left + 8 * span + j) (b.rect.top + row) = (omega (arith, l, k), omega (arith, h, m)) in
    subst (λ v. P x v) at_y (subst (λ u. P u (b.rect.top + row)) at_x here)

-- one span more is looked at
module _ (b : Block) (span row : ℕ) (was now : Extremes) (depths : List ℕ)
    (l : (j : ℕ) → j < 8 → slice_index now.least j ≡ min (slice_index was.least j) (slice_index depths j))
    (g : (j : ℕ) → j < 8 → slice_index now.greatest j ≡ max (slice_index was.greatest j) (slice_index depths j)) where
  pub span_held_by : HoldsSpan b span row was → HoldsSpan b span row now
  span_held_by h = record {
    least = λ j s. let a = h.least j s in let c = l j s in omega (arith, a, c);
    greatest = λ j s. let a = h.greatest j s in let c = g j s in omega (arith, a, c);
  }

  pub span_held : ((j : ℕ) → j < 8 → slice_index depths j ≡ (lane_pixel b span row j).ds.depth) → HoldsSpan b span row now
  span_held e = record {
    least = λ j s. let a = e j s in let c = l j s in omega (arith, a, c);
    greatest = λ j s. let a = e j s in let c = g j s in omega (arith, a, c);
  }

-- eight rows of a span
pub cell_between : (b : Block) (e : Extremes) (span cell least greatest : ℕ) → ((k : ℕ) → k < 8 → HoldsSpan b span (8 * cell + k) e)
    → ((j : ℕ) → j < 8 → least ≤ slice_index e.least j) → ((j : ℕ) → j < 8 → slice_index e.greatest j ≤ greatest) → CellLies b span cell least greatest
cell_between b e span cell least greatest rows low high k j few lane =
    let l = low j lane in
    let h = high j lane in
    let a = (rows k few).least j lane in
    let c = (rows k few).greatest j lane in
    (omega (arith, l, a), omega (arith, h, c))
