-- A row of a column, drawn where pixels are left of it.
use Rattle.std.proofs.Common.{◌≡◌, ◌∙◌, ap, sym, refl, ℕ, ◌+◌, ◌*◌, ◌<◌, ◌≤◌, Bool, true, IsTrue, ◌&&◌, nat_lt, List}
use Rattle.std.specs.Prelude.{nat_le, slice_index}
use Rattle.gfxspec.specs.DepthStencil.{depth_passes}
use Rattle.gfxspec.specs.Raster.{centre, covers}
use Rattle.depthplane.specs.Place.{depth_of}
use Rattle.depthplane.specs.Places.{Places, IsNearStart}
use Rattle.lanes.specs.Stencil.{has}
use Rattle.tileblock.specs.Block.{Block}
use Rattle.tileblock.specs.SpanStored.{SpanStored, lane_pixel}
use Rattle.tileprog.specs.declared.brush.Brush.{Brush}
use Rattle.tileprog.specs.declared.column.Column.{Column}
use Rattle.tileprog.specs.Cells.{AllHave}
use Rattle.tileprog.specs.Columns.{IsColumn, IsRow, RowDrew, WalksAt, stroke_in}
use Rattle.tileprog.specs.Counting.{eight, one_if}
use Rattle.tileprog.specs.Edges.{passes_edges}
use Rattle.tileprog.specs.SpanDrawn.{drawn_lane, ArePassed}
use Rattle.tileprog.specs.Strokes.{Stroke}
use Rattle.tileprog.proofs.Reaching.{depths_at, walked_depth, eight_depths, eight_are}
use Rattle.tileprog.proofs.Rowing.{row_missed, row_drawn, lanes_have}

module _ (b : Brush) (k : Column) (old : Block) (column : IsColumn k old.rect) (span row cover : ℕ) (place : span ≡ k.span) (inside : IsRow k old.rect row)
    (lanes : (j : ℕ) → j < 8 → has cover j ≡ ((nat_le k.clip.left (k.x + j) && nat_lt (k.x + j) k.clip.right) && passes_edges k.mask k.plane.now.triangle (centre (k.x + j) (old.rect.top + row)))) where
  abbrev s : Stroke
  s = stroke_in b k

  abbrev y : ℕ
  y = old.rect.top + row

  x_is : old.rect.left + 8 * span ≡ k.x
  x_is = ap (λ n. old.rect.left + 8 * n) place ∙ sym column.x

  pub none_left : cover ≡ 0 → RowDrew s old old k.x y 0
  none_left none = row_missed s old span row k.x y cover x_is refl column.named column.within lanes inside.top inside.bottom none

  -- the depths are those of walks
  pub walked_left : (at : Places) (depths : List ℕ) → WalksAt at k old.rect y
      → ((j : ℕ) → j < 8 → IsNearStart at j → IsTrue (covers at.plane.triangle (centre (at.x + j) at.y)) → slice_index depths j ≡ depth_of at.plane (at.x + j) at.y)
      → (new : Block) (bits n : ℕ) → SpanStored old new span row (drawn_lane b cover depths) → ArePassed b old span row cover depths bits → n ≡ eight (λ j. one_if (has bits j)) → n ≤ 8 → RowDrew s old new k.x y n
  walked_left at depths walk are new bits n =
      let deep = depths_at k.plane.now at old.rect at.left at.top k.x y depths walk.place column.tile walk.left walk.top are in
      row_drawn s old span row k.x y cover x_is refl column.named column.within lanes inside.top inside.bottom new depths bits n
      (walked_depth s old.rect k.x y cover column.named lanes inside.top inside.bottom depths deep)

  -- the brush asks for no depths
  pub open_left : (new : Block) (bits n : ℕ) → ((zs : List ℕ) → SpanStored old new span row (drawn_lane b cover zs)) → ((zs : List ℕ) → ArePassed b old span row cover zs bits) → n ≡ eight (λ j. one_if (has bits j)) → n ≤ 8 → RowDrew s old new k.x y n
  open_left new bits n stored passed =
      let zs = eight_depths s old.rect k.x y cover column.named lanes inside.top inside.bottom in
      row_drawn s old span row k.x y cover x_is refl column.named column.within lanes inside.top inside.bottom new zs bits n
      (λ j h is reach. eight_are s old.rect k.x y cover column.named lanes inside.top inside.bottom j h) (stored zs) (passed zs)

  -- the depth test has one outcome
  pub alike_left : (deep : Bool) → AllHave deep b.state k.plane.now old k.x row (row + 1) → (new : Block) (bits n : ℕ)
      → ((zs : List ℕ) → ((j : ℕ) → j < 8 → has cover j ≡ true → depth_passes b.state (slice_index zs j) (lane_pixel old span row j).ds.depth ≡ deep) → SpanStored old new span row (drawn_lane b cover zs))
      → ((zs : List ℕ) → ((j : ℕ) → j < 8 → has cover j ≡ true → depth_passes b.state (slice_index zs j) (lane_pixel old span row j).ds.depth ≡ deep) → ArePassed b old span row cover zs bits)
      → n ≡ eight (λ j. one_if (has bits j)) → n ≤ 8 → RowDrew s old new k.x y n
  alike_left deep all new bits n stored passed =
      let zs = eight_depths s old.rect k.x y cover column.named lanes inside.top inside.bottom in
      let have = lanes_have s old span row k.x y cover x_is refl column.named column.within lanes inside.top inside.bottom deep all in
      row_drawn s old span row k.x y cover x_is refl column.named column.within lanes inside.top inside.bottom new zs bits n
      (λ j h is reach. eight_are s old.rect k.x y cover column.named lanes inside.top inside.bottom j h) (stored zs have) (passed zs have)
