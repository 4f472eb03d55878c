-- Columns of four pixels, row by row and side by side.
use Rattle.std.proofs.Common.{◌≡◌, ◌∙◌, ap, sym, subst, ℕ, ◌+◌, ◌-◌, ◌*◌, ◌<◌, ◌≤◌, arith, IsTrue, ◌&&◌, nat_lt, List}
use Rattle.std.specs.Prelude.{nat_le, ◌==◌, if◌then◌else◌, slice_index}
use Rattle.gfxspec.specs.declared.geometry.PixelRect.{PixelRect}
use Rattle.gfxspec.specs.Items.{sum_below}
use Rattle.gfxspec.specs.Raster.{centre, covers}
use Rattle.depthplane.specs.Place.{depth_of}
use Rattle.depthplane.specs.Places.{Places, IsNearStart}
use Rattle.edges.specs.Walk.{EdgePlace, IsNearBegin}
use Rattle.tileblock.specs.Block.{Block, pixel_at}
use Rattle.tileblock.specs.QuadStored.{QuadStored, quad_pixel}
use Rattle.tileprog.specs.declared.brush.Brush.{Brush}
use Rattle.tileprog.specs.declared.draw.TileTriangle.{TileTriangle}
use Rattle.tileprog.specs.Brushes.{tested_by}
use Rattle.tileprog.specs.Counting.{one_if, stroke_count}
use Rattle.tileprog.specs.Quads.{IsQuads, QuadDrew, edges_at, walk_at, drawn_quad, picked, sum4}
use Rattle.tileprog.specs.Spreads.{SpreadDrew, stroke_of}
use Rattle.tileprog.specs.Strokes.{Stroke, Drew, reached}
use Rattle.tileprog.specs.Sums.{box_sum}
use Rattle.tileprog.specs.Within.{in_box}
use Rattle.tileprog.proofs.FourLanes.{one_quad, quad_reached, quad_drawn, quad_counted, four_sum, counts_more, one_few}
use Rattle.tileprog.proofs.Stroking.{one_row, rows_from, rows_to, one_column, columns_to, all_columns}
use Rattle.tileprog.proofs.Summing.{lane_waits, box_lower, box_wider, box_waits, box_is, box_none, none_outside}

-- ---- one row more of a column

module _ (t : TileTriangle) (old mid new : Block) (over : IsQuads t old.rect) (quad row : ℕ) (top : t.clip.top ≤ old.rect.top + row) (bottom : old.rect.top + row < t.clip.bottom)
    (was : Drew (stroke_of t) old mid (in_box (old.rect.left + 4 * quad) (old.rect.left + 4 * quad + 4) t.clip.top (old.rect.top + row)))
    (edges : EdgePlace) (edges_is : edges ≡ edges_at t old.rect quad (old.rect.top + row)) (walk : Places) (walk_is : walk ≡ walk_at t old.rect quad (old.rect.top + row))
    (rect : PixelRect) (rect_is : rect ≡ old.rect) (brush : Brush) (brush_is : brush ≡ t.brush.now)
    (marks within cover depths ones counts after : List ℕ)
    (tells : (j : ℕ) → j < 4 → IsNearBegin edges j → slice_index marks j ≡ (if covers edges.triangle (centre (edges.x + j) edges.y) then 1 else 0))
    (w_is : (j : ℕ) → j < 4 → slice_index within j ≡ (if nat_le t.clip.left (rect.left + 4 * quad + j) && nat_lt (rect.left + 4 * quad + j) t.clip.right then 1 else 0))
    (c_is : (j : ℕ) → j < 4 → slice_index cover j ≡ (if slice_index within j == 1 then slice_index marks j else 0))
    (deep : (j : ℕ) → j < 4 → IsNearStart walk j → IsTrue (covers walk.plane.triangle (centre (walk.x + j) walk.y)) → slice_index depths j ≡ depth_of walk.plane (walk.x + j) walk.y)
    (stored : QuadStored mid new quad row (drawn_quad brush cover depths))
    (passed : (j : ℕ) → j < 4 → slice_index ones j ≡ one_if (picked cover j && (tested_by brush (slice_index depths j) (quad_pixel mid quad row j).ds).passed))
    (added : (j : ℕ) → j < 4 → slice_index after j ≡ slice_index counts j + slice_index ones j) where
  abbrev s : Stroke
  s = stroke_of t

  abbrev x : ℕ
  x = old.rect.left + 4 * quad

  abbrev y : ℕ
  y = old.rect.top + row

  mid_x : mid.rect.left + 4 * quad ≡ x
  mid_x = ap (λ (r : PixelRect). r.left + 4 * quad) was.rect

  mid_y : mid.rect.top + row ≡ y
  mid_y = ap (λ (r : PixelRect). r.top + row) was.rect

  here_tells : (j : ℕ) → j < 4 → IsNearBegin (edges_at t old.rect quad y) j → slice_index marks j ≡ (if covers t.plane.now.triangle (centre (x + j) y) then 1 else 0)
  here_tells =
      let P : EdgePlace → Type 0 = λ e. (j : ℕ) → j < 4 → IsNearBegin e j → slice_index marks j ≡ (if covers e.triangle (centre (e.x + j) e.y) then 1 else 0) in
      subst P edges_is tells

  here_deep : (j : ℕ) → j < 4 → IsNearStart (walk_at t old.rect quad y) j → IsTrue (covers t.plane.now.triangle (centre (x + j) y)) → slice_index depths j ≡ depth_of t.plane.now (x + j) y
  here_deep =
      let P : Places → Type 0 = λ w. (j : ℕ) → j < 4 → IsNearStart w j → IsTrue (covers w.plane.triangle (centre (w.x + j) w.y)) → slice_index depths j ≡ depth_of w.plane (w.x + j) w.y in
      subst P walk_is deep

  here_within : (j : ℕ) → j < 4 → slice_index within j ≡ (if nat_le t.clip.left (x + j) && nat_lt (x + j) t.clip.right then 1 else 0)
  here_within =
      let P : PixelRect → Type 0 = λ r. (j : ℕ) → j < 4 → slice_index within j ≡ (if nat_le t.clip.left (r.left + 4 * quad + j) && nat_lt (r.left + 4 * quad + j) t.clip.right then 1 else 0) in
      subst P rect_is w_is

  covered : (j : ℕ) → j < 4 → picked cover j ≡ reached s (x + j) y
  covered = quad_reached t old.rect over quad y top bottom marks within cover here_tells here_within c_is

  row_drew : Drew s mid new (in_box x (x + 4) y (y + 1))
  row_drew =
      let P : Brush → Type 0 = λ b. QuadStored mid new quad row (drawn_quad b cover depths) in
      one_quad s mid new quad row x y (drawn_quad s.brush cover depths) mid_x mid_y (subst P brush_is stored)
      (λ j h is p. quad_drawn t old.rect over quad y top bottom cover depths covered here_deep j h p)

  one : (j : ℕ) → j < 4 → slice_index ones j ≡ stroke_count s old (x + j) y
  one j h =
      let P : Brush → Type 0 = λ b. slice_index ones j ≡ one_if (picked cover j && (tested_by b (slice_index depths j) (quad_pixel mid quad row j).ds).passed) in
      quad_counted t old.rect over quad y top bottom cover depths covered here_deep j (slice_index ones j) (quad_pixel mid quad row j) (pixel_at mid (x + j) y) h (subst P brush_is (passed j h)) (λ i. pixel_at mid (mid_x i + j) (mid_y i))
      ∙ lane_waits 4 s old mid x t.clip.top y over.within was (x + j)

  pub more_drawn : Drew s old new (in_box x (x + 4) t.clip.top (old.rect.top + (row + 1)))
  more_drawn = rows_to 4 s old new x t.clip.top (y + 1) (old.rect.top + (row + 1)) (omega arith) (one_row 4 s old mid new x t.clip.top y top was row_drew)

  pub more_counted : sum4 counts ≡ box_sum x 4 t.clip.top (y - t.clip.top) (stroke_count s old) → sum4 after ≡ box_sum x 4 t.clip.top (old.rect.top + (row + 1) - t.clip.top) (stroke_count s old)
  more_counted before =
      let f = stroke_count s old in
      let line : t.clip.top + (y - t.clip.top) ≡ y = omega (arith, top) in
      let next : y - t.clip.top + 1 ≡ old.rect.top + (row + 1) - t.clip.top = omega (arith, top) in
      let ones_are : sum4 ones ≡ sum_below 4 (λ j. f (x + j) (t.clip.top + (y - t.clip.top))) =
      (λ i. one 0 (omega arith) i + one 1 (omega arith) i + one 2 (omega arith) i + one 3 (omega arith) i)
      ∙ sym (four_sum (λ j. f (x + j) y))
      ∙ ap (λ v. sum_below 4 (λ j. f (x + j) v)) (sym line) in
      counts_more (slice_index counts 0) (slice_index counts 1) (slice_index counts 2) (slice_index counts 3) (slice_index ones 0) (slice_index ones 1) (slice_index ones 2) (slice_index ones 3)
      (slice_index after 0) (slice_index after 1) (slice_index after 2) (slice_index after 3) _ _ _ before ones_are
      (added 0 (omega arith)) (added 1 (omega arith)) (added 2 (omega arith)) (added 3 (omega arith))
      (box_lower x 4 t.clip.top (y - t.clip.top) f ∙ ap (λ k. box_sum x 4 t.clip.top k f) next)

  pub more_few : ((j : ℕ) → j < 4 → slice_index counts j ≤ row) → (j : ℕ) → j < 4 → slice_index after j ≤ row + 1
  more_few few j h = let a = added j h in let b = one_few (slice_index ones j) _ (passed j h) in let c = few j h in omega (arith, a, b, c)

-- before the first row, and behind the last
pub no_rows_yet : (t : TileTriangle) (old : Block) (x y : ℕ) → y ≡ t.clip.top → Drew (stroke_of t) old old (in_box x (x + 4) t.clip.top y)
no_rows_yet t old x y e = rows_from 4 (stroke_of t) old x t.clip.top y e

pub none_counted_yet : (t : TileTriangle) (old : Block) (x y : ℕ) → y ≡ t.clip.top → 0 ≡ box_sum x 4 t.clip.top (y - t.clip.top) (stroke_count (stroke_of t) old)
none_counted_yet t old x y e = let none : 0 ≡ y - t.clip.top = omega (arith, e) in ap (λ k. box_sum x 4 t.clip.top k (stroke_count (stroke_of t) old)) none

pub all_rows_drawn : (t : TileTriangle) (old new : Block) (x y n : ℕ) (counts : List ℕ) → y ≡ t.clip.bottom → Drew (stroke_of t) old new (in_box x (x + 4) t.clip.top y) → n ≡ sum4 counts → sum4 counts ≡ box_sum x 4 t.clip.top (y - t.clip.top) (stroke_count (stroke_of t) old)
    → ((j : ℕ) → j < 4 → slice_index counts j ≤ 32) → QuadDrew (stroke_of t) old new x n
all_rows_drawn t old new x y n counts e drew is count few =
    let a = few 0 (omega arith) in
    let b = few 1 (omega arith) in
    let c = few 2 (omega arith) in
    let d = few 3 (omega arith) in
    record {
      drew = rows_to 4 (stroke_of t) old new x t.clip.top y t.clip.bottom e drew;
      count = is ∙ count ∙ ap (λ v. box_sum x 4 t.clip.top (v - t.clip.top) (stroke_count (stroke_of t) old)) e;
      few = omega (arith, is, a, b, c, d);
    }

-- ---- one column more

module _ (t : TileTriangle) (old mid new : Block) (over : IsQuads t old.rect) (quad passed more : ℕ) (first : t.first ≤ quad)
    (was : Drew (stroke_of t) old mid (in_box (old.rect.left + 4 * t.first) (old.rect.left + 4 * quad) t.clip.top t.clip.bottom))
    (count : passed ≡ box_sum (old.rect.left + 4 * t.first) (4 * (quad - t.first)) t.clip.top (t.clip.bottom - t.clip.top) (stroke_count (stroke_of t) old))
    (column : QuadDrew (stroke_of t) mid new (mid.rect.left + 4 * quad) more) where
  abbrev whole : Stroke
  whole = stroke_of t

  abbrev start : ℕ
  start = old.rect.left + 4 * t.first

  abbrev reach : ℕ
  reach = old.rect.left + 4 * quad

  this_column : QuadDrew whole mid new reach more
  this_column = subst (λ v. QuadDrew whole mid new v more) (ap (λ (r : PixelRect). r.left + 4 * quad) was.rect) column

  pub column_drawn : Drew whole old new (in_box start (old.rect.left + 4 * (quad + 1)) t.clip.top t.clip.bottom)
  column_drawn = columns_to whole old new start (reach + 4) (old.rect.left + 4 * (quad + 1)) t.clip.top t.clip.bottom (omega arith) (one_column 4 whole old mid new start reach t.clip.top t.clip.bottom (omega (arith, first)) was this_column.drew)

  pub column_counted : passed + more ≡ box_sum start (4 * (quad + 1 - t.first)) t.clip.top (t.clip.bottom - t.clip.top) (stroke_count whole old)
  column_counted =
      let f = stroke_count whole old in
      let rows = t.clip.bottom - t.clip.top in
      let at : reach ≡ start + 4 * (quad - t.first) = omega (arith, first) in
      let wide : 4 * (quad - t.first) + 4 ≡ 4 * (quad + 1 - t.first) = omega (arith, first) in
      let adds : more ≡ box_sum (start + 4 * (quad - t.first)) 4 t.clip.top rows f =
      this_column.count ∙ box_waits whole old mid start reach t.clip.top t.clip.bottom 4 rows over.within was ∙ ap (λ u. box_sum u 4 t.clip.top rows f) at in
      (λ i. count i + adds i)
      ∙ box_wider start (4 * (quad - t.first)) 4 t.clip.top rows f
      ∙ ap (λ n. box_sum start n t.clip.top rows f) wide

  pub column_few : passed ≤ 128 * quad → passed + more ≤ 128 * (quad + 1)
  column_few few = let a = this_column.few in omega (arith, few, a)

pub no_columns_yet : (t : TileTriangle) (old : Block) (x : ℕ) → 0 ≡ box_sum x (4 * (t.first - t.first)) t.clip.top (t.clip.bottom - t.clip.top) (stroke_count (stroke_of t) old)
no_columns_yet t old x = box_none x (4 * (t.first - t.first)) t.clip.top (t.clip.bottom - t.clip.top) (stroke_count (stroke_of t) old) (omega arith)

pub all_columns_drawn : (t : TileTriangle) (old new : Block) (quad passed : ℕ) → IsQuads t old.rect → quad ≡ t.past
    → Drew (stroke_of t) old new (in_box (old.rect.left + 4 * t.first) (old.rect.left + 4 * quad) t.clip.top t.clip.bottom)
    → passed ≡ box_sum (old.rect.left + 4 * t.first) (4 * (quad - t.first)) t.clip.top (t.clip.bottom - t.clip.top) (stroke_count (stroke_of t) old) → passed ≤ 128 * quad → SpreadDrew (stroke_of t) old new passed
all_columns_drawn t old new quad passed over e drew count few =
    let ended = over.ended in
    let begun = over.begun in
    let eight = over.few in
    let wide = over.within.wide in
    let past : t.clip.right ≤ old.rect.left + 4 * quad = omega (arith, e, ended) in
    record {
      drew = all_columns (stroke_of t) old new (old.rect.left + 4 * t.first) (old.rect.left + 4 * quad) begun past drew;
      count = count ∙ box_is (old.rect.left + 4 * t.first) (4 * (quad - t.first)) t.clip old.rect (stroke_count (stroke_of t) old) begun (omega (arith, past, begun, wide)) over.within (none_outside (stroke_of t) old);
      few = omega (arith, few, e, eight);
    }
