-- A span of a column, and one row more of it.
use Rattle.std.proofs.Common.{◌≡◌, ◌∙◌, ap, sym, subst, refl, arith, ℕ, ◌+◌, ◌*◌, ◌<◌, ◌≤◌, Bool, true, false, IsTrue, ◌&&◌, nat_lt, List}
use Rattle.std.specs.Prelude.{nat_le, slice_index, not, ◌||◌, ◌==◌, bit_and}
use Rattle.std.specs.Int.{bit_at}
use Rattle.std.proofs.lemmas.Bool.Decides.{nat_tests}
use Rattle.gfxspec.specs.declared.pixel.Pixel.{Pixel}
use Rattle.gfxspec.specs.Raster.{Point, Triangle, centre, covers, edge, edge_holds, is_empty}
use Rattle.edges.specs.Walk.{EdgePlace, IsNearBegin}
use Rattle.gfxspec.specs.Items.{is_in_rect}
use Rattle.gfxspec.specs.Tiles.{IsIn, IsInTile}
use Rattle.depthplane.specs.Height.{DeepTriangle}
use Rattle.gfxspec.specs.DepthStencil.{depth_passes}
use Rattle.lanes.specs.Stencil.{has}
use Rattle.tileblock.specs.Block.{Block, pixel_at}
use Rattle.tileblock.specs.SpanStored.{SpanStored, lane_pixel}
use Rattle.gfxspec.specs.declared.geometry.PixelRect.{PixelRect}
use Rattle.tileprog.specs.declared.column.Column.{Column}
use Rattle.tileprog.specs.Cells.{AllHave, AreCovered}
use Rattle.tileprog.proofs.Lanes.{has_all, has_none, has_both}
use Rattle.tileprog.specs.Columns.{RowDrew}
use Rattle.tileprog.specs.Counting.{eight, one_if, stroke_count}
use Rattle.tileprog.specs.Edges.{passes_edges, BeganIn, Decides}
use Rattle.tileprog.specs.SpanDrawn.{drawn_lane, ArePassed}
use Rattle.tileprog.specs.Strokes.{Stroke, IsNamed, IsWithin, reached, depth_there}
use Rattle.tileprog.proofs.Ones.{eight_same, eight_none}
use Rattle.tileprog.proofs.Reaching.{lane_drawn, lane_missed, lane_missed_count, lane_counted, lane_reached, in_rect, eight_depths, eight_are}
use Rattle.tileprog.proofs.Spanning.{unchanged}
use Rattle.tileprog.proofs.Stroking.{one_span, rows_from}

-- ---- the lanes that are left

three_pass : (e a b d h k l : Bool) → IsTrue (not e && (h && (k && l))) → IsTrue ((not a || h) && ((not b || k) && (not d || l)))
three_pass e a b d h k l is = grind arith

-- where the triangle covers, each edge that a mask names holds
covers_pass : (mask : ℕ) (t : Triangle) (p : Point) → IsTrue (covers t p) → IsTrue (passes_edges mask t p)
covers_pass mask t p is = three_pass (is_empty t) (bit_at mask 0 == 1) (bit_at mask 1 == 1) (bit_at mask 2 == 1) (edge_holds (edge t 0) p) (edge_holds (edge t 1) p) (edge_holds (edge t 2) p) is

same_truth : (a b : Bool) → (IsTrue a → IsTrue b) → (IsTrue b → IsTrue a) → a ≡ b
same_truth true true f g = refl
same_truth true false f g = sym (f refl)
same_truth false true f g = g refl
same_truth false false f g = refl

between : (left u right : ℕ) → (nat_le left u && nat_lt u right) ≡ true → (left ≤ u) × (u < right)
between left u right is = (grind (arith, nat_tests), grind (arith, nat_tests))

module _ (mask : ℕ) (p : EdgePlace) (left right : ℕ) (decides : Decides mask p left right) (x j : ℕ) (place : x ≡ p.x) (is : (nat_le left (x + j) && nat_lt (x + j) right) ≡ true) where
  pub near_begin : IsNearBegin p j
  near_begin =
      let before = (between left (x + j) right is).1 in
      let wide = decides.column in
      record { column = omega (arith, before, wide, place); row = decides.row }

  -- where the edges that are named decide, all three tell the same
  pub decided : covers p.triangle (centre (p.x + j) p.y) ≡ passes_edges mask p.triangle (centre (x + j) p.y)
  decided =
      let here = between left (x + j) right is in
      ap (λ x. covers p.triangle (centre (x + j) p.y)) (sym place)
      ∙ same_truth _ _ (covers_pass mask p.triangle (centre (x + j) p.y)) (decides.covered (x + j) here.0 here.1)

-- a lane of a mask, and of one that is right where the first has a lane
pub lane_left : (a b j : ℕ) (w q : Bool) → has a j ≡ w → (w ≡ true → has b j ≡ q) → has (bit_and a b) j ≡ (w && q)
lane_left a b j true q is right = has_both a b j q (right refl) ∙ ap (λ v. v && q) is
lane_left a b j false q is right = has_both a b j (has b j) refl ∙ ap (λ v. v && has b j) is

pub none_named : (mask : ℕ) (t : Triangle) (p : Point) (w : Bool) → mask ≡ 0 → w ≡ (w && passes_edges mask t p)
none_named mask t p w none = alone w ∙ ap (λ m. w && passes_edges m t p) (sym none)
  where
    alone : (w : Bool) → w ≡ (w && true)
    alone true = refl
    alone false = refl

-- in the words of the stroke
pub lanes_at : (e : EdgePlace) (t : Triangle) (x y mask left right cover : ℕ) → e ≡ record e { triangle = t; x = x; y = y }
    → ((j : ℕ) → j < 8 → has cover j ≡ ((nat_le left (x + j) && nat_lt (x + j) right) && passes_edges mask e.triangle (centre (x + j) e.y)))
    → (j : ℕ) → j < 8 → has cover j ≡ ((nat_le left (x + j) && nat_lt (x + j) right) && passes_edges mask t (centre (x + j) y))
lanes_at e t x y mask left right cover is h =
    let P : EdgePlace → Type 0 = λ e. (j : ℕ) → j < 8 → has cover j ≡ ((nat_le left (x + j) && nat_lt (x + j) right) && passes_edges mask e.triangle (centre (x + j) e.y)) in
    subst P is h

-- the named edges decide on a row of the clip rectangle, of a walk that began in the tile
pub row_decides : (d : DeepTriangle) (mask : ℕ) (r clip : PixelRect) (p : EdgePlace) (x y : ℕ) → IsNamed d mask r → IsWithin clip r → IsInTile r → BeganIn p r → p ≡ record p { triangle = d.triangle; x = x; y = y } → clip.top ≤ y → y < clip.bottom
    → Decides mask p clip.left clip.right
row_decides d mask r clip p x y named within tile begun is top bottom =
    let left = begun.left in
    let above = begun.top in
    let P : EdgePlace → Type 0 = λ p. Decides mask p clip.left clip.right in
    subst P (sym is) (record {
      column = omega (arith, within.right, tile.right, left);
      row = omega (arith, within.bottom, tile.bottom, above);
      covered = λ u h k. named.covered u y (record { left = omega (arith, within.left); right = omega (arith, within.right); top = omega (arith, within.top); bottom = omega (arith, within.bottom) });
    })

-- where all lanes are left, and the named edges hold at each
pub all_lanes_covered : (k : Column) (t : Triangle) (r : PixelRect) (row : ℕ) → k.within ≡ 255 → AreCovered true k.mask t r k.x row (row + 1)
    → (j : ℕ) → j < 8 → has 255 j ≡ ((nat_le k.clip.left (k.x + j) && nat_lt (k.x + j) k.clip.right) && passes_edges k.mask t (centre (k.x + j) (r.top + row)))
all_lanes_covered k t r row all covered j h =
    let clip = sym (k.lanes j h) ∙ has_all k.within j all h in
    let edges = covered (k.x + j) (r.top + row) (record { left = omega arith; right = omega (arith, h); top = omega arith; bottom = omega arith }) in
    has_all 255 j refl h ∙ (λ i. sym clip i && sym edges i)

-- what both say, the second says
second_too : (a b : Bool) → (a && b) ≡ true → b ≡ true
second_too true b e = e
second_too false b e = absurd cc

module _ (s : Stroke) (old : Block) (span row x y cover : ℕ) (x_is : old.rect.left + 8 * span ≡ x) (y_is : old.rect.top + row ≡ y) (sound : IsNamed s.plane s.mask old.rect) (within : IsWithin s.clip old.rect)
    (lanes : (j : ℕ) → j < 8 → has cover j ≡ ((nat_le s.clip.left (x + j) && nat_lt (x + j) s.clip.right) && passes_edges s.mask s.plane.triangle (centre (x + j) y)))
    (top : s.clip.top ≤ y) (bottom : y < s.clip.bottom) where
  abbrev same : ℕ → Pixel → Pixel
  same j p = p

  at_least : y ≤ y
  at_least = omega arith

  -- a span of which nothing is left
  pub row_missed : cover ≡ 0 → RowDrew s old old x y 0
  row_missed none =
      record {
        drew = one_span s old old old span row x y y same x_is y_is at_least (rows_from 8 s old x y y refl) (unchanged old span row same (λ j h. refl))
            (λ j h is p. lane_missed s old.rect x y cover sound lanes top bottom none j h p);
        count = sym (eight_none (λ j. stroke_count s old (x + j) y) (λ j h. ap one_if (lane_missed_count s old.rect x y cover sound lanes top bottom none j h (pixel_at old (x + j) y))));
        few = omega arith;
      }

  -- a span that is drawn, with the depths that its lanes bring
  pub row_drawn : (new : Block) (moved : List ℕ) (bits n : ℕ)
      → ((j : ℕ) → j < 8 → IsIn old.rect (x + j) y → reached s (x + j) y ≡ true → slice_index moved j ≡ depth_there s (x + j) y)
      → SpanStored old new span row (drawn_lane s.brush cover moved) → ArePassed s.brush old span row cover moved bits → n ≡ eight (λ j. one_if (has bits j)) → n ≤ 8 → RowDrew s old new x y n
  row_drawn new moved bits n depth_is stored passed is few =
      record {
        drew = one_span s old old new span row x y y (drawn_lane s.brush cover moved) x_is y_is at_least (rows_from 8 s old x y y refl) stored
            (lane_drawn s old.rect x y cover sound lanes top bottom moved depth_is);
        count = is ∙ eight_same _ _ (λ j h. ap one_if (lane_counted s old.rect x y cover sound lanes top bottom moved depth_is within (lane_pixel old span row) (λ j. pixel_at old (x + j) y)
            (λ j h. λ i. pixel_at old (x_is i + j) (y_is i)) bits passed.each j h));
        few = few;
      }

  -- a span whose depth test has one outcome
  module _ (deep : Bool) (all : AllHave deep s.brush.state s.plane old x row (row + 1)) where
    pub lanes_have : (j : ℕ) → j < 8 → has cover j ≡ true → depth_passes s.brush.state (slice_index (eight_depths s old.rect x y cover sound lanes top bottom) j) (lane_pixel old span row j).ds.depth ≡ deep
    lanes_have j h here =
        let reach : reached s (x + j) y ≡ true = sym (lane_reached s old.rect x y cover sound lanes top bottom j h) ∙ here in
        let is = in_rect s old.rect x y cover sound lanes top bottom within j reach in
        (λ i. depth_passes s.brush.state (eight_are s old.rect x y cover sound lanes top bottom j h i) (pixel_at old (x_is i + j) (y_is i)).ds.depth)
        ∙ all (x + j) y is (record { left = omega arith; right = omega (arith, h); top = omega (arith, y_is); bottom = omega (arith, y_is) }) (sound.covered (x + j) y is (second_too (is_in_rect s.clip (x + j) y) (passes_edges s.mask s.plane.triangle (centre (x + j) y)) reach))

-- a span at whose pixels not all named edges hold
pub row_uncovered : (s : Stroke) (old : Block) (span row x y : ℕ) → old.rect.left + 8 * span ≡ x → old.rect.top + row ≡ y → IsNamed s.plane s.mask old.rect → IsWithin s.clip old.rect → s.clip.top ≤ y → y < s.clip.bottom
    → ((j : ℕ) → j < 8 → passes_edges s.mask s.plane.triangle (centre (x + j) y) ≡ false) → RowDrew s old old x y 0
row_uncovered s old span row x y x_is y_is sound within top bottom none =
    row_missed s old span row x y 0 x_is y_is sound within
    (λ j h. has_none 0 j refl ∙ sym (no_both (nat_le s.clip.left (x + j) && nat_lt (x + j) s.clip.right)) ∙ (λ i. (nat_le s.clip.left (x + j) && nat_lt (x + j) s.clip.right) && sym (none j h) i))
    top bottom refl
  where
    no_both : (b : Bool) → (b && false) ≡ false
    no_both true = refl
    no_both false = refl
