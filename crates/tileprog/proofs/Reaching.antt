-- The lanes of a span that a stroke reaches.
use Rattle.std.proofs.Common.{◌≡◌, ◌∙◌, ap, sym, subst, refl, ℕ, ◌+◌, ◌<◌, ◌≤◌, arith, zero, suc, Bool, true, false, IsTrue, ◌&&◌, nat_lt, List, [], ◌∷◌}
use Rattle.std.specs.Prelude.{nat_le, if◌then◌else◌, slice_index}
use Rattle.std.proofs.lemmas.Bool.Decides.{nat_tests}
use Rattle.gfxspec.specs.declared.pixel.Pixel.{Pixel}
use Rattle.gfxspec.specs.declared.geometry.PixelRect.{PixelRect}
use Rattle.gfxspec.specs.Items.{is_in_rect}
use Rattle.gfxspec.specs.Raster.{centre, covers}
use Rattle.gfxspec.specs.Tiles.{IsIn, IsInTile}
use Rattle.depthplane.specs.Height.{DeepTriangle}
use Rattle.depthplane.specs.Place.{depth_of}
use Rattle.depthplane.specs.Places.{Places, IsNearStart}
use Rattle.tileprog.specs.Brushes.{tested_by, drawn_by}
use Rattle.tileprog.specs.Edges.{passes_edges}
use Rattle.lanes.specs.Stencil.{has}
use Rattle.tileprog.specs.SpanDrawn.{drawn_lane}
use Rattle.tileprog.specs.Strokes.{Stroke, IsNamed, IsWithin, reached, stroked, stroke_passes, depth_there}
use Rattle.tileprog.proofs.Lanes.{has_none}

-- depths of walks that began in a tile, at the lanes that lie in it
pub depths_at : (d : DeepTriangle) (w : Places) (r : PixelRect) (left top x y : ℕ) (depths : List ℕ) → w ≡ record { plane = d; left = left; top = top; x = x; y = y } → IsInTile r → r.left ≤ left → r.top ≤ top
    → ((j : ℕ) → j < 8 → IsNearStart w j → IsTrue (covers w.plane.triangle (centre (w.x + j) w.y)) → slice_index depths j ≡ depth_of w.plane (w.x + j) w.y)
    → (j : ℕ) → j < 8 → IsIn r (x + j) y → IsTrue (covers d.triangle (centre (x + j) y)) → slice_index depths j ≡ depth_of d (x + j) y
depths_at d w r left top x y depths is tile l t h j less inside =
    let P : Places → Type 0 = λ w. (j : ℕ) → j < 8 → IsNearStart w j → IsTrue (covers w.plane.triangle (centre (w.x + j) w.y)) → slice_index depths j ≡ depth_of w.plane (w.x + j) w.y in
    subst P is h j less (record { column = omega (arith, tile.right, inside.right); row = omega (arith, tile.bottom, inside.bottom) })

module _ (s : Stroke) (r : PixelRect) (x y cover : ℕ) (sound : IsNamed s.plane s.mask r)
    (lanes : (j : ℕ) → j < 8 → has cover j ≡ ((nat_le s.clip.left (x + j) && nat_lt (x + j) s.clip.right) && passes_edges s.mask s.plane.triangle (centre (x + j) y)))
    (top : s.clip.top ≤ y) (bottom : y < s.clip.bottom) where
  rows : (u : ℕ) → (nat_le s.clip.left u && nat_lt u s.clip.right) ≡ is_in_rect s.clip u y
  rows u = plain
    where
      plain : (nat_le s.clip.left u && nat_lt u s.clip.right) ≡ (nat_le s.clip.left u && (nat_lt u s.clip.right && (nat_le s.clip.top y && nat_lt y s.clip.bottom)))
      plain = grind (arith, nat_tests)

  pub lane_reached : (j : ℕ) → j < 8 → has cover j ≡ reached s (x + j) y
  lane_reached j h = lanes j h ∙ ap (λ b. b && passes_edges s.mask s.plane.triangle (centre (x + j) y)) (rows (x + j))

  second : (a b : Bool) → (a && b) ≡ true → b ≡ true
  second true b e = e
  second false b e = absurd cc

  -- the depths that the span's lanes bring
  module _ (moved : List ℕ) (depth_is : (j : ℕ) → j < 8 → IsIn r (x + j) y → reached s (x + j) y ≡ true → slice_index moved j ≡ depth_there s (x + j) y) where
    pub lane_drawn : (j : ℕ) → j < 8 → IsIn r (x + j) y → (p : Pixel) → drawn_lane s.brush cover moved j p ≡ stroked s (x + j) y p
    lane_drawn j h is p = ap (λ b. if b then drawn_by s.brush (slice_index moved j) p else p) (lane_reached j h) ∙ by (reached s (x + j) y) refl
      where
        by : (b : Bool) → reached s (x + j) y ≡ b → (if b then drawn_by s.brush (slice_index moved j) p else p) ≡ (if b then drawn_by s.brush (depth_there s (x + j) y) p else p)
        by true e = ap (λ z. drawn_by s.brush z p) (depth_is j h is e)
        by false e = refl

  -- no lane is reached where the mask is empty
  pub lane_missed : cover ≡ 0 → (j : ℕ) → j < 8 → (p : Pixel) → p ≡ stroked s (x + j) y p
  lane_missed none j h p =
      ap (λ b. if b then drawn_by s.brush (depth_there s (x + j) y) p else p) (sym (has_none cover j none) ∙ lane_reached j h)

  -- what a lane's bit counts
  pub lane_missed_count : cover ≡ 0 → (j : ℕ) → j < 8 → (p : Pixel) → stroke_passes s (x + j) y p ≡ false
  lane_missed_count none j h p =
      ap (λ b. b && (tested_by s.brush (depth_there s (x + j) y) p.ds).passed) (sym (sym (has_none cover j none) ∙ lane_reached j h))

  first : (a b : Bool) → (a && b) ≡ true → a ≡ true
  first true b e = refl
  first false b e = absurd cc

  pub in_rect : IsWithin s.clip r → (j : ℕ) → reached s (x + j) y ≡ true → IsIn r (x + j) y
  in_rect w j e = plain (first _ _ e)
    where
      plain : (nat_le s.clip.left (x + j) && (nat_lt (x + j) s.clip.right && (nat_le s.clip.top y && nat_lt y s.clip.bottom))) ≡ true → IsIn r (x + j) y
      plain f = record { left = grind (arith, nat_tests, w.left); right = grind (arith, nat_tests, w.right); top = grind (arith, nat_tests, w.top); bottom = grind (arith, nat_tests, w.bottom) }

  module _ (moved : List ℕ) (depth_is : (j : ℕ) → j < 8 → IsIn r (x + j) y → reached s (x + j) y ≡ true → slice_index moved j ≡ depth_there s (x + j) y)
      (inside : IsWithin s.clip r) (mid old : ℕ → Pixel) (same : (j : ℕ) → j < 8 → mid j ≡ old j) (bits : ℕ)
      (passes : (j : ℕ) → j < 8 → has bits j ≡ (has cover j && (tested_by s.brush (slice_index moved j) (mid j).ds).passed)) where
    pub lane_counted : (j : ℕ) → j < 8 → has bits j ≡ stroke_passes s (x + j) y (old j)
    lane_counted j h = passes j h ∙ ap (λ b. b && (tested_by s.brush (slice_index moved j) (mid j).ds).passed) (lane_reached j h) ∙ by (reached s (x + j) y) refl
      where
        by : (b : Bool) → reached s (x + j) y ≡ b → (b && (tested_by s.brush (slice_index moved j) (mid j).ds).passed) ≡ (b && (tested_by s.brush (depth_there s (x + j) y) (old j).ds).passed)
        by true e =
            let is = in_rect inside j e in
            (λ i. (tested_by s.brush (depth_is j h is e i) (same j h i).ds).passed)
        by false e = refl

  -- depths of walks
  pub walked_depth : (depths : List ℕ) → ((j : ℕ) → j < 8 → IsIn r (x + j) y → IsTrue (covers s.plane.triangle (centre (x + j) y)) → slice_index depths j ≡ depth_of s.plane (x + j) y)
      → (j : ℕ) → j < 8 → IsIn r (x + j) y → reached s (x + j) y ≡ true → slice_index depths j ≡ depth_there s (x + j) y
  walked_depth depths deep j h is reach = deep j h is (sound.covered (x + j) y is (second _ _ reach))

  -- the depths of the eight pixels themselves, for a brush that asks for none
  abbrev pub eight_depths : List ℕ
  eight_depths =
      let z : ℕ → ℕ = λ j. depth_there s (x + j) y in
      z 0 ∷ z 1 ∷ z 2 ∷ z 3 ∷ z 4 ∷ z 5 ∷ z 6 ∷ z 7 ∷ []

  pub eight_are : (j : ℕ) → j < 8 → slice_index eight_depths j ≡ depth_there s (x + j) y
  eight_are zero h = refl
  eight_are (suc zero) h = refl
  eight_are (suc (suc zero)) h = refl
  eight_are (suc (suc (suc zero))) h = refl
  eight_are (suc (suc (suc (suc zero)))) h = refl
  eight_are (suc (suc (suc (suc (suc zero))))) h = refl
  eight_are (suc (suc (suc (suc (suc (suc zero)))))) h = refl
  eight_are (suc (suc (suc (suc (suc (suc (suc zero))))))) h = refl
  eight_are (suc (suc (suc (suc (suc (suc (suc (suc j)))))))) h = absurd (omega arith)
