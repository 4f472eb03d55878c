-- Four pixels of a row under a stroke.
use Rattle.std.proofs.Common.{◌≡◌, ◌≢◌, ◌∙◌, ap, sym, subst, refl, ℕ, ◌+◌, ◌-◌, ◌*◌, ◌<◌, ◌≤◌, ◌⊎◌, inl, inr, ⊎_elim, arith, Bool, true, false, IsTrue, ◌&&◌, nat_lt, List}
use Rattle.std.specs.Prelude.{nat_le, ◌==◌, if◌then◌else◌, slice_index}
use Rattle.std.proofs.lemmas.Bool.Decides.{nat_tests}
use Rattle.gfxspec.specs.declared.pixel.Pixel.{Pixel}
use Rattle.gfxspec.specs.declared.geometry.PixelRect.{PixelRect}
use Rattle.gfxspec.specs.Items.{is_in_rect, sum_below}
use Rattle.gfxspec.specs.Raster.{centre, covers}
use Rattle.gfxspec.specs.Tiles.{IsIn}
use Rattle.depthplane.specs.Place.{depth_of}
use Rattle.depthplane.specs.Places.{IsNearStart}
use Rattle.edges.specs.Walk.{EdgePlace, IsNearBegin}
use Rattle.tileblock.specs.Block.{Block, pixel_at}
use Rattle.tileblock.specs.QuadStored.{QuadStored, quad_pixel}
use Rattle.tileprog.specs.declared.draw.TileTriangle.{TileTriangle}
use Rattle.tileprog.specs.Brushes.{tested_by, drawn_by}
use Rattle.tileprog.specs.Counting.{one_if}
use Rattle.tileprog.specs.Edges.{passes_edges, Decides}
use Rattle.tileprog.specs.Quads.{IsQuads, edges_at, walk_at, drawn_quad, picked}
use Rattle.tileprog.specs.Spreads.{stroke_of}
use Rattle.tileprog.specs.Strokes.{Stroke, Drew, reached, stroked, stroke_passes, depth_there}
use Rattle.tileprog.specs.Within.{in_box}
use Rattle.tileprog.proofs.Rowing.{decided, near_begin, row_decides}
use Rattle.tileprog.proofs.Stroking.{step}

-- ---- changes of a quad, one behind the other

pub quad_joined : (old mid new : Block) (quad row : ℕ) (f g : ℕ → Pixel → Pixel) → QuadStored old mid quad row f → QuadStored mid new quad row g → QuadStored old new quad row (λ j p. g j (f j p))
quad_joined old mid new quad row f g a b =
    record {
      rect = b.rect ∙ a.rect;
      here = λ j h. b.here j h ∙ ap (g j) (a.here j h);
      elsewhere = λ u v is beside.
          let Beside : PixelRect → Type 0 = λ r. (v ≢ r.top + row) ⊎ ((u < r.left + 4 * quad) ⊎ (r.left + 4 * quad + 4 ≤ u)) in
          let In : PixelRect → Type 0 = λ r. IsIn r u v in
          b.elsewhere u v (subst In (sym a.rect) is) (subst Beside (sym a.rect) beside) ∙ a.elsewhere u v is beside;
    }

pub quad_changed : (old new : Block) (quad row : ℕ) (f g : ℕ → Pixel → Pixel) → QuadStored old new quad row f → ((j : ℕ) → j < 4 → f j (quad_pixel old quad row j) ≡ g j (quad_pixel old quad row j)) → QuadStored old new quad row g
quad_changed old new quad row f g s e =
    record { rect = s.rect; here = λ j h. s.here j h ∙ e j h; elsewhere = s.elsewhere }

pub quad_unchanged : (old : Block) (quad row : ℕ) (f : ℕ → Pixel → Pixel) → ((j : ℕ) → j < 4 → quad_pixel old quad row j ≡ f j (quad_pixel old quad row j)) → QuadStored old old quad row f
quad_unchanged old quad row f e =
    record { rect = refl; here = e; elsewhere = λ u v is beside. refl }

-- ---- lanes that are picked twice

one_is : (b : Bool) → (one_if b == 1) ≡ b
one_is true = refl
one_is false = refl

-- a lane of the second counts only where the first has a 1
pub picked_both : (c s w : ℕ) (p q : Bool) → c ≡ (if s == 1 then w else 0) → s ≡ (if p then 1 else 0) → (p ≡ true → w ≡ (if q then 1 else 0)) → (c == 1) ≡ (p && q)
picked_both c s w p q e es ew = ap (λ n. n == 1) (e ∙ (λ i. if es i == 1 then w else 0)) ∙ by p q ew
  where
    by : (p q : Bool) → (p ≡ true → w ≡ (if q then 1 else 0)) → ((if (if p then 1 else 0) == 1 then w else 0) == 1) ≡ (p && q)
    by true q h = ap (λ n. n == 1) (h refl) ∙ one_is q
    by false q h = refl

pub ones_both : (c s w : ℕ) (p q : Bool) → c ≡ (if s == 1 then w else 0) → (s == 1) ≡ p → w ≡ (if q then 1 else 0) → c ≡ one_if (p && q)
ones_both c s w p q e es ew = e ∙ (λ i. if es i then ew i else 0) ∙ plain p q
  where
    plain : (p q : Bool) → (if p then (if q then 1 else 0) else 0) ≡ one_if (p && q)
    plain true true = refl
    plain true false = refl
    plain false true = refl
    plain false false = refl

pub picked_one : (n : ℕ) (b : Bool) → n ≡ one_if b → (n == 1) ≡ b
picked_one n b e = ap (λ n. n == 1) e ∙ one_is b

pub one_few : (n : ℕ) (b : Bool) → n ≡ one_if b → n ≤ 1
one_few n true e = omega (arith, e)
one_few n false e = omega (arith, e)

-- ---- one row of a quad

record InQuad (x y u v : ℕ) : Type 0 where
  low : x ≤ u
  high : u < x + 4
  row : v ≡ y

quad_or_not : (x y u v : ℕ) → InQuad x y u v ⊎ ((v ≢ y) ⊎ ((u < x) ⊎ (x + 4 ≤ u)))
quad_or_not x y u v = by (cases v y) (less u x) (less u (x + 4))
  where
    cases : (m n : ℕ) → (m ≡ n) ⊎ (m ≢ n)
    cases m n = grind arith

    less : (m n : ℕ) → (m < n) ⊎ (n ≤ m)
    less m n = grind arith

    by : (v ≡ y) ⊎ (v ≢ y) → (u < x) ⊎ (x ≤ u) → (u < x + 4) ⊎ (x + 4 ≤ u) → InQuad x y u v ⊎ ((v ≢ y) ⊎ ((u < x) ⊎ (x + 4 ≤ u)))
    by (inr n) b c = inr (inl n)
    by (inl e) (inl b) c = inr (inr (inl b))
    by (inl e) (inr b) (inr c) = inr (inr (inr c))
    by (inl e) (inr b) (inl c) = inl (record { low = b; high = c; row = e })

is_done : (x y u v : ℕ) → InQuad x y u v → in_box x (x + 4) y (y + 1) u v ≡ true
is_done x y u v h = plain
  where
    plain : ((nat_le x u && nat_lt u (x + 4)) && (nat_le y v && nat_lt v (y + 1))) ≡ true
    plain = grind (arith, nat_tests, h.row, h.low, h.high)

isnt_done : (x y u v : ℕ) → (v ≢ y) ⊎ ((u < x) ⊎ (x + 4 ≤ u)) → in_box x (x + 4) y (y + 1) u v ≡ false
isnt_done x y u v (inl ne) = plain
  where
    plain : ((nat_le x u && nat_lt u (x + 4)) && (nat_le y v && nat_lt v (y + 1))) ≡ false
    plain = grind (arith, nat_tests, ne)
isnt_done x y u v (inr (inl less)) = plain
  where
    plain : ((nat_le x u && nat_lt u (x + 4)) && (nat_le y v && nat_lt v (y + 1))) ≡ false
    plain = grind (arith, nat_tests, less)
isnt_done x y u v (inr (inr more)) = plain
  where
    plain : ((nat_le x u && nat_lt u (x + 4)) && (nat_le y v && nat_lt v (y + 1))) ≡ false
    plain = grind (arith, nat_tests, more)

module _ (s : Stroke) (old new : Block) (quad row x y : ℕ) (change : ℕ → Pixel → Pixel)
    (x_is : old.rect.left + 4 * quad ≡ x) (y_is : old.rect.top + row ≡ y) (stored : QuadStored old new quad row change)
    (lanes : (j : ℕ) → j < 4 → IsIn old.rect (x + j) y → (p : Pixel) → change j p ≡ stroked s (x + j) y p) where
  new_x : new.rect.left + 4 * quad ≡ x
  new_x = ap (λ (r : PixelRect). r.left + 4 * quad) stored.rect ∙ x_is

  new_y : new.rect.top + row ≡ y
  new_y = ap (λ (r : PixelRect). r.top + row) stored.rect ∙ y_is

  in_lane : (j : ℕ) → j < 4 → IsIn old.rect (x + j) y → pixel_at new (x + j) y ≡ stroked s (x + j) y (pixel_at old (x + j) y)
  in_lane j h is =
      sym (λ i. pixel_at new (new_x i + j) (new_y i)) ∙ stored.here j h
      ∙ ap (change j) (λ i. pixel_at old (x_is i + j) (y_is i))
      ∙ lanes j h is (pixel_at old (x + j) y)

  here : (u v : ℕ) → IsIn old.rect u v → InQuad x y u v → pixel_at new u v ≡ step s (in_box x (x + 4) y (y + 1) u v) u v (pixel_at old u v)
  here u v is at =
      let low = at.low in
      let high = at.high in
      let j_is : x + (u - x) ≡ u = omega arith in
      let v_is : y ≡ v = sym at.row in
      let P : ℕ → ℕ → Type 0 = λ a b. IsIn old.rect a b → pixel_at new a b ≡ stroked s a b (pixel_at old a b) in
      let lane : P u v = subst (λ b. P u b) v_is (subst (λ a. P a y) j_is (in_lane (u - x) (omega arith))) in
      lane is ∙ ap (λ b. step s b u v (pixel_at old u v)) (sym (is_done x y u v at))

  away : (u v : ℕ) → IsIn old.rect u v → (v ≢ y) ⊎ ((u < x) ⊎ (x + 4 ≤ u)) → pixel_at new u v ≡ step s (in_box x (x + 4) y (y + 1) u v) u v (pixel_at old u v)
  away u v is ne =
      let Beside : ℕ → ℕ → Type 0 = λ a b. (v ≢ b) ⊎ ((u < a) ⊎ (a + 4 ≤ u)) in
      stored.elsewhere u v is (subst (λ a. Beside a (old.rect.top + row)) (sym x_is) (subst (λ b. Beside x b) (sym y_is) ne))
      ∙ ap (λ b. step s b u v (pixel_at old u v)) (sym (isnt_done x y u v ne))

  pub one_quad : Drew s old new (in_box x (x + 4) y (y + 1))
  one_quad = record {
    rect = stored.rect;
    pixels = λ u v is. ⊎_elim (here u v is) (away u v is) (quad_or_not x y u v);
  }

-- ---- the lanes that are left, and their depths

second : (a b : Bool) → (a && b) ≡ true → b ≡ true
second true b e = e
second false b e = absurd cc

first : (a b : Bool) → (a && b) ≡ true → a ≡ true
first true b e = refl
first false b e = absurd cc

module _ (t : TileTriangle) (r : PixelRect) (over : IsQuads t r) (quad y : ℕ) (top : t.clip.top ≤ y) (bottom : y < t.clip.bottom) where
  abbrev s : Stroke
  s = stroke_of t

  abbrev x : ℕ
  x = r.left + 4 * quad

  abbrev at : EdgePlace
  at = edges_at t r quad y

  decides : Decides t.mask at t.clip.left t.clip.right
  decides =
      row_decides t.plane.now t.mask r t.clip at x y over.named over.within over.tile (record { left = omega arith; top = over.within.top }) refl top bottom

  rows : (u : ℕ) → (nat_le t.clip.left u && nat_lt u t.clip.right) ≡ is_in_rect t.clip u y
  rows u = plain
    where
      plain : (nat_le t.clip.left u && nat_lt u t.clip.right) ≡ (nat_le t.clip.left u && (nat_lt u t.clip.right && (nat_le t.clip.top y && nat_lt y t.clip.bottom)))
      plain = grind (arith, nat_tests)

  in_rect : (u : ℕ) → is_in_rect t.clip u y ≡ true → IsIn r u y
  in_rect u e = plain e
    where
      plain : (nat_le t.clip.left u && (nat_lt u t.clip.right && (nat_le t.clip.top y && nat_lt y t.clip.bottom))) ≡ true → IsIn r u y
      plain f = record { left = grind (arith, nat_tests, over.within.left); right = grind (arith, nat_tests, over.within.right); top = grind (arith, nat_tests, over.within.top); bottom = grind (arith, nat_tests, over.within.bottom) }

  module _ (marks within cover : List ℕ) (tells : (j : ℕ) → j < 4 → IsNearBegin at j → slice_index marks j ≡ (if covers at.triangle (centre (at.x + j) at.y) then 1 else 0))
      (w_is : (j : ℕ) → j < 4 → slice_index within j ≡ (if nat_le t.clip.left (x + j) && nat_lt (x + j) t.clip.right then 1 else 0))
      (c_is : (j : ℕ) → j < 4 → slice_index cover j ≡ (if slice_index within j == 1 then slice_index marks j else 0)) where
    pub quad_reached : (j : ℕ) → j < 4 → picked cover j ≡ reached s (x + j) y
    quad_reached j h =
        picked_both (slice_index cover j) (slice_index within j) (slice_index marks j) (nat_le t.clip.left (x + j) && nat_lt (x + j) t.clip.right) (passes_edges t.mask t.plane.now.triangle (centre (x + j) y)) (c_is j h) (w_is j h)
        (λ is. tells j h (near_begin t.mask at t.clip.left t.clip.right decides x j refl is) ∙ ap (λ b. if b then 1 else 0) (decided t.mask at t.clip.left t.clip.right decides x j refl is))
        ∙ ap (λ b. b && passes_edges t.mask t.plane.now.triangle (centre (x + j) y)) (rows (x + j))

  module _ (cover depths : List ℕ) (covered : (j : ℕ) → j < 4 → picked cover j ≡ reached s (x + j) y)
      (deep : (j : ℕ) → j < 4 → IsNearStart (walk_at t r quad y) j → IsTrue (covers t.plane.now.triangle (centre (x + j) y)) → slice_index depths j ≡ depth_of t.plane.now (x + j) y) where
    depth_is : (j : ℕ) → j < 4 → reached s (x + j) y ≡ true → slice_index depths j ≡ depth_there s (x + j) y
    depth_is j h reach =
        let is = in_rect (x + j) (first _ _ reach) in
        let right = is.right in
        let below = is.bottom in
        let wide = over.tile.right in
        let high = over.tile.bottom in
        let above = over.within.top in
        let begun = over.begun in
        deep j h (record { column = omega (arith, right, wide); row = omega (arith, below, high, above) }) (over.named.covered (x + j) y is (second _ _ reach))

    pub quad_drawn : (j : ℕ) → j < 4 → (p : Pixel) → drawn_quad s.brush cover depths j p ≡ stroked s (x + j) y p
    quad_drawn j h p = ap (λ b. if b then drawn_by s.brush (slice_index depths j) p else p) (covered j h) ∙ by (reached s (x + j) y) refl
      where
        by : (b : Bool) → reached s (x + j) y ≡ b → (if b then drawn_by s.brush (slice_index depths j) p else p) ≡ (if b then drawn_by s.brush (depth_there s (x + j) y) p else p)
        by true e = ap (λ z. drawn_by s.brush z p) (depth_is j h e)
        by false e = refl

    pub quad_counted : (j one : ℕ) (p q : Pixel) → j < 4 → one ≡ one_if (picked cover j && (tested_by s.brush (slice_index depths j) p.ds).passed) → p ≡ q → one ≡ one_if (stroke_passes s (x + j) y q)
    quad_counted j one p q h e same =
        e ∙ (λ i. one_if (covered j h i && (tested_by s.brush (slice_index depths j) (same i).ds).passed)) ∙ by (reached s (x + j) y) refl
      where
        by : (b : Bool) → reached s (x + j) y ≡ b → one_if (b && (tested_by s.brush (slice_index depths j) q.ds).passed) ≡ one_if (b && (tested_by s.brush (depth_there s (x + j) y) q.ds).passed)
        by true e = ap (λ z. one_if (tested_by s.brush z q.ds).passed) (depth_is j h e)
        by false e = refl

-- ---- counts

pub four_sum : (f : ℕ → ℕ) → sum_below 4 f ≡ f 0 + f 1 + f 2 + f 3
four_sum f = omega arith

pub counts_more : (a0 a1 a2 a3 b0 b1 b2 b3 c0 c1 c2 c3 was more now : ℕ) → a0 + a1 + a2 + a3 ≡ was → b0 + b1 + b2 + b3 ≡ more → c0 ≡ a0 + b0 → c1 ≡ a1 + b1 → c2 ≡ a2 + b2 → c3 ≡ a3 + b3 → was + more ≡ now → c0 + c1 + c2 + c3 ≡ now
counts_more a0 a1 a2 a3 b0 b1 b2 b3 c0 c1 c2 c3 was more now p q e0 e1 e2 e3 z = omega (arith, p, q, e0, e1, e2, e3, z)
