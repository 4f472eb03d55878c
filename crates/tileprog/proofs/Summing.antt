-- Sums over columns, rows and rectangles.
use Rattle.std.proofs.Common.{◌≡◌, ◌∙◌, ap, sym, refl, arith, ℕ, zero, suc, ◌+◌, ◌-◌, ◌*◌, ◌<◌, ◌≤◌, Bool, true, false, ◌&&◌, nat_lt}
use Rattle.std.specs.Prelude.{nat_le, if◌then◌else◌}
use Rattle.std.proofs.lemmas.Bool.Decides.{nat_tests}
use Rattle.gfxspec.specs.declared.geometry.PixelRect.{PixelRect}
use Rattle.gfxspec.specs.Items.{sum_below, is_in_rect}
use Rattle.gfxspec.specs.Tiles.{IsIn}
use Rattle.tileblock.specs.Block.{Block, pixel_at}
use Rattle.tileprog.specs.Counting.{one_if, eight, column_sum, stroke_count}
use Rattle.meaning.specs.Over.{sum_over}
use Rattle.tileprog.specs.Sums.{box_sum}
use Rattle.tileprog.specs.Strokes.{Stroke, Drew, IsWithin, stroked, stroke_passes}
use Rattle.tileprog.specs.Within.{in_box}
use Rattle.tileprog.proofs.Ones.{same_sums, sum_more, eight_same}

plus_same : (a b c d : ℕ) → a ≡ c → b ≡ d → a + b ≡ c + d
plus_same a b c d p q = omega arith

-- a sum of sums is the sum of both
pub sum_plus : (n : ℕ) (f g : ℕ → ℕ) → sum_below n (λ k. f k + g k) ≡ sum_below n f + sum_below n g
sum_plus zero f g = refl
sum_plus (suc n) f g = let before = sum_plus n f g in mixed _ _ _ _ _ before
  where
    mixed : (s a b x y : ℕ) → s ≡ a + b → s + (x + y) ≡ (a + x) + (b + y)
    mixed s a b x y h = omega arith

pub sum_zero : (n : ℕ) → sum_below n (λ k. 0) ≡ 0
sum_zero zero = refl
sum_zero (suc n) = let before = sum_zero n in omega arith

-- the order of two sums
pub swapped : (n m : ℕ) (g : ℕ → ℕ → ℕ) → sum_below n (λ k. sum_below m (λ i. g k i)) ≡ sum_below m (λ i. sum_below n (λ k. g k i))
swapped zero m g = sym (sum_zero m)
swapped (suc n) m g =
    plus_same _ _ _ _ (swapped n m g) refl ∙ sym (sum_plus m (λ i. sum_below n (λ k. g k i)) (λ i. g n i))

-- a sum in two parts
pub sum_split : (m n : ℕ) (f : ℕ → ℕ) → sum_below (m + n) f ≡ sum_below m f + sum_below n (λ k. f (m + k))
sum_split m zero f = ap (λ k. sum_below k f) none ∙ plain (sum_below m f)
  where
    none : m + 0 ≡ m
    none = omega arith

    plain : (a : ℕ) → a ≡ a + 0
    plain a = omega arith
sum_split m (suc n) f = ap (λ k. sum_below k f) more ∙ assoc _ _ _ _ (sum_split m n f)
  where
    more : m + suc n ≡ suc (m + n)
    more = omega arith

    assoc : (a b d e : ℕ) → a ≡ b + d → a + e ≡ b + (d + e)
    assoc a b d e h = omega arith

-- sums of eight
pub eights : (n : ℕ) (h : ℕ → ℕ) → sum_below n (λ k. eight (λ j. h (8 * k + j))) ≡ sum_below (8 * n) h
unfolding eight
eights zero h = refl
eights (suc n) h =
    plus_same _ _ _ _ (eights n h) refl ∙ sym (ap (λ k. sum_below k h) more ∙ sum_split (8 * n) 8 h)
  where
    more : 8 * suc n ≡ 8 * n + 8
    more = omega arith

-- a sum whose first p and last r terms are 0
pub sum_within : (p q r : ℕ) (f : ℕ → ℕ) → ((k : ℕ) → k < p → f k ≡ 0) → ((k : ℕ) → p + q ≤ k → f k ≡ 0) → sum_below (p + q + r) f ≡ sum_below q (λ k. f (p + k))
sum_within p q r f before after =
    sum_split (p + q) r f
    ∙ plus_same _ _ _ _ (sum_split p q f ∙ plus_same _ _ _ _ (same_sums p f (λ k. 0) before ∙ sum_zero p) refl)
    (same_sums r (λ k. f (p + q + k)) (λ k. 0) (λ k l. after (p + q + k) (omega arith)) ∙ sum_zero r)
    ∙ plain (sum_below q (λ k. f (p + k)))
  where
    plain : (a : ℕ) → 0 + a + 0 ≡ a
    plain a = omega arith

-- columns of spans are a box
pub columns_box : (n left top rows : ℕ) (f : ℕ → ℕ → ℕ) → sum_below n (λ k. column_sum (left + 8 * k) top rows f) ≡ box_sum left (8 * n) top rows f
columns_box n left top rows f =
    swapped n rows (λ k i. eight (λ j. f (left + 8 * k + j) (top + i)))
    ∙ same_sums rows _ _ (λ i l.
    same_sums n _ _ (λ k m. eight_same _ _ (λ j h. ap (λ u. f u (top + i)) (assoc left (8 * k) j)))
    ∙ eights n (λ j. f (left + j) (top + i)))
  where
    assoc : (a b d : ℕ) → a + b + d ≡ a + (b + d)
    assoc a b d = omega arith

-- a row of a box whose values lie in fewer columns
pub narrower : (a w c d : ℕ) (f : ℕ → ℕ) → a ≤ c → c ≤ d → d ≤ a + w → ((u : ℕ) → u < c → f u ≡ 0) → ((u : ℕ) → d ≤ u → f u ≡ 0) → sum_below w (λ j. f (a + j)) ≡ sum_below (d - c) (λ j. f (c + j))
narrower a w c d f low mid high before after =
    ap (λ n. sum_below n (λ j. f (a + j))) parts
    ∙ sum_within (c - a) (d - c) (a + w - d) (λ j. f (a + j)) (λ k l. before (a + k) (omega arith)) (λ k l. after (a + k) (omega arith))
    ∙ same_sums (d - c) _ _ (λ k l. ap f (shift k))
  where
    parts : w ≡ (c - a) + (d - c) + (a + w - d)
    parts = omega arith

    shift : (k : ℕ) → a + (c - a + k) ≡ c + k
    shift k = omega arith

-- a box that has all that counts in a rectangle has its sum
pub box_is : (left columns : ℕ) (clip r : PixelRect) (f : ℕ → ℕ → ℕ) → left ≤ clip.left → clip.right ≤ left + columns → IsWithin clip r → ((u v : ℕ) → is_in_rect clip u v ≡ false → f u v ≡ 0) → box_sum left columns clip.top (clip.bottom - clip.top) f ≡ sum_over r f
box_is left columns clip r f low high w none =
    same_sums (clip.bottom - clip.top) _ _ (λ i l. narrower left columns clip.left clip.right (λ u. f u (clip.top + i)) low (omega (arith, w.wide)) high (λ u h. none u _ (left_of u _ h)) (λ u h. none u _ (right_of u _ h)))
    ∙ sym (narrower r.top (r.bottom - r.top) clip.top clip.bottom (λ v. sum_below (clip.right - clip.left) (λ j. f (clip.left + j) v)) w.top (omega (arith, w.high)) (omega (arith, w.top, w.high, w.bottom))
    (λ v h. same_sums (clip.right - clip.left) _ (λ j. 0) (λ j l. none (clip.left + j) v (above _ v h)) ∙ sum_zero (clip.right - clip.left))
    (λ v h. same_sums (clip.right - clip.left) _ (λ j. 0) (λ j l. none (clip.left + j) v (below _ v h)) ∙ sum_zero (clip.right - clip.left)))
    ∙ sym (same_sums (r.bottom - r.top) _ _ (λ i l. narrower r.left (r.right - r.left) clip.left clip.right (λ u. f u (r.top + i)) w.left (omega (arith, w.wide)) (omega (arith, w.left, w.wide, w.right)) (λ u h. none u _ (left_of u _ h)) (λ u h. none u _ (right_of u _ h))))
  where
    left_of : (u v : ℕ) → u < clip.left → (nat_le clip.left u && (nat_lt u clip.right && (nat_le clip.top v && nat_lt v clip.bottom))) ≡ false
    left_of u v h = grind (arith, nat_tests)

    right_of : (u v : ℕ) → clip.right ≤ u → (nat_le clip.left u && (nat_lt u clip.right && (nat_le clip.top v && nat_lt v clip.bottom))) ≡ false
    right_of u v h = grind (arith, nat_tests)

    above : (u v : ℕ) → v < clip.top → (nat_le clip.left u && (nat_lt u clip.right && (nat_le clip.top v && nat_lt v clip.bottom))) ≡ false
    above u v h = grind (arith, nat_tests)

    below : (u v : ℕ) → clip.bottom ≤ v → (nat_le clip.left u && (nat_lt u clip.right && (nat_le clip.top v && nat_lt v clip.bottom))) ≡ false
    below u v h = grind (arith, nat_tests)

-- ---- a stroke's counts

pub none_outside : (s : Stroke) (old : Block) (u v : ℕ) → is_in_rect s.clip u v ≡ false → stroke_count s old u v ≡ 0
none_outside s old u v e = simp (e)

clip_inside : (clip r : PixelRect) (u v : ℕ) → IsWithin clip r → is_in_rect clip u v ≡ true → IsIn r u v
clip_inside clip r u v w e = plain e
  where
    plain : (nat_le clip.left u && (nat_lt u clip.right && (nat_le clip.top v && nat_lt v clip.bottom))) ≡ true → IsIn r u v
    plain f = record { left = grind (arith, nat_tests, w.left); right = grind (arith, nat_tests, w.right); top = grind (arith, nat_tests, w.top); bottom = grind (arith, nat_tests, w.bottom) }

-- a pixel that isn't drawn yet counts what it counted at first
pub pixel_waits : (s : Stroke) (old mid : Block) (done : ℕ → ℕ → Bool) → IsWithin s.clip old.rect → Drew s old mid done → (u v : ℕ) → done u v ≡ false → stroke_count s mid u v ≡ stroke_count s old u v
pixel_waits s old mid done w was u v waits = by (is_in_rect s.clip u v) refl
  where
    by : (b : Bool) → is_in_rect s.clip u v ≡ b → stroke_count s mid u v ≡ stroke_count s old u v
    by true e =
        let same = was.pixels u v (clip_inside s.clip old.rect u v w e) ∙ ap (λ b. if b then stroked s u v (pixel_at old u v) else pixel_at old u v) waits in
        ap (λ p. one_if (stroke_passes s u v p)) same
    by false e = none_outside s mid u v e ∙ sym (none_outside s old u v e)

undrawn : (left x top bottom u v : ℕ) → x ≤ u → ((nat_le left u && nat_lt u x) && (nat_le top v && nat_lt v bottom)) ≡ false
undrawn left x top bottom u v far = grind (arith, nat_tests)

-- a column that isn't drawn yet counts what it counted at first
pub count_waits : (s : Stroke) (old mid : Block) (left x top bottom : ℕ) → IsWithin s.clip old.rect → Drew s old mid (in_box left x top bottom) → (u v : ℕ) → x ≤ u → stroke_count s mid u v ≡ stroke_count s old u v
count_waits s old mid left x top bottom w was u v far = pixel_waits s old mid (in_box left x top bottom) w was u v (undrawn left x top bottom u v far)

waiting : (n x top y u : ℕ) → ((nat_le x u && nat_lt u (x + n)) && (nat_le top y && nat_lt y y)) ≡ false
waiting n x top y u = grind (arith, nat_tests)

-- so does a pixel of a row that isn't
pub lane_waits : (n : ℕ) (s : Stroke) (old mid : Block) (x top y : ℕ) → IsWithin s.clip old.rect → Drew s old mid (in_box x (x + n) top y) → (u : ℕ) → stroke_count s mid u y ≡ stroke_count s old u y
lane_waits n s old mid x top y w was u = pixel_waits s old mid (in_box x (x + n) top y) w was u y (waiting n x top y u)

pub row_waits : (s : Stroke) (old mid : Block) (x top y : ℕ) → IsWithin s.clip old.rect → Drew s old mid (in_box x (x + 8) top y) → eight (λ j. stroke_count s mid (x + j) y) ≡ eight (λ j. stroke_count s old (x + j) y)
row_waits s old mid x top y w was = eight_same _ _ (λ j h. lane_waits 8 s old mid x top y w was (x + j))

pub column_waits : (s : Stroke) (old mid : Block) (left x top bottom n : ℕ) → IsWithin s.clip old.rect → Drew s old mid (in_box left x top bottom) → column_sum x top n (stroke_count s mid) ≡ column_sum x top n (stroke_count s old)
column_waits s old mid left x top bottom n w was =
    same_sums n _ _ (λ i l. eight_same _ _ (λ j h. count_waits s old mid left x top bottom w was (x + j) (top + i) (omega arith)))

-- one column more
pub column_counted : (n m start x passed more : ℕ) (g : ℕ → ℕ) → passed ≡ sum_below n (λ k. g (start + 8 * k)) → more ≡ g x → start + 8 * n ≡ x → m ≡ n + 1 → passed + more ≡ sum_below m (λ k. g (start + 8 * k))
column_counted n m start x passed more g was is at e =
    plus_same _ _ _ _ was (is ∙ ap g (sym at)) ∙ sym (sum_more n (λ k. g (start + 8 * k))) ∙ ap (λ v. sum_below v (λ k. g (start + 8 * k))) (sym e)

pub none_counted : (n start : ℕ) (g : ℕ → ℕ) → n ≡ 0 → 0 ≡ sum_below n (λ k. g (start + 8 * k))
none_counted n start g e = sym (ap (λ v. sum_below v (λ k. g (start + 8 * k))) e)

-- all columns
pub all_counted : (s : Stroke) (old : Block) (n start passed : ℕ) → passed ≡ sum_below n (λ k. column_sum (start + 8 * k) s.clip.top (s.clip.bottom - s.clip.top) (stroke_count s old)) → start ≤ s.clip.left → s.clip.right ≤ start + 8 * n → IsWithin s.clip old.rect → passed ≡ sum_over old.rect (stroke_count s old)
all_counted s old n start passed was low high w =
    was ∙ columns_box n start s.clip.top (s.clip.bottom - s.clip.top) (stroke_count s old)
    ∙ box_is start (8 * n) s.clip old.rect (stroke_count s old) low high w (none_outside s old)

-- ---- boxes side by side

-- a box of so many columns, and one to its right
pub box_wider : (x n m top rows : ℕ) (f : ℕ → ℕ → ℕ) → box_sum x n top rows f + box_sum (x + n) m top rows f ≡ box_sum x (n + m) top rows f
box_wider x n m top rows f =
    sym (sum_plus rows (λ i. sum_below n (λ j. f (x + j) (top + i))) (λ i. sum_below m (λ j. f (x + n + j) (top + i))))
    ∙ same_sums rows _ _ (λ i l. plus_same _ _ _ _ refl (same_sums m _ _ (λ j k. ap (λ u. f u (top + i)) (assoc x n j))) ∙ sym (sum_split n m (λ j. f (x + j) (top + i))))
  where
    assoc : (a b d : ℕ) → a + b + d ≡ a + (b + d)
    assoc a b d = omega arith

pub box_none : (x n top rows : ℕ) (f : ℕ → ℕ → ℕ) → n ≡ 0 → 0 ≡ box_sum x n top rows f
box_none x n top rows f e = sym (sum_zero rows) ∙ ap (λ k. box_sum x k top rows f) (sym e)

-- one row more
pub box_lower : (x n top rows : ℕ) (f : ℕ → ℕ → ℕ) → box_sum x n top rows f + sum_below n (λ j. f (x + j) (top + rows)) ≡ box_sum x n top (rows + 1) f
box_lower x n top rows f = sym (sum_more rows (λ i. sum_below n (λ j. f (x + j) (top + i))))

-- a box that isn't drawn yet counts what it counted at first
pub box_waits : (s : Stroke) (old mid : Block) (left x top bottom n rows : ℕ) → IsWithin s.clip old.rect → Drew s old mid (in_box left x top bottom) → box_sum x n top rows (stroke_count s mid) ≡ box_sum x n top rows (stroke_count s old)
box_waits s old mid left x top bottom n rows w was =
    same_sums rows _ _ (λ i l. same_sums n _ _ (λ j h. count_waits s old mid left x top bottom w was (x + j) (top + i) (omega arith)))

-- ---- sums over a rectangle

pub sum_over_same : (r : PixelRect) (f g : ℕ → ℕ → ℕ) → ((u v : ℕ) → IsIn r u v → f u v ≡ g u v) → sum_over r f ≡ sum_over r g
sum_over_same r f g h =
    same_sums (r.bottom - r.top) _ _ (λ i a. same_sums (r.right - r.left) _ _ (λ j b.
    h (r.left + j) (r.top + i) (record { left = omega arith; right = omega arith; top = omega arith; bottom = omega arith })))

pub sum_over_none : (r : PixelRect) (f : ℕ → ℕ → ℕ) → ((u v : ℕ) → IsIn r u v → f u v ≡ 0) → sum_over r f ≡ 0
sum_over_none r f h =
    same_sums (r.bottom - r.top) _ (λ i. 0) (λ i a. same_sums (r.right - r.left) _ (λ j. 0) (λ j b.
    h (r.left + j) (r.top + i) (record { left = omega arith; right = omega arith; top = omega arith; bottom = omega arith })) ∙ sum_zero (r.right - r.left)) ∙ sum_zero (r.bottom - r.top)
