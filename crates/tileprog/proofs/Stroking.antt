-- A stroke over a block, span by span and column by column.
use Rattle.std.proofs.Common.{◌≡◌, ◌≢◌, ◌∙◌, ap, sym, subst, refl, ℕ, ◌+◌, ◌-◌, ◌*◌, ◌<◌, ◌≤◌, ◌⊎◌, inl, inr, ⊎_elim, arith, Bool, true, false, ◌&&◌, nat_lt}
use Rattle.std.specs.Prelude.{nat_le, if◌then◌else◌}
use Rattle.std.proofs.lemmas.Bool.Decides.{nat_tests}
use Rattle.gfxspec.specs.declared.pixel.Pixel.{Pixel}
use Rattle.gfxspec.specs.declared.geometry.PixelRect.{PixelRect}
use Rattle.gfxspec.specs.Items.{is_in_rect}
use Rattle.gfxspec.specs.Tiles.{IsIn}
use Rattle.tileblock.specs.Block.{Block, pixel_at}
use Rattle.tileblock.specs.SpanStored.{SpanStored}
use Rattle.depthplane.specs.Height.{DeepTriangle}
use Rattle.tileprog.specs.Strokes.{Stroke, Drew, Stroked, stroked}
use Rattle.tileprog.specs.Within.{in_box}

abbrev pub step : Stroke → Bool → ℕ → ℕ → Pixel → Pixel
step s b x y old = if b then stroked s x y old else old

pub same_done : (s : Stroke) (old new : Block) (d e : ℕ → ℕ → Bool) → ((u v : ℕ) → IsIn old.rect u v → d u v ≡ e u v) → Drew s old new d → Drew s old new e
same_done s old new d e same h = record {
  rect = h.rect;
  pixels = λ u v is. h.pixels u v is ∙ ap (λ b. step s b u v (pixel_at old u v)) (same u v is);
}

pub none_drawn : (s : Stroke) (old : Block) (d : ℕ → ℕ → Bool) → ((u v : ℕ) → IsIn old.rect u v → d u v ≡ false) → Drew s old old d
none_drawn s old d none = record {
  rect = refl;
  pixels = λ u v is. ap (λ b. step s b u v (pixel_at old u v)) (sym (none u v is));
}

-- ---- boxes

pub no_rows : (left right top u v : ℕ) → in_box left right top top u v ≡ false
no_rows left right top u v = plain
  where
    plain : ((nat_le left u && nat_lt u right) && (nat_le top v && nat_lt v top)) ≡ false
    plain = grind (arith, nat_tests)

pub no_columns : (left top bottom u v : ℕ) → in_box left left top bottom u v ≡ false
no_columns left top bottom u v = plain
  where
    plain : ((nat_le left u && nat_lt u left) && (nat_le top v && nat_lt v bottom)) ≡ false
    plain = grind (arith, nat_tests)

-- a pixel is in the next span of a box, or the box with that span has it where the box has
pub record InSpan (x y u v : ℕ) : Type 0 where
  pub low : x ≤ u
  pub high : u < x + 8
  pub row : v ≡ y

span_or_not : (x y u v : ℕ) → InSpan x y u v ⊎ ((v ≢ y) ⊎ ((u < x) ⊎ (x + 8 ≤ u)))
span_or_not x y u v = by (cases v y) (less u x) (less u (x + 8))
  where
    cases : (m n : ℕ) → (m ≡ n) ⊎ (m ≢ n)
    cases m n = grind arith

    less : (m n : ℕ) → (m < n) ⊎ (n ≤ m)
    less m n = grind arith

    by : (v ≡ y) ⊎ (v ≢ y) → (u < x) ⊎ (x ≤ u) → (u < x + 8) ⊎ (x + 8 ≤ u) → InSpan x y u v ⊎ ((v ≢ y) ⊎ ((u < x) ⊎ (x + 8 ≤ u)))
    by (inr n) b c = inr (inl n)
    by (inl e) (inl b) c = inr (inr (inl b))
    by (inl e) (inr b) (inr c) = inr (inr (inr c))
    by (inl e) (inr b) (inl c) = inl (record { low = b; high = c; row = e })

waits : (x top y u v : ℕ) → InSpan x y u v → in_box x (x + 8) top y u v ≡ false
waits x top y u v h = let row = h.row in plain
  where
    plain : ((nat_le x u && nat_lt u (x + 8)) && (nat_le top v && nat_lt v y)) ≡ false
    plain = grind (arith, nat_tests, h.row)

is_done : (x top y u v : ℕ) → top ≤ y → InSpan x y u v → in_box x (x + 8) top (y + 1) u v ≡ true
is_done x top y u v below h = plain
  where
    plain : ((nat_le x u && nat_lt u (x + 8)) && (nat_le top v && nat_lt v (y + 1))) ≡ true
    plain = grind (arith, nat_tests, h.row, h.low, h.high)

others_stay : (x top y u v : ℕ) → (v ≢ y) ⊎ ((u < x) ⊎ (x + 8 ≤ u)) → in_box x (x + 8) top y u v ≡ in_box x (x + 8) top (y + 1) u v
others_stay x top y u v (inl ne) = plain
  where
    plain : ((nat_le x u && nat_lt u (x + 8)) && (nat_le top v && nat_lt v y)) ≡ ((nat_le x u && nat_lt u (x + 8)) && (nat_le top v && nat_lt v (y + 1)))
    plain = grind (arith, nat_tests, ne)
others_stay x top y u v (inr (inl less)) = plain
  where
    plain : ((nat_le x u && nat_lt u (x + 8)) && (nat_le top v && nat_lt v y)) ≡ ((nat_le x u && nat_lt u (x + 8)) && (nat_le top v && nat_lt v (y + 1)))
    plain = grind (arith, nat_tests, less)
others_stay x top y u v (inr (inr more)) = plain
  where
    plain : ((nat_le x u && nat_lt u (x + 8)) && (nat_le top v && nat_lt v y)) ≡ ((nat_le x u && nat_lt u (x + 8)) && (nat_le top v && nat_lt v (y + 1)))
    plain = grind (arith, nat_tests, more)

-- ---- one span more of a column

module _ (s : Stroke) (old mid new : Block) (span row x y top : ℕ) (change : ℕ → Pixel → Pixel)
    (x_is : old.rect.left + 8 * span ≡ x) (y_is : old.rect.top + row ≡ y) (below : top ≤ y)
    (was : Drew s old mid (in_box x (x + 8) top y)) (stored : SpanStored mid new span row change)
    (lanes : (j : ℕ) → j < 8 → IsIn old.rect (x + j) y → (p : Pixel) → change j p ≡ stroked s (x + j) y p) where
  mid_x : mid.rect.left + 8 * span ≡ x
  mid_x = ap (λ (r : PixelRect). r.left + 8 * span) was.rect ∙ x_is

  mid_y : mid.rect.top + row ≡ y
  mid_y = ap (λ (r : PixelRect). r.top + row) was.rect ∙ y_is

  new_x : new.rect.left + 8 * span ≡ x
  new_x = ap (λ (r : PixelRect). r.left + 8 * span) stored.rect ∙ mid_x

  new_y : new.rect.top + row ≡ y
  new_y = ap (λ (r : PixelRect). r.top + row) stored.rect ∙ mid_y

  in_lane : (j : ℕ) → j < 8 → IsIn old.rect (x + j) y → pixel_at new (x + j) y ≡ stroked s (x + j) y (pixel_at mid (x + j) y)
  in_lane j h is =
      sym (λ i. pixel_at new (new_x i + j) (new_y i)) ∙ stored.here j h
      ∙ ap (change j) (λ i. pixel_at mid (mid_x i + j) (mid_y i))
      ∙ lanes j h is (pixel_at mid (x + j) y)

  here : (u v : ℕ) → IsIn old.rect u v → InSpan x y u v → pixel_at new u v ≡ step s (in_box x (x + 8) top (y + 1) u v) u v (pixel_at old u v)
  here u v is at =
      let low = at.low in
      let high = at.high in
      let j_is : x + (u - x) ≡ u = omega arith in
      let v_is : y ≡ v = sym at.row in
      let P : ℕ → ℕ → Type 0 = λ a b. IsIn old.rect a b → pixel_at new a b ≡ stroked s a b (pixel_at mid a b) in
      let lane : P u v = subst (λ b. P u b) v_is (subst (λ a. P a y) j_is (in_lane (u - x) (omega arith))) in
      lane is ∙ ap (stroked s u v) (was.pixels u v is ∙ ap (λ b. step s b u v (pixel_at old u v)) (waits x top y u v at))
      ∙ ap (λ b. step s b u v (pixel_at old u v)) (sym (is_done x top y u v below at))

  away : (u v : ℕ) → IsIn old.rect u v → (v ≢ y) ⊎ ((u < x) ⊎ (x + 8 ≤ u)) → pixel_at new u v ≡ step s (in_box x (x + 8) top (y + 1) u v) u v (pixel_at old u v)
  away u v is ne =
      let In : PixelRect → Type 0 = λ r. IsIn r u v in
      let Beside : ℕ → ℕ → Type 0 = λ a b. (v ≢ b) ⊎ ((u < a) ⊎ (a + 8 ≤ u)) in
      stored.elsewhere u v (subst In (sym was.rect) is) (subst (λ a. Beside a (mid.rect.top + row)) (sym mid_x) (subst (λ b. Beside x b) (sym mid_y) ne))
      ∙ was.pixels u v is
      ∙ ap (λ b. step s b u v (pixel_at old u v)) (others_stay x top y u v ne)

  pub one_span : Drew s old new (in_box x (x + 8) top (y + 1))
  one_span = record {
    rect = stored.rect ∙ was.rect;
    pixels = λ u v is. ⊎_elim (here u v is) (away u v is) (span_or_not x y u v);
  }

-- ---- one column more

wider : (n left x top bottom u v : ℕ) → left ≤ x → (in_box left x top bottom u v ≡ true → in_box x (x + n) top bottom u v ≡ false)
wider n left x top bottom u v h = plain
  where
    plain : ((nat_le left u && nat_lt u x) && (nat_le top v && nat_lt v bottom)) ≡ true → ((nat_le x u && nat_lt u (x + n)) && (nat_le top v && nat_lt v bottom)) ≡ false
    plain e = grind (arith, nat_tests)

either : (n left x top bottom u v : ℕ) → left ≤ x → in_box left (x + n) top bottom u v ≡ (if in_box left x top bottom u v then true else in_box x (x + n) top bottom u v)
either n left x top bottom u v h = by (in_box left x top bottom u v) refl
  where
    done : ((nat_le left u && nat_lt u x) && (nat_le top v && nat_lt v bottom)) ≡ true → ((nat_le left u && nat_lt u (x + n)) && (nat_le top v && nat_lt v bottom)) ≡ true
    done e = grind (arith, nat_tests)

    left_over : ((nat_le left u && nat_lt u x) && (nat_le top v && nat_lt v bottom)) ≡ false → ((nat_le left u && nat_lt u (x + n)) && (nat_le top v && nat_lt v bottom)) ≡ ((nat_le x u && nat_lt u (x + n)) && (nat_le top v && nat_lt v bottom))
    left_over e = grind (arith, nat_tests)

    by : (b : Bool) → in_box left x top bottom u v ≡ b → in_box left (x + n) top bottom u v ≡ (if b then true else in_box x (x + n) top bottom u v)
    by true e = done e
    by false e = left_over e

-- ---- one row more

lower : (n x top y u v : ℕ) → top ≤ y → (in_box x (x + n) top y u v ≡ true → in_box x (x + n) y (y + 1) u v ≡ false)
lower n x top y u v h = plain
  where
    plain : ((nat_le x u && nat_lt u (x + n)) && (nat_le top v && nat_lt v y)) ≡ true → ((nat_le x u && nat_lt u (x + n)) && (nat_le y v && nat_lt v (y + 1))) ≡ false
    plain e = grind (arith, nat_tests)

either_row : (n x top y u v : ℕ) → top ≤ y → in_box x (x + n) top (y + 1) u v ≡ (if in_box x (x + n) top y u v then true else in_box x (x + n) y (y + 1) u v)
either_row n x top y u v h = by (in_box x (x + n) top y u v) refl
  where
    done : ((nat_le x u && nat_lt u (x + n)) && (nat_le top v && nat_lt v y)) ≡ true → ((nat_le x u && nat_lt u (x + n)) && (nat_le top v && nat_lt v (y + 1))) ≡ true
    done e = grind (arith, nat_tests)

    left_over : ((nat_le x u && nat_lt u (x + n)) && (nat_le top v && nat_lt v y)) ≡ false → ((nat_le x u && nat_lt u (x + n)) && (nat_le top v && nat_lt v (y + 1))) ≡ ((nat_le x u && nat_lt u (x + n)) && (nat_le y v && nat_lt v (y + 1)))
    left_over e = grind (arith, nat_tests)

    by : (b : Bool) → in_box x (x + n) top y u v ≡ b → in_box x (x + n) top (y + 1) u v ≡ (if b then true else in_box x (x + n) y (y + 1) u v)
    by true e = done e
    by false e = left_over e

-- two strokes, one on the pixels of a box and then one on those of another
both_boxes : (s : Stroke) (old mid new : Block) (d e f : ℕ → ℕ → Bool) → ((u v : ℕ) → d u v ≡ true → e u v ≡ false) → ((u v : ℕ) → f u v ≡ (if d u v then true else e u v)) → Drew s old mid d → Drew s mid new e → Drew s old new f
both_boxes s old mid new d e f apart joins was more = record {
  rect = more.rect ∙ was.rect;
  pixels = λ u v is.
      let In : PixelRect → Type 0 = λ r. IsIn r u v in
      more.pixels u v (subst In (sym was.rect) is)
      ∙ ap (step s (e u v) u v) (was.pixels u v is)
      ∙ by u v (d u v) refl
      ∙ ap (λ b. step s b u v (pixel_at old u v)) (sym (joins u v));
}
  where
    by : (u v : ℕ) (b : Bool) → d u v ≡ b → step s (e u v) u v (step s (d u v) u v (pixel_at old u v)) ≡ step s (if d u v then true else e u v) u v (pixel_at old u v)
    by u v true h =
        (λ i. step s (apart u v h i) u v (step s (h i) u v (pixel_at old u v)))
        ∙ ap (λ b. step s (if b then true else e u v) u v (pixel_at old u v)) (sym h)
    by u v false h =
        (λ i. step s (e u v) u v (step s (h i) u v (pixel_at old u v)))
        ∙ ap (λ b. step s (if b then true else e u v) u v (pixel_at old u v)) (sym h)

pub one_column : (n : ℕ) (s : Stroke) (old mid new : Block) (left x top bottom : ℕ) → left ≤ x → Drew s old mid (in_box left x top bottom) → Drew s mid new (in_box x (x + n) top bottom) → Drew s old new (in_box left (x + n) top bottom)
one_column n s old mid new left x top bottom h was more =
    both_boxes s old mid new (in_box left x top bottom) (in_box x (x + n) top bottom) (in_box left (x + n) top bottom) (λ u v. wider n left x top bottom u v h) (λ u v. either n left x top bottom u v h) was more

pub one_row : (n : ℕ) (s : Stroke) (old mid new : Block) (x top y : ℕ) → top ≤ y → Drew s old mid (in_box x (x + n) top y) → Drew s mid new (in_box x (x + n) y (y + 1)) → Drew s old new (in_box x (x + n) top (y + 1))
one_row n s old mid new x top y h was more =
    both_boxes s old mid new (in_box x (x + n) top y) (in_box x (x + n) y (y + 1)) (in_box x (x + n) top (y + 1)) (λ u v. lower n x top y u v h) (λ u v. either_row n x top y u v h) was more

-- ---- all columns

outside : (s : Stroke) (x y : ℕ) (old : Pixel) → is_in_rect s.clip x y ≡ false → stroked s x y old ≡ old
outside s x y old h = simp (h)

pub all_columns : (s : Stroke) (old new : Block) (left right : ℕ) → left ≤ s.clip.left → s.clip.right ≤ right → Drew s old new (in_box left right s.clip.top s.clip.bottom) → Stroked s old new
all_columns s old new left right low high h = record {
  rect = h.rect;
  pixels = λ u v is. h.pixels u v is ∙ by u v (is_in_rect s.clip u v) refl;
}
  where
    inside : (u v : ℕ) → is_in_rect s.clip u v ≡ true → in_box left right s.clip.top s.clip.bottom u v ≡ true
    inside u v = plain
      where
        plain : (nat_le s.clip.left u && (nat_lt u s.clip.right && (nat_le s.clip.top v && nat_lt v s.clip.bottom))) ≡ true → ((nat_le left u && nat_lt u right) && (nat_le s.clip.top v && nat_lt v s.clip.bottom)) ≡ true
        plain e = grind (arith, nat_tests)

    either_way : (b : Bool) (p q : Pixel) → p ≡ q → (if b then p else q) ≡ q
    either_way true p q e = e
    either_way false p q e = refl

    by : (u v : ℕ) (b : Bool) → is_in_rect s.clip u v ≡ b → step s (in_box left right s.clip.top s.clip.bottom u v) u v (pixel_at old u v) ≡ stroked s u v (pixel_at old u v)
    by u v true e = ap (λ b. step s b u v (pixel_at old u v)) (inside u v e)
    by u v false e = either_way (in_box left right s.clip.top s.clip.bottom u v) (stroked s u v (pixel_at old u v)) (pixel_at old u v) (outside s u v (pixel_at old u v) e) ∙ sym (outside s u v (pixel_at old u v) e)

-- a column before its first row, and behind its last
pub rows_from : (n : ℕ) (s : Stroke) (old : Block) (x top y : ℕ) → y ≡ top → Drew s old old (in_box x (x + n) top y)
rows_from n s old x top y e = none_drawn s old _ (λ u v is. ap (λ b. in_box x (x + n) top b u v) e ∙ no_rows x (x + n) top u v)

pub rows_to : (n : ℕ) (s : Stroke) (old new : Block) (x top y bottom : ℕ) → y ≡ bottom → Drew s old new (in_box x (x + n) top y) → Drew s old new (in_box x (x + n) top bottom)
rows_to n s old new x top y bottom e h = same_done s old new _ _ (λ u v is. ap (λ b. in_box x (x + n) top b u v) e) h

-- columns before the first
pub columns_from : (s : Stroke) (old : Block) (left top bottom : ℕ) → Drew s old old (in_box left left top bottom)
columns_from s old left top bottom = none_drawn s old _ (λ u v is. no_columns left top bottom u v)

pub columns_to : (s : Stroke) (old new : Block) (left x z top bottom : ℕ) → x ≡ z → Drew s old new (in_box left x top bottom) → Drew s old new (in_box left z top bottom)
columns_to s old new left x z top bottom e h = same_done s old new _ _ (λ u v is. ap (λ b. in_box left b top bottom u v) e) h

-- a column's clause, in the words of the whole
pub column_of : (s : Stroke) (mid new : Block) (a x : ℕ) (plane : DeepTriangle) → a ≡ x → plane ≡ s.plane → Drew (record s { plane = plane }) mid new (in_box a (a + 8) s.clip.top s.clip.bottom) → Drew s mid new (in_box x (x + 8) s.clip.top s.clip.bottom)
column_of s mid new a x plane e p h =
    let P : DeepTriangle → ℕ → Type 0 = λ d n. Drew (record s { plane = d }) mid new (in_box n (n + 8) s.clip.top s.clip.bottom) in
    subst (λ n. P s.plane n) e (subst (λ d. P d a) p h)
