-- A column of spans, row by row.
use Rattle.std.proofs.Common.{◌≡◌, ◌∙◌, ap, sym, subst, refl, arith, ℕ, zero, suc, ◌+◌, ◌-◌, ◌*◌, ◌<◌, ◌≤◌}
use Rattle.gfxspec.specs.declared.geometry.PixelRect.{PixelRect}
use Rattle.gfxspec.specs.Items.{sum_below}
use Rattle.depthplane.specs.Height.{DeepTriangle}
use Rattle.tileblock.specs.Block.{Block}
use Rattle.tileprog.specs.Columns.{RowDrew, RowsDrew, ColumnDrew, SoFar, Continues}
use Rattle.tileprog.specs.Counting.{column_sum, stroke_count}
use Rattle.tileprog.specs.Strokes.{Stroke, Drew, IsWithin}
use Rattle.tileprog.specs.Within.{in_box}
use Rattle.tileprog.proofs.Ones.{row_counted}
use Rattle.tileprog.proofs.Stroking.{one_row, rows_from, rows_to, one_column, columns_to}
use Rattle.tileprog.proofs.Summing.{row_waits, column_waits, column_counted}

pub no_row : (s : Stroke) (old : Block) (x y : ℕ) → y ≡ s.clip.top → SoFar s old old x y 0
no_row s old x y e =
    let none : 0 ≡ y - s.clip.top = omega arith in
    record { drew = rows_from 8 s old x s.clip.top y e; count = ap (λ k. column_sum x s.clip.top k (stroke_count s old)) none }

pub row_more : (s : Stroke) (plane : DeepTriangle) (old mid new : Block) (x y z at n m : ℕ) → IsWithin s.clip old.rect → s.clip.top ≤ y → SoFar s old mid x y n → RowDrew (record s { plane = plane }) mid new x at m → plane ≡ s.plane → at ≡ y → z ≡ y + 1 → SoFar s old new x z (n + m)
row_more s plane old mid new x y z at n m within below was drawn d same e =
    let P : DeepTriangle → ℕ → Type 0 = λ p v. RowDrew (record s { plane = p }) mid new x v m in
    let row : RowDrew s mid new x y m = subst (λ v. P s.plane v) same (subst (λ p. P p at) d drawn) in
    record {
      drew = rows_to 8 s old new x s.clip.top (y + 1) z (sym e) (one_row 8 s old mid new x s.clip.top y below was.drew row.drew);
      count = row_counted x s.clip.top (y - s.clip.top) y n m (stroke_count s old) (omega arith) was.count (row.count ∙ row_waits s old mid x s.clip.top y within was.drew) (z - s.clip.top) (omega arith);
    }

pub all_rows : (s : Stroke) (old new : Block) (x y n : ℕ) → y ≡ s.clip.bottom → SoFar s old new x y n → n ≤ 256 → ColumnDrew s old new x n
all_rows s old new x y n e was few =
    record {
      drew = rows_to 8 s old new x s.clip.top y s.clip.bottom e was.drew;
      count = was.count ∙ ap (λ v. column_sum x s.clip.top (v - s.clip.top) (stroke_count s old)) e;
      few = few;
    }

-- ---- rows behind any that were drawn above

plus_none : (n : ℕ) → n ≡ n + 0
plus_none n = omega arith

plus_both : (a n m : ℕ) → a + n + m ≡ a + (n + m)
plus_both a n m = omega arith

pub none_yet : (s : Stroke) (b : Block) (x y : ℕ) → Continues s b b x y y 0
none_yet s b x y = record {
  rect = refl;
  order = omega arith;
  few = omega arith;
  so_far = λ old before h. subst (λ n. SoFar s old b x y n) (plus_none before) h;
}

pub row_behind : (s : Stroke) (plane : DeepTriangle) (start mid new : Block) (x y z w at n m : ℕ) → IsWithin s.clip start.rect → s.clip.top ≤ z → Continues s start mid x y z n → RowDrew (record s { plane = plane }) mid new x at m → plane ≡ s.plane → at ≡ z → w ≡ z + 1 → Continues s start new x y w (n + m)
row_behind s plane start mid new x y z w at n m within below was drawn d same e =
    let o = was.order in
    let f = was.few in
    let g = drawn.few in
    record {
      rect = drawn.drew.rect ∙ was.rect;
      order = omega (arith, o, e);
      few = omega (arith, o, e, f, g);
      so_far = λ old before h.
          let inside : IsWithin s.clip old.rect = subst (λ r. IsWithin s.clip r) h.drew.rect within in
          subst (λ k. SoFar s old new x w k) (plus_both before n m)
          (row_more s plane old mid new x z w at (before + n) m inside below (was.so_far old before h) drawn d same e);
    }

-- two rows more
pub rows_drawn_behind : (s : Stroke) (start mid new : Block) (x y z w at n m : ℕ) → IsWithin s.clip start.rect → s.clip.top ≤ z → Continues s start mid x y z n → RowsDrew s mid new x at m → at ≡ z → w ≡ z + 2 → Continues s start new x y w (n + 2 * m)
rows_drawn_behind s start mid new x y z w at n m within below was drawn same e =
    let half = row_behind s s.plane start mid drawn.mid x y z (z + 1) at n m within below was drawn.first refl same refl in
    let twice : n + m + m ≡ n + 2 * m = omega arith in
    subst (λ k. Continues s start new x y w k) twice
    (row_behind s s.plane start drawn.mid new x y (z + 1) w (at + 1) (n + m) m within (omega (arith, below)) half drawn.second refl (ap (λ v. v + 1) same) (omega (arith, e)))

pub rows_behind : (s : Stroke) (start mid new : Block) (x y z a b w n m : ℕ) → Continues s start mid x y z n → Continues s mid new x a b m → a ≡ z → b ≡ w → Continues s start new x y w (n + m)
rows_behind s start mid new x y z a b w n m was more e f =
    let o = was.order in
    let p = more.order in
    let g = was.few in
    let h = more.few in
    record {
      rect = more.rect ∙ was.rect;
      order = omega (arith, o, p, e, f);
      few = omega (arith, o, p, e, f, g, h);
      so_far = λ old before k.
          subst (λ v. SoFar s old new x v (before + (n + m))) f
          (subst (λ q. SoFar s old new x b q) (plus_both before n m) (more.so_far old (before + n) (subst (λ v. SoFar s old mid x v (before + n)) (sym e) (was.so_far old before k))));
    }

-- the same in the words of another plane, and from and to other rows
pub rows_are : (s : Stroke) (plane : DeepTriangle) (old new : Block) (x a b y z n : ℕ) → Continues (record s { plane = plane }) old new x a b n → plane ≡ s.plane → a ≡ y → b ≡ z → Continues s old new x y z n
rows_are s plane old new x a b y z n h d e f =
    let P : DeepTriangle → ℕ → ℕ → Type 0 = λ p u v. Continues (record s { plane = p }) old new x u v n in
    subst (λ v. P s.plane y v) f (subst (λ u. P s.plane u b) e (subst (λ p. P p a b) d h))

-- rows of which nothing is reached
pub rows_missed : (s : Stroke) (b : Block) (x y n : ℕ) → IsWithin s.clip b.rect → s.clip.top ≤ y → ((v : ℕ) → y ≤ v → v < y + n → RowDrew s b b x v 0) → Continues s b b x y (y + n) 0
rows_missed s b x y zero within below h = subst (λ z. Continues s b b x y z 0) (plus_none y) (none_yet s b x y)
rows_missed s b x y (suc n) within below h =
    row_behind s s.plane b b b x y (y + n) (y + suc n) (y + n) 0 0 within (omega arith) (rows_missed s b x y n within below (λ v l m. h v l (omega arith))) (h (y + n) (omega arith) (omega arith)) refl refl (omega arith)

pub column_behind : (s : Stroke) (old new : Block) (x y z n : ℕ) → Continues s old new x y z n → y ≡ s.clip.top → z ≡ s.clip.bottom → s.clip.bottom ≤ s.clip.top + 32 → ColumnDrew s old new x n
column_behind s old new x y z n h e f most =
    let few = h.few in
    all_rows s old new x z n f (subst (λ k. SoFar s old new x z k) (none_plus n) (h.so_far old 0 (no_row s old x y e))) (omega (arith, few, e, f, most))
  where
    none_plus : (n : ℕ) → 0 + n ≡ n
    none_plus n = omega arith

-- a column in the words of the whole stroke
pub column_is : (s : Stroke) (mid new : Block) (plane : DeepTriangle) (mask : ℕ) (clip : PixelRect) (a x n : ℕ) → ColumnDrew (record s { plane = plane; mask = mask; clip = clip }) mid new a n → plane ≡ s.plane → mask ≡ s.mask → clip ≡ s.clip → a ≡ x → ColumnDrew s mid new x n
column_is s mid new plane mask clip a x n h d e f g =
    let P : DeepTriangle → ℕ → PixelRect → ℕ → Type 0 = λ p m c v. ColumnDrew (record s { plane = p; mask = m; clip = c }) mid new v n in
    subst (λ v. P s.plane s.mask s.clip v) g (subst (λ c. P s.plane s.mask c a) f (subst (λ m. P s.plane m clip a) e (subst (λ p. P p mask clip a) d h)))

-- one column more
pub column_more : (s : Stroke) (old mid new : Block) (left x z n m : ℕ) → IsWithin s.clip old.rect → left ≤ x → Drew s old mid (in_box left x s.clip.top s.clip.bottom) → ColumnDrew s mid new x m → z ≡ x + 8 → Drew s old new (in_box left z s.clip.top s.clip.bottom)
column_more s old mid new left x z n m within below was column e =
    columns_to s old new left (x + 8) z s.clip.top s.clip.bottom (sym e) (one_column 8 s old mid new left x s.clip.top s.clip.bottom below was column.drew)

pub column_adds : (s : Stroke) (old mid new : Block) (start x n k j m : ℕ) → IsWithin s.clip old.rect → Drew s old mid (in_box start x s.clip.top s.clip.bottom) → ColumnDrew s mid new x m
    → n ≡ sum_below k (λ i. column_sum (start + 8 * i) s.clip.top (s.clip.bottom - s.clip.top) (stroke_count s old)) → start + 8 * k ≡ x → j ≡ k + 1
    → n + m ≡ sum_below j (λ i. column_sum (start + 8 * i) s.clip.top (s.clip.bottom - s.clip.top) (stroke_count s old))
column_adds s old mid new start x n k j m within was column count at e =
    column_counted k j start x n m (λ u. column_sum u s.clip.top (s.clip.bottom - s.clip.top) (stroke_count s old)) count
    (column.count ∙ column_waits s old mid start x s.clip.top s.clip.bottom (s.clip.bottom - s.clip.top) within was) at e
