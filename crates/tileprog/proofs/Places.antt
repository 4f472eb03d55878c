-- The pixels of a tile, span by span.
use Rattle.std.proofs.Common.{◌≡◌, ◌≢◌, ◌∙◌, ap, sym, subst, arith, ℕ, ◌+◌, ◌-◌, ◌*◌, ◌/◌, ◌%◌, ◌<◌, ◌≤◌, ◌⊎◌, inl, inr, ⊎_elim, Bool, true, false, nat_lt, List}
use Rattle.std.specs.Prelude.{slice_index, if◌then◌else◌}
use Rattle.std.proofs.lemmas.Bool.Decides.{nat_tests}
use Rattle.gfxspec.specs.declared.pixel.Pixel.{Pixel}
use Rattle.gfxspec.specs.declared.geometry.PixelRect.{PixelRect}
use Rattle.gfxspec.specs.Tiles.{IsIn, IsInTile}
use Rattle.tileblock.specs.Block.{Block, pixel_at}
use Rattle.tileblock.specs.SpanStored.{SpanStored, lane_pixel}
use Rattle.tileprog.specs.Alike.{AreBytes, Changed}
use Rattle.tileprog.specs.SpanDrawn.{RowsStored}

-- the number of a pixel's span, row by row and column by column
abbrev pub place : PixelRect → ℕ → ℕ → ℕ
place r u v = 4 * (v - r.top) + (u - r.left) / 8

abbrev pub column_place : PixelRect → ℕ → ℕ → ℕ
column_place r u v = 32 * ((u - r.left) / 8) + (v - r.top)

record IsLane (r : PixelRect) (span row u v j : ℕ) : Type 0 where
  lane : j < 8
  x : r.left + 8 * span + j ≡ u
  y : r.top + row ≡ v

-- the span of a row has number `at`, and no other has
record IsNumbered (r : PixelRect) (place : ℕ → ℕ → ℕ) (span row at : ℕ) : Type 0 where
  in_lane : (u v : ℕ) → IsIn r u v → place u v ≡ at → IsLane r span row u v ((u - r.left) % 8)
  beside : (u v : ℕ) → IsIn r u v → place u v ≢ at → (v ≢ r.top + row) ⊎ ((u < r.left + 8 * span) ⊎ (r.left + 8 * span + 8 ≤ u))

cases : (m n : ℕ) → (m ≡ n) ⊎ (m ≢ n)
cases m n = grind arith

less : (m n : ℕ) → (m < n) ⊎ (n ≤ m)
less m n = grind arith

apart : (r : PixelRect) (span row u v : ℕ) → ((v ≡ r.top + row) → (r.left + 8 * span ≤ u) → (u < r.left + 8 * span + 8) → ⊥) → (v ≢ r.top + row) ⊎ ((u < r.left + 8 * span) ⊎ (r.left + 8 * span + 8 ≤ u))
apart r span row u v never = by (cases v (r.top + row)) (less u (r.left + 8 * span)) (less u (r.left + 8 * span + 8))
  where
    by : (v ≡ r.top + row) ⊎ (v ≢ r.top + row) → (u < r.left + 8 * span) ⊎ (r.left + 8 * span ≤ u) → (u < r.left + 8 * span + 8) ⊎ (r.left + 8 * span + 8 ≤ u) → (v ≢ r.top + row) ⊎ ((u < r.left + 8 * span) ⊎ (r.left + 8 * span + 8 ≤ u))
    by (inr n) b d = inl n
    by (inl e) (inl b) d = inr (inl b)
    by (inl e) (inr b) (inr d) = inr (inr d)
    by (inl e) (inr b) (inl d) = absurd (never e b d)

module _ (r : PixelRect) (tile : IsInTile r) where
  few : (u v : ℕ) → IsIn r u v → place r u v < 128
  few u v is = omega (arith, tile.right, tile.bottom, is.left, is.right, is.top, is.bottom)

  column_few : (u v : ℕ) → IsIn r u v → column_place r u v < 128
  column_few u v is = omega (arith, tile.right, tile.bottom, is.left, is.right, is.top, is.bottom)

  by_rows : (at : ℕ) → IsNumbered r (place r) (at % 4) (at / 4) at
  by_rows at = record {
    in_lane = λ u v is e. record {
      lane = omega arith;
      x = omega (arith, e, tile.right, is.left, is.right);
      y = omega (arith, e, tile.right, is.left, is.right, is.top);
    };
    beside = λ u v is ne. apart r (at % 4) (at / 4) u v (λ e b d. ne (omega (arith, e, b, d)));
  }

  by_columns : (span row at : ℕ) → row < 32 → at ≡ 32 * span + row → IsNumbered r (column_place r) span row at
  by_columns span row at low at_is = record {
    in_lane = λ u v is e. record {
      lane = omega arith;
      x = omega (arith, e, at_is, low, tile.bottom, is.left, is.top, is.bottom);
      y = omega (arith, e, at_is, low, tile.bottom, is.left, is.top, is.bottom);
    };
    beside = λ u v is ne. apart r span row u v (λ e b d. ne (omega (arith, at_is, e, b, d)));
  }

-- ---- values that are read

abbrev pub BytesSoFar : Block → ℕ → Type 0
BytesSoFar b at = (u v : ℕ) → IsIn b.rect u v → place b.rect u v < at → (pixel_at b u v).ds.stencil < 256

pub no_bytes : (b : Block) → BytesSoFar b 0
no_bytes b u v is h = absurd (omega (arith, h))

pub more_bytes : (b : Block) (at : ℕ) (values : List ℕ) → IsInTile b.rect → BytesSoFar b at → ((j : ℕ) → slice_index values j < 256)
    → ((j : ℕ) → j < 8 → slice_index values j ≡ (lane_pixel b (at % 4) (at / 4) j).ds.stencil) → BytesSoFar b (at + 1)
more_bytes b at values tile was small is u v inside h =
    ⊎_elim
    (λ (e : place b.rect u v ≡ at).
    let l = (by_rows b.rect tile at).in_lane u v inside e in
    let j = (u - b.rect.left) % 8 in
    let there : slice_index values j ≡ (pixel_at b u v).ds.stencil = is j l.lane ∙ (λ i. (pixel_at b (l.x i) (l.y i)).ds.stencil) in
    let byte = small j in
    omega (arith, byte, there))
    (λ (ne : place b.rect u v ≢ at). was u v inside (before (place b.rect u v) at h ne))
    (cases (place b.rect u v) at)
  where
    before : (n m : ℕ) → n < m + 1 → n ≢ m → n < m
    before n m h ne = grind (arith, ne)

pub all_bytes : (b : Block) (at : ℕ) → IsInTile b.rect → at ≡ 128 → BytesSoFar b at → AreBytes b
all_bytes b at tile e was u v is = let l = few b.rect tile u v is in was u v is (omega (arith, l, e))

-- ---- pixels that are changed

pub record ChangedBy (place : ℕ → ℕ → ℕ) (f : Pixel → Pixel) (old mid : Block) (at : ℕ) : Type 0 where
  pub rect : mid.rect ≡ old.rect
  pub pixels : (u v : ℕ) → IsIn old.rect u v → pixel_at mid u v ≡ (if nat_lt (place u v) at then f (pixel_at old u v) else pixel_at old u v)

abbrev pub ChangedSoFar : (Pixel → Pixel) → Block → Block → ℕ → Type 0
ChangedSoFar f old mid at = ChangedBy (place old.rect) f old mid at

abbrev pub ColumnsChanged : (Pixel → Pixel) → Block → Block → ℕ → Type 0
ColumnsChanged f old mid at = ChangedBy (column_place old.rect) f old mid at

tested_yes : (n m : ℕ) → n < m → nat_lt n m ≡ true
tested_yes n m h = grind (arith, nat_tests, h)

tested_no : (n m : ℕ) → m ≤ n → nat_lt n m ≡ false
tested_no n m h = grind (arith, nat_tests, h)

tested_same : (n m : ℕ) → n ≢ m → nat_lt n m ≡ nat_lt n (m + 1)
tested_same n m ne = grind (arith, nat_tests, ne)

same_step : (n m : ℕ) → n ≡ m → m ≤ n
same_step n m e = omega (arith, e)

next_step : (n m : ℕ) → n ≡ m → n < m + 1
next_step n m e = omega (arith, e)

none_by : (place : ℕ → ℕ → ℕ) (f : Pixel → Pixel) (old : Block) → ChangedBy place f old old 0
none_by place f old = record {
  rect = λ i. old.rect;
  pixels = λ u v is. ap (λ b. if b then f (pixel_at old u v) else pixel_at old u v) (sym (tested_no (place u v) 0 (omega arith)));
}

pub none_changed : (f : Pixel → Pixel) (old : Block) → ChangedSoFar f old old 0
none_changed f old = none_by (place old.rect) f old

pub no_columns : (f : Pixel → Pixel) (old : Block) → ColumnsChanged f old old 0
no_columns f old = none_by (column_place old.rect) f old

module _ (place : ℕ → ℕ → ℕ) (f : Pixel → Pixel) (old mid new : Block) (span row at : ℕ) (change : ℕ → Pixel → Pixel) (numbered : IsNumbered old.rect place span row at) (was : ChangedBy place f old mid at)
    (stored : SpanStored mid new span row change)
    (same : (j : ℕ) → j < 8 → change j (lane_pixel mid span row j) ≡ f (lane_pixel mid span row j)) where
  abbrev step : Bool → ℕ → ℕ → Pixel
  step b u v = if b then f (pixel_at old u v) else pixel_at old u v

  here : (u v : ℕ) → IsIn old.rect u v → place u v ≡ at → pixel_at new u v ≡ step (nat_lt (place u v) (at + 1)) u v
  here u v is e =
      let l = numbered.in_lane u v is e in
      let j = (u - old.rect.left) % 8 in
      let mid_x : mid.rect.left + 8 * span + j ≡ u = ap (λ (q : PixelRect). q.left + 8 * span + j) was.rect ∙ l.x in
      let mid_y : mid.rect.top + row ≡ v = ap (λ (q : PixelRect). q.top + row) was.rect ∙ l.y in
      let new_x : new.rect.left + 8 * span + j ≡ u = ap (λ (q : PixelRect). q.left + 8 * span + j) stored.rect ∙ mid_x in
      let new_y : new.rect.top + row ≡ v = ap (λ (q : PixelRect). q.top + row) stored.rect ∙ mid_y in
      sym (λ i. pixel_at new (new_x i) (new_y i))
      ∙ stored.here j l.lane ∙ same j l.lane
      ∙ ap f
      ((λ i. pixel_at mid (mid_x i) (mid_y i)) ∙ was.pixels u v is ∙ ap (λ b. step b u v) (tested_no (place u v) at (same_step _ _ e)))
      ∙ ap (λ b. step b u v) (sym (tested_yes (place u v) (at + 1) (next_step _ _ e)))

  away : (u v : ℕ) → IsIn old.rect u v → place u v ≢ at → pixel_at new u v ≡ step (nat_lt (place u v) (at + 1)) u v
  away u v is ne =
      let In : PixelRect → Type 0 = λ q. IsIn q u v in
      let Beside : PixelRect → Type 0 = λ q. (v ≢ q.top + row) ⊎ ((u < q.left + 8 * span) ⊎ (q.left + 8 * span + 8 ≤ u)) in
      stored.elsewhere u v (subst In (sym was.rect) is) (subst Beside (sym was.rect) (numbered.beside u v is ne))
      ∙ was.pixels u v is
      ∙ ap (λ b. step b u v) (tested_same (place u v) at ne)

  more_by : ChangedBy place f old new (at + 1)
  more_by = record {
    rect = stored.rect ∙ was.rect;
    pixels = λ u v is. ⊎_elim (here u v is) (away u v is) (cases (place u v) at);
  }

pub more_changed : (f : Pixel → Pixel) (old mid new : Block) (at : ℕ) (change : ℕ → Pixel → Pixel) → IsInTile old.rect → ChangedSoFar f old mid at → SpanStored mid new (at % 4) (at / 4) change
    → ((j : ℕ) → j < 8 → change j (lane_pixel mid (at % 4) (at / 4) j) ≡ f (lane_pixel mid (at % 4) (at / 4) j)) → ChangedSoFar f old new (at + 1)
more_changed f old mid new at change tile was stored same = more_by (place old.rect) f old mid new (at % 4) (at / 4) at change (by_rows old.rect tile at) was stored same

-- two rows of a column
pub more_rows_changed : (f : Pixel → Pixel) (old mid new : Block) (n : ℕ) → IsInTile old.rect → ColumnsChanged f old mid (2 * n) → RowsStored mid new (n / 16) (2 * (n % 16)) f → ColumnsChanged f old new (2 * (n + 1))
more_rows_changed f old mid new n tile was rows =
    let span = n / 16 in
    let row = 2 * (n % 16) in
    let P = column_place old.rect in
    let first = more_by P f old mid rows.mid span row (2 * n) (λ j. f) (by_columns old.rect tile span row (2 * n) (omega arith) (omega arith)) was rows.first (λ j h i. f (lane_pixel mid span row j)) in
    let second = more_by P f old rows.mid new span (row + 1) (2 * n + 1) (λ j. f) (by_columns old.rect tile span (row + 1) (2 * n + 1) (omega arith) (omega arith)) first rows.second (λ j h i. f (lane_pixel rows.mid span (row + 1) j)) in
    let next : 2 * n + 1 + 1 ≡ 2 * (n + 1) = omega arith in
    subst (λ at. ColumnsChanged f old new at) next second

all_by : (place : ℕ → ℕ → ℕ) (f : Pixel → Pixel) (old new : Block) (at : ℕ) → ((u v : ℕ) → IsIn old.rect u v → place u v < at) → ChangedBy place f old new at → Changed f old new
all_by place f old new at below was = record {
  rect = was.rect;
  pixels = λ u v is. was.pixels u v is ∙ ap (λ b. if b then f (pixel_at old u v) else pixel_at old u v) (tested_yes (place u v) at (below u v is));
}

pub all_changed : (f : Pixel → Pixel) (old new : Block) (at : ℕ) → IsInTile old.rect → at ≡ 128 → ChangedSoFar f old new at → Changed f old new
all_changed f old new at tile e was = all_by (place old.rect) f old new at (λ u v is. let l = few old.rect tile u v is in omega (arith, l, e)) was

pub all_columns_changed : (f : Pixel → Pixel) (old new : Block) (at : ℕ) → IsInTile old.rect → at ≡ 128 → ColumnsChanged f old new at → Changed f old new
all_columns_changed f old new at tile e was = all_by (column_place old.rect) f old new at (λ u v is. let l = column_few old.rect tile u v is in omega (arith, l, e)) was
