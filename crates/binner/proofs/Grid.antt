-- Tiles visited one after another.
use Rattle.std.proofs.Common.{◌≡◌, ◌≢◌, ◌∙◌, ap, sym, subst, refl, ℕ, ◌+◌, ◌*◌, ◌/◌, ◌%◌, ◌<◌, ◌≤◌, ◌⊎◌, inl, inr, ⊎_elim, arith, Bool, true, false, ◌&&◌, ◌||◌, nat_eq, nat_lt, length, min}
use Rattle.std.specs.Prelude.{nat_le}
use Rattle.std.proofs.lemmas.Bool.{cases_eq}
use Rattle.std.proofs.lemmas.Bool.Decides.{nat_tests}
use Rattle.std.proofs.lemmas.Nat.{div-add-mod', div-mul-add, mod-mul-add}
use Rattle.gfxspec.specs.declared.geometry.Size.{Size}
use Rattle.gfxspec.specs.declared.geometry.PixelRect.{PixelRect}
use Rattle.gfxspec.specs.Raster.{Triangle}
use Rattle.gfxspec.specs.Items.{is_in_rect}
use Rattle.gfxspec.specs.Tiles.{tiles_along, tile_rect, IsIn}
use Rattle.tileword.specs.declared.word.Word.{Word}
use Rattle.binner.specs.declared.entry.Current.{Current}
use Rattle.binner.specs.declared.lists.Lists.{Lists}
use Rattle.binner.specs.Lists.{TileList, at, IsLists, IsShort, ChangesAt, EachChanges, AddsTriangle, TakesTriangle, TakesClear}
use Rattle.binner.proofs.Changing.{Longer}

abbrev pub Step : Bool → Type 0 → Type 0 → Type 0
Step true X Y = X
Step false X Y = Y

-- the tiles that are done have changed so, and no other
pub record Partly {A : Type 0} (P : ℕ → TileList → TileList → Type 0) (old new : Lists A) (done : ℕ → Bool) : Type 0 where
  pub size : new.size ≡ old.size
  pub bins : length new.bins ≡ length old.bins
  pub sound : IsLists new
  pub each : (k : ℕ) → Step (done k) (P k (at old k) (at new k)) (at new k ≡ at old k)

module _ {A : Type 0} (P : ℕ → TileList → TileList → Type 0) (old : Lists A) where
  pub same_done : (new : Lists A) (d e : ℕ → Bool) → ((k : ℕ) → d k ≡ e k) → Partly P old new d → Partly P old new e
  same_done new d e same h = record { size = h.size; bins = h.bins; sound = h.sound; each = λ k. subst (λ b. Step b (P k (at old k) (at new k)) (at new k ≡ at old k)) (same k) (h.each k) }

  pub one_done : (mid new : Lists A) (t : ℕ) (d e : ℕ → Bool) → d t ≡ false → e t ≡ true → ((k : ℕ) → k ≢ t → d k ≡ e k) → Partly P old mid d → ChangesAt t (P t) mid new → IsLists new → length new.bins ≡ length mid.bins → Partly P old new e
  one_done mid new t d e waits is others h c sound bins = record {
    size = c.size ∙ h.size;
    bins = bins ∙ h.bins;
    sound = sound;
    each = λ k. ⊎_elim
        (λ q. subst (λ k. Step (e k) (P k (at old k) (at new k)) (at new k ≡ at old k)) (sym q) this)
        (λ ne. subst (λ b. Step b (P k (at old k) (at new k)) (at new k ≡ at old k)) (others k ne)
        (subst (λ a. Step (d k) (P k (at old k) a) (a ≡ at old k)) (sym (c.others k ne)) (h.each k)))
        (cases_eq k t);
  }
    where
      before : at mid t ≡ at old t
      before = subst (λ b. Step b (P t (at old t) (at mid t)) (at mid t ≡ at old t)) waits (h.each t)

      this : Step (e t) (P t (at old t) (at new t)) (at new t ≡ at old t)
      this = subst (λ b. Step b (P t (at old t) (at new t)) (at new t ≡ at old t)) (sym is) (subst (λ a. P t a (at new t)) before c.here)

  pub short_partly : (new : Lists A) (done : ℕ → Bool) (n m : ℕ) → ((k : ℕ) (o w : TileList) → P k o w → Longer m o w) → Partly P old new done → IsShort n old → IsShort (n + m) new
  short_partly new done n m longer h short k = by (done k) (h.each k)
    where
      more : (a b : ℕ) → a ≤ b + m → b ≤ n → a ≤ n + m
      more a b p q = omega arith

      same : (a b : ℕ) → a ≡ b → b ≤ n → a ≤ n + m
      same a b p q = omega arith

      by : (b : Bool) → Step b (P k (at old k) (at new k)) (at new k ≡ at old k) → length (at new k).numbers ≤ n + m
      by true p = more _ _ (longer k (at old k) (at new k) p) (short k)
      by false e = same _ _ (ap (λ (a : TileList). length a.numbers) e) (short k)

-- ---- by rows and columns

abbrev pub rows_above : ℕ → ℕ → ℕ → ℕ → ℕ → ℕ → Bool
rows_above left right top y u v = (nat_le left u && nat_lt u right) && (nat_le top v && nat_lt v y)

abbrev pub rows_and_part : ℕ → ℕ → ℕ → ℕ → ℕ → ℕ → ℕ → Bool
rows_and_part left right top y x u v = rows_above left right top y u v || (nat_eq v y && (nat_le left u && nat_lt u x))

abbrev pub by_rows : ℕ → ℕ → ℕ → ℕ → ℕ → ℕ → Bool
by_rows along left right top y k = rows_above left right top y (k % along) (k / along)

abbrev pub by_columns : ℕ → ℕ → ℕ → ℕ → ℕ → ℕ → ℕ → Bool
by_columns along left right top y x k = rows_and_part left right top y x (k % along) (k / along)

none_above : (left right top u v : ℕ) → rows_above left right top top u v ≡ false
none_above left right top u v = plain
  where
    plain : ((nat_le left u && nat_lt u right) && (nat_le top v && nat_lt v (top))) ≡ false
    plain = grind (arith, nat_tests)

all_of_row : (left right top y u v : ℕ) → top ≤ y → rows_and_part left right top y right u v ≡ rows_above left right top (y + 1) u v
all_of_row left right top y u v below = plain
  where
    plain : (((nat_le left u && nat_lt u right) && (nat_le top v && nat_lt v (y))) || (nat_eq v y && (nat_le left u && nat_lt u (right)))) ≡ ((nat_le left u && nat_lt u right) && (nat_le top v && nat_lt v (y + 1)))
    plain = grind (arith, nat_tests)

this_waits : (left right top y x : ℕ) → rows_and_part left right top y x x y ≡ false
this_waits left right top y x = plain
  where
    plain : (((nat_le left x && nat_lt x right) && (nat_le top y && nat_lt y (y))) || (nat_eq y y && (nat_le left x && nat_lt x (x)))) ≡ false
    plain = grind (arith, nat_tests)

this_is_done : (left right top y x : ℕ) → left ≤ x → rows_and_part left right top y (x + 1) x y ≡ true
this_is_done left right top y x h = plain
  where
    plain : (((nat_le left x && nat_lt x right) && (nat_le top y && nat_lt y (y))) || (nat_eq y y && (nat_le left x && nat_lt x (x + 1)))) ≡ true
    plain = grind (arith, nat_tests)

others_stay : (left right top y x u v : ℕ) → (u ≢ x) ⊎ (v ≢ y) → rows_and_part left right top y x u v ≡ rows_and_part left right top y (x + 1) u v
others_stay left right top y x u v other = plain other
  where
    plain : (u ≢ x) ⊎ (v ≢ y) → (((nat_le left u && nat_lt u right) && (nat_le top v && nat_lt v (y))) || (nat_eq v y && (nat_le left u && nat_lt u (x)))) ≡ (((nat_le left u && nat_lt u right) && (nat_le top v && nat_lt v (y))) || (nat_eq v y && (nat_le left u && nat_lt u (x + 1))))
    plain (inl ne) = grind (arith, nat_tests)
    plain (inr ne) = grind (arith, nat_tests)

other_place : (along y x k : ℕ) → k ≢ y * along + x → (k % along ≢ x) ⊎ (k / along ≢ y)
other_place along y x k ne = ⊎_elim (λ e. ⊎_elim (λ f. absurd (ne (sym (div-add-mod' k along) ∙ ap (λ n. n * along + k % along) f ∙ ap (λ n. y * along + n) e))) (λ n. inr n) (cases_eq (k / along) y)) (λ n. inl n) (cases_eq (k % along) x)

module _ {A : Type 0} (P : ℕ → TileList → TileList → Type 0) (old : Lists A) (along left right top : ℕ) where
  pub row_ends : (new : Lists A) (y column : ℕ) → top ≤ y → column ≡ right → Partly P old new (by_columns along left right top y column) → Partly P old new (by_rows along left right top (y + 1))
  row_ends new y column below whole h =
      same_done P old new _ _ (λ k. ap (λ x. rows_and_part left right top y x (k % along) (k / along)) whole ∙ all_of_row left right top y (k % along) (k / along) below) h

  pub column_done : (mid new : Lists A) (y x : ℕ) → left ≤ x → x < along → Partly P old mid (by_columns along left right top y x) → ChangesAt (y * along + x) (P (y * along + x)) mid new → IsLists new → length new.bins ≡ length mid.bins → Partly P old new (by_columns along left right top y (x + 1))
  column_done mid new y x behind within h c sound bins =
      one_done P old mid new (y * along + x) _ _
      (placed (λ u v. rows_and_part left right top y x u v) ∙ this_waits left right top y x)
      (placed (λ u v. rows_and_part left right top y (x + 1) u v) ∙ this_is_done left right top y x behind)
      (λ k ne. others_stay left right top y x (k % along) (k / along) (other_place along y x k ne))
      h c sound bins
    where
      placed : (f : ℕ → ℕ → Bool) → f ((y * along + x) % along) ((y * along + x) / along) ≡ f x y
      placed f = ap (λ u. f u ((y * along + x) / along)) (mod-mul-add y along x within) ∙ ap (f x) (div-mul-add y along x within)

-- ---- the tiles that aren't visited

part_of : (n x side : ℕ) → 32 * n ≤ x → x < min (32 * n + 32) side → (n ≡ x / 32) × (x < side)
part_of n x side h k = (omega arith, omega arith)

from_part : (b x : ℕ) → b ≤ x → b / 32 ≤ x / 32
from_part b x h = omega arith

to_part : (b side x : ℕ) → x < b → x < side → x / 32 < tiles_along (min b side)
to_part b side x h k = omega arith

visited : (l r t b u v : ℕ) → l ≤ u → u < r → t ≤ v → v < b → rows_above l r t b u v ≡ true
visited l r t b u v p q m n = plain
  where
    plain : ((nat_le l u && nat_lt u r) && (nat_le t v && nat_lt v b)) ≡ true
    plain = grind (arith, nat_tests)

inside_of : (b : PixelRect) (x y : ℕ) → is_in_rect b x y ≡ true → IsIn b x y
inside_of b x y h = plain h
  where
    plain : (nat_le b.left x && (nat_lt x b.right && (nat_le b.top y && nat_lt y b.bottom))) ≡ true → IsIn b x y
    plain e = record { left = grind (arith, nat_tests); right = grind (arith, nat_tests); top = grind (arith, nat_tests); bottom = grind (arith, nat_tests) }

pub missed : (s : Size) (b : PixelRect) (k : ℕ) → by_rows (tiles_along s.width) (b.left / 32) (tiles_along (min b.right s.width)) (b.top / 32) (tiles_along (min b.bottom s.height)) k ≡ false → (x y : ℕ) → IsIn (tile_rect s k) x y → is_in_rect b x y ≡ false
missed s b k out x y is = by (is_in_rect b x y) refl
  where
    column : (k % tiles_along s.width ≡ x / 32) × (x < s.width)
    column = part_of (k % tiles_along s.width) x s.width is.left is.right

    row : (k / tiles_along s.width ≡ y / 32) × (y < s.height)
    row = part_of (k / tiles_along s.width) y s.height is.top is.bottom

    seen : IsIn b x y → rows_above (b.left / 32) (tiles_along (min b.right s.width)) (b.top / 32) (tiles_along (min b.bottom s.height)) (k % tiles_along s.width) (k / tiles_along s.width) ≡ true
    seen i =
        ap (λ u. rows_above (b.left / 32) (tiles_along (min b.right s.width)) (b.top / 32) (tiles_along (min b.bottom s.height)) u (k / tiles_along s.width)) column.0
        ∙ ap (λ v. rows_above (b.left / 32) (tiles_along (min b.right s.width)) (b.top / 32) (tiles_along (min b.bottom s.height)) (x / 32) v) row.0
        ∙ visited _ _ _ _ (x / 32) (y / 32) (from_part b.left x i.left) (to_part b.right s.width x i.right column.1) (from_part b.top y i.top) (to_part b.bottom s.height y i.bottom row.1)

    clash : (c : Bool) → c ≡ true → c ≡ false → ⊥
    clash c p q = cc

    by : (c : Bool) → is_in_rect b x y ≡ c → is_in_rect b x y ≡ false
    by false e = e
    by true e = absurd (clash _ (seen (inside_of b x y e)) out)

module _ {A : Type 0} (old new : Lists A) (tri : Triangle) (bounds : PixelRect) (state : Current) (number : ℕ) where
  abbrev pub Takes : ℕ → TileList → TileList → Type 0
  Takes k o n = TakesTriangle tri bounds (tile_rect old.size k) state number o n

  abbrev pub Adds : ℕ → TileList → TileList → Type 0
  Adds k o n = AddsTriangle tri (tile_rect old.size k) state number o n

  abbrev pub visits : ℕ → Bool
  visits k = by_rows (tiles_along old.size.width) (bounds.left / 32) (tiles_along (min bounds.right old.size.width)) (bounds.top / 32) (tiles_along (min bounds.bottom old.size.height)) k

  pub all_taken : Partly Adds old new visits → EachChanges Takes old new
  all_taken h = record { size = h.size; each = λ k l. by k (visits k) refl (h.each k) }
    where
      by : (k : ℕ) (b : Bool) → visits k ≡ b → Step b (Adds k (at old k) (at new k)) (at new k ≡ at old k) → Takes k (at old k) (at new k)
      by k true e p = inr p
      by k false e p = inl (record { nowhere = missed old.size bounds k e; same = p })

  pub rows_end : (left right top y : ℕ) → left ≡ bounds.left / 32 → right ≡ tiles_along (min bounds.right old.size.width) → top ≡ bounds.top / 32 → y ≡ tiles_along (min bounds.bottom old.size.height) → Partly Adds old new (by_rows (tiles_along old.size.width) left right top y) → EachChanges Takes old new
  rows_end left right top y p q r s h = all_taken (same_done Adds old new _ _ (λ k. rw (p, q, r, s) refl) h)

-- ---- all tiles

pub one_cleared : {A : Type 0} (w : Word) (old mid new : Lists A) (t : ℕ) → Partly (λ k. TakesClear w) old mid (λ k. nat_lt k t) → ChangesAt t (TakesClear w) mid new → IsLists new → length new.bins ≡ length mid.bins → Partly (λ k. TakesClear w) old new (λ k. nat_lt k (t + 1))
one_cleared w old mid new t h c s b =
    one_done _ old mid new t _ _ (before t) (now t) (λ k ne. other k t ne) h c s b
  where
    before : (t : ℕ) → nat_lt t t ≡ false
    before t = grind (arith, nat_tests)

    now : (t : ℕ) → nat_lt t (t + 1) ≡ true
    now t = grind (arith, nat_tests)

    other : (k t : ℕ) → k ≢ t → nat_lt k t ≡ nat_lt k (t + 1)
    other k t ne = grind (arith, nat_tests)

pub right_within : (b w : ℕ) → tiles_along (min b w) ≤ tiles_along w
right_within b w = omega arith

pub column_within : (x right b w : ℕ) → x < right → right ≡ tiles_along (min b w) → x < tiles_along w
column_within x right b w h e = let k = right_within b w in omega (arith, h, e, k)
