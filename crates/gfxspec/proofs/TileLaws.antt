-- Laws of the tiles of a target: a pixel and its tile.
use Rattle.std.proofs.Common.{◌≡◌, ◌∙◌, ap, sym, arith, ℕ, ◌+◌, ◌*◌, ◌/◌, ◌%◌, ◌<◌, ◌≤◌, min, true, ◌&&◌, IsTrue}
use Rattle.std.proofs.lemmas.Nat.{div-add-mod', mul-add-lt, div-mul-add, mod-mul-add, mul-le}
use Rattle.gfxspec.specs.declared.geometry.Size.{Size}
use Rattle.std.proofs.lemmas.Bool.Decides.{nat_tests}
use Rattle.gfxspec.specs.Limits.{is_side, is_size}
use Rattle.gfxspec.specs.Tiles.{tiles_along, tile_count, tile_of, tile_rect, IsIn, IsInTile, EachPixelOnce}

along_has : (x side : ℕ) → x < side → x / 32 < tiles_along side
along_has x side h = omega arith

-- the tile of a pixel stands in column x / 32 and in row y / 32
column : (s : Size) (x y : ℕ) → x < s.width → tile_of s x y % tiles_along s.width ≡ x / 32
column s x y h = mod-mul-add (y / 32) (tiles_along s.width) (x / 32) (along_has x s.width h)

row : (s : Size) (x y : ℕ) → x < s.width → tile_of s x y / tiles_along s.width ≡ y / 32
row s x y h = div-mul-add (y / 32) (tiles_along s.width) (x / 32) (along_has x s.width h)

pub tile_numbered : (s : Size) (x y : ℕ) → x < s.width → y < s.height → tile_of s x y < tile_count s
tile_numbered s x y h k =
    omega (arith, mul-add-lt (y / 32) (tiles_along s.width) (x / 32) (tiles_along s.height) (along_has y s.height k) (along_has x s.width h))

in_part : (n x side : ℕ) → n ≡ x / 32 → x < side → (32 * n ≤ x) × (x < min (32 * n + 32) side)
in_part n x side e h = (omega arith, omega arith)

pub in_own_tile : (s : Size) (x y : ℕ) → x < s.width → y < s.height → IsIn (tile_rect s (tile_of s x y)) x y
in_own_tile s x y h k =
    let c = in_part (tile_of s x y % tiles_along s.width) x s.width (column s x y h) h in
    let r = in_part (tile_of s x y / tiles_along s.width) y s.height (row s x y h) k in
    record { left = c.0; right = c.1; top = r.0; bottom = r.1 }

part_of : (n x side : ℕ) → 32 * n ≤ x → x < min (32 * n + 32) side → (n ≡ x / 32) × (x < side)
part_of n x side h k = (omega arith, omega arith)

pub only_tile : (s : Size) (t x y : ℕ) → IsIn (tile_rect s t) x y → t ≡ tile_of s x y
only_tile s t x y h =
    let c = part_of (t % tiles_along s.width) x s.width h.left h.right in
    let r = part_of (t / tiles_along s.width) y s.height h.top h.bottom in
    sym (div-add-mod' t (tiles_along s.width)) ∙ ap (λ n. n * tiles_along s.width + t % tiles_along s.width) r.0 ∙ ap (λ n. y / 32 * tiles_along s.width + n) c.0

pub tile_within : (s : Size) (t x y : ℕ) → IsIn (tile_rect s t) x y → (x < s.width) × (y < s.height)
tile_within s t x y h =
    ((part_of (t % tiles_along s.width) x s.width h.left h.right).1, (part_of (t / tiles_along s.width) y s.height h.top h.bottom).1)

pub each_pixel_once : (s : Size) → EachPixelOnce s
each_pixel_once s = record {
  numbered = tile_numbered s;
  there = in_own_tile s;
  once = λ t x y _. only_tile s t x y;
  within = tile_within s;
}

along_few : (side : ℕ) → side ≤ 4096 → tiles_along side ≤ 128
along_few side h = omega arith

pub few_tiles : (s : Size) → s.width ≤ 4096 → s.height ≤ 4096 → tile_count s ≤ 16384
few_tiles s h k = mul-le (tiles_along s.width) (tiles_along s.height) 128 128 (along_few s.width h) (along_few s.height k)

part_in_tile : (n side : ℕ) → ((32 * n) % 32 ≡ 0) × (min (32 * n + 32) side ≤ 32 * n + 32)
part_in_tile n side = (omega arith, omega arith)

pub in_one_tile : (s : Size) (t : ℕ) → IsInTile (tile_rect s t)
in_one_tile s t =
    let c = part_in_tile (t % tiles_along s.width) s.width in
    let r = part_in_tile (t / tiles_along s.width) s.height in
    record { left = c.0; top = r.0; right = c.1; bottom = r.1 }

sides : (w h : ℕ) → (is_side w && is_side h) ≡ true → (w ≤ 4096) × (h ≤ 4096)
sides w h e = (grind (arith, nat_tests), grind (arith, nat_tests))

-- a target that is allowed has no more tiles than a job may have
pub few_tiles_of : (s : Size) → IsTrue (is_size s) → tile_count s ≤ 16384
few_tiles_of s h = let b = sides s.width s.height h in few_tiles s b.0 b.1
