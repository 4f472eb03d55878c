use Rattle.std.proofs.Common.{◌≡◌, ◌*◌, ◌/◌, ◌<◌, ℕ, true, [], length, get_or}
use Rattle.tileblock.specs.Surface.{pixel_of}
use Rattle.tga.specs.Image.{kept_color}
use Rattle.tga.proofs.row.store_tiles.Given as goal

abbrev pub invariant-loop-column : goal.invariant-loop-column
invariant-loop-column g l =
    record {
      len : length l.row ≡ 4096;
      pixels : (x : ℕ) → x < 32 * l.column → x < l.target.size.width → get_or l.row x [] ≡ kept_color (pixel_of l.target x l.y).rgba;
      alike : l.alike ≡ true → (v x : ℕ) → v / 32 ≡ l.y / 32 → x < 32 * l.column → x < l.target.size.width → get_or l.row x [] ≡ kept_color (pixel_of l.target x v).rgba;
    }
