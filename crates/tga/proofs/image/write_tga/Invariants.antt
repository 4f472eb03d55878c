use Rattle.std.proofs.Common.{◌≡◌, ◌+◌, ◌*◌, ◌/◌, ◌++◌, ℕ, length}
use Rattle.std.specs.Prelude.{IfSome}
use Rattle.tileblock.specs.Surface.{pixel_of}
use Rattle.tga.specs.Rows.{HoldsRow}
use Rattle.tga.proofs.ImageLemmas.{so_far}
use Rattle.tga.proofs.image.write_tga.Given as goal

abbrev pub invariant-loop-y : goal.invariant-loop-y
invariant-loop-y g l =
    let device = g.W.Sink in
    record {
      sound : device.failures l.out ≡ device.failures l.fn.out;
      told : device.tells l.fn.out → device.tells l.out;
      bytes : device.tells l.fn.out → device.written l.out ++ l.pieces.waiting.items ≡ device.written l.fn.out ++ so_far l.target.size (pixel_of l.target) l.y;
      count : l.pieces.taken + length l.pieces.waiting.items ≡ 18 + 4 * l.target.size.width * l.y;
      row : length l.row ≡ 4096;
      band : IfSome l.band (λ b. (v : ℕ) → v / 32 ≡ b → HoldsRow l.row l.target.size.width (pixel_of l.target) v);
    }
