use Rattle.std.proofs.Common.{◌≡◌, ◌∙◌, ap, arith, ℕ, List, ◌+◌, ◌++◌, ◌<◌, ◌≤◌, [], get_or, length, take}
use Rattle.std.specs.List.{flat_map}
use Rattle.std.proofs.lemmas.Result.{err_from_is_err_and}
use Rattle.gfxspec.specs.declared.geometry.Size.{Size}
use Rattle.gfxspec.specs.declared.pixel.Pixel.{Pixel}
use Rattle.tileblock.specs.Surface.{pixel_of}
use Rattle.tga.specs.declared.image.TgaFault.{TgaFault}
use Rattle.tga.specs.Image.{kept_color, row_bytes}
use Rattle.tga.proofs.ImageLemmas.{pieces_of, added_row, counted_row, failed_at, ends_in_image, fails_in_image, few_pixels}
use Rattle.tga.proofs.image.write_tga.Goals as goal
use Rattle.tga.proofs.image.write_tga.Goals.{After-as_flattened}

-- the piece of row y, from the row of pixels that `store_row` left
piece_of_row : (size : Size) (width y : ℕ) (pixels : ℕ → ℕ → Pixel) (rows : List (List ℕ)) (piece : List ℕ) → width ≡ size.width → size.width ≤ length rows → piece ≡ flat_map (λ x. x) (take width rows) → ((x : ℕ) → x < size.width → get_or rows x [] ≡ kept_color (pixels x y).rgba) → piece ≡ row_bytes size.width pixels y
piece_of_row size width y pixels rows piece e wide flat each =
    flat ∙ ap (λ n. flat_map (λ x. x) (take n rows)) e ∙ pieces_of (λ x. kept_color (pixels x y).rgba) rows size.width wide each

row : (g : _) (c : After-as_flattened g) → c.as_flattened.result.now ≡ row_bytes c.args.target.now.size.width (pixel_of c.args.target.now) c.loop-y.y
row g c =
    let size = c.size-size.ensures in
    piece_of_row c.args.target.now.size c.size-size.result.width c.loop-y.y (pixel_of c.args.target.now) c.store_row-band.new.row c.as_flattened.result.now (ap (λ (z : Size). z.width) size.value) (omega (arith, c.store_row-band.ensures.len, few_pixels c.args.target.now.size size.sound.size)) c.as_flattened.ensures.value c.store_row-band.ensures.pixels

pub returns-in_err-add-2-clause-part : goal.returns-in_err-add-2-clause-part
returns-in_err-add-2-clause-part g c = λ tells.
    let p = err_from_is_err_and c.from_residual-in_err-add-2.result c.from_residual-in_err-add-2.ensures.1 in
    let s = c.args.target.now in
    let device = g.W.Sink in
    let fault = c.in_err-add-2.ensures in
    let at = c.loop-y.invariant in
    let high : c.loop-y.y ≤ s.size.height = omega (arith, c.loop-y-test.true, ap (λ (z : Size). z.height) c.size-size.ensures.value) in
    rw (p.1, p.2) (failed_at s.size (pixel_of s) c.loop-y.y (device.written c.args.out.now) (device.written c.loop-y.out) c.loop-y.pieces.waiting.items (device.written c.add-in-loop-y.new.out) c.loop-y.pieces.taken c.in_err-add-2.field-0.0.taken high (at.bytes tells) at.count fault.from fault.to (fault.part (at.told tells)))

pub returns-in_err-add-2-clause-partly : goal.returns-in_err-add-2-clause-partly
returns-in_err-add-2-clause-partly g c =
    let p = err_from_is_err_and c.from_residual-in_err-add-2.result c.from_residual-in_err-add-2.ensures.1 in
    let s = c.args.target.now in
    let high : c.loop-y.y ≤ s.size.height = omega (arith, c.loop-y-test.true, ap (λ (z : Size). z.height) c.size-size.ensures.value) in
    rw (p.1, p.2) (ends_in_image s.size (pixel_of s) c.loop-y.y (length c.loop-y.pieces.waiting.items) c.loop-y.pieces.taken c.in_err-add-2.field-0.0.taken high c.loop-y.invariant.count c.in_err-add-2.ensures.to)

pub loop-y-preserved : goal.loop-y-preserved
loop-y-preserved g c =
    let s = c.args.target.now in
    let device = g.W.Sink in
    let done = c.in_ok-add-2.ensures in
    let at = c.loop-y.invariant in
    let new = c.add-in-loop-y.new in
    let bytes = row g (goal.at.loop-y-preserved g c).After-as_flattened in
    record {
      sound = done.sound ∙ at.sound;
      told = λ tells. done.told (at.told tells);
      bytes = λ tells. added_row s.size (pixel_of s) (device.written c.args.out.now) (device.written c.loop-y.out ++ c.loop-y.pieces.waiting.items) (device.written new.out ++ new.pieces.waiting.items) c.as_flattened.result.now c.loop-y.y bytes (at.bytes tells) (done.all (at.told tells));
      count = counted_row s.size.width (pixel_of s) c.as_flattened.result.now c.loop-y.y (c.loop-y.pieces.taken + length c.loop-y.pieces.waiting.items) (new.pieces.taken + length new.pieces.waiting.items) bytes at.count done.more;
      row = c.store_row-band.ensures.len;
      band = c.store_row-band.ensures.band;
    }

pub returns-clause-part : goal.returns-clause-part
returns-clause-part g c = λ tells.
    let s = c.args.target.now in
    let device = g.W.Sink in
    let at = c.loop-y.invariant in
    let end = c.flush.ensures in
    let high : c.loop-y.y ≤ s.size.height = omega (arith, c.loop-y.auto.y-end, ap (λ (z : Size). z.height) c.size-size.ensures.value) in
    (fails_in_image c.flush.result (λ (f : TgaFault). f.taken) s.size (pixel_of s) c.loop-y.y (device.written c.args.out.now) (device.written c.loop-y.out) c.loop-y.pieces.waiting.items (device.written c.flush.new.out) c.loop-y.pieces.taken high at.count end.to).0 (at.bytes tells) end.from (end.part (at.told tells))

pub returns-clause-partly : goal.returns-clause-partly
returns-clause-partly g c =
    let s = c.args.target.now in
    let device = g.W.Sink in
    let high : c.loop-y.y ≤ s.size.height = omega (arith, c.loop-y.auto.y-end, ap (λ (z : Size). z.height) c.size-size.ensures.value) in
    (fails_in_image c.flush.result (λ (f : TgaFault). f.taken) s.size (pixel_of s) c.loop-y.y (device.written c.args.out.now) (device.written c.loop-y.out) c.loop-y.pieces.waiting.items (device.written c.flush.new.out) c.loop-y.pieces.taken high c.loop-y.invariant.count c.flush.ensures.to).1
