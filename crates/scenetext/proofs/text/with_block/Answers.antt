use Rattle.std.proofs.Common.{◌≡◌, ◌+◌, ◌++◌, Bool, true, cond, eqb, ap, refl, subst, ◌∙◌, arith, length, take, take_all}
use Rattle.std.proofs.Common.{false, ◌≤◌, rules, slice_index_or}
use mir.Val.{bool_byte}
use Rattle.scenetext.specs.declared.text.FrontForm.{FrontForm}
use Rattle.scenetext.specs.Text.{is_printable}
use Rattle.scenetext.specs.Reading.{AddsForm}
use Rattle.scenetext.proofs.TextLemmas.{and_left, and_right}
use Rattle.scenetext.proofs.CutLemmas.{more_added, byte_added, form_counted}
use Rattle.scenetext.proofs.text.with_block.Goals as goal

counted : (b : Bool) → bool_byte b ≡ cond b 1 0
counted true = refl
counted false = refl

one_at_most : (b : Bool) → cond b 1 0 ≤ 1
one_at_most true = omega arith
one_at_most false = omega arith

pub loop-byte-preserved : goal.loop-byte-preserved
loop-byte-preserved c =
    let byte = slice_index_or c.args.block.now c.loop-byte.byte-index 0 in
    let size : length c.args.block.now ≡ 32 = search rules in
    let n = c.from-spaces.ensures ∙ counted (eqb byte 32) in
    let so_far : FrontForm = record { in_word = c.loop-byte.in_word; separates = c.loop-byte.separates; spaces = c.args.form.spaces + c.loop-byte.spaces } in
    record {
      adds = λ all.
          let p : is_printable byte ≡ true = and_right c.loop-byte.printable (is_printable byte) all in
          more_added c.args.block.now c.loop-byte.byte-index c.args.form so_far _ (omega (arith, c.loop-byte-test.true, size)) (c.loop-byte.invariant.adds (and_left c.loop-byte.printable (is_printable byte) all))
          (byte_added byte so_far _ p refl refl (omega (arith, n)));
      few = omega (arith, n, one_at_most (eqb byte 32), c.loop-byte.invariant.few);
    }

pub returns : goal.returns
returns c =
    let block = c.args.block.now in
    let size : length block ≡ 32 = search rules in
    let whole : take c.loop-byte.byte-index block ≡ block = take_all c.loop-byte.byte-index block (omega (arith, c.loop-byte-test.false, size)) in
    let so_far : FrontForm = record { in_word = c.loop-byte.in_word; separates = c.loop-byte.separates; spaces = c.args.form.spaces + c.loop-byte.spaces } in
    let result : FrontForm = record { in_word = c.loop-byte.in_word; separates = c.loop-byte.separates; spaces = c.args.form.spaces + c.from.result } in
    let is : AddsForm block c.args.form so_far = subst (λ bytes. AddsForm bytes c.args.form so_far) whole (c.loop-byte.invariant.adds c.if-not-printable.false) in
    λ begun before h. form_counted begun (before ++ block) so_far result (is begun before h) refl refl (ap (λ n. c.args.form.spaces + n) c.from.ensures)
