use Rattle.std.proofs.Common.{sym, ◌∙◌, arith}
use Rattle.std.proofs.Common.{slice_index_or}
use Rattle.scenetext.proofs.WordLemmas.{digit_is, all_more, value_more, value_room}
use Rattle.scenetext.proofs.words.leading_digits.Goals as goal

pub overflow_mul-value : goal.overflow_mul-value
overflow_mul-value c =
    let room = value_room c.args.line.now c.loop-i.i (omega (arith, c.loop-i-test.true, c.min-most.ensures)) (omega (arith, c.loop-i-test.true, c.min-most.ensures)) c.loop-i.invariant.digits in
    omega (arith, c.loop-i.invariant.value)

pub overflow_add-value : goal.overflow_add-value
overflow_add-value c =
    let room = value_room c.args.line.now c.loop-i.i (omega (arith, c.loop-i-test.true, c.min-most.ensures)) (omega (arith, c.loop-i-test.true, c.min-most.ensures)) c.loop-i.invariant.digits in
    let digit = digit_is (slice_index_or c.args.line.now c.loop-i.i 0) (sym c.is_ascii_digit.ensures.value ∙ c.if-not-is_ascii_digit.false) in
    omega (arith, c.loop-i.invariant.value, c.from.ensures)

pub loop-i-preserved : goal.loop-i-preserved
loop-i-preserved c =
    let digit = digit_is (slice_index_or c.args.line.now c.loop-i.i 0) (sym c.is_ascii_digit.ensures.value ∙ c.if-not-is_ascii_digit.false) in
    let more = value_more c.args.line.now c.loop-i.i (omega (arith, c.loop-i-test.true, c.min-most.ensures)) in
    record {
      digits = all_more c.args.line.now c.loop-i.i (omega (arith, c.loop-i-test.true, c.min-most.ensures)) c.loop-i.invariant.digits digit.0;
      value = omega (arith, c.loop-i.invariant.value, c.from.ensures);
    }
