use Rattle.std.proofs.Common.{rules, ◌∙◌, ◌≤◌, ◌++◌, ap, sym, [], decimal, length}
use Rattle.std.proofs.lemmas.List.{take_all}
use Rattle.std.specs.List.{join_with_byte}
use Rattle.std.specs.Prelude.{map, ◌∷◌}
use Rattle.answers.proofs.Spelled.{spelled, one_spelled}
use Rattle.answers.proofs.line.line_of.Goals as goal

pub loop-number-init : goal.loop-number-init
loop-number-init c = record {
  text = c.push_str.ensures.bytes ∙ ap (λ t. t ++ c.args.word.now) c.new-text.ensures;
  room = search rules;
}

pub loop-number-preserved : goal.loop-number-preserved
loop-number-preserved c =
    let i = c.loop-number.number-index in
    record {
      text =
          c.push_str-in-loop-number-2.ensures.bytes
          ∙ ap (λ t. t ++ c.format.result.now) (c.push_str-in-loop-number.ensures.bytes ∙ ap (λ t. t ++ 32 ∷ []) c.loop-number.invariant.text)
          ∙ ap (λ t. (spelled c.args.word.now c.args.numbers.now i ++ 32 ∷ []) ++ t) c.format.ensures.text
          ∙ sym (one_spelled c.args.word.now c.args.numbers.now i c.loop-number-test.true);
      room = search rules;
    }

pub returns : goal.returns
returns c =
    let end : length c.args.numbers.now ≤ c.loop-number.number-index = search rules in
    c.push_str-2.ensures.bytes
    ∙ ap (λ t. t ++ 10 ∷ []) (c.loop-number.invariant.text ∙ ap (λ ns. join_with_byte 32 (c.args.word.now ∷ map decimal ns)) (take_all c.loop-number.number-index c.args.numbers.now end))
