use Rattle.std.proofs.Common.{◌+◌, eqb, sym, ap, ◌∙◌}
use Rattle.std.proofs.lemmas.List.Splits.{length-slice_split}
use Rattle.scenetext.proofs.words.Words.new.Goals as goal

pub invariant_of-result : goal.invariant_of-result
invariant_of-result c = ap (λ n. n + 1) c.args.line.counted ∙ sym (length-slice_split (λ b. eqb b 32) c.args.line.bytes.now)
