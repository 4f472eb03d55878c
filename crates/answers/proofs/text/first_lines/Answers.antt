use Rattle.std.proofs.Common.{◌∙◌, ap, take}
use Rattle.answers.specs.Ends.{lines_end}
use Rattle.answers.proofs.Cutting.{first_answers}
use Rattle.answers.proofs.text.first_lines.Goals as goal

pub returns : goal.returns
returns g c answers is =
    c.truncate.ensures.items ∙ ap (λ n. take n c.args.text.items) c.lines_end-end.ensures
    ∙ ap (λ t. take (lines_end c.args.count t) c.args.text.items) c.as_slice.ensures.value
    ∙ ap (λ t. take (lines_end c.args.count t) t) is ∙ first_answers c.args.count answers
