use Rattle.std.proofs.Common.{◌∙◌, ◌++◌, ap, sym, subst, List}
use Rattle.gfxspec.specs.Commands.{Command}
use Rattle.gfxspec.specs.Recorded.{items}
use Rattle.immediate.specs.Outputs.{cut_over, performed_over}
use Rattle.immediate.specs.Batched.{HasDrawn, part}
use Rattle.immediate.proofs.Drawn.{drawn_is_run, ok_given}
use Rattle.immediate.proofs.Making.{part_all}
use Rattle.immediate.proofs.output.Output.run_cut.Goals as goal

pub returns-clause-ran : goal.returns-clause-ran
returns-clause-ran g c ran =
    let o = c.args.self.now in
    let new = c.run_waiting.new.self in
    let cut = c.in-Some.cut in
    let n = c.count-count.result in
    drawn_is_run c.args.commands.now o new c.in-Some.ensures.unissued
    (subst (λ is. HasDrawn is o new) (ap (cut_over o) (part_all n cut c.count-count.ensures) ∙ c.in-Some.ensures.means o ∙ ap (λ (ss : List (List Command)). cut_over o ss ++ items (performed_over o c.args.commands.now)) c.none-none.ensures)
    (ok_given (HasDrawn (cut_over o (part 0 n cut)) o new) c.run_waiting.result (sym c.is_ok.ensures.value ∙ ran) c.run_waiting.ensures.ok))
