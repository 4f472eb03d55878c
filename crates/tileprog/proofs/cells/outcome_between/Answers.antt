use Rattle.std.proofs.Common.{◌≡◌, ◌∙◌, ap, sym, true}
use Rattle.gfxspec.specs.declared.state.Compare.{Compare}
use Rattle.tileprog.specs.Alike.{opposite}
use Rattle.tileprog.specs.Hidden.{none_passes}
use Rattle.tileprog.proofs.AlikeLaws.{all_fail, all_pass}
use Rattle.tileprog.proofs.cells.outcome_between.Goals as goal

pub returns-then-fails-clause-deep : goal.returns-then-fails-clause-deep
returns-then-fails-clause-deep c =
    let s = c.args.brush.now.state in
    let range = c.args.range in
    let known = c.args.known in
    let none : none_passes s.func range.least range.greatest known.least known.greatest ≡ true = ap (λ (f : Compare). none_passes f range.least range.greatest known.least known.greatest) (sym c.func-func.ensures) ∙ sym c.none_passes-fails.ensures ∙ c.if-fails.true in
    all_fail s range.least range.greatest known c.requires none

pub returns-then-passes-clause-deep : goal.returns-then-passes-clause-deep
returns-then-passes-clause-deep c =
    let s = c.args.brush.now.state in
    let range = c.args.range in
    let known = c.args.known in
    let other : c.opposite.result ≡ opposite s.func = c.opposite.ensures ∙ ap opposite c.func-func.ensures in
    let none : none_passes (opposite s.func) range.least range.greatest known.least known.greatest ≡ true = ap (λ (f : Compare). none_passes f range.least range.greatest known.least known.greatest) (sym other) ∙ sym c.none_passes-passes.ensures ∙ c.if-passes.true in
    all_pass s range.least range.greatest known c.requires none
