use Rattle.std.proofs.Common.{ap, sym, refl, ◌≡◌, ◌∙◌, [], ◌++◌, map, List}
use Rattle.std.proofs.lemmas.List.{append-nil}
use Rattle.gfxspec.specs.Commands.{Command}
use Rattle.gfxspec.specs.Recorded.{items, issues}
use Rattle.command.specs.Seen.{command_value}
use Rattle.immediate.specs.Outputs.{Outputs, performed_over, cut_over}
use Rattle.immediate.specs.Batched.{executed_items}
use Rattle.immediate.proofs.Drawn.{some_weaker}
use Rattle.immediate.proofs.Ran.{is_none}
use Rattle.immediate.proofs.executions.segments_behind.Goals as goal

pub returns-then-is_empty-clause-unissued : goal.returns-then-is_empty-clause-unissued
returns-then-is_empty-clause-unissued g c = (c.in_ok-before.ensures.unissued, ap issues (sym c.as_slice.ensures.commands) ∙ ap (λ cs. issues (map command_value cs)) (is_none c.as_slice.result.now _ c.is_empty.result refl c.is_empty.ensures c.if-is_empty.true))

pub returns-then-is_empty-clause-means : goal.returns-then-is_empty-clause-means
returns-then-is_empty-clause-means g c = λ o.
    c.in_ok-before.ensures.means o ∙ sym (append-nil (items (performed_over o c.args.pending.now)))
    ∙ ap (λ cs. items (performed_over o c.args.pending.now) ++ items (performed_over o (map command_value cs))) (sym (is_none c.as_slice.result.now _ c.is_empty.result refl c.is_empty.ensures c.if-is_empty.true))
    ∙ ap (λ (l : List Command). items (performed_over o c.args.pending.now) ++ items (performed_over o l)) c.as_slice.ensures.commands

pub returns-clause-unissued : goal.returns-clause-unissued
returns-clause-unissued g c =
    some_weaker (λ e. issues c.args.list.now ≡ []) (λ e. (issues c.args.pending.now ≡ []) × (issues c.args.list.now ≡ [])) c.with.result (λ e h. (c.in_ok-before.ensures.unissued, h)) c.with.ensures.unissued

pub returns-clause-means : goal.returns-clause-means
returns-clause-means g c =
    some_weaker (λ e. (o : Outputs) → cut_over o e ≡ cut_over o c.in_ok-before.before ++ items (performed_over o c.args.list.now)) (λ e. (o : Outputs) → cut_over o e ≡ executed_items o c.args.pending.now c.args.list.now) c.with.result
    (λ e h o. h o ∙ ap (λ is. is ++ items (performed_over o c.args.list.now)) (c.in_ok-before.ensures.means o))
    c.with.ensures.means
