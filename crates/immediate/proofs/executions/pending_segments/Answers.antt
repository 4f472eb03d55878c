use Rattle.std.proofs.Common.{sym, subst, ap, ◌≡◌, ◌∙◌, [], ◌++◌, List}
use Rattle.gfxspec.specs.Commands.{Command}
use Rattle.gfxspec.specs.Recorded.{items, issues}
use Rattle.immediate.specs.Outputs.{Outputs, performed_over, cut_over}
use Rattle.immediate.proofs.Drawn.{some_weaker}
use Rattle.immediate.proofs.Waiting.{kept_items}
use Rattle.immediate.proofs.executions.pending_segments.Goals as goal

pub returns-then-is_kept_state_alone-clause-unissued : goal.returns-then-is_kept_state_alone-clause-unissued
returns-then-is_kept_state_alone-clause-unissued g c = (kept_items c.args.pending.now (sym c.is_kept_state_alone.ensures.value ∙ c.if-is_kept_state_alone.true)).0

pub returns-then-is_kept_state_alone-clause-means : goal.returns-then-is_kept_state_alone-clause-means
returns-then-is_kept_state_alone-clause-means g c = λ o.
    ap (cut_over o) c.none-none.ensures ∙ (kept_items c.args.pending.now (sym c.is_kept_state_alone.ensures.value ∙ c.if-is_kept_state_alone.true)).1 o

pub returns-clause-unissued : goal.returns-clause-unissued
returns-clause-unissued g c =
    some_weaker (λ e. _) (λ e. issues c.args.pending.now ≡ []) c.with.result (λ e h. subst (λ (l : List Command). issues l ≡ []) c.recorded.ensures h) c.with.ensures.unissued

pub returns-clause-means : goal.returns-clause-means
returns-clause-means g c =
    some_weaker (λ e. _) (λ e. (o : Outputs) → cut_over o e ≡ items (performed_over o c.args.pending.now)) c.with.result
    (λ e h o. h o ∙ ap (λ (ss : List (List Command)). cut_over o ss ++ items (performed_over o c.recorded.result)) c.none-none.ensures ∙ ap (λ (l : List Command). items (performed_over o l)) c.recorded.ensures) c.with.ensures.means
