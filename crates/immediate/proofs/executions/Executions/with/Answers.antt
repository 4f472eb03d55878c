use Rattle.std.proofs.Common.{ap, ◌∙◌, ◌++◌, ℕ, List}
use Rattle.std.specs.Prelude.{Bool}
use Rattle.gfxspec.specs.Commands.{Command}
use Rattle.gfxspec.specs.Predication.{performed, result_of}
use Rattle.gfxspec.specs.Recorded.{items, issues}
use Rattle.meaning.specs.Contexts.{result_at}
use Rattle.binner.specs.Segments.{cut_items}
use Rattle.immediate.proofs.executions.Executions.with.Goals as goal

pub cut-requires-clause-unissued : goal.cut-requires-clause-unissued
cut-requires-clause-unissued g c = ap issues c.as_slice.ensures.commands ∙ c.begin_queries.ensures.no c.if-begin_queries.false

pub returns-clause-unissued : goal.returns-clause-unissued
returns-clause-unissued g c = c.begin_queries.ensures.no c.if-begin_queries.false

pub returns-clause-means : goal.returns-clause-means
returns-clause-means g c o =
    let told : ℕ → Bool = λ q. result_of (result_at o.results q) in
    c.in-Ok.ensures.means told
    ∙ ap (λ (l : List Command). cut_items told c.self.inside.segments.items ++ items (performed told l)) c.as_slice.ensures.commands
    ∙ ap (λ (ss : List (List Command)). cut_items told ss ++ items (performed told c.args.commands.now)) c.self.view_is
