use Rattle.std.proofs.Common.{ap, ◌∙◌}
use Rattle.gfxspec.specs.Recorded.{issues}
use Rattle.gfxspec.specs.Refusals.{is_among}
use Rattle.cmdlist.proofs.Recording.{begun_told}
use Rattle.cmdlist.proofs.context.DeferredContext.has_begun.Goals as goal

pub returns : goal.returns
returns g c = c.is_marked.ensures ∙ begun_told c.self.inside c.args.query c.self.invariant ∙ ap (λ cs. is_among c.args.query (issues cs)) c.self.view_is
