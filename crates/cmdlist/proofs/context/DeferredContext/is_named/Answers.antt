use Rattle.std.proofs.Common.{ap, ◌∙◌}
use Rattle.gfxspec.specs.Recorded.{queries_named}
use Rattle.gfxspec.specs.Refusals.{is_among}
use Rattle.cmdlist.proofs.Recording.{named_told}
use Rattle.cmdlist.proofs.context.DeferredContext.is_named.Goals as goal

pub returns : goal.returns
returns g c = c.is_marked.ensures ∙ named_told c.self.inside c.args.query c.self.invariant ∙ ap (λ cs. is_among c.args.query (queries_named cs)) c.self.view_is
