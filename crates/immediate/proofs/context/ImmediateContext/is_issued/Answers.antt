use Rattle.std.proofs.Common.{rules, ap, ◌∙◌}
use Rattle.gfxspec.specs.Recorded.{issues}
use Rattle.gfxspec.specs.Refusals.{is_among}
use Rattle.gfxspec.specs.Predication.{result_of}
use Rattle.meaning.specs.Contexts.{result_at}
use Rattle.immediate.specs.Held.{Held, stored}
use Rattle.immediate.proofs.Issued.{issued_else}
use Rattle.immediate.proofs.context.ImmediateContext.is_issued.Goals as goal

pub returns-else-is_some : goal.returns-else-is_some
returns-else-is_some g c =
    let h = c.args.self.now in
    let q = c.args.query in
    issued_else h.surface.size (λ q. result_of (result_at h.results q)) h.pending (stored h) q (result_at h.results q) c.has_begun.result (search rules)
    (c.has_begun.ensures ∙ ap (λ (k : Held). is_among q (issues k.pending)) c.self.view_is)
