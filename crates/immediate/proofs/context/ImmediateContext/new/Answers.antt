use Rattle.std.proofs.Common.{ap, subst, ◌∙◌, ◌<◌}
use Rattle.std.specs.Prelude.{None}
use Rattle.std.proofs.lemmas.List.{get_or-replicate}
use Rattle.gfxspec.specs.declared.geometry.Size.{Size}
use Rattle.meaning.specs.Contexts.{result_at}
use Rattle.immediate.proofs.Settled.{stored_settled}
use Rattle.immediate.proofs.context.ImmediateContext.new.Goals as goal

pub returns-clause-new : goal.returns-clause-new
returns-clause-new g c =
    record {
      pixels = λ x y w h. stored_settled record { surface = c.in_ok-output.output.surface; results = c.in_ok-output.output.results; waiting = c.none.result; pending = c.new-2.result } c.none.ensures x y
          ∙ c.in_ok-output.ensures.opening x y (subst (λ (s : Size). x < s.width) c.in_ok-output.ensures.size w) (subst (λ (s : Size). y < s.height) c.in_ok-output.ensures.size h);
      results = λ q l. ap (λ results. result_at results q) c.in_ok-output.ensures.results ∙ get_or-replicate 64 q None None l;
      pending = c.new-2.ensures;
    }

pub returns-clause-size : goal.returns-clause-size
returns-clause-size g c = c.in_ok-output.ensures.size
