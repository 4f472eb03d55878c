use Rattle.std.proofs.Common.{ap, subst, ◌∙◌, map}
use Rattle.command.specs.Seen.{state_value}
use Rattle.binner.specs.Setups.{AreSetups, all_setups}
use Rattle.binner.proofs.Slices.{primitive_at}
use Rattle.binner.proofs.ahead.parts_of_command.Goals as goal

pub returns : goal.returns
returns g c =
    subst (λ ps. AreSetups (state_value c.args.state.now) c.args.size ps (all_setups c.in_ok-parts.parts.items))
    (ap (map primitive_at) c.as_slice.ensures.value ∙ c.in_ok-tris.ensures ∙ c.in-Triangles.ensures.draws.2) c.in_ok-parts.ensures
