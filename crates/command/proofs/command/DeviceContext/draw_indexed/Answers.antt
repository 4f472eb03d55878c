use Rattle.std.proofs.Common.{rules, subst, w32}
use Rattle.std.specs.Prelude.{FitsSigned}
use Rattle.std.proofs.lemmas.Int.{to_z-of_z}
use Rattle.gfxspec.specs.Commands.{DrawIndexed}
use Rattle.command.specs.Calls.{RecordsCall}
use Rattle.command.proofs.command.DeviceContext.draw_indexed.Goals as goal

pub returns : goal.returns
returns g c =
    let d = g.Self.DeviceContext in
    let fits : FitsSigned w32 c.args.base = search rules in
    subst (λ z. RecordsCall d.recorded d.with c.args.self.now (DrawIndexed c.args.count c.args.start z) c.record.new.self c.record.result) (to_z-of_z w32 c.args.base fits) c.record.ensures
