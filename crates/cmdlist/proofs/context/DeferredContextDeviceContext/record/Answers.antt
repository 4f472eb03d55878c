use Rattle.std.proofs.Common.{rules, w32, subst, sym}
use Rattle.std.specs.Prelude.{FitsSigned, Some, ◌≡◌}
use Rattle.std.proofs.lemmas.Int.{to_z-of_z}
use Rattle.gfxspec.specs.Refusals.{first_row, list_rows}
use Rattle.command.specs.Seen.{command_value}
use Rattle.cmdlist.proofs.Recording.{sound_settings, refused_draw}
use Rattle.cmdlist.proofs.context.DeferredContextDeviceContext.record.Goals as goal

pub append-requires-clause-only : goal.append-requires-clause-only
append-requires-clause-only g c = search rules

pub drawn_triangles-requires : goal.drawn_triangles-requires
drawn_triangles-requires g c = sound_settings c.self.inside _ c.self.invariant c.state.ensures

pub drawn_indexed_triangles-requires : goal.drawn_indexed_triangles-requires
drawn_indexed_triangles-requires g c = sound_settings c.self-in-DrawIndexed.inside _ c.self-in-DrawIndexed.invariant c.state-state.ensures

pub returns-in_err-triangles-in-Draw : goal.returns-in_err-triangles-in-Draw
returns-in_err-triangles-in-Draw g c = record { answer = search rules; ok = search rules; err = search rules }

pub returns-in_err-triangles-in-DrawIndexed : goal.returns-in_err-triangles-in-DrawIndexed
returns-in_err-triangles-in-DrawIndexed g c =
    let d = c.in-DrawIndexed in
    let self = c.self-in-DrawIndexed in
    let fits : FitsSigned w32 d.base = search rules in
    let refused = simp to_z-of_z at c.in_err-triangles-in-DrawIndexed.ensures.refused in
    let row = refused_draw self.inside c.args.self.now _ d.count d.start d.base c.in_err-triangles-in-DrawIndexed.field-0.0 self.invariant self.view_is c.state-state.ensures refused in
    let first = subst (λ k. first_row (list_rows c.args.self.now (command_value k)) ≡ Some c.in_err-triangles-in-DrawIndexed.field-0.0) (sym d.is) row in
    record { answer = search rules; ok = search rules; err = search rules }
