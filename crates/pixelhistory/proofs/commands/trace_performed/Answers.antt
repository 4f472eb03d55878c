use Rattle.std.proofs.Common.{subst}
use Rattle.std.specs.Prelude.{OnOk}
use Rattle.pixelhistory.specs.Tracing.{GoesPast}
use Rattle.pixelhistory.proofs.commands.trace_performed.Goals as goal

pub returns-in-Triangles : goal.returns-in-Triangles
returns-in-Triangles g c opened =
    subst (λ is. OnOk c.trace_draw.result (GoesPast is c.args.x c.args.y c.args.trace.now c.trace_draw.new.trace)) (c.in-Triangles.ensures.items opened) (c.trace_draw.ensures opened)
