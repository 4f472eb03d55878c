use Rattle.gfxspec.specs.Items.{Drawn}
use Rattle.assemble.specs.Triangle.{primitive_of}
use Rattle.command.specs.Seen.{state_value}
use Rattle.pixelhistory.proofs.Taking.{as_events, on_ok, past_one}
use Rattle.pixelhistory.proofs.trace.trace_triangle.Goals as goal

pub returns : goal.returns
returns g c opened =
    let p = primitive_of (record { v = c.args.vertices.now }) in
    let s = state_value c.args.state.now in
    let a = c.args.trace.now in
    on_ok c.add.result
    (past_one c.event_of-event.result (Drawn p s opened) c.args.x c.args.y a c.add.new.trace
    (as_events c.event_of-event.result a.items p s opened c.args.x c.args.y a.pixel (c.event_of-event.ensures.some opened) c.event_of-event.ensures.none))
    c.add.ensures
