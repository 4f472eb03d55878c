use Rattle.std.proofs.Common.{rules, sym, subst, ◌≡◌, ◌∷◌}
use Rattle.assemble.specs.Triangle.{primitive_of}
use Rattle.assemble.specs.Drawing.{triangles_of}
use Rattle.command.specs.Seen.{state_value}
use Rattle.binner.proofs.Readying.{AreReady, draw_ready}
use Rattle.pixelhistory.proofs.Taking.{took_begin, took_one, took_all, took_few}
use Rattle.pixelhistory.proofs.trace.trace_draw.Goals as goal

pub loop-tri-init : goal.loop-tri-init
loop-tri-init g c =
    let same : c.into_iter-tri-iterator.result ≡ triangles_of c.args.draw.now = search rules in
    record {
      can_next = tt;
      is_finite = tt;
      ready = subst AreReady (sym same) (draw_ready c.args.draw.now c.requires.vertices);
      took = took_begin (state_value c.args.state.now) c.args.x c.args.y (triangles_of c.args.draw.now) c.into_iter-tri-iterator.result c.args.trace.now same;
    }

pub trace_triangle-requires-clause-ready : goal.trace_triangle-requires-clause-ready
trace_triangle-requires-clause-ready g c =
    let is : c.loop-tri.tri-iterator ≡ primitive_of c.in-Some.tri ∷ c.next.new.self = search rules in
    (subst AreReady is c.loop-tri.invariant.ready).0

pub trace_triangle-requires-clause-few : goal.trace_triangle-requires-clause-few
trace_triangle-requires-clause-few g c =
    let is : c.loop-tri.tri-iterator ≡ primitive_of c.in-Some.tri ∷ c.next.new.self = search rules in
    took_few (state_value c.args.state.now) c.args.x c.args.y (triangles_of c.args.draw.now) c.next.new.self c.loop-tri.tri-iterator (primitive_of c.in-Some.tri) c.args.trace.now c.loop-tri.trace is c.requires.few c.loop-tri.invariant.took

pub loop-tri-preserved : goal.loop-tri-preserved
loop-tri-preserved g c =
    let is : c.loop-tri.tri-iterator ≡ primitive_of c.in-Some.tri ∷ c.next.new.self = search rules in
    record {
      can_next = tt;
      is_finite = tt;
      ready = (subst AreReady is c.loop-tri.invariant.ready).1;
      took = took_one (state_value c.args.state.now) c.args.x c.args.y (triangles_of c.args.draw.now) c.next.new.self c.loop-tri.tri-iterator (primitive_of c.in-Some.tri) c.args.trace.now c.loop-tri.trace c.trace_triangle.new.trace is c.loop-tri.invariant.took c.in_ok-trace_triangle.ensures;
    }

pub returns : goal.returns
returns g c =
    took_all (state_value c.args.state.now) c.args.x c.args.y (triangles_of c.args.draw.now) c.loop-tri.tri-iterator c.args.trace.now c.loop-tri.trace (search rules) c.loop-tri.invariant.took
