use Rattle.std.proofs.Common.{arith, ◌/◌, ◌-◌, ◌+◌}
use Rattle.scenetext.proofs.ReadLemmas.{handed_on, vertices_refuse}
use Rattle.scenetext.proofs.verbs.set_vertices.Goals as goal
use Rattle.std.proofs.lemmas.Grind.{common_steps}

pub returns-in_err-next_vertex-clause-err : goal.returns-in_err-next_vertex-clause-err
returns-in_err-next_vertex-clause-err g c =
    handed_on _ _ _ c.from_residual-in_err-next_vertex.ensures.1
    (vertices_refuse c.args.words.now c.loop.words c.loop.vertices.items (c.count-count.result / 7 - (c.loop.counter + 1)) _ c.in_err-next_vertex.ensures.err.0 c.loop.invariant.taken c.loop.invariant.each (omega (arith, c.loop.invariant.left)) c.in_err-next_vertex.ensures.err.1)

pub loop-preserved : goal.loop-preserved
loop-preserved g c = grind (arith, common_steps)

pub returns-clause-ok : goal.returns-clause-ok
returns-clause-ok g c = grind (arith, common_steps)
