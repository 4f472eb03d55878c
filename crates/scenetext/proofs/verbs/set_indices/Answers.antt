use Rattle.std.proofs.Common.{arith}
use Rattle.scenetext.proofs.ReadLemmas.{handed_on, indices_refuse}
use Rattle.scenetext.proofs.verbs.set_indices.Goals as goal
use Rattle.std.proofs.lemmas.Grind.{common_steps}

pub returns-in_err-next_argument-clause-err : goal.returns-in_err-next_argument-clause-err
returns-in_err-next_argument-clause-err g c =
    handed_on _ _ _ c.from_residual-in_err-next_argument.ensures.1
    (indices_refuse c.args.words.now c.loop.words c.loop.indices.items _ c.in_err-next_argument.ensures.err.0 c.loop.invariant.taken c.loop.invariant.each (omega (arith, c.loop.invariant.left)) c.in_err-next_argument.ensures.err.1)

pub loop-preserved : goal.loop-preserved
loop-preserved g c = grind (arith, common_steps)

pub returns-clause-ok : goal.returns-clause-ok
returns-clause-ok g c = grind (arith, common_steps)
