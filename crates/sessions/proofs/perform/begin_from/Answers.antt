use Rattle.std.proofs.Common.{subst, sym, []}
use Rattle.scenetext.specs.SeenScene.{scene_value}
use Rattle.sessions.specs.Writing.{Writes, drawing, stopped_output}
use Rattle.sessions.proofs.Endings.{sized, unread, no_target}
use Rattle.sessions.proofs.perform.begin_from.Goals as goal

pub returns-in-Err-clause-stopped : goal.returns-in-Err-clause-stopped
returns-in-Err-clause-stopped g c = unread c.args.text.now (c.in-Err.line, c.in-Err.number) c.in-Err.ensures.refused

pub returns-in-Ok-new-clause-begun : goal.returns-in-Ok-new-clause-begun
returns-in-Ok-new-clause-begun g c = record {
  spells = c.in-Ok.ensures.scene;
  sized = sized c.in-Ok.scene.size c.in-Ok-new.ensures.answer;
  size_is = c.in-Ok-new.ensures.size;
  new = c.in-Ok-new.ensures.new;
}

pub returns-in-Err-new-clause-stopped : goal.returns-in-Err-new-clause-stopped
returns-in-Err-new-clause-stopped g c =
    let text = c.args.text.now in
    let scene = scene_value c.in-Ok.scene in
    subst (λ n. Writes text (stopped_output [] 1 n)) (sym c.number.ensures) (drawing scene _ c.in-Ok.ensures.scene (no_target scene c.in-Err-new.refusal c.in-Err-new.ensures.answer))
