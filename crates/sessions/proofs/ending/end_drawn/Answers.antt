use Rattle.scenetext.specs.SeenScene.{scene_value}
use Rattle.sessions.specs.Playing.{IsInterrupted, HasTakenAll, HasFinished, HasEndedWith}
use Rattle.sessions.specs.declared.play.Played.{Played}
use Rattle.sessions.proofs.Endings.{played_to, drawn_by}
use Rattle.sessions.proofs.ending.end_drawn.Goals as goal

pub end-requires-clause-ended : goal.end-requires-clause-ended
end-requires-clause-ended g c =
    let scene = scene_value c.args.scene.now in
    let p = c.args.played in (
      p.answers.items,
      played_to (HasFinished scene.size scene.lines p.context p.answers.items) (HasTakenAll scene.size scene.lines p.answers.items) (λ at. IsInterrupted scene.size scene.lines at.0 at.1 p.answers.items)
          p.interruption (λ finished. finished.all) c.requires.played,
    )

pub returns : goal.returns
returns g c =
    let scene = scene_value c.args.scene.now in
    let p = c.args.played in
    let own : HasEndedWith scene.size scene.lines p.answers.items p =
    played_to (HasFinished scene.size scene.lines p.context p.answers.items) (HasTakenAll scene.size scene.lines p.answers.items) (λ at. IsInterrupted scene.size scene.lines at.0 at.1 p.answers.items)
    p.interruption (λ finished. finished.all) c.requires.played in
    drawn_by scene p c.end.result.answers.items c.end.result.end c.requires.played c.end.ensures.finished (c.end.ensures.draws own)
