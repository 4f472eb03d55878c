use Rattle.std.proofs.Common.{◌∙◌, ap, sym, subst, refl, map, []}
use Rattle.scenetext.specs.Seen.{line_value}
use Rattle.scenetext.specs.SeenScene.{scene_value}
use Rattle.scenetext.specs.Spelling.{AreLines}
use Rattle.recorders.specs.Ending.{AreRecorded}
use Rattle.sessions.specs.Playing.{HasPlayed, missing_in}
use Rattle.sessions.specs.Writing.{Writes, drawing, gathering}
use Rattle.sessions.proofs.threads.perform_in_threads.Goals as goal

pub returns-in-Err : goal.returns-in-Err
returns-in-Err g c = subst (Writes c.args.text.items) (sym c.stopped.ensures) c.in-Err.ensures.stopped

pub returns-in_default : goal.returns-in_default
returns-in_default g c = subst (Writes c.args.text.items) (sym c.stopped-in_default.ensures) gathering

pub returns-in_default-open_ports : goal.returns-in_default-open_ports
returns-in_default-open_ports g c = subst (Writes c.args.text.items) (sym c.stopped-in_default-open_ports.ensures) gathering

pub play_in_scope-round-requires-clause-may : goal.play_in_scope-round-requires-clause-may
play_in_scope-round-requires-clause-may g c κs within = record {
  sound = subst (AreLines []) (sym (c.in-Ok-deal.ensures ∙ ap (map line_value) c.as_slice.ensures.value)) c.in-Ok.ensures.begun.spells.scene_is.1;
  lists = λ k n. refl;
  start = c.in-Ok.ensures.begun.new;
}

pub end_drawn-requires-clause-recorded : goal.end_drawn-requires-clause-recorded
end_drawn-requires-clause-recorded g c =
    let round = c.play_in_scope-round in
    let missing = missing_in round.result.played.interruption in
    subst (λ l. AreRecorded l c.settle-deferred.result missing) (c.in-Ok-deal.ensures ∙ ap (map line_value) c.as_slice.ensures.value) (c.settle-deferred.ensures.refused _ missing round.ensures.results round.ensures.missing)

pub end_drawn-requires-clause-played : goal.end_drawn-requires-clause-played
end_drawn-requires-clause-played g c =
    let round = c.play_in_scope-round in
    let p = round.result.played in
    subst (λ l. HasPlayed c.in-Ok.begun.0.size l p) (c.in-Ok-deal.ensures ∙ ap (map line_value) c.as_slice.ensures.value)
    (subst (λ s. HasPlayed s c.in-Ok-deal.lines p) c.in-Ok.ensures.begun.size_is (round.ensures.played (c.settle-deferred.ensures.agrees _ round.ensures.results)))

pub returns : goal.returns
returns g c = drawing (scene_value c.in-Ok.begun.0) _ c.in-Ok.ensures.begun.spells c.end_drawn.ensures
