use Rattle.std.proofs.Common.{◌∙◌, ap, sym, subst, map, []}
use Rattle.scenetext.specs.Seen.{line_value}
use Rattle.scenetext.specs.SeenScene.{scene_value}
use Rattle.scenetext.specs.Spelling.{AreLines}
use Rattle.recorders.specs.Recording.{listed}
use Rattle.recorders.specs.Asking.{Asked}
use Rattle.recorders.specs.Ending.{AreRecorded}
use Rattle.sessions.specs.Playing.{HasPlayed, missing_in}
use Rattle.sessions.specs.Writing.{Writes, drawing, gathering}
use Rattle.sessions.proofs.perform.perform_alone.Goals as goal

pub returns-in-Err : goal.returns-in-Err
returns-in-Err g c = subst (Writes c.args.text.items) (sym c.stopped.ensures) c.in-Err.ensures.stopped

pub returns-in_default : goal.returns-in_default
returns-in_default g c = subst (Writes c.args.text.items) (sym c.stopped-in_default.ensures) gathering

pub play_alone-played-requires-clause-may : goal.play_alone-played-requires-clause-may
play_alone-played-requires-clause-may g c κs within = record {
  sound = subst (AreLines []) (sym (c.in-Ok-deal.ensures ∙ ap (map line_value) c.as_slice.ensures.value)) c.in-Ok.ensures.begun.spells.scene_is.1;
  lists = λ k n. ap (λ ls. listed ls k n) c.record_alone-recorded.ensures;
  start = c.in-Ok.ensures.begun.new;
}

pub end_drawn-requires-clause-recorded : goal.end_drawn-requires-clause-recorded
end_drawn-requires-clause-recorded g c =
    let played = c.play_alone-played in
    let lines = ap (λ (a : Asked). a.lines) played.ensures.frame ∙ c.record_alone-recorded.ensures ∙ c.in-Ok-deal.ensures ∙ ap (map line_value) c.as_slice.ensures.value in
    subst (λ ls. AreRecorded ls c.first_refused.result (missing_in played.result.interruption)) lines (c.first_refused.ensures (missing_in played.result.interruption) played.ensures.missing)

pub end_drawn-requires-clause-played : goal.end_drawn-requires-clause-played
end_drawn-requires-clause-played g c =
    let p = c.play_alone-played.result in
    subst (λ ls. HasPlayed c.in-Ok.begun.0.size ls p) (c.in-Ok-deal.ensures ∙ ap (map line_value) c.as_slice.ensures.value)
    (subst (λ s. HasPlayed s c.in-Ok-deal.lines p) c.in-Ok.ensures.begun.size_is (c.play_alone-played.ensures.played tt))

pub returns : goal.returns
returns g c = drawing (scene_value c.in-Ok.begun.0) _ c.in-Ok.ensures.begun.spells c.end_drawn.ensures
