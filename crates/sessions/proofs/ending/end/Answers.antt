use Rattle.std.proofs.Common.{◌≡◌, ◌≤◌, ◌∙◌, ap, sym, subst, refl, map, arith, ◌+◌, [], length, take}
use Rattle.std.proofs.lemmas.List.{length-map, length-take-le, take-map}
use Rattle.scenetext.specs.Seen.{line_value}
use Rattle.scenetext.specs.SeenScene.{scene_value}
use Rattle.recorders.specs.Ending.{earlier_of}
use Rattle.sessions.specs.Answers.{answers_behind}
use Rattle.sessions.specs.Writing.{stopped_output, Draws}
use Rattle.answers.specs.Lines.{answer_lines}
use Rattle.sessions.proofs.Endings.{stop_is, no_stop, no_interruption, stopped_by, stopped_draws, drawn}
use Rattle.sessions.proofs.ending.end.Goals as goal

pub slice_bounds-before-end : goal.slice_bounds-before-end
slice_bounds-before-end g c =
    let p = c.args.played in
    let stop = stop_is (scene_value c.args.scene.now) c.requires.sized c.requires.scene.1 c.args.deferred p c.requires.recorded c.requires.ended.0 c.requires.ended.1 c.in-Some.stop (c.in-Some.ensures ∙ ap (earlier_of c.args.deferred) c.refused_line.ensures) in
    let below = stop.below in
    let count = sym (length-map c.as_slice.result.now line_value) ∙ ap length (ap (map line_value) c.as_slice.ensures.value) in
    let few : c.in-Some.stop.place ≤ length c.as_slice.result.now = omega (arith, below, count) in
    sym (length-take-le c.in-Some.stop.place c.as_slice.result.now few)

pub returns-in-Some-clause-draws : goal.returns-in-Some-clause-draws
returns-in-Some-clause-draws g c own =
    let scene = scene_value c.args.scene.now in
    let p = c.args.played in
    let stop = c.in-Some.stop in
    let same = c.in-Some.ensures ∙ ap (earlier_of c.args.deferred) c.refused_line.ensures in
    let stops = stop_is scene c.requires.sized c.requires.scene.1 c.args.deferred p c.requires.recorded p.answers.items own stop same in
    let below = stops.below in
    let count = sym (length-map c.as_slice.result.now line_value) ∙ ap length (ap (map line_value) c.as_slice.ensures.value) in
    let few : stop.place ≤ length c.as_slice.result.now = omega (arith, below, count) in
    let lines_are = sym (take-map line_value stop.place c.as_slice.result.now) ∙ ap (take stop.place) (ap (map line_value) c.as_slice.ensures.value) in
    let asked = subst (λ ls. length (answers_behind scene.size [] ls) ≡ c.asked.result) lines_are (c.asked.ensures scene.size) in
    let bytes = c.first_lines.result.items in
    let draws = stopped_draws scene c.requires.sized c.requires.scene.1 c.args.deferred p c.requires.recorded p.answers.items own stop bytes c.asked.result same c.first_lines.ensures asked in
    subst (λ k. Draws scene (stopped_output bytes k c.number.result)) (sym (c.line_behind-line.ensures ∙ ap (λ n. n + 2) (length-take-le stop.place c.as_slice.result.now few)))
    (subst (λ n. Draws scene (stopped_output bytes (stop.place + 2) n)) (sym c.number.ensures) draws)

pub returns-in-Some-clause-draws_some : goal.returns-in-Some-clause-draws_some
returns-in-Some-clause-draws_some g c =
    let scene = scene_value c.args.scene.now in
    let p = c.args.played in
    let stop = c.in-Some.stop in
    let same = c.in-Some.ensures ∙ ap (earlier_of c.args.deferred) c.refused_line.ensures in
    let below = (stop_is scene c.requires.sized c.requires.scene.1 c.args.deferred p c.requires.recorded c.requires.ended.0 c.requires.ended.1 stop same).below in
    let count = sym (length-map c.as_slice.result.now line_value) ∙ ap length (ap (map line_value) c.as_slice.ensures.value) in
    let few : stop.place ≤ length c.as_slice.result.now = omega (arith, below, count) in
    let bytes = answer_lines (answers_behind scene.size [] (take stop.place scene.lines)) in
    let draws = stopped_by scene c.requires.sized c.requires.scene.1 c.args.deferred p c.requires.recorded c.requires.ended.0 c.requires.ended.1 stop bytes same refl in (
      bytes,
      subst (λ k. Draws scene (stopped_output bytes k c.number.result)) (sym (c.line_behind-line.ensures ∙ ap (λ n. n + 2) (length-take-le stop.place c.as_slice.result.now few)))
          (subst (λ n. Draws scene (stopped_output bytes (stop.place + 2) n)) (sym c.number.ensures) draws),
    )

pub returns-in-None-clause-draws : goal.returns-in-None-clause-draws
returns-in-None-clause-draws g c own =
    let p = c.args.played in
    drawn (scene_value c.args.scene.now) c.requires.sized c.requires.scene.1 p.answers.items
    (no_stop (scene_value c.args.scene.now) c.requires.sized c.requires.scene.1 c.args.deferred p c.requires.recorded p.answers.items own (c.in-None.ensures ∙ ap (earlier_of c.args.deferred) c.refused_line.ensures))

pub returns-in-None-clause-draws_some : goal.returns-in-None-clause-draws_some
returns-in-None-clause-draws_some g c =
    let scene = scene_value c.args.scene.now in
    let text = c.requires.ended.0 in
    (text, drawn scene c.requires.sized c.requires.scene.1 text (no_stop scene c.requires.sized c.requires.scene.1 c.args.deferred c.args.played c.requires.recorded text c.requires.ended.1 (c.in-None.ensures ∙ ap (earlier_of c.args.deferred) c.refused_line.ensures)))

pub returns-in-None-clause-finished : goal.returns-in-None-clause-finished
returns-in-None-clause-finished g c = (
  refl,
  no_interruption (scene_value c.args.scene.now) c.requires.sized c.requires.scene.1 c.args.deferred c.args.played c.requires.recorded c.requires.ended.0 c.requires.ended.1 (c.in-None.ensures ∙ ap (earlier_of c.args.deferred) c.refused_line.ensures),
)
