use Rattle.std.proofs.Common.{rules, ◌≡◌, ◌∙◌, ◌<◌, ap, sym, subst, refl, map, ℕ, []}
use Rattle.std.specs.Prelude.{Result, Ok, Err, None, IfOk}
use Rattle.scenetext.specs.Seen.{line_value}
use Rattle.scenetext.specs.SeenScene.{scene_value}
use Rattle.scenetext.specs.Spelling.{AreLines}
use Rattle.recorders.specs.Recording.{listed}
use Rattle.recorders.specs.Asking.{Asked}
use Rattle.recorders.specs.Ending.{AreRecorded}
use Rattle.pixelevents.specs.Named.{named_by}
use Rattle.pixelevents.specs.Origins.{AreNamed}
use Rattle.sessions.specs.declared.traced.TracedContext.{TracedContext}
use Rattle.sessions.specs.Answers.{image}
use Rattle.sessions.specs.Playing.{HasEnded, missing_in, own_count}
use Rattle.sessions.specs.Writing.{Draws, drawing, gathering, refused_output, stopped_output}
use Rattle.sessions.specs.Performing.{ended_by}
use Rattle.sessions.specs.Histories.{traces_beside, named_event}
use Rattle.sessions.proofs.Beside.{whole_history, drawn_done}
use Rattle.sessions.proofs.Naming.{numbers_low, named_history}
use Rattle.sessions.proofs.telling.trace_scene.Goals as goal

pub returns-in_default-clause-refused : goal.returns-in_default-clause-refused
returns-in_default-clause-refused g c text spells = record { output = refused_output [] 0 1; allowed = gathering; ended = refl }

pub play_traced-played-requires-clause-may : goal.play_traced-played-requires-clause-may
play_traced-played-requires-clause-may g c κs within = record {
  sound = subst (AreLines []) (sym (c.in-Ok.ensures ∙ ap (map line_value) c.as_slice.ensures.value)) c.requires.scene.1;
  lists = λ k n. ap (λ ls. listed ls k n) c.record_alone-recorded.ensures;
  start = c.requires.new;
}

pub end-ended-requires-clause-recorded : goal.end-ended-requires-clause-recorded
end-ended-requires-clause-recorded g c =
    let played = c.play_traced-played in
    let lines = ap (λ (a : Asked). a.lines) played.ensures.frame ∙ c.record_alone-recorded.ensures ∙ c.in-Ok.ensures ∙ ap (map line_value) c.as_slice.ensures.value in
    subst (λ ls. AreRecorded ls c.first_refused.result (missing_in played.result.interruption)) lines (c.first_refused.ensures (missing_in played.result.interruption) played.ensures.missing)

pub end-ended-requires-clause-ended : goal.end-ended-requires-clause-ended
end-ended-requires-clause-ended g c =
    let p = c.play_traced-played.result in
    subst (λ ls. HasEnded c.args.scene.now.size ls p) (c.in-Ok.ensures ∙ ap (map line_value) c.as_slice.ensures.value)
    (subst (λ s. HasEnded s c.in-Ok.lines p) c.requires.size (c.play_traced-played.ensures.ended tt))

pub all_named-requires-clause-same : goal.all_named-requires-clause-same
all_named-requires-clause-same g c = search rules

pub all_named-requires-clause-below : goal.all_named-requires-clause-below
all_named-requires-clause-below g c =
    let scene = scene_value c.args.scene.now in
    let d = c.in-Ok-ended.traced in
    let same : c.end-ended.result.end ≡ Ok d = cc in
    let played = c.play_traced-played in
    let t = c.args.traced in
    let is : (d ≡ played.result.context) × (played.result.interruption ≡ None) = subst (λ e. IfOk e (λ k. (k ≡ played.result.context) × (played.result.interruption ≡ None))) same c.end-ended.ensures.finished in
    let dealt : c.in-Ok.lines ≡ scene.lines = c.in-Ok.ensures ∙ ap (map line_value) c.as_slice.ensures.value in
    let whole = whole_history scene.size t.context.surface.size c.in-Ok.lines scene.lines t.x t.y played.result.interruption played.result.context d c.requires.size dealt is.1 is.0
    (played.ensures.traced t.x t.y (subst (λ z. traces_beside z [] t.x t.y t) (sym c.requires.size) c.requires.traced) tt) in
    subst (λ ls. AreNamed (λ k o. o.step < own_count ls) d.trace.trace.events.items d.trace.origins.items) (sym dealt)
    (numbers_low scene.size scene.lines c.requires.scene.1 d.trace.trace.events.items d.trace.origins.items whole.named)

pub returns-in-Ok-all_named-clause-history : goal.returns-in-Ok-all_named-clause-history
returns-in-Ok-all_named-clause-history g c =
    let scene = scene_value c.args.scene.now in
    let bytes = c.end-ended.ensures.draws_some.0 in
    let d = c.in-Ok-ended.traced in
    let same : c.end-ended.result.end ≡ Ok d = cc in
    let played = c.play_traced-played in
    let t = c.args.traced in
    let is : (d ≡ played.result.context) × (played.result.interruption ≡ None) = subst (λ e. IfOk e (λ k. (k ≡ played.result.context) × (played.result.interruption ≡ None))) same c.end-ended.ensures.finished in
    let dealt : c.in-Ok.lines ≡ scene.lines = c.in-Ok.ensures ∙ ap (map line_value) c.as_slice.ensures.value in
    let whole = whole_history scene.size t.context.surface.size c.in-Ok.lines scene.lines t.x t.y played.result.interruption played.result.context d c.requires.size dealt is.1 is.0
    (played.ensures.traced t.x t.y (subst (λ z. traces_beside z [] t.x t.y t) (sym c.requires.size) c.requires.traced) tt) in
    let u = d.trace in
    let told : c.in-Ok-all_named.events.items ≡ named_by (named_event scene.lines) u.trace.events.items u.origins.items = c.in-Ok-all_named.ensures ∙ ap (λ ls. named_by (named_event ls) u.trace.events.items u.origins.items) dealt in (
      drawn_done scene (ended_by (image scene) bytes (Ok d)) (subst (λ e. Draws scene (ended_by (image scene) bytes e)) same c.end-ended.ensures.draws_some.1) refl,
      named_history scene.size scene.lines c.requires.scene.1 t.x t.y u whole.events whole.named c.in-Ok-all_named.events.items told,
    )

pub returns-in-Ok-ended-clause-refused : goal.returns-in-Ok-ended-clause-refused
returns-in-Ok-ended-clause-refused g c text spells = record { output = refused_output [] 0 1; allowed = gathering; ended = refl }

pub returns-clause-refused : goal.returns-clause-refused
returns-clause-refused g c text spells =
    let scene = scene_value c.args.scene.now in
    let bytes = c.end-ended.ensures.draws_some.0 in
    let at : ℕ × ℕ = c.in-Err.refused in
    let same : c.end-ended.result.end ≡ Err at = cc in
    record { output = stopped_output bytes at.0 at.1; allowed = drawing scene _ spells (subst (λ e. Draws scene (ended_by (image scene) bytes e)) same c.end-ended.ensures.draws_some.1); ended = refl }
