use Rattle.std.proofs.Common.{◌<◌, ◌∙◌, ap, sym, subst, refl, []}
use Rattle.scenetext.specs.SeenScene.{scene_value}
use Rattle.gfxspec.specs.declared.geometry.Size.{Size}
use Rattle.gfxspec.specs.Items.{opening}
use Rattle.pixelevents.specs.Laws.{left_by}
use Rattle.pixelhistory.specs.Standing.{Traces}
use Rattle.sessions.specs.Histories.{IsNamedHistory}
use Rattle.sessions.specs.Writing.{stopped_output}
use Rattle.sessions.proofs.Beside.{pixel_inside, pixel_outside, last_shown}
use Rattle.sessions.proofs.telling.history.Goals as goal

pub returns-in-Err-clause-refused : goal.returns-in-Err-clause-refused
returns-in-Err-clause-refused g c = record { output = stopped_output [] c.in-Err.line c.in-Err.number; allowed = c.in-Err.ensures.stopped; ended = refl }

pub returns-then-lacks_pixel-clause-refused : goal.returns-then-lacks_pixel-clause-refused
returns-then-lacks_pixel-clause-refused g c =
    let begun = c.in-Ok.ensures.begun in
    record {
      scene = scene_value c.in-Ok.begun.0;
      spells = begun.spells;
      sized = begun.sized;
      outside = pixel_outside c.args.x c.args.y c.in-Ok.begun.0.size (sym c.lacks_pixel.ensures ∙ c.if-lacks_pixel.true);
    }

pub new-traced-requires-clause-inside : goal.new-traced-requires-clause-inside
new-traced-requires-clause-inside g c κs within =
    let begun = c.in-Ok.ensures.begun in
    subst (λ (z : Size). (c.args.x < z.width) × (c.args.y < z.height)) (sym begun.size_is)
    (pixel_inside c.args.x c.args.y c.in-Ok.begun.0.size (sym c.lacks_pixel.ensures ∙ c.if-lacks_pixel.false))

pub trace_scene-requires-clause-traced : goal.trace_scene-requires-clause-traced
trace_scene-requires-clause-traced g c κs within =
    let traced = c.new-traced.result in
    let size = c.in-Ok.begun.0.size in
    let beside = c.new-traced.ensures.traced size in
    (refl, refl, subst (λ n. Traces size [] n traced.y traced.trace) (sym beside.0) (subst (λ m. Traces size [] c.args.x m traced.trace) (sym beside.1) beside.2))

pub returns-in-Ok-trace_scene-clause-history : goal.returns-in-Ok-trace_scene-clause-history
returns-in-Ok-trace_scene-clause-history g c =
    let begun = c.in-Ok.ensures.begun in
    let scene = scene_value c.in-Ok.begun.0 in
    let inside = pixel_inside c.args.x c.args.y scene.size (sym c.lacks_pixel.ensures ∙ c.if-lacks_pixel.false) in
    let traced = c.new-traced.result in
    let beside = c.new-traced.ensures.traced scene.size in
    let told = c.in-Ok-trace_scene.ensures.history in
    let events = c.in-Ok-trace_scene.events.items in
    let named : IsNamedHistory scene.size scene.lines c.args.x c.args.y events = subst (λ n. IsNamedHistory scene.size scene.lines n c.args.y events) beside.0 (subst (λ m. IsNamedHistory scene.size scene.lines traced.x m events) beside.1 told.1) in
    record {
      scene = scene;
      has_pixel = record { spells = begun.spells; sized = begun.sized; column = inside.0; row = inside.1 };
      done = told.0;
      named = named;
      last = ap (left_by opening) named.events_are ∙ last_shown scene.size scene.lines c.args.x c.args.y;
    }

pub returns-clause-refused : goal.returns-clause-refused
returns-clause-refused g c = c.in-Err-trace_scene.ensures.refused c.args.script.now c.in-Ok.ensures.begun.spells
