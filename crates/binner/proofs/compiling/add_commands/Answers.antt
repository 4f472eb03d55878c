use Rattle.std.proofs.Common.{rules, refl, sym, subst, ℕ, List, ◌≡◌, ◌++◌, ◌∷◌, []}
use Rattle.gfxspec.specs.Items.{Item}
use Rattle.meaning.specs.OneMore.{settings_with, performed_items}
use Rattle.command.specs.Seen.{state_value, command_value}
use Rattle.binner.specs.Opened.{IsOpened, CanNote}
use Rattle.binner.specs.Compiling.{Adds}
use Rattle.cmdlist.specs.Drawable.{IsDrawable, told, drawn_by}
use Rattle.cmdlist.specs.Drawn.{drawing_items}
use Rattle.cmdlist.proofs.Recording.{keeps}
use Rattle.std.specs.Prelude.{IfSome}
use Rattle.binner.specs.Setups.{AreSetups, all_setups}
use Rattle.binner.proofs.Slices.{set_up_for}
use Rattle.binner.proofs.Accepted.{done}
use Rattle.binner.proofs.Commands.{adds_nothing, adds_same, drawing_ready, drawing_comes}
use Rattle.binner.proofs.Noting.{opened_drawing}
use Rattle.binner.proofs.Whole.{so_far, stands, one_more, all_added}
use Rattle.binner.proofs.compiling.add_commands.Goals as goal
use Rattle.binner.proofs.compiling.add_commands.Goals.{in-Nothing, in_default+in_ok-add_drawing-in_default}

pub loop-place-init : goal.loop-place-init
loop-place-init g c = record {
  so_far = so_far (told c.args.results.now) c.args.commands.now (state_value c.new-state.result) c.nothing_begun-of_query.result c.args.compiling.now c.new-state.ensures c.nothing_begun-of_query.ensures c.requires.sound;
  ahead = c.requires.ahead;
}

pub drawing_of-requires : goal.drawing_of-requires
drawing_of-requires g c =
    let l = c.loop-place in
    subst (λ k. IsDrawable (state_value l.state) (command_value k)) (sym c.index-commands-place.is)
    (stands (told c.args.results.now) c.args.commands.now l.invariant.so_far c.index-commands-place.result c.requires.can (search rules)).0

pub add_drawing-requires-clause-ready : goal.add_drawing-requires-clause-ready
add_drawing-requires-clause-ready g c =
    let l = c.loop-place in
    let s = state_value l.state in
    drawing_ready s l.compiling.lists.size c.take_ahead-parts.result _ _ c.drawing_of.ensures.draws
    (subst (λ k. IfSome c.take_ahead-parts.result (λ p. AreSetups s l.compiling.lists.size (drawn_by s (command_value k)) (all_setups p.items))) (sym c.index-commands-place.is)
    (set_up_for c.args.commands.now c.args.compiling.now.lists.size l.place c.index-commands-place.result s l.compiling.lists.size c.take_ahead-parts.result (search rules) l.invariant.so_far.state l.invariant.so_far.size c.take_ahead-parts.ensures.taken))

pub note-requires : goal.note-requires
note-requires g c =
    let l = c.loop-place in
    subst (λ k. CanNote l.begun (command_value k)) (sym c.index-commands-place.is)
    (stands (told c.args.results.now) c.args.commands.now l.invariant.so_far c.index-commands-place.result c.requires.can (search rules)).1

pub loop-place-preserved : goal.loop-place-preserved
loop-place-preserved g c =
    let l = c.loop-place in
    let cs = c.args.commands.now in
    let d = c.index-commands-place.result in
    let is = c.index-commands-place.is in
    let s = state_value l.state in
    let results = told c.args.results.now in
    let more : List ℕ → List Item = λ opened. performed_items results s opened (command_value d) in
    elim c.match-drawing_of.branch [
      | in-Nothing w ↦ rw (w.compiling-is, w.state-is, w.bits-is, w.begun-is, w.of_query-is, w.ahead-is) (record {
        so_far = one_more results cs l.invariant.so_far d (state_value w.change.new.self) w.note.new.bits w.note.new.begun w.note.new.of_query l.compiling c.requires.can (search rules) refl
            (subst (λ k. Adds l.bits (λ opened. performed_items results s opened (command_value k)) l.compiling l.compiling) is
            (adds_nothing l.bits more l.compiling (λ opened. sym (w.in-Nothing.ensures.items opened)) l.invariant.so_far.sound))
            (subst (λ k. IsOpened w.note.new.bits w.note.new.begun w.note.new.of_query (done cs l.place ++ command_value k ∷ [])) is (w.note.ensures (done cs l.place) l.invariant.so_far.opened))
            (subst (λ k. state_value w.change.new.self ≡ settings_with (command_value k) s) is w.change.ensures);
        ahead = l.invariant.ahead;
      })
      | in_default+in_ok-add_drawing-in_default w ↦
          let draws = drawing_comes (command_value d) c.drawing_of.result c.drawing_of.ensures.command w.in_default.not-Nothing in
          rw (w.compiling-is, w.state-is, w.bits-is, w.begun-is, w.of_query-is, w.ahead-is) (record {
            so_far = one_more results cs l.invariant.so_far d s l.bits l.begun l.of_query w.add_drawing.new.compiling c.requires.can c.loop-place-test.true w.add_drawing.ensures.bins
                (subst (λ k. Adds l.bits (λ opened. performed_items results s opened (command_value k)) l.compiling w.add_drawing.new.compiling) is
                (adds_same (λ opened. drawing_items s opened c.drawing_of.result) more c.drawing_of.ensures.items w.in_ok-add_drawing-in_default.ensures.drawn))
                (subst (λ k. IsOpened l.bits l.begun l.of_query (done cs l.place ++ command_value k ∷ [])) is (opened_drawing l.bits l.begun l.of_query (command_value d) (done cs l.place) draws l.invariant.so_far.opened))
                (subst (λ k. s ≡ settings_with (command_value k) s) is (sym ((keeps (command_value d) draws).settings s)));
            ahead = w.take_ahead-parts.ensures.rest;
          })
    ]

pub returns-clause-added : goal.returns-clause-added
returns-clause-added g c = all_added (told c.args.results.now) c.args.commands.now c.loop-place.invariant.so_far (search rules)
