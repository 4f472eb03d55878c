use Rattle.std.proofs.Common.{rules, sym, subst, ◌≡◌}
use Rattle.std.specs.Prelude.{IfSome}
use Rattle.meaning.specs.OneMore.{settings_with}
use Rattle.command.specs.Seen.{state_value, command_value}
use Rattle.cmdlist.specs.Drawable.{IsDrawable, drawn_by}
use Rattle.binner.specs.Setups.{AreSetups, all_setups}
use Rattle.binner.proofs.Accepted.{drawable}
use Rattle.binner.proofs.Slices.{noted, settings_more}
use Rattle.binner.proofs.ahead.set_up_ahead.Goals as goal

pub parts_of_command-requires-after_bounds : goal.parts_of_command-requires-after_bounds
parts_of_command-requires-after_bounds g c κs within =
    let l = c.loop-place in
    subst (λ k. IsDrawable (state_value l.state) (command_value k)) (sym c.index-commands-place.is)
    (drawable c.args.commands.now l.place c.index-commands-place.result (state_value l.state) c.requires (search rules) l.invariant.state)

pub loop-place-preserved : goal.loop-place-preserved
loop-place-preserved g c =
    let l = c.loop-place in
    let cs = c.args.commands.now in
    let d = c.index-commands-place.result in
    let is = c.index-commands-place.is in
    let s = state_value l.state in
    record {
      state = settings_more cs l.place d s (state_value c.change.new.self) (search rules) l.invariant.state
          (subst (λ k. state_value c.change.new.self ≡ settings_with (command_value k) s) is c.change.ensures);
      ahead = noted cs c.args.size l.place d s c.in_ok-parts.parts l.ahead.items c.note.new.ahead.items l.invariant.state l.invariant.ahead
          (subst (λ k. IfSome c.in_ok-parts.parts (λ p. AreSetups s c.args.size (drawn_by s (command_value k)) (all_setups p.items))) is c.in_ok-parts.ensures)
          c.in_ok-note.ensures;
    }
