use Rattle.std.proofs.Common.{◌∙◌, ap, sym, ◌<◌, arith, length, Some}
use Rattle.std.specs.Prelude.{option_to_list}
use Rattle.device_calls.proofs.PlayedLines.{refused_line, played_line, by_both}
use Rattle.device_calls.proofs.playing.yz_handle_play_line.Goals as goal

pub returns-in-Ok-clause-played : goal.returns-in-Ok-clause-played
returns-in-Ok-clause-played c =
    let p = c.deref_mut.result.now in
    let h = c.deref_mut-2.result.now in
    let q = c.play_line-played.new.self in
    let k = c.play_line-played.new.immediate in
    let plays = c.in-Ok.ensures.played in
    let shorter : length c.in-Ok.rest.now < length c.args.text.now = plays.read.shorter in
    by_both _ _ _ _ p q h k _ (c.take-contexts.ensures.taken ∙ ap Some (sym c.deref_mut.ensures.value)) c.put.ensures
    (c.take-immediate.ensures.taken ∙ ap Some (sym c.deref_mut-2.ensures.value)) c.put-2.ensures
    (played_line c.args.text.now p q h k (option_to_list c.in-Ok.asked) c.in-Ok.rest.now _ c.spell.new.area _ plays (omega (arith, shorter)) c.spell.ensures.size c.spell.ensures.written)

pub returns-in-Err-clause-played : goal.returns-in-Err-clause-played
returns-in-Err-clause-played c =
    let p = c.deref_mut.result.now in
    let h = c.deref_mut-2.result.now in
    let q = c.play_line-played.new.self in
    let k = c.play_line-played.new.immediate in
    let answered = c.in-Err.ensures in
    by_both _ _ _ _ p q h k _ (c.take-contexts.ensures.taken ∙ ap Some (sym c.deref_mut.ensures.value)) c.put.ensures
    (c.take-immediate.ensures.taken ∙ ap Some (sym c.deref_mut-2.ensures.value)) c.put-2.ensures
    (refused_line c.args.text.now p q h k _ _ c.in-Err.number answered.refused answered.same answered.left)
