use Rattle.std.proofs.Common.{◌∙◌, ap, refl, sym, true}
use Rattle.binmem.specs.Lists as bins
use Rattle.std.proofs.lemmas.Result.{on_ok_weaker}
use Rattle.binner.proofs.Pushing.{room, pushed_sound}
use Rattle.binner.proofs.lists.push_behind.Goals as goal

pub push_number-requires-clause-room : goal.push_number-requires-clause-room
push_number-requires-clause-room g c = room c.args.lists.now c.requires.sound c.requires.room

pub returns-clause-sound : goal.returns-clause-sound
returns-clause-sound g c =
    let l = c.args.lists.now in
    on_ok_weaker c.push_number.result
    (λ h. pushed_sound l _ c.args.tile c.args.word true c.requires.sound c.requires.tile refl (h ∙ ap (λ n. bins.with_word l.bins c.args.tile n) c.encode.ensures.value) refl refl (sym c.requires.others))
    c.push_number.ensures.pushed
