use Rattle.std.proofs.Common.{◌≡◌, ◌∙◌, refl, ap}
use Rattle.std.specs.Prelude.{not}
use Rattle.binmem.specs.Lists.{words_of}
use Rattle.binmem.specs.Lists as bins
use Rattle.binner.specs.Lists.{has_some}
use Rattle.std.proofs.lemmas.Result.{on_ok_weaker}
use Rattle.binner.proofs.Pushing.{room, has_words, some_of_length, pushed_sound}
use Rattle.binner.proofs.lists.push_word.Goals as goal

pub push_number-requires-clause-room : goal.push_number-requires-clause-room
push_number-requires-clause-room g c = room c.args.lists.now c.requires.sound c.requires.room

pub returns-clause-sound : goal.returns-clause-sound
returns-clause-sound g c =
    let l = c.args.lists.now in
    let known : not c.is_empty-known.result ≡ has_some (words_of l.bins c.args.tile) = some_of_length c.tail.result.now c.is_empty-known.result c.is_empty-known.ensures ∙ has_words _ _ c.tail.ensures in
    on_ok_weaker c.push_number.result
    (λ h. pushed_sound l _ c.args.tile c.args.word (not c.is_empty-known.result) c.requires.sound c.requires.tile refl (h ∙ ap (λ n. bins.with_word l.bins c.args.tile n) c.encode.ensures.value) refl c.in_ok-mark.ensures known)
    c.push_number.ensures.pushed
