use Rattle.std.proofs.Common.{rules, ◌<◌, ◌≤◌, ◌∙◌, ap, sym, subst, refl, length, length-set, arith}
use Rattle.binmem.specs.Lists as bins
use Rattle.std.proofs.lemmas.Result.{on_ok_weaker}
use Rattle.binner.proofs.Pushing.{few, room_of, short_cut, short_push, cut_sound, cut_at}
use Rattle.binner.proofs.lists.cut.Goals as goal

pub push_number-requires-clause-room : goal.push_number-requires-clause-room
push_number-requires-clause-room g c =
    let l = c.args.lists.now in
    let inside : c.args.tile < length l.bins = subst (λ n. c.args.tile < n) (sym c.requires.sound.bins) c.requires.tile in
    let long = ap length c.cut.ensures ∙ length-set l.bins c.args.tile _ in
    room_of c.cut.new.self (subst (λ n. n ≤ 16384) (sym long) (few l c.requires.sound)) (λ k. let h = short_cut l.bins c.cut.new.self c.args.tile 239999 inside c.requires.room c.cut.ensures k in omega (arith, h))

pub push_number-requires-2-clause-room : goal.push_number-requires-2-clause-room
push_number-requires-2-clause-room g c =
    let l = c.args.lists.now in
    let inside : c.args.tile < length l.bins = subst (λ n. c.args.tile < n) (sym c.requires.sound.bins) c.requires.tile in
    let long = ap length c.cut.ensures ∙ length-set l.bins c.args.tile _ in
    let pushed = c.in_ok-push_number.ensures.pushed in
    room_of c.push_number.new.bins (subst (λ n. n ≤ 16384) (sym (c.push_number.ensures.bins ∙ long)) (few l c.requires.sound))
    (short_push c.cut.new.self c.push_number.new.bins c.args.tile 239999 (subst (λ n. c.args.tile < n) (sym long) inside) (short_cut l.bins c.cut.new.self c.args.tile 239999 inside c.requires.room c.cut.ensures) c.args.number pushed)

pub returns-clause-sound : goal.returns-clause-sound
returns-clause-sound g c =
    on_ok_weaker c.push_number-2.result
    (λ h. cut_sound c.args.lists.now _ c.args.tile c.args.number c.args.word c.cut.new.self c.push_number.new.bins c.requires.sound c.requires.tile refl c.cut.ensures c.in_ok-push_number.ensures.pushed (h ∙ ap (λ n. bins.with_word c.push_number.new.bins c.args.tile n) c.encode.ensures.value) refl refl c.requires.can)
    c.push_number-2.ensures.pushed

pub returns-clause-cut : goal.returns-clause-cut
returns-clause-cut g c =
    on_ok_weaker c.push_number-2.result
    (λ h. cut_at c.args.lists.now _ c.args.tile c.args.number c.args.word c.cut.new.self c.push_number.new.bins c.requires.sound c.requires.tile refl c.cut.ensures c.in_ok-push_number.ensures.pushed (h ∙ ap (λ n. bins.with_word c.push_number.new.bins c.args.tile n) c.encode.ensures.value) refl refl c.requires.can)
    c.push_number-2.ensures.pushed

pub cut-requires : goal.cut-requires
cut-requires g c = search rules

pub push_number-requires-clause-in_range : goal.push_number-requires-clause-in_range
push_number-requires-clause-in_range g c = search rules

pub branch-push_number-requires : goal.branch-push_number-requires
branch-push_number-requires g c κs = search rules

pub from_residual-requires : goal.from_residual-requires
from_residual-requires g c κs = search rules

pub returns-in_err-push_number-clause-bins : goal.returns-in_err-push_number-clause-bins
returns-in_err-push_number-clause-bins g c = search rules

pub returns-in_err-push_number-clause-sound : goal.returns-in_err-push_number-clause-sound
returns-in_err-push_number-clause-sound g c = search rules

pub returns-in_err-push_number-clause-cut : goal.returns-in_err-push_number-clause-cut
returns-in_err-push_number-clause-cut g c = search rules

pub encode-requires : goal.encode-requires
encode-requires g c = search rules

pub push_number-requires-2-clause-in_range : goal.push_number-requires-2-clause-in_range
push_number-requires-2-clause-in_range g c = search rules

pub returns-clause-bins : goal.returns-clause-bins
returns-clause-bins g c = search rules
