use Rattle.std.proofs.Common.{◌≡◌, get_or, refl, arith}
use Rattle.scenetext.proofs.WordLemmas.{minus_word, empty_first}
use Rattle.scenetext.proofs.words.behind_minus.Goals as goal

pub returns-in-45-clause-some : goal.returns-in-45-clause-some
returns-in-45-clause-some c =
    let minus : get_or c.args.line.now 0 0 ≡ 45 = cc in
    minus_word c.args.line.now _ minus c.in-45.len_at_least refl

pub returns-in_default-clause-none : goal.returns-in_default-clause-none
returns-in_default-clause-none c = λ e. grind (arith, empty_first)
