use Rattle.std.proofs.Common.{◌≡◌, [], sym, ap, ◌∙◌}
use Rattle.std.specs.Prelude.{option_copied}
use Rattle.std.specs.Option.{option_map_or}
use Rattle.scenetext.specs.Text.{words_of}
use Rattle.scenetext.specs.Faults.{word}
use Rattle.scenetext.proofs.CutLemmas.{first_of_words}
use Rattle.scenetext.proofs.WordLemmas.{nothing_spelled}
use Rattle.scenetext.proofs.words.Words.next_natural.Goals as goal

pub returns-in_err-rest-clause-none : goal.returns-in_err-rest-clause-none
returns-in_err-rest-clause-none c =
    let none : c.args.self.now ≡ [] = sym c.self.view_is ∙ ap (λ r. option_map_or words_of (option_copied r) []) c.in_err-rest.was in
    rw c.from_residual.ensures (λ n small e. nothing_spelled n small (ap (λ ws. word ws 0) (sym none) ∙ e))

pub returns-in_err-number-clause-none : goal.returns-in_err-number-clause-none
returns-in_err-number-clause-none c =
    let line = c.in_ok-rest.rest.now in
    let whole : c.args.self.now ≡ words_of line = sym c.self.view_is ∙ ap (λ r. option_map_or words_of (option_copied r) []) c.in_ok-rest.was in
    rw c.from_residual-in_err-number.ensures (λ n small e. c.in_err-number.ensures.none n small (sym (ap (λ ws. word ws 0) whole ∙ first_of_words line) ∙ e))
