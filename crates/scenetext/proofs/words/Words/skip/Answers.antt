use Rattle.std.proofs.Common.{◌≡◌, ◌∷◌, [], sym, ap, refl, ◌∙◌, length, arith}
use Rattle.std.specs.Prelude.{option_copied}
use Rattle.std.specs.Option.{option_map_or}
use Rattle.scenetext.specs.Text.{words_of}
use Rattle.scenetext.specs.Reading.{first_word}
use Rattle.scenetext.proofs.CutLemmas.{left_behind, none_behind}
use Rattle.scenetext.proofs.words.Words.skip.Goals.{then-count-rest, else-count-rest}
use Rattle.scenetext.proofs.words.Words.skip.Goals as goal

pub invariant_of-self : goal.invariant_of-self
invariant_of-self c =
    let line = c.args.rest.now in
    let counted : c.self.inside.count ≡ length c.args.self.now = c.self.invariant ∙ ap length c.self.view_is in
    elim c.if-count-rest.branch [
      | then-count-rest w ↦
          omega (arith, counted, ap length (left_behind c.args.self.now line _ c.args.count c.requires.rest c.requires.count w.if-count-rest.true refl), ap (λ r. length (option_map_or words_of (option_copied r) [])) w.self-is)
      | else-count-rest w ↦
          omega (arith, counted, ap length (none_behind c.args.self.now line c.args.count c.requires.rest c.requires.count w.if-count-rest.false), ap (λ r. length (option_map_or words_of (option_copied r) [])) w.self-is)
    ]

pub returns : goal.returns
returns c =
    let line = c.args.rest.now in
    elim c.if-count-rest.branch [
      | then-count-rest w ↦
          left_behind c.args.self.now line _ c.args.count c.requires.rest c.requires.count w.if-count-rest.true refl
          ∙ ap (λ r. first_word line ∷ option_map_or words_of (option_copied r) []) (sym w.self-is)
      | else-count-rest w ↦
          none_behind c.args.self.now line c.args.count c.requires.rest c.requires.count w.if-count-rest.false
          ∙ ap (λ r. first_word line ∷ option_map_or words_of (option_copied r) []) (sym w.self-is)
    ]
