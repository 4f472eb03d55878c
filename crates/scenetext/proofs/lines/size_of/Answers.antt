use Rattle.std.proofs.Common.{rules, arith, ◌≡◌, ◌∙◌, ◌∷◌, ℕ, List, [], length, sym, ap}
use Rattle.std.specs.Prelude.{codes, decimal}
use Rattle.gfxspec.specs.declared.geometry.Size.{Size}
use Rattle.scenetext.specs.Spelling.{size_words}
use Rattle.scenetext.proofs.lines.size_of.Goals as goal

two_words : (ws args more rest : List (List ℕ)) (s : Size) → ws ≡ codes "target" ∷ args → length args ≡ 2 → args ≡ decimal s.width ∷ more → more ≡ decimal s.height ∷ rest → size_words s ≡ ws
two_words ws args more [] s e two f g = ap (λ x. codes "target" ∷ decimal s.width ∷ x) (sym g) ∙ ap (λ x. codes "target" ∷ x) (sym f) ∙ sym e
two_words ws args more (w ∷ rest) s e two f g = absurd (omega (arith, ap length f, ap length g))

pub returns-clause-ok : goal.returns-clause-ok
returns-clause-ok c = record {
  words_are = two_words _ _ _ _ (record { width = c.in_ok-next_argument.field-0; height = c.in_ok-next_argument-2.field-0 }) (search rules) c.in_ok-expect.ensures.ok c.in_ok-next_argument.ensures.ok.0 c.in_ok-next_argument-2.ensures.ok.0;
  size = search rules;
}
