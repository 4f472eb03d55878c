-- Orders of four tiles: lists of four numbers, each with the list that says where a number stands.
use Rattle.std.proofs.Common.{◌≡◌, ◌∙◌, ap, sym, subst, refl, arith, ℕ, zero, suc, ◌<◌, List, [], ◌∷◌, length, get_or}
use Rattle.gfxspec.specs.declared.geometry.Size.{Size}
use Rattle.gfxspec.specs.Tiles.{tile_count}
use Rattle.binner.specs.Compiled.{Compilation, IsCompilation}
use Rattle.tileprog.specs.Programs.{IsOrder}
use Rattle.tileprog.proofs.Touched.{are_tiles}

abbrev pub side_33 : Size
side_33 = record { width = 33; height = 33 }

-- each number of a list is one of the four, and the other list says where it stands
abbrev Places : List ℕ → List ℕ → Type 0
Places xs places = (p d : ℕ) → p < 4 → (get_or xs p d < 4) × (get_or places (get_or xs p d) d ≡ p)

module _ (c : Compilation) (sound : IsCompilation c) (size : c.size ≡ side_33) where
  is_order : (xs places : List ℕ) → length xs ≡ 4 → Places xs places → Places places xs → IsOrder c xs
  is_order xs places many here there =
      record {
        tiles = record {
          in_range = λ k d l. subst (λ z. get_or xs k d < tile_count z) (sym size) (here k d (subst (λ n. k < n) many l)).0;
          once = λ p q l m e. sym (here p 0 (subst (λ n. p < n) many l)).1 ∙ (ap (λ t. get_or places t 0) e ∙ (here q 0 (subst (λ n. q < n) many m)).1);
        };
        all = λ t has. let few : t < 4 = subst (λ s. t < tile_count s) size (subst (λ u. u < tile_count c.size) has.2 ((are_tiles c sound).in_range has.0 t has.1)) in
            let at = there t t few in (get_or places t t, subst (λ n. get_or places t t < n) (sym many) at.0, at.1);
      }

  by_four : (P : ℕ → Type 0) → P 0 → P 1 → P 2 → P 3 → (p : ℕ) → p < 4 → P p
  by_four P a b c d zero l = a
  by_four P a b c d (suc zero) l = b
  by_four P a b c d (suc (suc zero)) l = c
  by_four P a b c d (suc (suc (suc zero))) l = d
  by_four P a b c d (suc (suc (suc (suc p)))) l = absurd (omega arith)

  pub in_turn : IsOrder c (0 ∷ 1 ∷ 2 ∷ 3 ∷ [])
  in_turn = is_order _ (0 ∷ 1 ∷ 2 ∷ 3 ∷ []) refl same same
    where
      same : Places (0 ∷ 1 ∷ 2 ∷ 3 ∷ []) (0 ∷ 1 ∷ 2 ∷ 3 ∷ [])
      same p d = by_four (λ p. (get_or (0 ∷ 1 ∷ 2 ∷ 3 ∷ []) p d < 4) × (get_or (0 ∷ 1 ∷ 2 ∷ 3 ∷ []) (get_or (0 ∷ 1 ∷ 2 ∷ 3 ∷ []) p d) d ≡ p)) (omega arith, refl) (omega arith, refl) (omega arith, refl) (omega arith, refl) p

  pub turned : IsOrder c (3 ∷ 1 ∷ 0 ∷ 2 ∷ [])
  turned = is_order _ (2 ∷ 1 ∷ 3 ∷ 0 ∷ []) refl here there
    where
      here : Places (3 ∷ 1 ∷ 0 ∷ 2 ∷ []) (2 ∷ 1 ∷ 3 ∷ 0 ∷ [])
      here p d = by_four (λ p. (get_or (3 ∷ 1 ∷ 0 ∷ 2 ∷ []) p d < 4) × (get_or (2 ∷ 1 ∷ 3 ∷ 0 ∷ []) (get_or (3 ∷ 1 ∷ 0 ∷ 2 ∷ []) p d) d ≡ p)) (omega arith, refl) (omega arith, refl) (omega arith, refl) (omega arith, refl) p

      there : Places (2 ∷ 1 ∷ 3 ∷ 0 ∷ []) (3 ∷ 1 ∷ 0 ∷ 2 ∷ [])
      there p d = by_four (λ p. (get_or (2 ∷ 1 ∷ 3 ∷ 0 ∷ []) p d < 4) × (get_or (3 ∷ 1 ∷ 0 ∷ 2 ∷ []) (get_or (2 ∷ 1 ∷ 3 ∷ 0 ∷ []) p d) d ≡ p)) (omega arith, refl) (omega arith, refl) (omega arith, refl) (omega arith, refl) p

  pub mixed : IsOrder c (2 ∷ 3 ∷ 1 ∷ 0 ∷ [])
  mixed = is_order _ (3 ∷ 2 ∷ 0 ∷ 1 ∷ []) refl here there
    where
      here : Places (2 ∷ 3 ∷ 1 ∷ 0 ∷ []) (3 ∷ 2 ∷ 0 ∷ 1 ∷ [])
      here p d = by_four (λ p. (get_or (2 ∷ 3 ∷ 1 ∷ 0 ∷ []) p d < 4) × (get_or (3 ∷ 2 ∷ 0 ∷ 1 ∷ []) (get_or (2 ∷ 3 ∷ 1 ∷ 0 ∷ []) p d) d ≡ p)) (omega arith, refl) (omega arith, refl) (omega arith, refl) (omega arith, refl) p

      there : Places (3 ∷ 2 ∷ 0 ∷ 1 ∷ []) (2 ∷ 3 ∷ 1 ∷ 0 ∷ [])
      there p d = by_four (λ p. (get_or (3 ∷ 2 ∷ 0 ∷ 1 ∷ []) p d < 4) × (get_or (2 ∷ 3 ∷ 1 ∷ 0 ∷ []) (get_or (3 ∷ 2 ∷ 0 ∷ 1 ∷ []) p d) d ≡ p)) (omega arith, refl) (omega arith, refl) (omega arith, refl) (omega arith, refl) p
