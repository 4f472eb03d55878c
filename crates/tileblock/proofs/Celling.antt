-- What is known of a cell is kept beside what is known of the others.
use Rattle.std.proofs.Common.{◌≡◌, ◌∙◌, ap, sym, subst, refl, ⊎_elim, arith, ℕ, ◌+◌, ◌*◌, ◌<◌, length, replicate, Option, Some, None, get_or-set_same, get_or-set_other, length-set}
use Rattle.std.specs.Prelude.{slice_index_or, slice_set}
use Rattle.std.proofs.lemmas.List.{get_or-replicate, length-replicate}
use Rattle.std.proofs.lemmas.Option.{none-some, same_Some}
use Rattle.std.proofs.lemmas.Bool.{cases_eq}
use Rattle.tileblock.specs.declared.pixels.Cells.{Cells}
use Rattle.tileblock.specs.declared.pixels.DepthBounds.{DepthBounds}
use Rattle.tileblock.specs.Block.{Block}
use Rattle.tileblock.specs.Cells.{CellLies, CellsLie, cells_of}

sixteen : (o : Option Cells) → ((k : Cells) → o ≡ Some k → length k.bounds ≡ 16) → length (cells_of o).bounds ≡ 16
sixteen None h = length-replicate {A = Option DepthBounds} 16 None
sixteen (Some c) h = h c refl

none_known : (n : ℕ) (d : DepthBounds) → n < 16 → slice_index_or (replicate 16 None) n None ≡ Some d → ⊥
none_known n d l is = none-some d (sym (get_or-replicate {A = Option DepthBounds} 16 n None None l) ∙ is)

all_lie : (b : Block) (o : Option Cells) → ((k : Cells) → o ≡ Some k → CellsLie b k) → CellsLie b (cells_of o)
all_lie b None h = λ span cell d s t is. absurd (none_known (4 * cell + span) d (omega (arith, s, t)) is)
all_lie b (Some c) h = h c refl

module _ (b : Block) (o : Option Cells) (count : (k : Cells) → o ≡ Some k → length k.bounds ≡ 16) (lie : (k : Cells) → o ≡ Some k → CellsLie b k) (c : Cells) (c_is : c ≡ cells_of o) (span cell least greatest : ℕ) (ls : span < 4) (lt : cell < 4) (here : CellLies b span cell least greatest) where
  abbrev now : Cells
  now = record { bounds = slice_set c.bounds (4 * cell + span) (Some (record { least = least; greatest = greatest })) }

  places : length c.bounds ≡ 16
  places = ap (λ (k : Cells). length k.bounds) c_is ∙ sixteen o count

  pub kept_places : length now.bounds ≡ 16
  kept_places = length-set c.bounds (4 * cell + span) _ ∙ places

  pub kept_lie : CellsLie b now
  kept_lie s t d ms mt is = ⊎_elim
      (λ same.
      let told = same_Some (record { least = least; greatest = greatest }) d (sym (get_or-set_same c.bounds (4 * cell + span) _ None (omega (arith, places, ls, lt))) ∙ ap (λ n. slice_index_or now.bounds n None) (sym same) ∙ is) in
      let s_is : span ≡ s = omega (arith, same, ls, ms) in
      let t_is : cell ≡ t = omega (arith, same, ls, ms) in
      subst (λ (d : DepthBounds). CellLies b s t d.least d.greatest) told (subst (λ u. CellLies b s u least greatest) t_is (subst (λ u. CellLies b u cell least greatest) s_is here)))
      (λ ne. subst (λ k. CellsLie b k) (sym c_is) (all_lie b o lie) s t d ms mt (sym (get_or-set_other c.bounds (4 * cell + span) (4 * t + s) _ None ne) ∙ is))
      (cases_eq (4 * t + s) (4 * cell + span))
