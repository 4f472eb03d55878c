use Rattle.std.proofs.Common.{◌≡◌, ◌∙◌, ap, sym, refl, rules, ℕ, List, [], Some}
use Rattle.std.proofs.lemmas.Nat.{le_bytes_4}
use Rattle.std.specs.Int.{w32, from_le_bytes, to_le_bytes}
use Rattle.tileblock.specs.Block.{Block, pixel_at}
use Rattle.tileblock.specs.Cleared.{stored_in}
use Rattle.tileblock.proofs.Clearing.{none_stored, pixel_by, same_pixel}
use Rattle.tileblock.proofs.blocks.TileBlock.get.Goals.{then-is_empty, else-is_empty}
use Rattle.tileblock.proofs.blocks.TileBlock.get.Goals as goal

pub returns : goal.returns
returns g c =
    let b = c.self.inside in
    let x = c.args.x in
    let y = c.args.y in
    let stood : c.if-is_empty.below ≡ pixel_at (stored_in b.rect b.stored.items) x y
    = elim c.if-is_empty.branch [
      | then-is_empty w ↦ (let none : b.stored.items ≡ [] = search rules in w.below-is ∙ sym (none_stored b.rect b.stored.items x y none))
      | else-is_empty w ↦ (let first : stored_in b.rect b.stored.items ≡ w.index.result.now = search rules in w.below-is ∙ w.get-below.ensures ∙ ap (λ (s : Block). pixel_at s x y) (sym first))
    ] in
    let bytes : (rgba : List ℕ) → b.color ≡ Some rgba → to_le_bytes w32 (from_le_bytes w32 rgba) ≡ rgba = λ rgba is. le_bytes_4 rgba (from_le_bytes w32 rgba) (search rules) (search rules) refl in
    same_pixel _ _ c.unwrap_or.ensures c.unwrap_or-2.ensures
    ∙ pixel_by b.rect b.stored.items x y c.if-is_empty.below stood b.color b.depth_stencil bytes
    ∙ ap (λ (now : Block). pixel_at now x y) c.self.view_is
