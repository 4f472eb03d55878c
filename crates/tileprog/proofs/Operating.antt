-- A span of which no more than the stencil values change, each by one operation.
use Rattle.std.proofs.Common.{◌≡◌, ◌∙◌, sym, refl, ℕ, ◌+◌, ◌^◌, ◌<◌, ◌≤◌, Bool, true, List}
use Rattle.std.specs.Prelude.{slice_index}
use Rattle.std.specs.Int.{to_le_bytes, w32}
use Rattle.gfxspec.specs.declared.geometry.PixelRect.{PixelRect}
use Rattle.lanes.specs.Stencil.{StencilRule, has, reference_passes}
use Rattle.tileblock.specs.Block.{Block}
use Rattle.tileblock.specs.SpanStored.{SpanStored, lane_pixel}
use Rattle.tileprog.specs.declared.brush.Brush.{Brush}
use Rattle.tileprog.specs.declared.column.Column.{Column}
use Rattle.tileprog.specs.declared.kind.Tests.TheVariants.{Stencil}
use Rattle.tileprog.specs.Alike.{operated}
use Rattle.tileprog.specs.Cells.{AllHave, AreCovered, IsUnwritten}
use Rattle.tileprog.specs.Columns.{IsColumn, IsRow, RowDrew, stroke_in}
use Rattle.tileprog.specs.Counting.{eight, one_if}
use Rattle.tileprog.specs.Kinds.{tests_of}
use Rattle.tileprog.specs.SpanDrawn.{drawn_lane}
use Rattle.tileprog.proofs.CellLaws.{operated_lane, operated_bit}
use Rattle.tileprog.proofs.Lanes.{rule_of, has_all}
use Rattle.tileprog.proofs.Leaving.{alike_left}
use Rattle.tileprog.proofs.Rowing.{all_lanes_covered}
use Rattle.tileprog.proofs.Spanning.{changed}

-- a row of a column, all pixels of which are covered
pub record IsCoveredRow (k : Column) (r : PixelRect) (row : ℕ) : Type 0 where
  pub column : IsColumn k r
  pub inside : IsRow k r row
  pub covered : AreCovered true k.mask k.plane.now.triangle r k.x row (row + 1)

-- the colours that a span holds
pub record AreColors (b : Block) (span row : ℕ) (colors : List ℕ) : Type 0 where
  pub fit : (j : ℕ) → slice_index colors j < 2 ^ 32
  pub are : (j : ℕ) → j < 8 → to_le_bytes w32 (slice_index colors j) ≡ (lane_pixel b span row j).rgba

module _ (b : Brush) (k : Column) (r : StencilRule) (deep : Bool) (all : k.within ≡ 255) (kind : tests_of b.state ≡ Stencil) (rule : r ≡ rule_of b) (stays : IsUnwritten b.state deep)
    (passes : (v : ℕ) → reference_passes r v ≡ true) (kept : deep ≡ true → (b.write.keep ≡ 4294967295) × (b.write.flip ≡ 0))
    (bits n : ℕ) (has_bits : (j : ℕ) → j < 8 → has bits j ≡ deep) (count : n ≡ eight (λ j. one_if (has bits j))) (few : n ≤ 8) where
  pub row_operated : (old new : Block) (row : ℕ) (colors : List ℕ) → IsCoveredRow k old.rect row → AllHave deep b.state k.plane.now old k.x row (row + 1) → AreColors old k.span row colors
      → SpanStored old new k.span row (λ j. operated r deep) → RowDrew (stroke_in b k) old new k.x (old.rect.top + row) n
  row_operated old new row colors is have held stored =
      alike_left b k old is.column k.span row 255 refl is.inside (all_lanes_covered k k.plane.now.triangle old.rect row all is.covered) deep have new bits n
      (λ zs alike. changed old new k.span row _ (drawn_lane b 255 zs) stored (λ j h.
      let on = has_all 255 j refl h in
      operated_lane b kind r rule (slice_index zs j) (lane_pixel old k.span row j) deep stays passes kept _ (slice_index colors j) on (held.fit j) (held.are j h) (sym (alike j h on))))
      (λ zs alike. record {
        each = λ j h.
            let on = has_all 255 j refl h in
            has_bits j h ∙ operated_bit b kind r rule (slice_index zs j) (lane_pixel old k.span row j) deep stays passes kept _ on (sym (alike j h on));
      })
      count few
