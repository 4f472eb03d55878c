-- Blocks whose span changes, step after step.
use Rattle.std.proofs.Common.{◌≡◌, ◌≢◌, ◌∙◌, ap, sym, subst, refl, ℕ, ◌+◌, ◌*◌, ◌<◌, ◌≤◌, ◌⊎◌}
use Rattle.gfxspec.specs.declared.geometry.PixelRect.{PixelRect}
use Rattle.gfxspec.specs.declared.pixel.Pixel.{Pixel}
use Rattle.gfxspec.specs.Tiles.{IsIn}
use Rattle.tileblock.specs.Block.{Block}
use Rattle.tileblock.specs.SpanStored.{SpanStored, lane_pixel}

pub joined : (old mid new : Block) (span row : ℕ) (f g : ℕ → Pixel → Pixel) → SpanStored old mid span row f → SpanStored mid new span row g → SpanStored old new span row (λ j p. g j (f j p))
joined old mid new span row f g a b =
    record {
      rect = b.rect ∙ a.rect;
      here = λ j h. b.here j h ∙ ap (g j) (a.here j h);
      elsewhere = λ u v is beside.
          let Beside : PixelRect → Type 0 = λ r. (v ≢ r.top + row) ⊎ ((u < r.left + 8 * span) ⊎ (r.left + 8 * span + 8 ≤ u)) in
          let In : PixelRect → Type 0 = λ r. IsIn r u v in
          b.elsewhere u v (subst In (sym a.rect) is) (subst Beside (sym a.rect) beside) ∙ a.elsewhere u v is beside;
    }

pub changed : (old new : Block) (span row : ℕ) (f g : ℕ → Pixel → Pixel) → SpanStored old new span row f → ((j : ℕ) → j < 8 → f j (lane_pixel old span row j) ≡ g j (lane_pixel old span row j)) → SpanStored old new span row g
changed old new span row f g s e =
    record { rect = s.rect; here = λ j h. s.here j h ∙ e j h; elsewhere = s.elsewhere }

pub unchanged : (old : Block) (span row : ℕ) (f : ℕ → Pixel → Pixel) → ((j : ℕ) → j < 8 → lane_pixel old span row j ≡ f j (lane_pixel old span row j)) → SpanStored old old span row f
unchanged old span row f e =
    record { rect = refl; here = e; elsewhere = λ u v is beside. refl }
