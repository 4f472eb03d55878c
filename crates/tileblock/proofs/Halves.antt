-- A span of which four values are stored.
use Rattle.std.proofs.Common.{◌≡◌, ◌≢◌, ◌∙◌, sym, ap, refl, arith, ⊎_elim, ◌⊎◌, inl, inr, ℕ, ◌+◌, ◌*◌, ◌/◌, ◌%◌, ◌<◌, ◌≤◌, List, [], length, get_or-set_same, get_or-set_other}
use Rattle.std.specs.Prelude.{slice_index, slice_index_or, slice_set}
use Rattle.std.specs.Int.{w32, to_le_bytes}
use Rattle.std.proofs.lemmas.Bool.{cases_eq}
use Rattle.gfxspec.specs.declared.geometry.PixelRect.{PixelRect}
use Rattle.gfxspec.specs.Tiles.{IsIn, IsInTile}
use Rattle.tileblock.specs.Block.{Block, IsBlock, pixel_at, span_of, value_at}
use Rattle.tileblock.specs.QuadStored.{QuadStored}

-- ---- where a quad stands

module _ (r : PixelRect) (tile : IsInTile r) (quad row : ℕ) (hq : quad < 8) (hr : row < 32) where
  left_is : r.left % 32 ≡ 0
  left_is = tile.left

  top_is : r.top % 32 ≡ 0
  top_is = tile.top

  pub place_is : (j : ℕ) → j < 4 → span_of (r.left + 4 * quad + j) (r.top + row) ≡ 4 * row + quad / 2
  place_is j h = omega (arith, left_is, top_is, hq, hr, h)

  pub lane_is : (j : ℕ) → j < 4 → (r.left + 4 * quad + j) % 8 ≡ quad % 2 * 4 + j
  lane_is j h = omega (arith, left_is, h)

  same_row : (u v : ℕ) → IsIn r u v → span_of u v ≡ 4 * row + quad / 2 → v ≡ r.top + row
  same_row u v is e =
      let low = is.top in
      let high = is.bottom in
      let last = tile.bottom in
      omega (arith, top_is, e, low, high, last, hr, hq)

  before_it : (u v : ℕ) → IsIn r u v → span_of u v ≡ 4 * row + quad / 2 → u < r.left + 4 * quad → u % 8 < quad % 2 * 4
  before_it u v is e less =
      let low = is.left in
      let high = is.right in
      let last = tile.right in
      omega (arith, left_is, e, low, high, last, less, hq, hr)

  behind_it : (u v : ℕ) → IsIn r u v → span_of u v ≡ 4 * row + quad / 2 → r.left + 4 * quad + 4 ≤ u → quad % 2 * 4 + 4 ≤ u % 8
  behind_it u v is e more =
      let low = is.left in
      let high = is.right in
      let last = tile.right in
      omega (arith, left_is, e, low, high, last, more, hq, hr)

  pub beside_it : (u v : ℕ) → IsIn r u v → (v ≢ r.top + row) ⊎ ((u < r.left + 4 * quad) ⊎ (r.left + 4 * quad + 4 ≤ u)) → (span_of u v ≢ 4 * row + quad / 2) ⊎ ((u % 8 < quad % 2 * 4) ⊎ (quad % 2 * 4 + 4 ≤ u % 8))
  beside_it u v is beside = ⊎_elim (λ e. by e beside) (λ ne. inl ne) (cases_eq (span_of u v) (4 * row + quad / 2))
    where
      by : span_of u v ≡ 4 * row + quad / 2 → (v ≢ r.top + row) ⊎ ((u < r.left + 4 * quad) ⊎ (r.left + 4 * quad + 4 ≤ u)) → (span_of u v ≢ 4 * row + quad / 2) ⊎ ((u % 8 < quad % 2 * 4) ⊎ (quad % 2 * 4 + 4 ≤ u % 8))
      by e (inl ne) = absurd (ne (same_row u v is e))
      by e (inr (inl less)) = inr (inl (before_it u v is e less))
      by e (inr (inr more)) = inr (inr (behind_it u v is e more))

-- ---- values after a store

module _ (spans : List (List ℕ)) (at from : ℕ) (span values : List ℕ) (count : length spans ≡ 128) (below : at < 128)
    (here : (j : ℕ) → j < 4 → slice_index span (from + j) ≡ slice_index values j)
    (before : (k : ℕ) → k < from → slice_index span k ≡ slice_index (slice_index_or spans at []) k)
    (behind : (k : ℕ) → from + 4 ≤ k → slice_index span k ≡ slice_index (slice_index_or spans at []) k) where
  abbrev pub stored_in : List (List ℕ)
  stored_in = slice_set spans at span

  same_span : slice_index_or stored_in at [] ≡ span
  same_span = get_or-set_same spans at span [] (omega (arith, count, below))

  pub value_here : (place lane j : ℕ) → place ≡ at → lane ≡ from + j → j < 4 → value_at stored_in place lane ≡ slice_index values j
  value_here place lane j p l h = (λ i. value_at stored_in (p i) (l i)) ∙ ap (λ s. slice_index s (from + j)) same_span ∙ here j h

  other_span : (place lane : ℕ) → place ≢ at → value_at stored_in place lane ≡ value_at spans place lane
  other_span place lane ne = ap (λ s. slice_index s lane) (get_or-set_other spans at place span [] ne)

  kept_lane : (place lane : ℕ) → slice_index span lane ≡ slice_index (slice_index_or spans at []) lane → value_at stored_in place lane ≡ value_at spans place lane
  kept_lane place lane kept = ⊎_elim
      (λ e. ap (λ p. value_at stored_in p lane) e ∙ ap (λ s. slice_index s lane) same_span ∙ kept ∙ sym (ap (λ p. value_at spans p lane) e))
      (other_span place lane)
      (cases_eq place at)

  pub value_away : (place lane : ℕ) → (place ≢ at) ⊎ ((lane < from) ⊎ (from + 4 ≤ lane)) → value_at stored_in place lane ≡ value_at spans place lane
  value_away place lane (inl ne) = other_span place lane ne
  value_away place lane (inr (inl less)) = kept_lane place lane (before lane less)
  value_away place lane (inr (inr more)) = kept_lane place lane (behind lane more)

-- ---- a block after a store

at_below : (quad row : ℕ) → quad < 8 → row < 32 → 4 * row + quad / 2 < 128
at_below quad row hq hr = omega (arith, hq, hr)

pub quad_colored : (b : Block) (quad row : ℕ) (span values : List ℕ) → IsBlock b → quad < 8 → row < 32
    → ((j : ℕ) → j < 4 → slice_index span (quad % 2 * 4 + j) ≡ slice_index values j)
    → ((k : ℕ) → k < quad % 2 * 4 → slice_index span k ≡ slice_index (slice_index_or b.colors (4 * row + quad / 2) []) k)
    → ((k : ℕ) → quad % 2 * 4 + 4 ≤ k → slice_index span k ≡ slice_index (slice_index_or b.colors (4 * row + quad / 2) []) k)
    → QuadStored b (record { rect = b.rect; colors = slice_set b.colors (4 * row + quad / 2) span; depths = b.depths; stencils = b.stencils }) quad row (λ j old. record { rgba = to_le_bytes w32 (slice_index values j); ds = old.ds })
quad_colored b quad row span values is hq hr here before behind =
    let at = 4 * row + quad / 2 in
    let from = quad % 2 * 4 in
    let below = at_below quad row hq hr in
    record {
      rect = refl;
      here = λ j h.
          let x = b.rect.left + 4 * quad + j in
          let y = b.rect.top + row in
          ap (λ n. record { rgba = to_le_bytes w32 n; ds = (pixel_at b x y).ds })
          (value_here b.colors at from span values is.colors.count below here before behind (span_of x y) (x % 8) j (place_is b.rect is.rect quad row hq hr j h) (lane_is b.rect is.rect quad row hq hr j h) h);
      elsewhere = λ u v within beside.
          ap (λ n. record { rgba = to_le_bytes w32 n; ds = (pixel_at b u v).ds })
          (value_away b.colors at from span values is.colors.count below here before behind (span_of u v) (u % 8) (beside_it b.rect is.rect quad row hq hr u v within beside));
    }

pub quad_deepened : (b : Block) (quad row : ℕ) (span values : List ℕ) → IsBlock b → quad < 8 → row < 32
    → ((j : ℕ) → j < 4 → slice_index span (quad % 2 * 4 + j) ≡ slice_index values j)
    → ((k : ℕ) → k < quad % 2 * 4 → slice_index span k ≡ slice_index (slice_index_or b.depths (4 * row + quad / 2) []) k)
    → ((k : ℕ) → quad % 2 * 4 + 4 ≤ k → slice_index span k ≡ slice_index (slice_index_or b.depths (4 * row + quad / 2) []) k)
    → QuadStored b (record { rect = b.rect; colors = b.colors; depths = slice_set b.depths (4 * row + quad / 2) span; stencils = b.stencils }) quad row (λ j old. record { rgba = old.rgba; ds = record { depth = slice_index values j; stencil = old.ds.stencil } })
quad_deepened b quad row span values is hq hr here before behind =
    let at = 4 * row + quad / 2 in
    let from = quad % 2 * 4 in
    let below = at_below quad row hq hr in
    record {
      rect = refl;
      here = λ j h.
          let x = b.rect.left + 4 * quad + j in
          let y = b.rect.top + row in
          ap (λ n. record { rgba = (pixel_at b x y).rgba; ds = record { depth = n; stencil = (pixel_at b x y).ds.stencil } })
          (value_here b.depths at from span values is.depths.count below here before behind (span_of x y) (x % 8) j (place_is b.rect is.rect quad row hq hr j h) (lane_is b.rect is.rect quad row hq hr j h) h);
      elsewhere = λ u v within beside.
          ap (λ n. record { rgba = (pixel_at b u v).rgba; ds = record { depth = n; stencil = (pixel_at b u v).ds.stencil } })
          (value_away b.depths at from span values is.depths.count below here before behind (span_of u v) (u % 8) (beside_it b.rect is.rect quad row hq hr u v within beside));
    }
