-- A triangle under an entry, as the stroke of its brush.
use Rattle.std.proofs.Common.{◌≡◌, ◌∙◌, ap, sym, subst, refl, arith, ⊎_elim, inl, inr, ◌⊎◌, ℕ, zero, suc, ◌+◌, ◌*◌, ◌%◌, ◌<◌, ◌≤◌, Bool, true, false, ◌&&◌, ◌||◌, nat_lt, Some}
use Rattle.std.specs.Prelude.{nat_le, not, ◌==◌, if◌then◌else◌}
use Rattle.std.specs.Int.{bit_at, to_le_bytes, w32}
use Rattle.std.proofs.lemmas.Bool.Decides.{nat_tests}
use Rattle.std.proofs.lemmas.Nat.Bits.{bit_at-lt}
use Rattle.gfxspec.specs.declared.pixel.Pixel.{Pixel}
use Rattle.gfxspec.specs.declared.geometry.PixelRect.{PixelRect}
use Rattle.gfxspec.specs.Color.{written_color}
use Rattle.gfxspec.specs.DepthStencil.{tested}
use Rattle.gfxspec.specs.Items.{is_in_rect}
use Rattle.gfxspec.specs.Raster.{Triangle, Point, centre, covers, is_empty, edge, edge_holds}
use Rattle.gfxspec.specs.Tiles.{IsIn}
use Rattle.depthplane.specs.Place.{depth_of}
use Rattle.classify.specs.Region.{IsClassOf}
use Rattle.classify.specs.declared.Class.TheVariants.{Cut}
use Rattle.tileword.specs.declared.edge_mask.EdgeMask.{EdgeMask}
use Rattle.tileword.specs.EdgeMask.{named_bit, edge_bits}
use Rattle.meaning.specs.Over.{sum_over}
use Rattle.tileblock.specs.Block.{Block, pixel_at, span_of, value_at}
use Rattle.binner.specs.declared.entry.StateEntry.{StateEntry}
use Rattle.binner.specs.declared.setup.TriSetup.{TriSetup}
use Rattle.binner.specs.Program as P
use Rattle.binner.specs.Program.{lets_through, reaches_by, outcome, drawn, triangle_by}
use Rattle.binner.specs.Meaning.{IsBounded}
use Rattle.tileprog.specs.declared.brush.Brush.{Brush}
use Rattle.tileprog.specs.Brushes.{tested_by, drawn_by}
use Rattle.tileprog.specs.Counting.{one_if, stroke_count}
use Rattle.tileprog.specs.Edges.{passes_edge, passes_edges}
use Rattle.tileprog.specs.Painting.{painted_with, flipped_color, flipped, stands_for, PaintsAs}
use Rattle.tileprog.specs.Passing.{triangle_count, IsTile}
use Rattle.tileprog.specs.Spreads.{SpreadDrew}
use Rattle.tileprog.specs.Strokes.{IsNamed, stroked}
use Rattle.tileprog.specs.Under.{DrewUnder}
use Rattle.tileprog.proofs.Summing.{sum_over_same, sum_over_none}

-- ---- the class

either_bit : (n : ℕ) → n < 2 → (n ≡ 0) ⊎ (n ≡ 1)
either_bit zero h = inl refl
either_bit (suc zero) h = inr refl
either_bit (suc (suc n)) h = absurd (omega arith)

split : (a b d : Bool) → (a && (b && d)) ≡ true → (a ≡ true) × (b ≡ true) × (d ≡ true)
split true true true e = (refl, refl, refl)
split true true false e = absurd cc
split true false d e = absurd cc
split false b d e = absurd cc

edge_named : (mask : ℕ) (t : Triangle) (r : PixelRect) (i x y : ℕ) → i < 3 → IsClassOf (Cut mask) t r → IsIn r x y → passes_edge mask t i (centre x y) ≡ true → edge_holds (edge t i) (centre x y) ≡ true
edge_named mask t r i x y l class is e =
    ⊎_elim (λ zero_bit. (class.1 i l).clear zero_bit x y is) (λ one. sym (ap (λ n. not (n == 1) || edge_holds (edge t i) (centre x y)) one) ∙ e) (either_bit (bit_at mask i) (bit_at-lt mask i))

-- where the named edges hold the triangle covers
pub named_covers : (mask : ℕ) (t : Triangle) (r : PixelRect) (x y : ℕ) → is_empty t ≡ false → IsClassOf (Cut mask) t r → IsIn r x y → passes_edges mask t (centre x y) ≡ true → covers t (centre x y) ≡ true
named_covers mask t r x y solid class is e =
    let parts = split _ _ _ e in
    let first = edge_named mask t r 0 x y (omega arith) class is parts.0 in
    let second = edge_named mask t r 1 x y (omega arith) class is parts.1 in
    let third = edge_named mask t r 2 x y (omega arith) class is parts.2 in
    λ i. not (solid i) && (first i && (second i && third i))

pub is_named : (mask : ℕ) (p : TriSetup) (r : PixelRect) → IsClassOf (Cut mask) p.plane.triangle r → IsNamed p.plane mask r
is_named mask p r class =
    record {
      covered = λ x y is. named_covers mask p.plane.triangle r x y p.solid class is;
      depths = p.deep;
    }

-- ---- the edges of a mask

bits_are : (a b c : Bool) → ((bit_at (named_bit a + 2 * named_bit b + 4 * named_bit c) 0 == 1) ≡ a) × ((bit_at (named_bit a + 2 * named_bit b + 4 * named_bit c) 1 == 1) ≡ b) × ((bit_at (named_bit a + 2 * named_bit b + 4 * named_bit c) 2 == 1) ≡ c)
bits_are true true true = (refl, refl, refl)
bits_are true true false = (refl, refl, refl)
bits_are true false true = (refl, refl, refl)
bits_are true false false = (refl, refl, refl)
bits_are false true true = (refl, refl, refl)
bits_are false true false = (refl, refl, refl)
bits_are false false true = (refl, refl, refl)
bits_are false false false = (refl, refl, refl)

pub passes_are : (m : EdgeMask) (t : Triangle) (p : Point) → passes_edges (edge_bits m) t p ≡ P.passes_edges m t p
passes_are m t p =
    let e = bits_are m.edge0 m.edge1 m.edge2 in
    λ i. (not (e.0 i) || edge_holds (edge t 0) p) && ((not (e.1 i) || edge_holds (edge t 1) p) && (not (e.2 i) || edge_holds (edge t 2) p))

-- ---- a brush of an entry

pub record IsBrushOf (b : Brush) (p : TriSetup) (e : StateEntry) (flip : ℕ) : Type 0 where
  pub state : b.state ≡ e.depth_stencil
  pub front : b.front ≡ p.front
  pub reference : b.reference ≡ e.reference
  pub paints : PaintsAs b.write e.blend p.rgba flip

module _ (b : Brush) (p : TriSetup) (e : StateEntry) (flip : ℕ) (k : IsBrushOf b p e flip) (x y : ℕ) where
  pub test_is : (old : Pixel) → tested_by b (depth_of p.plane x y) old.ds ≡ outcome p e x y old
  test_is old = λ i. tested (k.state i) (if k.front i then (k.state i).front else (k.state i).back) (k.reference i) (depth_of p.plane x y) old.ds

  -- a stored colour that is painted where the tests pass
  colors_are : (passed : Bool) (n : ℕ) → flipped_color flip (if passed then painted_with b.write (to_le_bytes w32 n) else to_le_bytes w32 n) ≡ (if passed then written_color e.blend p.rgba (flipped_color flip (to_le_bytes w32 n)) else flipped_color flip (to_le_bytes w32 n))
  colors_are true n = k.paints.gives n
  colors_are false n = refl

  pub drawn_is : (block : Block) → flipped flip (drawn_by b (depth_of p.plane x y) (pixel_at block x y)) ≡ drawn p e (outcome p e x y (stands_for flip block x y)) (stands_for flip block x y)
  drawn_is block =
      let tests = tested_by b (depth_of p.plane x y) (pixel_at block x y).ds in
      let n = value_at block.colors (span_of x y) (x % 8) in
      (λ i. record { rgba = colors_are tests.passed n i; ds = tests.after })
      ∙ ap (λ o. drawn p e o (stands_for flip block x y)) (test_is (pixel_at block x y))

-- ---- a triangle in its bounds

-- what the bounds let through where the triangle covers is what the scissor rectangle does
agrees : (inside passes covered through : Bool) → (passes ≡ true → covered ≡ true) → (inside && covered) ≡ (covered && through) → (inside && passes) ≡ (passes && through)
agrees inside false covered through named bounded = by inside
  where
    by : (a : Bool) → (a && false) ≡ false
    by true = refl
    by false = refl
agrees inside true covered through named bounded =
    let is = named refl in
    ap (λ c. inside && c) (sym is) ∙ bounded ∙ ap (λ c. c && through) is

module _ (p : TriSetup) (e : StateEntry) (m : EdgeMask) (clip r : PixelRect) (tile : IsTile r) (class : IsClassOf (Cut (edge_bits m)) p.plane.triangle r) (bounded : IsBounded p e)
    (inside : (u v : ℕ) → IsIn r u v → is_in_rect clip u v ≡ is_in_rect p.bounds u v) where
  pub reach_is : (u v : ℕ) → IsIn r u v → (is_in_rect clip u v && passes_edges (edge_bits m) p.plane.triangle (centre u v)) ≡ reaches_by m p e u v
  reach_is u v is =
      let wide : u < 4096 = omega (arith, is.right, tile.place.right, tile.right) in
      let high : v < 4096 = omega (arith, is.bottom, tile.place.bottom, tile.bottom) in
      ap (λ b. b && passes_edges (edge_bits m) p.plane.triangle (centre u v)) (inside u v is)
      ∙ agrees (is_in_rect p.bounds u v) (passes_edges (edge_bits m) p.plane.triangle (centre u v)) (covers p.plane.triangle (centre u v)) (lets_through e u v)
      (named_covers (edge_bits m) p.plane.triangle r u v p.solid class is) (bounded u v wide high)
      ∙ ap (λ b. b && lets_through e u v) (passes_are m p.plane.triangle (centre u v))

  pub under_is : (b : Brush) (flip : ℕ) → IsBrushOf b p e flip → (u v : ℕ) → IsIn r u v → (block : Block) → flipped flip (stroked (record { brush = b; plane = p.plane; mask = edge_bits m; clip = clip }) u v (pixel_at block u v)) ≡ triangle_by m (Some p) (Some e) u v (stands_for flip block u v)
  under_is b flip k u v is block =
      ap (λ c. flipped flip (if c then drawn_by b (depth_of p.plane u v) (pixel_at block u v) else pixel_at block u v)) (reach_is u v is)
      ∙ by (reaches_by m p e u v)
    where
      by : (reached : Bool) → flipped flip (if reached then drawn_by b (depth_of p.plane u v) (pixel_at block u v) else pixel_at block u v) ≡ (if reached then drawn p e (outcome p e u v (stands_for flip block u v)) (stands_for flip block u v) else stands_for flip block u v)
      by true = drawn_is b p e flip k u v block
      by false = refl

  -- where the bounds leave nothing of a tile
  nowhere : (clip.right ≤ clip.left) ⊎ (clip.bottom ≤ clip.top) → (u v : ℕ) → IsIn r u v → reaches_by m p e u v ≡ false
  nowhere empty u v is = sym (reach_is u v is) ∙ ap (λ b. b && passes_edges (edge_bits m) p.plane.triangle (centre u v)) (none_in clip u v empty)
    where
      none_in : (c : PixelRect) (u v : ℕ) → (c.right ≤ c.left) ⊎ (c.bottom ≤ c.top) → (nat_le c.left u && (nat_lt u c.right && (nat_le c.top v && nat_lt v c.bottom))) ≡ false
      none_in c u v (inl a) = grind (arith, nat_tests, a)
      none_in c u v (inr a) = grind (arith, nat_tests, a)

  pub nothing_left : (clip.right ≤ clip.left) ⊎ (clip.bottom ≤ clip.top) → (u v : ℕ) → IsIn r u v → (old : Pixel) → old ≡ triangle_by m (Some p) (Some e) u v old
  nothing_left empty u v is old = ap (λ c. if c then drawn p e (outcome p e u v old) old else old) (sym (nowhere empty u v is))

  pub none_counted : (clip.right ≤ clip.left) ⊎ (clip.bottom ≤ clip.top) → (old : Block) → 0 ≡ sum_over r (triangle_count m p e old)
  none_counted empty old =
      sym (sum_over_none r _ (λ u v is. ap (λ c. one_if (c && (outcome p e u v (pixel_at old u v)).passed)) (nowhere empty u v is)))

  pub under_counts : (b : Brush) (flip : ℕ) → IsBrushOf b p e flip → (old : Block) → sum_over r (stroke_count (record { brush = b; plane = p.plane; mask = edge_bits m; clip = clip }) old) ≡ sum_over r (triangle_count m p e old)
  under_counts b flip k old =
      sum_over_same r _ _ (λ u v is. λ i. one_if (reach_is u v is i && (test_is b p e flip k u v (pixel_at old u v) i).passed))

-- a stroke of a brush of the entry is the triangle's word
pub drew_under : (p : TriSetup) (e : StateEntry) (m : EdgeMask) (clip : PixelRect) (old new : Block) → IsTile old.rect → IsClassOf (Cut (edge_bits m)) p.plane.triangle old.rect → IsBounded p e → ((u v : ℕ) → IsIn old.rect u v → is_in_rect clip u v ≡ is_in_rect p.bounds u v)
    → (b : Brush) (flip : ℕ) → IsBrushOf b p e flip → (n bits : ℕ) → bits ≡ edge_bits m → SpreadDrew (record { brush = b; plane = p.plane; mask = bits; clip = clip }) old new n → DrewUnder m p e flip old new n
drew_under p e m clip old new tile class bounded inside b flip k n bits is drew =
    let S : ℕ → Type 0 = λ mask. SpreadDrew (record { brush = b; plane = p.plane; mask = mask; clip = clip }) old new n in
    let d = subst S is drew in
    record {
      rect = d.drew.rect;
      pixels = λ u v here. ap (flipped flip) (d.drew.pixels u v here) ∙ under_is p e m clip old.rect tile class bounded inside b flip k u v here old;
      count = d.count ∙ under_counts p e m clip old.rect tile class bounded inside b flip k old;
      few = d.few;
    }
