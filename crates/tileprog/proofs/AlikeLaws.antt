-- A triangle that does the same at each pixel of a tile.
use Rattle.std.proofs.Common.{◌≡◌, ◌∙◌, ap, sym, refl, arith, ℕ, zero, suc, ◌+◌, ◌-◌, ◌*◌, ◌≤◌, Bool, true, false, ◌&&◌, ◌||◌, Option, Some, None}
use Rattle.std.specs.Prelude.{not, bit_and, bit_xor, IfSome, if◌then◌else◌}
use Rattle.std.specs.Int.{from_le_bytes, to_le_bytes, w32}
use Rattle.std.proofs.lemmas.Bool.Decides.{nat_tests}
use Rattle.gfxspec.specs.declared.geometry.PixelRect.{PixelRect}
use Rattle.gfxspec.specs.declared.pixel.DepthStencil.{DepthStencil}
use Rattle.gfxspec.specs.declared.pixel.Pixel.{Pixel}
use Rattle.gfxspec.specs.declared.state.Compare.{Compare}
use Rattle.gfxspec.specs.declared.state.Compare.TheVariants.{Never, Less, Equal, LessEqual, Greater, NotEqual, GreaterEqual, Always}
use Rattle.gfxspec.specs.Color.{written_color}
use Rattle.gfxspec.specs.DepthStencil.{DepthStencilSetting, FaceSetting, TestOutcome, tested, compares, masked, stencil_result, chosen_op, depth_passes}
use Rattle.gfxspec.specs.Items.{sum_below}
use Rattle.gfxspec.specs.Raster.{centre, covers}
use Rattle.gfxspec.specs.Tiles.{IsIn}
use Rattle.depthplane.specs.Place.{depth_of}
use Rattle.lanes.specs.Stencil.{StencilRule}
use Rattle.meaning.specs.Over.{sum_over}
use Rattle.tileblock.specs.declared.pixels.DepthBounds.{DepthBounds}
use Rattle.tileblock.specs.Block.{Block, pixel_at}
use Rattle.tileblock.specs.Bounds.{LieBetween}
use Rattle.tileword.specs.declared.edge_mask.EdgeMask.{EdgeMask}
use Rattle.binner.specs.declared.entry.StateEntry.{StateEntry}
use Rattle.binner.specs.declared.setup.TriSetup.{TriSetup}
use Rattle.binner.specs.Program.{reaches_by, outcome, drawn, triangle_by}
use Rattle.tileprog.specs.Alike.{opposite, HasOutcome, face_of, IsAlike, operated, painted}
use Rattle.tileprog.specs.Counting.{one_if}
use Rattle.tileprog.specs.Hidden.{none_passes, DepthsLie}
use Rattle.tileprog.specs.declared.kind.Tests.TheVariants.{Open}
use Rattle.tileprog.specs.Kinds.{tests_of}
use Rattle.tileprog.specs.Painting.{flipped, stands_for}
use Rattle.tileprog.specs.Passing.{triangle_count}
use Rattle.tileprog.proofs.Hiding.{none_pass}
use Rattle.tileprog.proofs.Lanes.{all_open, tested_open}
use Rattle.tileprog.proofs.Summing.{sum_over_same, sum_over_none}
use Rattle.tileprog.proofs.Ones.{same_sums}

-- ---- the outcome of the depth test

-- where the opposite comparison fails, the comparison holds
pub otherwise : (func : Compare) (a b : ℕ) → compares (opposite func) a b ≡ false → compares func a b ≡ true
otherwise Never a b h = absurd cc
otherwise Less a b h = grind (arith, nat_tests)
otherwise Equal a b h = grind (arith, nat_tests)
otherwise LessEqual a b h = grind (arith, nat_tests)
otherwise Greater a b h = grind (arith, nat_tests)
otherwise NotEqual a b h = grind (arith, nat_tests)
otherwise GreaterEqual a b h = grind (arith, nat_tests)
otherwise Always a b h = refl

module _ (s : DepthStencilSetting) (least greatest : ℕ) where
  pub untested : (stored : Option DepthBounds) → s.depth ≡ false → HasOutcome s least greatest stored true
  untested stored off = λ a b p q r. ap (λ d. not d || compares s.func a b) off

  module _ (w : DepthBounds) (on : s.depth ≡ true) where
    pub all_fail : none_passes s.func least greatest w.least w.greatest ≡ true → HasOutcome s least greatest (Some w) false
    all_fail none = λ a b p q r. (λ i. not (on i) || none_pass s.func least greatest w.least w.greatest none a b p q r.0 r.1 i)

    pub all_pass : none_passes (opposite s.func) least greatest w.least w.greatest ≡ true → HasOutcome s least greatest (Some w) true
    all_pass none = λ a b p q r.
        let holds = otherwise s.func a b (none_pass (opposite s.func) least greatest w.least w.greatest none a b p q r.0 r.1) in
        (λ i. not (on i) || holds i)

stored_there : (stored : Option DepthBounds) (b : Block) → IfSome stored (λ w. LieBetween b w.least w.greatest) → (u v : ℕ) → IsIn b.rect u v → IfSome stored (λ w. (w.least ≤ (pixel_at b u v).ds.depth) × ((pixel_at b u v).ds.depth ≤ w.greatest))
stored_there None b known u v is = known
stored_there (Some w) b known u v is = known u v is

-- at each pixel of a tile that a triangle covers
pub outcome_there : (t : TriSetup) (s : DepthStencilSetting) (b : Block) (least greatest : ℕ) (stored : Option DepthBounds) (deep : Bool) → DepthsLie t b.rect least greatest → IfSome stored (λ w. LieBetween b w.least w.greatest)
    → HasOutcome s least greatest stored deep → ((u v : ℕ) → IsIn b.rect u v → covers t.plane.triangle (centre u v) ≡ true) → (u v : ℕ) → IsIn b.rect u v → depth_passes s (depth_of t.plane u v) (pixel_at b u v).ds.depth ≡ deep
outcome_there t s b least greatest stored deep lie known has covered u v is =
    let between = lie u v is (covered u v is) in
    has (depth_of t.plane u v) (pixel_at b u v).ds.depth between.0 between.1 (stored_there stored b known u v is)

-- ---- both tests

module _ (s : DepthStencilSetting) (face : FaceSetting) (reference z : ℕ) (old : DepthStencil) where
  abbrev by_flags : Bool → Bool → Bool → TestOutcome
  by_flags stencil same deep =
      let stencil_ok = not stencil || same in
      record {
        after = record {
          depth = if stencil_ok && deep && s.depth && s.write then z else old.depth;
          stencil = if stencil then masked s.write_mask (stencil_result (chosen_op face stencil_ok deep) old.stencil reference) old.stencil else old.stencil;
        };
        passed = stencil_ok && deep;
      }

  abbrev changed_alone : Bool → TestOutcome
  changed_alone deep =
      record {
        after = record { depth = old.depth; stencil = masked s.write_mask (stencil_result (chosen_op face true deep) old.stencil reference) old.stencil };
        passed = deep;
      }

  unwritten_depth : (deep : Bool) → (deep ≡ true → (s.depth && s.write) ≡ false) → by_flags true true deep ≡ changed_alone deep
  unwritten_depth true none =
      ap (λ w. record {
        after = record { depth = if w then z else old.depth; stencil = masked s.write_mask (stencil_result face.pass old.stencil reference) old.stencil };
        passed = true;
      }) (none refl)
  unwritten_depth false none = refl

  alike_tested : (deep : Bool) → s.stencil ≡ true → face.func ≡ Always → depth_passes s z old.depth ≡ deep → (deep ≡ true → (s.depth && s.write) ≡ false) → tested s face reference z old ≡ changed_alone deep
  alike_tested deep on always is none =
      (λ i. by_flags (on i) (compares (always i) (bit_and reference s.read_mask) (bit_and old.stencil s.read_mask)) (is i)) ∙ unwritten_depth deep none

-- ---- what is left of a pixel

abbrev pub rule_of : TriSetup → StateEntry → StencilRule
rule_of t e = record { setting = e.depth_stencil; face = face_of t e; reference = e.reference }

module _ (t : TriSetup) (e : StateEntry) (deep : Bool) (a : IsAlike t e deep) (b : Block) (u v : ℕ) (is : depth_passes e.depth_stencil (depth_of t.plane u v) (pixel_at b u v).ds.depth ≡ deep) where
  outcome_is : outcome t e u v (pixel_at b u v) ≡ changed_alone e.depth_stencil (face_of t e) e.reference (depth_of t.plane u v) (pixel_at b u v).ds deep
  outcome_is = alike_tested e.depth_stencil (face_of t e) e.reference (depth_of t.plane u v) (pixel_at b u v).ds deep a.stencil a.always is a.unwritten

  pub alike_passes : (outcome t e u v (pixel_at b u v)).passed ≡ deep
  alike_passes = ap (λ (o : TestOutcome). o.passed) outcome_is

  colored : (passed : Bool) (n : ℕ) → (passed ≡ true → (n : ℕ) → written_color e.blend t.rgba (to_le_bytes w32 n) ≡ to_le_bytes w32 n) → to_le_bytes w32 n ≡ (if passed then written_color e.blend t.rgba (to_le_bytes w32 n) else to_le_bytes w32 n)
  colored true n kept = sym (kept refl n)
  colored false n kept = refl

  pub alike_pixel : (flip : ℕ) → flipped flip (operated (rule_of t e) deep (pixel_at b u v)) ≡ drawn t e (outcome t e u v (stands_for flip b u v)) (stands_for flip b u v)
  alike_pixel flip =
      (λ i. record { rgba = colored deep (bit_xor (from_le_bytes w32 (pixel_at b u v).rgba) flip) a.colors i; ds = (operated (rule_of t e) deep (pixel_at b u v)).ds })
      ∙ ap (λ o. drawn t e o (stands_for flip b u v)) (sym outcome_is)

-- ---- where nothing is tested

module _ (t : TriSetup) (e : StateEntry) (kind : tests_of e.depth_stencil ≡ Open) (b : Block) (u v : ℕ) where
  open_outcome : outcome t e u v (pixel_at b u v) ≡ record { after = (pixel_at b u v).ds; passed = true }
  open_outcome = tested_open e.depth_stencil (face_of t e) e.reference (depth_of t.plane u v) (pixel_at b u v).ds (all_open e.depth_stencil kind)

  pub open_passes : (outcome t e u v (pixel_at b u v)).passed ≡ true
  open_passes = ap (λ (o : TestOutcome). o.passed) open_outcome

  pub open_pixel : (flip : ℕ) → painted e.blend t.rgba (stands_for flip b u v) ≡ drawn t e (outcome t e u v (stands_for flip b u v)) (stands_for flip b u v)
  open_pixel flip = ap (λ o. drawn t e o (stands_for flip b u v)) (sym open_outcome)

-- ---- counts

sum_ones : (n : ℕ) → sum_below n (λ i. 1) ≡ n
sum_ones zero = refl
sum_ones (suc n) = let before = sum_ones n in omega (arith, before)

sum_rows : (n m : ℕ) → sum_below n (λ i. m) ≡ m * n
sum_rows zero m = none
  where
    none : 0 ≡ m * 0
    none = grind arith
sum_rows (suc n) m = ap (λ k. k + m) (sum_rows n m) ∙ one_more
  where
    one_more : m * n + m ≡ m * suc n
    one_more = grind arith

-- where each pixel passes, or none does
pub all_counted : (r : PixelRect) (f : ℕ → ℕ → Bool) → ((u v : ℕ) → IsIn r u v → f u v ≡ true) → (r.right - r.left) * (r.bottom - r.top) ≡ sum_over r (λ u v. one_if (f u v))
all_counted r f h =
    sym (sum_over_same r _ (λ u v. 1) (λ u v is. ap one_if (h u v is))
    ∙ same_sums (r.bottom - r.top) _ (λ i. r.right - r.left) (λ i l. sum_ones (r.right - r.left))
    ∙ sum_rows (r.bottom - r.top) (r.right - r.left))

pub none_counted : (r : PixelRect) (f : ℕ → ℕ → Bool) → ((u v : ℕ) → IsIn r u v → f u v ≡ false) → 0 ≡ sum_over r (λ u v. one_if (f u v))
none_counted r f h = sym (sum_over_none r _ (λ u v is. ap one_if (h u v is)))

-- ---- in the words of a triangle's word, which reaches each pixel

module _ (t : TriSetup) (e : StateEntry) (m : EdgeMask) (old : Block) (reached : (u v : ℕ) → IsIn old.rect u v → reaches_by m t e u v ≡ true) where
  pub drawn_everywhere : (u v : ℕ) → IsIn old.rect u v → (p : Pixel) → drawn t e (outcome t e u v p) p ≡ triangle_by m (Some t) (Some e) u v p
  drawn_everywhere u v is p = ap (λ c. if c then drawn t e (outcome t e u v p) p else p) (sym (reached u v is))

  pub counted_everywhere : sum_over old.rect (λ u v. one_if (outcome t e u v (pixel_at old u v)).passed) ≡ sum_over old.rect (triangle_count m t e old)
  counted_everywhere = sum_over_same old.rect _ _ (λ u v is. ap (λ c. one_if (c && (outcome t e u v (pixel_at old u v)).passed)) (sym (reached u v is)))
