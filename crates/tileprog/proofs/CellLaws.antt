-- Cells whose depth test has one outcome.
use Rattle.std.proofs.Common.{◌≡◌, ◌∙◌, ap, sym, subst, refl, arith, ℕ, zero, suc, ◌+◌, ◌-◌, ◌*◌, ◌^◌, ◌<◌, ◌≤◌, Bool, true, false, ◌&&◌, ◌||◌, nat_lt, Option, Some, None}
use Rattle.std.specs.Int.{bit_at, to_le_bytes, w32}
use Rattle.std.specs.Prelude.{nat_le, not, ◌==◌, IfSome, IsTrue, if◌then◌else◌}
use Rattle.std.proofs.lemmas.Bool.Decides.{nat_tests}
use Rattle.gfxspec.specs.declared.pixel.Pixel.{Pixel}
use Rattle.gfxspec.specs.declared.pixel.DepthStencil.{DepthStencil}
use Rattle.gfxspec.specs.declared.geometry.PixelRect.{PixelRect}
use Rattle.gfxspec.specs.DepthStencil.{DepthStencilSetting, compares, depth_passes}
use Rattle.gfxspec.specs.Tiles.{IsIn}
use Rattle.gfxspec.specs.Raster.{Triangle, Point, centre, edge, edge_holds, covers, is_empty}
use Rattle.tileprog.specs.Edges.{passes_edges}
use Rattle.depthplane.specs.Height.{DeepTriangle}
use Rattle.depthplane.specs.Place.{depth_of}
use Rattle.lanes.specs.Stencil.{StencilRule, reference_passes, stencil_after}
use Rattle.tileblock.specs.Block.{Block, pixel_at}
use Rattle.tileblock.specs.Cells.{CellLies}
use Rattle.tileblock.specs.declared.pixels.DepthBounds.{DepthBounds}
use Rattle.tileprog.specs.declared.brush.Brush.{Brush}
use Rattle.tileprog.specs.declared.column.Column.{Column}
use Rattle.tileprog.specs.declared.kind.Tests.TheVariants.{Stencil}
use Rattle.tileprog.specs.Alike.{HasOutcome, operated}
use Rattle.tileprog.specs.Brushes.{tested_by, drawn_by}
use Rattle.tileprog.specs.Cells.{InRows, AllHave, AreCovered, HaveOutcome, IsStill, IsUnwritten}
use Rattle.tileprog.specs.Columns.{RowDrew}
use Rattle.tileprog.specs.Kinds.{tests_of}
use Rattle.tileprog.specs.Strokes.{Stroke, stroked}
use Rattle.tileprog.specs.Within.{in_box}
use Rattle.tileprog.specs.Painting.{painted_with}
use Rattle.tileprog.proofs.Lanes.{rule_of, deep_enough, stencil_lane, stencil_passes_both, both_lanes, lane_kept, lane_unpainted, kept_all}

-- ---- from what is known of the stored depths to pixels

-- depths that lie between two have one outcome against all that may be stored in a cell
pub cell_has : (deep : Bool) (s : DepthStencilSetting) (d : DeepTriangle) (b : Block) (span cell x least greatest : ℕ) (known : DepthBounds) → x ≡ b.rect.left + 8 * span → CellLies b span cell known.least known.greatest
    → ((u v : ℕ) → InRows b.rect x (8 * cell) (8 * cell + 8) u v → IsTrue (covers d.triangle (centre u v)) → (least ≤ depth_of d u v) × (depth_of d u v ≤ greatest)) → HasOutcome s least greatest (Some known) deep → AllHave deep s d b x (8 * cell) (8 * cell + 8)
cell_has deep s d b span cell x least greatest known x_is stored lie has = λ u v is here covered.
    let l = here.left in
    let r = here.right in
    let t = here.top in
    let o = here.bottom in
    let between = lie u v here covered in
    let k = v - (b.rect.top + 8 * cell) in
    let u_is : b.rect.left + 8 * span + (u - x) ≡ u = omega (arith, x_is, l) in
    let v_is : b.rect.top + (8 * cell + k) ≡ v = omega (arith, t) in
    let Q : ℕ → ℕ → Type 0 = λ u v. (known.least ≤ (pixel_at b u v).ds.depth) × ((pixel_at b u v).ds.depth ≤ known.greatest) in
    let there : Q (b.rect.left + 8 * span + (u - x)) (b.rect.top + (8 * cell + k)) = stored k (u - x) (omega (arith, t, o)) (omega (arith, l, r)) in
    has (depth_of d u v) (pixel_at b u v).ds.depth between.0 between.1 (subst (λ w. Q u w) v_is (subst (λ w. Q w (b.rect.top + (8 * cell + k))) u_is there))

-- where depth isn't tested
pub untested_cell : (s : DepthStencilSetting) (d : DeepTriangle) (b : Block) (x row past : ℕ) → s.depth ≡ false → AllHave true s d b x row past
untested_cell s d b x row past off = λ u v is here covered. ap (λ t. not t || compares s.func (depth_of d u v) (pixel_at b u v).ds.depth) off

-- ---- row by row

pub mapped : (o : Option Bool) (P Q : Bool → Type 0) → ((b : Bool) → P b → Q b) → IfSome o P → IfSome o Q
mapped None P Q f h = h
mapped (Some b) P Q f h = f b h

-- what two say of the same
pub joined : (o : Option Bool) (P Q R : Bool → Type 0) → ((b : Bool) → P b → Q b → R b) → IfSome o P → IfSome o Q → IfSome o R
joined None P Q R f h k = h
joined (Some b) P Q R f h k = f b h k

pub first_have : (deep : Bool) (s : DepthStencilSetting) (d : DeepTriangle) (b : Block) (x row past : ℕ) → row < past → AllHave deep s d b x row past → AllHave deep s d b x row (row + 1)
first_have deep s d b x row past more all = λ u v is here covered.
    let o = here.bottom in
    all u v is (record { left = here.left; right = here.right; top = here.top; bottom = omega (arith, o, more) }) covered

-- some of them
pub part_have : (deep : Bool) (s : DepthStencilSetting) (d : DeepTriangle) (b : Block) (x from at past to : ℕ) → from ≤ at → past ≤ to → AllHave deep s d b x from to → AllHave deep s d b x at past
part_have deep s d b x from at past to more less all = λ u v is here covered.
    let t = here.top in
    let o = here.bottom in
    all u v is (record { left = here.left; right = here.right; top = omega (arith, t, more); bottom = omega (arith, o, less) }) covered

pub part_covered : (mask : ℕ) (t : Triangle) (r q : PixelRect) (x from at past to : ℕ) → from ≤ at → past ≤ to → q ≡ r → AreCovered true mask t r x from to → AreCovered true mask t q x at past
part_covered mask t r q x from at past to more less same all =
    subst (λ (r : PixelRect). AreCovered true mask t r x at past) (sym same) (λ u v here.
    let l = here.top in
    let o = here.bottom in
    all u v (record { left = here.left; right = here.right; top = omega (arith, l, more); bottom = omega (arith, o, less) }))

-- a row of rows that are covered
pub row_covered : (mask : ℕ) (t : Triangle) (r : PixelRect) (x row at past : ℕ) → row ≤ at → at < past → AreCovered true mask t r x row past → AreCovered true mask t r x at (at + 1)
row_covered mask t r x row at past more less all = λ u v here.
    let l = here.top in
    let o = here.bottom in
    all u v (record { left = here.left; right = here.right; top = omega (arith, l, more); bottom = omega (arith, o, less) })

-- a drawn row leaves those below it
pub rest_have : (deep : Bool) (s : DepthStencilSetting) (d : DeepTriangle) (k : Stroke) (old new : Block) (x row past y n : ℕ) → AllHave deep s d old x row past → RowDrew k old new x y n → y ≡ old.rect.top + row → AllHave deep s d new x (row + 1) past
rest_have deep s d k old new x row past y n all drew y_is = λ u v is here covered.
    let top_is = ap (λ (r : PixelRect). r.top) drew.drew.rect in
    let t = here.top in
    let o = here.bottom in
    let was : IsIn old.rect u v = subst (λ (r : PixelRect). IsIn r u v) drew.drew.rect is in
    let beside : in_box x (x + 8) y (y + 1) u v ≡ false = outside u v (omega (arith, t, y_is, top_is)) in
    let same : pixel_at new u v ≡ pixel_at old u v = drew.drew.pixels u v was ∙ ap (λ c. if c then stroked k u v (pixel_at old u v) else pixel_at old u v) beside in
    ap (λ (p : Pixel). depth_passes s (depth_of d u v) p.ds.depth) same
    ∙ all u v was (record { left = here.left; right = here.right; top = omega (arith, t, top_is); bottom = omega (arith, o, top_is) }) covered
  where
    outside : (u v : ℕ) → y + 1 ≤ v → in_box x (x + 8) y (y + 1) u v ≡ false
    outside u v h = plain
      where
        plain : ((nat_le x u && nat_lt u (x + 8)) && (nat_le y v && nat_lt v (y + 1))) ≡ false
        plain = grind (arith, nat_tests, h)

pub rest_outcome : (deep : Bool) (b : Brush) (k : Column) (s : Stroke) (old new : Block) (row past y n : ℕ) → HaveOutcome deep b k old row past → RowDrew s old new k.x y n → y ≡ old.rect.top + row → HaveOutcome deep b k new (row + 1) past
rest_outcome deep b k s old new row past y n h drew y_is = record { all = rest_have deep b.state k.plane.now s old new k.x row past y n h.all drew y_is; unwritten = h.unwritten }

pub rest_told : (known : Option Bool) (b : Brush) (k : Column) (s : Stroke) (old new : Block) (row past y n : ℕ) → IfSome known (λ deep. HaveOutcome deep b k old row past) → RowDrew s old new k.x y n → y ≡ old.rect.top + row
    → IfSome known (λ deep. HaveOutcome deep b k new (row + 1) past)
rest_told known b k s old new row past y n h drew y_is =
    mapped known (λ deep. HaveOutcome deep b k old row past) (λ deep. HaveOutcome deep b k new (row + 1) past) (λ deep is. rest_outcome deep b k s old new row past y n is drew y_is) h

-- where depth isn't tested
pub untested_told : (known : Option Bool) (b : Brush) (k : Column) (old : Block) (row past : ℕ) → IfSome known (λ deep. (deep ≡ true) × (b.state.depth ≡ false)) → IfSome known (λ deep. HaveOutcome deep b k old row past)
untested_told known b k old row past h =
    mapped known (λ deep. (deep ≡ true) × (b.state.depth ≡ false)) (λ deep. HaveOutcome deep b k old row past)
    (λ deep is. record {
      all = subst (λ t. AllHave t b.state k.plane.now old k.x row past) (sym is.0) (untested_cell b.state k.plane.now old k.x row past is.1);
      unwritten = λ e. ap (λ t. t && b.state.write) is.1;
    }) h

-- ---- lanes

-- a lane of which the depth test's outcome is known, and whose depth stays
module _ (b : Brush) (kind : tests_of b.state ≡ Stencil) (z : ℕ) (p : Pixel) (passing deep : Bool) (after : ℕ)
    (ep : passing ≡ reference_passes (rule_of b) p.ds.stencil) (ea : after ≡ stencil_after (rule_of b) passing deep p.ds.stencil) (stays : IsUnwritten b.state deep) where
  abbrev stored_depth : Bool → Bool → ℕ
  stored_depth d u = if d then (if u then z else p.ds.depth) else p.ds.depth

  depth_stays : (deep d passing u : Bool) → (deep ≡ true → d ≡ false) → u ≡ (passing && deep) → p.ds.depth ≡ stored_depth d u
  depth_stays deep false passing u f e = refl
  depth_stays true true passing u f e = absurd (no_both (f refl))
    where
      no_both : true ≡ false → ⊥
      no_both h = cc
  depth_stays false true true u f e = ap (stored_depth true) (sym e)
  depth_stays false true false u f e = ap (stored_depth true) (sym e)

  pub alike_lane : (t u : Bool) → (t ≡ true → deep ≡ deep_enough b z p.ds) → u ≡ (t && (passing && deep)) →
      record { rgba = if u then painted_with b.write p.rgba else p.rgba; ds = record { depth = p.ds.depth; stencil = if t then after else p.ds.stencil } } ≡ (if t then drawn_by b z p else p)
  alike_lane false u ed eu = ap (λ v. record { rgba = if v then painted_with b.write p.rgba else p.rgba; ds = p.ds }) eu
  alike_lane true u ed eu =
      ap (λ n. record { rgba = if u then painted_with b.write p.rgba else p.rgba; ds = record { depth = n; stencil = after } }) (depth_stays deep (b.state.depth && b.state.write) passing u stays eu)
      ∙ ap (λ (ds : DepthStencil). record { rgba = if u then painted_with b.write p.rgba else p.rgba; ds = ds })
      (stencil_lane b kind z p.ds true passing deep u (b.state.depth && b.state.write) after ep (ed refl) eu refl ea)
      ∙ both_lanes b z true u p (eu ∙ stencil_passes_both b kind z p.ds passing deep ep (ed refl))

  pub alike_bit : (t : Bool) → (t ≡ true → deep ≡ deep_enough b z p.ds) → (t && (passing && deep)) ≡ (t && (tested_by b z p.ds).passed)
  alike_bit true ed = stencil_passes_both b kind z p.ds passing deep ep (ed refl)
  alike_bit false ed = refl

-- a lane at which nothing changes
module _ (b : Brush) (kind : tests_of b.state ≡ Stencil) (r : StencilRule) (rule : r ≡ rule_of b) (z : ℕ) (p : Pixel) (deep : Bool) (stays : IsUnwritten b.state deep) (still : IsStill b r deep)
    (small : p.ds.stencil < 256) where
  still_passes : true ≡ reference_passes (rule_of b) p.ds.stencil
  still_passes = sym (still.passes p.ds.stencil) ∙ ap (λ r. reference_passes r p.ds.stencil) rule

  still_after : p.ds.stencil ≡ stencil_after (rule_of b) true deep p.ds.stencil
  still_after = sym (still.stencil p.ds.stencil small) ∙ ap (λ r. stencil_after r true deep p.ds.stencil) rule

  same_either : (t : Bool) (n : ℕ) → n ≡ (if t then n else n)
  same_either true n = refl
  same_either false n = refl

  unpassed : (d t u : Bool) → d ≡ false → u ≡ (t && (true && d)) → u ≡ false
  unpassed d true u e f = f ∙ e
  unpassed d false u e f = f

  still_color : (d t u : Bool) (q : ℕ) → q < 2 ^ 32 → to_le_bytes w32 q ≡ p.rgba → deep ≡ d → u ≡ (t && (true && deep)) → p ≡ record { rgba = if u then painted_with b.write p.rgba else p.rgba; ds = p.ds }
  still_color true t u q fits is e f = let kept = still.colors e in lane_kept b p u q fits is (kept_all q b.write.keep b.write.flip fits kept.0 kept.1)
  still_color false t u q fits is e f = lane_unpainted b p u (unpassed deep t u e f)

  pub still_lane : (t u : Bool) (q : ℕ) → q < 2 ^ 32 → to_le_bytes w32 q ≡ p.rgba → (t ≡ true → deep ≡ deep_enough b z p.ds) → u ≡ (t && (true && deep)) → p ≡ (if t then drawn_by b z p else p)
  still_lane t u q fits is ed eu =
      still_color deep t u q fits is refl eu
      ∙ (λ i. record { rgba = if u then painted_with b.write p.rgba else p.rgba; ds = record { depth = p.ds.depth; stencil = same_either t p.ds.stencil i } })
      ∙ alike_lane b kind z p true deep p.ds.stencil still_passes still_after stays t u ed eu

  pub still_bit : (t : Bool) → (t ≡ true → deep ≡ deep_enough b z p.ds) → (t && (true && deep)) ≡ (t && (tested_by b z p.ds).passed)
  still_bit t ed = alike_bit b kind z p true deep p.ds.stencil still_passes still_after stays t ed

-- a lane at which no more than the stencil value changes
module _ (b : Brush) (kind : tests_of b.state ≡ Stencil) (r : StencilRule) (rule : r ≡ rule_of b) (z : ℕ) (p : Pixel) (deep : Bool) (stays : IsUnwritten b.state deep)
    (passes : (v : ℕ) → reference_passes r v ≡ true) (colors : deep ≡ true → (b.write.keep ≡ 4294967295) × (b.write.flip ≡ 0)) where
  always_passes : true ≡ reference_passes (rule_of b) p.ds.stencil
  always_passes = sym (passes p.ds.stencil) ∙ ap (λ r. reference_passes r p.ds.stencil) rule

  abbrev after : ℕ
  after = stencil_after r true deep p.ds.stencil

  after_is : after ≡ stencil_after (rule_of b) true deep p.ds.stencil
  after_is = ap (λ r. stencil_after r true deep p.ds.stencil) rule

  kept_color : (d : Bool) (q : ℕ) → q < 2 ^ 32 → to_le_bytes w32 q ≡ p.rgba → deep ≡ d → p.rgba ≡ (if d then painted_with b.write p.rgba else p.rgba)
  kept_color true q fits is e = let kept = colors e in ap (λ (p : Pixel). p.rgba) (lane_kept b p true q fits is (kept_all q b.write.keep b.write.flip fits kept.0 kept.1))
  kept_color false q fits is e = refl

  pub operated_lane : (t : Bool) (q : ℕ) → t ≡ true → q < 2 ^ 32 → to_le_bytes w32 q ≡ p.rgba → deep ≡ deep_enough b z p.ds → operated r deep p ≡ (if t then drawn_by b z p else p)
  operated_lane true q on fits is ed =
      ap (λ c. record { rgba = c; ds = record { depth = p.ds.depth; stencil = after } }) (kept_color deep q fits is refl)
      ∙ alike_lane b kind z p true deep after always_passes after_is stays true deep (λ t. ed) refl
  operated_lane false q on fits is ed = absurd (never on)
    where
      never : false ≡ true → ⊥
      never h = cc

  pub operated_bit : (t : Bool) → t ≡ true → deep ≡ deep_enough b z p.ds → deep ≡ (t && (tested_by b z p.ds).passed)
  operated_bit t on ed = ap (λ u. u && (true && deep)) (sym on) ∙ alike_bit b kind z p true deep after always_passes after_is stays t (λ t. ed)

-- ---- edges

-- where all edges hold the named ones do
pub all_pass : (mask : ℕ) (t : Triangle) (p : Point) → ((i : ℕ) → i < 3 → edge_holds (edge t i) p ≡ true) → passes_edges mask t p ≡ true
all_pass mask t p holds =
    (λ k. (not (bit_at mask 0 == 1) || holds 0 (omega arith) k) && ((not (bit_at mask 1 == 1) || holds 1 (omega arith) k) && (not (bit_at mask 2 == 1) || holds 2 (omega arith) k)))
    ∙ (λ k. either (bit_at mask 0 == 1) k && (either (bit_at mask 1 == 1) k && either (bit_at mask 2 == 1) k))
  where
    either : (b : Bool) → (not b || true) ≡ true
    either true = refl
    either false = refl

-- where the triangle covers nothing, not all named edges hold
pub none_pass : (b : Bool) (mask : ℕ) (t : Triangle) (p : Point) → (IsTrue (passes_edges mask t p) → IsTrue (covers t p)) → covers t p ≡ false → passes_edges mask t p ≡ b → passes_edges mask t p ≡ false
none_pass false mask t p inside none is = is
none_pass true mask t p inside none is = absurd (never (sym (inside is) ∙ none))
  where
    never : true ≡ false → ⊥
    never h = cc

pub none_cover : (t : Triangle) (p : Point) (i : ℕ) → i < 3 → edge_holds (edge t i) p ≡ false → covers t p ≡ false
none_cover t p zero h out = ap (λ e. not (is_empty t) && (e && (edge_holds (edge t 1) p && edge_holds (edge t 2) p))) out ∙ never (not (is_empty t))
  where
    never : (a : Bool) → (a && false) ≡ false
    never true = refl
    never false = refl
none_cover t p (suc zero) h out = ap (λ e. not (is_empty t) && (edge_holds (edge t 0) p && (e && edge_holds (edge t 2) p))) out ∙ never (not (is_empty t)) (edge_holds (edge t 0) p)
  where
    never : (a b : Bool) → (a && (b && false)) ≡ false
    never true true = refl
    never true false = refl
    never false b = refl
none_cover t p (suc (suc zero)) h out = ap (λ e. not (is_empty t) && (edge_holds (edge t 0) p && (edge_holds (edge t 1) p && e))) out ∙ never (not (is_empty t)) (edge_holds (edge t 0) p) (edge_holds (edge t 1) p)
  where
    never : (a b c : Bool) → (a && (b && (c && false))) ≡ false
    never true true true = refl
    never true true false = refl
    never true false c = refl
    never false b c = refl
none_cover t p (suc (suc (suc i))) h out = absurd (omega arith)
