-- A triangle that can't pass the depth test changes nothing and counts nothing.
use Rattle.std.proofs.Common.{int_eq, ◌≡◌, ◌∙◌, ap, sym, subst, refl, arith, ℕ, zero, suc, ◌+◌, ◌*◌, ◌/◌, ◌<◌, ◌≤◌, ℤ, pos, Bool, true, false, ◌&&◌, ◌||◌, nat_lt, min, max, Option, Some, None}
use Rattle.std.specs.Prelude.{negsuc, nat_le, not, ◌==◌, if◌then◌else◌, unsigned_abs, IfSome}
use Rattle.std.proofs.lemmas.Bool.{false≢true}
use Rattle.std.proofs.lemmas.Bool.Decides.{nat_tests}
use Rattle.std.proofs.lemmas.Nat.{le-div}
use Rattle.std.proofs.Math.Nat.{mul-le-mul_left, div-le_of_le-mul}
use Rattle.gfxspec.specs.declared.pixel.Pixel.{Pixel}
use Rattle.gfxspec.specs.declared.pixel.DepthStencil.{DepthStencil}
use Rattle.gfxspec.specs.declared.geometry.PixelRect.{PixelRect}
use Rattle.gfxspec.specs.declared.state.Compare.{Compare}
use Rattle.gfxspec.specs.declared.state.Compare.TheVariants.{Never, Less, Equal, LessEqual, Greater, NotEqual, GreaterEqual, Always}
use Rattle.gfxspec.specs.DepthStencil.{DepthStencilSetting, FaceSetting, TestOutcome, tested, compares}
use Rattle.gfxspec.specs.Depth.{weight, depth_at}
use Rattle.gfxspec.specs.Items.{is_in_rect}
use Rattle.gfxspec.specs.Raster.{Triangle, Point, centre, covers, is_empty, area, edge, edge_holds}
use Rattle.gfxspec.specs.Tiles.{IsIn}
use Rattle.snap.proofs.CoverLaws.{all_hold, weights_sum}
use Rattle.depthplane.specs.Place.{depth_of}
use Rattle.depthplane.proofs.Biases.{biased_order}
use Rattle.classify.specs.Region.{IsClassOf}
use Rattle.classify.specs.declared.Class.TheVariants.{Cut}
use Rattle.tileword.specs.declared.edge_mask.EdgeMask.{EdgeMask}
use Rattle.tileword.specs.EdgeMask.{edge_bits}
use Rattle.meaning.specs.Over.{sum_over}
use Rattle.tileblock.specs.declared.pixels.DepthBounds.{DepthBounds}
use Rattle.tileblock.specs.Block.{Block, pixel_at}
use Rattle.tileblock.specs.Bounds.{LieBetween}
use Rattle.binner.specs.declared.entry.StateEntry.{StateEntry}
use Rattle.binner.specs.declared.setup.TriSetup.{TriSetup}
use Rattle.binner.specs.Meaning.{IsBounded}
use Rattle.binner.specs.Program as P
use Rattle.binner.specs.Program.{lets_through, reaches_by, outcome, drawn, triangle_by}
use Rattle.tileprog.specs.Cells.{LiesWithin}
use Rattle.tileprog.specs.Counting.{one_if}
use Rattle.tileprog.specs.Edges.{passes_edges}
use Rattle.tileprog.specs.Hidden.{NonePasses, none_passes, greatest_after, DepthsLie, IsHidden, AreAfter, IsWhole}
use Rattle.tileprog.specs.Painting.{stands_for}
use Rattle.tileprog.specs.Passing.{triangle_count, IsTile}
use Rattle.tileprog.proofs.Lanes.{tested_depth}
use Rattle.tileprog.proofs.Summing.{sum_over_none}
use Rattle.tileprog.proofs.Under.{named_covers, passes_are, reach_is}

-- ---- ranges

pub none_pass : (func : Compare) (least greatest low high : ℕ) → none_passes func least greatest low high ≡ true → NonePasses func least greatest low high
none_pass Never least greatest low high h = λ a b p q r s. refl
none_pass Less least greatest low high h = λ a b p q r s. grind (arith, nat_tests)
none_pass Equal least greatest low high h = λ a b p q r s. grind (arith, nat_tests)
none_pass LessEqual least greatest low high h = λ a b p q r s. grind (arith, nat_tests)
none_pass Greater least greatest low high h = λ a b p q r s. grind (arith, nat_tests)
none_pass NotEqual least greatest low high h = λ a b p q r s. grind (arith, nat_tests)
none_pass GreaterEqual least greatest low high h = λ a b p q r s. grind (arith, nat_tests)
none_pass Always least greatest low high h = absurd cc

-- ---- depths of a triangle

-- a mean lies between the least and the greatest of what it is of
least_mean : (a b c x y z m : ℕ) → m ≤ x → m ≤ y → m ≤ z → 0 < a + b + c → m ≤ (a * x + b * y + c * z) / (a + b + c)
least_mean a b c x y z m p q r h =
    let k = mul-le-mul_left a p in
    let l = mul-le-mul_left b q in
    let n = mul-le-mul_left c r in
    le-div m (a * x + b * y + c * z) (a + b + c) h (omega (arith, k, l, n))

greatest_mean : (a b c x y z m : ℕ) → x ≤ m → y ≤ m → z ≤ m → (a * x + b * y + c * z) / (a + b + c) ≤ m
greatest_mean a b c x y z m p q r =
    let k = mul-le-mul_left a p in
    let l = mul-le-mul_left b q in
    let n = mul-le-mul_left c r in
    div-le_of_le-mul (a + b + c) (omega (arith, k, l, n))

-- twice the area of a triangle that isn't empty
some_area : (a : ℤ) → int_eq a (pos 0) ≡ false → 0 < unsigned_abs a
some_area (pos zero) e = absurd cc
some_area (pos (suc n)) e = omega arith
some_area (negsuc n) e = omega arith

some_weight : (t : Triangle) (p : Point) → is_empty t ≡ false → covers t p ≡ true → 0 < weight t 0 p + weight t 1 p + weight t 2 p
some_weight t p solid c = let s = weights_sum t p (all_hold t p c) in let n = some_area (area t) solid in omega (arith, s, n)

module _ (t : TriSetup) (x y : ℕ) (c : covers t.plane.triangle (centre x y) ≡ true) where
  depth_least : t.least_depth ≤ depth_of t.plane x y
  depth_least =
      let p = centre x y in
      let r = t.plane.triangle in
      let m = min (min t.plane.z0 t.plane.z1) t.plane.z2 in
      let below = least_mean (weight r 0 p) (weight r 1 p) (weight r 2 p) t.plane.z0 t.plane.z1 t.plane.z2 m (omega arith) (omega arith) (omega arith) (some_weight r p t.solid c) in
      subst (λ n. n ≤ depth_of t.plane x y) (sym t.least) (biased_order t.plane.bias m (depth_at r t.plane.z0 t.plane.z1 t.plane.z2 p) below)

  depth_greatest : depth_of t.plane x y ≤ t.greatest_depth
  depth_greatest =
      let p = centre x y in
      let r = t.plane.triangle in
      let m = max (max t.plane.z0 t.plane.z1) t.plane.z2 in
      let above = greatest_mean (weight r 0 p) (weight r 1 p) (weight r 2 p) t.plane.z0 t.plane.z1 t.plane.z2 m (omega arith) (omega arith) (omega arith) in
      subst (λ n. depth_of t.plane x y ≤ n) (sym t.greatest) (biased_order t.plane.bias (depth_at r t.plane.z0 t.plane.z1 t.plane.z2 p) m above)

pub vertices_lie : (t : TriSetup) (r : PixelRect) → DepthsLie t r t.least_depth t.greatest_depth
vertices_lie t r u v is c = (depth_least t u v c, depth_greatest t u v c)

pub vertices_within : (t : TriSetup) → LiesWithin t.plane (record { least = t.least_depth; greatest = t.greatest_depth })
vertices_within t u v c = (depth_least t u v c, depth_greatest t u v c)

-- ---- a stored depth

abbrev depth_after : Compare → ℕ → ℕ → ℕ
depth_after func z old = if compares func z old then z else old

and_true : (c : Bool) → (c && true) ≡ c
and_true true = refl
and_true false = refl

bounded_by : (lo lo' n n' hi hi' : ℕ) → lo ≡ lo' → n ≡ n' → hi ≡ hi' → ((lo' ≤ n') × (n' ≤ hi')) → (lo ≤ n) × (n ≤ hi)
bounded_by lo lo' n n' hi hi' e f g h = let a = h.0 in let b = h.1 in (omega (arith, e, f, a), omega (arith, f, g, b))

module _ (z old least greatest low high : ℕ) (a : least ≤ z) (b : z ≤ greatest) (p : low ≤ old) (q : old ≤ high) where
  either : (c : Bool) → (min low least ≤ (if c then z else old)) × ((if c then z else old) ≤ max high greatest)
  either true = (omega arith, omega arith)
  either false = (omega arith, omega arith)

  nearer : (whole c : Bool) → (c ≡ true → z ≤ old) → (c ≡ false → old ≤ z) → (min low least ≤ (if c then z else old)) × ((if c then z else old) ≤ (if whole then min high greatest else high))
  nearer true true f g = let h = f refl in (omega arith, omega (arith, h))
  nearer true false f g = let h = g refl in (omega arith, omega (arith, h))
  nearer false true f g = let h = f refl in (omega arith, omega (arith, h))
  nearer false false f g = (omega arith, omega arith)

  after_between_if : (func : Compare) (whole : Bool) → (min low least ≤ depth_after func z old) × (depth_after func z old ≤ greatest_after func whole high greatest)
  after_between_if Never whole = either false
  after_between_if Less whole = nearer whole (nat_lt z old) (λ h. grind (arith, nat_tests)) (λ h. grind (arith, nat_tests))
  after_between_if Equal whole = either (z == old)
  after_between_if LessEqual whole = nearer whole (nat_le z old) (λ h. grind (arith, nat_tests)) (λ h. grind (arith, nat_tests))
  after_between_if Greater whole = either (nat_lt old z)
  after_between_if NotEqual whole = either (not (z == old))
  after_between_if GreaterEqual whole = either (nat_le old z)
  after_between_if Always whole = either true

after_between : (func : Compare) (whole : Bool) (z old least greatest low high : ℕ) → least ≤ z → z ≤ greatest → low ≤ old → old ≤ high → (min low least ≤ depth_after func z old) × (depth_after func z old ≤ greatest_after func whole high greatest)
after_between func whole z old least greatest low high a b p q = after_between_if z old least greatest low high a b p q func whole

-- a depth that stays
stays : (func : Compare) (old least greatest low high : ℕ) → low ≤ old → old ≤ high → (min low least ≤ old) × (old ≤ greatest_after func false high greatest)
stays Never old least greatest low high p q = (omega arith, omega arith)
stays Less old least greatest low high p q = (omega arith, q)
stays Equal old least greatest low high p q = (omega arith, omega arith)
stays LessEqual old least greatest low high p q = (omega arith, q)
stays Greater old least greatest low high p q = (omega arith, omega arith)
stays NotEqual old least greatest low high p q = (omega arith, omega arith)
stays GreaterEqual old least greatest low high p q = (omega arith, omega arith)
stays Always old least greatest low high p q = (omega arith, omega arith)

-- ---- a hidden triangle

abbrev face_of : TriSetup → StateEntry → FaceSetting
face_of t e = if t.front then e.depth_stencil.front else e.depth_stencil.back

-- a test of depth alone that fails
failed : (s : DepthStencilSetting) (face : FaceSetting) (reference z : ℕ) (old : DepthStencil) → s.stencil ≡ false → s.depth ≡ true → compares s.func z old.depth ≡ false → tested s face reference z old ≡ record { after = old; passed = false }
failed s face reference z old stencil depth fails =
    tested_depth s face reference z old s.func s.write (record { stencil = stencil; depth = depth; func_is = refl; write_is = refl })
    ∙ ap (λ c. record { after = record { depth = if c && s.write then z else old.depth; stencil = old.stencil }; passed = c }) fails

module _ (t : TriSetup) (e : StateEntry) (m : EdgeMask) (old : Block) (class : IsClassOf (Cut (edge_bits m)) t.plane.triangle old.rect) where
  first : (a b : Bool) → (a && b) ≡ true → a ≡ true
  first true b k = refl
  first false b k = absurd cc

  -- where it reaches a pixel it covers its centre
  covered : (u v : ℕ) → IsIn old.rect u v → reaches_by m t e u v ≡ true → covers t.plane.triangle (centre u v) ≡ true
  covered u v is r =
      let named : P.passes_edges m t.plane.triangle (centre u v) ≡ true = first (P.passes_edges m t.plane.triangle (centre u v)) (lets_through e u v) r in
      named_covers (edge_bits m) t.plane.triangle old.rect u v t.solid class is (passes_are m t.plane.triangle (centre u v) ∙ named)

  module _ (least greatest : ℕ) (lie : DepthsLie t old.rect least greatest) (stored : Option DepthBounds) (known : IfSome stored (λ w. LieBetween old w.least w.greatest)) where
    lies : (w : DepthBounds) → stored ≡ Some w → LieBetween old w.least w.greatest
    lies w is = subst (λ o. IfSome o (λ w. LieBetween old w.least w.greatest)) is known

    module _ (h : IsHidden e.depth_stencil least greatest stored) where
      test_fails : (u v : ℕ) → IsIn old.rect u v → reaches_by m t e u v ≡ true → outcome t e u v (pixel_at old u v) ≡ record { after = (pixel_at old u v).ds; passed = false }
      test_fails u v is r =
          let c = covered u v is r in
          let between = lie u v is c in
          let was = lies h.was h.known u v is in
          let fails : compares e.depth_stencil.func (depth_of t.plane u v) (pixel_at old u v).ds.depth ≡ false
          = none_pass e.depth_stencil.func least greatest h.was.least h.was.greatest h.none (depth_of t.plane u v) (pixel_at old u v).ds.depth (between.0) (between.1) was.0 was.1 in
          failed e.depth_stencil (face_of t e) e.reference (depth_of t.plane u v) (pixel_at old u v).ds h.alone.stencil h.alone.depth fails

      pub hidden_pixel : (flip u v : ℕ) → IsIn old.rect u v → stands_for flip old u v ≡ triangle_by m (Some t) (Some e) u v (stands_for flip old u v)
      hidden_pixel flip u v is = by (reaches_by m t e u v) refl
        where
          by : (r : Bool) → reaches_by m t e u v ≡ r → stands_for flip old u v ≡ (if r then drawn t e (outcome t e u v (stands_for flip old u v)) (stands_for flip old u v) else stands_for flip old u v)
          by true r = ap (λ o. drawn t e o (stands_for flip old u v)) (sym (test_fails u v is r))
          by false r = refl

      pub hidden_count : 0 ≡ sum_over old.rect (triangle_count m t e old)
      hidden_count = sym (sum_over_none old.rect _ (λ u v is. by u v is (reaches_by m t e u v) refl))
        where
          by : (u v : ℕ) → IsIn old.rect u v → (r : Bool) → reaches_by m t e u v ≡ r → one_if (r && (outcome t e u v (pixel_at old u v)).passed) ≡ 0
          by u v is true r = ap (λ (o : TestOutcome). one_if o.passed) (test_fails u v is r)
          by u v is false r = refl

    -- what the depths lie between behind it
    module _ (new : Block) (whole : Bool) (d : DepthBounds)
        (a : AreAfter e.depth_stencil least greatest whole stored d)
        (pixels : (u v : ℕ) → IsIn old.rect u v → (pixel_at new u v).ds ≡ (triangle_by m (Some t) (Some e) u v (pixel_at old u v)).ds)
        (reached : whole ≡ true → (u v : ℕ) → IsIn old.rect u v → reaches_by m t e u v ≡ true) where
      tested_depth_is : (u v : ℕ) → (outcome t e u v (pixel_at old u v)).after.depth ≡ depth_after e.depth_stencil.func (depth_of t.plane u v) (pixel_at old u v).ds.depth
      tested_depth_is u v =
          ap (λ (o : TestOutcome). o.after.depth)
          (tested_depth e.depth_stencil (face_of t e) e.reference (depth_of t.plane u v) (pixel_at old u v).ds e.depth_stencil.func true (record { stencil = a.alone.stencil; depth = a.alone.depth; func_is = refl; write_is = a.write }))
          ∙ ap (λ c. if c then depth_of t.plane u v else (pixel_at old u v).ds.depth) (and_true (compares e.depth_stencil.func (depth_of t.plane u v) (pixel_at old u v).ds.depth))

      pub kept_between : (u v : ℕ) → IsIn old.rect u v → (d.least ≤ (pixel_at new u v).ds.depth) × ((pixel_at new u v).ds.depth ≤ d.greatest)
      kept_between u v is =
          let was = lies a.was a.known u v is in
          bounded_by d.least (min a.was.least least) (pixel_at new u v).ds.depth (triangle_by m (Some t) (Some e) u v (pixel_at old u v)).ds.depth d.greatest _ a.low (ap (λ (ds : DepthStencil). ds.depth) (pixels u v is)) a.high
          (by was (reaches_by m t e u v) refl whole reached)
        where
          by : ((a.was.least ≤ (pixel_at old u v).ds.depth) × ((pixel_at old u v).ds.depth ≤ a.was.greatest)) → (r : Bool) → reaches_by m t e u v ≡ r → (all : Bool) → (all ≡ true → (u v : ℕ) → IsIn old.rect u v → reaches_by m t e u v ≡ true) →
              (min a.was.least least ≤ (if r then drawn t e (outcome t e u v (pixel_at old u v)) (pixel_at old u v) else pixel_at old u v).ds.depth)
              × ((if r then drawn t e (outcome t e u v (pixel_at old u v)) (pixel_at old u v) else pixel_at old u v).ds.depth ≤ greatest_after e.depth_stencil.func all a.was.greatest greatest)
          by was true r all every =
              let c = covered u v is r in
              let between = lie u v is c in
              bounded_by _ _ (outcome t e u v (pixel_at old u v)).after.depth _ _ _ refl (tested_depth_is u v) refl
              (after_between e.depth_stencil.func all (depth_of t.plane u v) (pixel_at old u v).ds.depth least greatest a.was.least a.was.greatest (between.0) (between.1) was.0 was.1)
          by was false r true every = absurd (false≢true (sym r ∙ every refl u v is))
          by was false r false every = stays e.depth_stencil.func (pixel_at old u v).ds.depth least greatest a.was.least a.was.greatest was.0 was.1

-- ---- a triangle that reaches a whole tile

-- where no edge is named it covers each pixel
pub whole_covered : (t : TriSetup) (m : EdgeMask) (clip r : PixelRect) → IsClassOf (Cut (edge_bits m)) t.plane.triangle r → IsWhole r clip m → (u v : ℕ) → IsIn r u v → covers t.plane.triangle (centre u v) ≡ true
whole_covered t m clip r class w u v is =
    named_covers (edge_bits m) t.plane.triangle r u v t.solid class is
    (passes_are m t.plane.triangle (centre u v)
    ∙ (λ i. (not (w.edge0 i) || edge_holds (edge t.plane.triangle 0) (centre u v)) && ((not (w.edge1 i) || edge_holds (edge t.plane.triangle 1) (centre u v)) && (not (w.edge2 i) || edge_holds (edge t.plane.triangle 2) (centre u v)))))

module _ (p : TriSetup) (e : StateEntry) (m : EdgeMask) (clip r : PixelRect) (tile : IsTile r) (class : IsClassOf (Cut (edge_bits m)) p.plane.triangle r) (bounded : IsBounded p e)
    (inside : (u v : ℕ) → IsIn r u v → is_in_rect clip u v ≡ is_in_rect p.bounds u v) where
  pub whole_reached : IsWhole r clip m → (u v : ℕ) → IsIn r u v → reaches_by m p e u v ≡ true
  whole_reached w u v is =
      sym (reach_is p e m clip r tile class bounded inside u v is)
      ∙ (λ i. within i && passes_edges (edge_bits m) p.plane.triangle (centre u v))
      ∙ passes_are m p.plane.triangle (centre u v)
      ∙ (λ i. (not (w.edge0 i) || edge_holds (edge p.plane.triangle 0) (centre u v)) && ((not (w.edge1 i) || edge_holds (edge p.plane.triangle 1) (centre u v)) && (not (w.edge2 i) || edge_holds (edge p.plane.triangle 2) (centre u v))))
    where
      within : is_in_rect clip u v ≡ true
      within = lies_in clip u v (omega (arith, w.left, is.left)) (omega (arith, w.right, is.right)) (omega (arith, w.top, is.top)) (omega (arith, w.bottom, is.bottom))
        where
          lies_in : (c : PixelRect) (u v : ℕ) → c.left ≤ u → u < c.right → c.top ≤ v → v < c.bottom → (nat_le c.left u && (nat_lt u c.right && (nat_le c.top v && nat_lt v c.bottom))) ≡ true
          lies_in c u v a b d f = grind (arith, nat_tests)

-- flips change nothing of what the tests leave
same_tests : (t : TriSetup) (e : StateEntry) (m : EdgeMask) (old : Block) (flip u v : ℕ) → (triangle_by m (Some t) (Some e) u v (stands_for flip old u v)).ds ≡ (triangle_by m (Some t) (Some e) u v (pixel_at old u v)).ds
same_tests t e m old flip u v = by (reaches_by m t e u v)
  where
    by : (r : Bool) → (if r then drawn t e (outcome t e u v (stands_for flip old u v)) (stands_for flip old u v) else stands_for flip old u v).ds ≡ (if r then drawn t e (outcome t e u v (pixel_at old u v)) (pixel_at old u v) else pixel_at old u v).ds
    by true = refl
    by false = refl

-- what is kept behind it
pub kept_if : (t : TriSetup) (e : StateEntry) (m : EdgeMask) (flip : ℕ) (old new : Block) (clip : PixelRect) (least greatest : ℕ) (stored after : Option DepthBounds) (whole : Bool) → IsTile old.rect → IsClassOf (Cut (edge_bits m)) t.plane.triangle old.rect → IsBounded t e →
    ((u v : ℕ) → IsIn old.rect u v → is_in_rect clip u v ≡ is_in_rect t.bounds u v) → DepthsLie t old.rect least greatest → IfSome stored (λ w. LieBetween old w.least w.greatest) → (whole ≡ true → IsWhole old.rect clip m) →
    IfSome after (AreAfter e.depth_stencil least greatest whole stored) → new.rect ≡ old.rect →
    ((u v : ℕ) → IsIn old.rect u v → stands_for flip new u v ≡ triangle_by m (Some t) (Some e) u v (stands_for flip old u v)) → IfSome after (λ d. LieBetween new d.least d.greatest)
kept_if t e m flip old new clip least greatest stored None whole tile class bounded inside lie known all a rect pixels = a
kept_if t e m flip old new clip least greatest stored (Some d) whole tile class bounded inside lie known all a rect pixels = λ u v is.
    kept_between t e m old class least greatest lie stored known new whole d a
    (λ u v is. ap (λ (p : Pixel). p.ds) (pixels u v is) ∙ same_tests t e m old flip u v)
    (λ w. whole_reached t e m clip old.rect tile class bounded inside (all w))
    u v (subst (λ (r : PixelRect). IsIn r u v) rect is)
