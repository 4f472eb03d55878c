-- A triangle that is made ready, and one that is dropped.
use Rattle.std.proofs.Common.{◌≡◌, ◌∙◌, ap, sym, subst, refl, true≢false, ◌≢◌, ℕ, pos, length, get_or, arith, Bool, true, false, IsTrue, ◌&&◌, ◌||◌, nat_lt, List}
use Rattle.std.specs.Prelude.{nat_le, min, max, not}
use Rattle.std.proofs.lemmas.Bool.Decides.{nat_tests, Decides-int_eq}
use Rattle.std.proofs.lemmas.Bool.{false_from_ne_true}
use Rattle.std.proofs.lemmas.List.{get_or_default}
use Rattle.gfxspec.specs.declared.geometry.PixelRect.{PixelRect}
use Rattle.gfxspec.specs.State.{Settings}
use Rattle.gfxspec.specs.Assembly.{Primitive, origin}
use Rattle.gfxspec.specs.Raster.{Triangle, area, centre, covers, is_empty}
use Rattle.gfxspec.specs.Facing.{facing_of, is_culled}
use Rattle.gfxspec.specs.declared.geometry.Facing.{Facing}
use Rattle.gfxspec.specs.declared.geometry.Vertex.{Vertex}
use Rattle.gfxspec.specs.declared.state.Cull.{Cull}
use Rattle.gfxspec.specs.Items.{Drawn, after_item, face_setting, facing, in_scissor, is_in_rect, snapped_triangle}
use Rattle.gfxspec.specs.Items as item
use Rattle.gfxspec.specs.Tiles.{IsIn}
use Rattle.binner.specs.Ready.{IsReady, common_rect}

-- ---- the rectangle that a triangle can reach

module _ (b s : PixelRect) (x y : ℕ) where
  inside : IsIn b x y → is_in_rect b x y ≡ true
  inside is = plain
    where
      plain : (nat_le b.left x && (nat_lt x b.right && (nat_le b.top y && nat_lt y b.bottom))) ≡ true
      plain = grind (arith, nat_tests, is.left, is.right, is.top, is.bottom)

  in_other : IsIn b x y → is_in_rect (common_rect b s) x y ≡ is_in_rect s x y
  in_other is = plain
    where
      plain : (nat_le (max b.left s.left) x && (nat_lt x (min b.right s.right) && (nat_le (max b.top s.top) y && nat_lt y (min b.bottom s.bottom)))) ≡ (nat_le s.left x && (nat_lt x s.right && (nat_le s.top y && nat_lt y s.bottom)))
      plain = grind (arith, nat_tests, is.left, is.right, is.top, is.bottom)

  nowhere : (a : Bool) → (a && false) ≡ false
  nowhere true = refl
  nowhere false = refl

  only : (a : Bool) → (a && true) ≡ a
  only true = refl
  only false = refl

  pub reach_both : (scissor covered : Bool) → scissor ≡ true → (IsTrue covered → IsIn b x y) → (is_in_rect (common_rect b s) x y && covered) ≡ (covered && (not scissor || is_in_rect s x y))
  reach_both false covered e h = absurd (true≢false (sym e))
  reach_both true true e h = only (is_in_rect (common_rect b s) x y) ∙ in_other (h refl)
  reach_both true false e h = nowhere (is_in_rect (common_rect b s) x y)

  pub reach_bounds : (scissor covered : Bool) → scissor ≡ false → (IsTrue covered → IsIn b x y) → (is_in_rect b x y && covered) ≡ (covered && (not scissor || is_in_rect s x y))
  reach_bounds true covered e h = absurd (true≢false e)
  reach_bounds false true e h = only (is_in_rect b x y) ∙ inside (h refl)
  reach_bounds false false e h = nowhere (is_in_rect b x y)

pub solid : (t e : Triangle) → e ≡ t → area t ≢ pos 0 → is_empty e ≡ false
solid t e same wide = ap is_empty same ∙ false_from_ne_true (is_empty t) (λ h. wide ((Decides-int_eq (area t) (pos 0)).0 h))

abbrev pub corners_of : List Vertex → Primitive
corners_of vs = record { first = get_or vs 0 origin; second = get_or vs 1 origin; third = get_or vs 2 origin }

pub same_primitive : (vs : List Vertex) (d : Vertex) → length vs ≡ 3 → record { first = get_or vs 0 d; second = get_or vs 1 d; third = get_or vs 2 d } ≡ corners_of vs
same_primitive vs d h =
    let first = get_or_default vs 0 d origin (omega (arith, h)) in
    let second = get_or_default vs 1 d origin (omega (arith, h)) in
    let third = get_or_default vs 2 d origin (omega (arith, h)) in
    rw (first, second, third) refl

pub all_ready : (vs : List Vertex) (d : Vertex) → length vs ≡ 3 → IsReady (corners_of vs) → IsReady (record { first = get_or vs 0 d; second = get_or vs 1 d; third = get_or vs 2 d })
all_ready vs d h r = subst IsReady (sym (same_primitive vs d h)) r

pub facing_is : (t : Primitive) (s : Settings) (f : Facing) (ccw : Bool) (corners : Triangle) → f ≡ facing_of ccw corners → ccw ≡ s.raster.front_ccw → corners ≡ snapped_triangle t → f ≡ facing t s
facing_is t s f ccw corners h a b = h ∙ ap (λ c. facing_of c corners) a ∙ ap (facing_of s.raster.front_ccw) b

pub culled_is : (t : Primitive) (s : Settings) (f : Facing) (mode : Cull) (culled is : Bool) → f ≡ facing t s → mode ≡ s.raster.cull → culled ≡ is_culled mode f → culled ≡ is → is_culled s.raster.cull (facing t s) ≡ is
culled_is t s f mode culled is a b c h = ap (λ m. is_culled m (facing t s)) (sym b) ∙ ap (is_culled mode) (sym a) ∙ sym c ∙ h

-- ---- a dropped triangle

pub culled_out : (p : Primitive) (s : Settings) → is_culled s.raster.cull (facing p s) ≡ true → (x y : ℕ) → item.reaches p s x y ≡ false
culled_out p s h x y = ap (λ b. not b && (covers (snapped_triangle p) (centre x y) && in_scissor s x y)) h

empty_out' : (k e c s : Bool) → e ≡ true → (k && ((not e && c) && s)) ≡ false
empty_out' true true c s h = refl
empty_out' false true c s h = refl
empty_out' k false c s h = absurd cc

pub empty_out : (p : Primitive) (s : Settings) (t : Triangle) → t ≡ snapped_triangle p → area t ≡ pos 0 → (x y : ℕ) → item.reaches p s x y ≡ false
empty_out p s t same flat x y =
    empty_out' (not (is_culled s.raster.cull (facing p s))) (is_empty (snapped_triangle p)) _ (in_scissor s x y)
    (ap is_empty (sym same) ∙ (Decides-int_eq (area t) (pos 0)).1 flat)

-- ---- a triangle out of sight

-- a triangle whose pixels all lie in this rectangle, and a pixel outside of it
pub out_of_sight : (p : Primitive) (s : Settings) (t : Triangle) (b : PixelRect) (x y : ℕ) → t ≡ snapped_triangle p → (is_in_rect b x y && covers t (centre x y)) ≡ (covers t (centre x y) && in_scissor s x y) → is_in_rect b x y ≡ false → item.reaches p s x y ≡ false
out_of_sight p s t b x y same reach out =
    ap (λ c. not (is_culled s.raster.cull (facing p s)) && c)
    (ap (λ u. covers u (centre x y) && in_scissor s x y) (sym same) ∙ sym reach ∙ ap (λ c. c && covers t (centre x y)) out)
    ∙ none (not (is_culled s.raster.cull (facing p s)))
  where
    none : (k : Bool) → (k && false) ≡ false
    none true = refl
    none false = refl
