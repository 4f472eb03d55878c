-- What the places of items name.
use Rattle.std.proofs.Common.{◌≡◌, ◌∙◌, ap, sym, refl, arith, ℕ, zero, suc, ◌+◌, ◌<◌, Bool, true, false, cond, List, [], ◌∷◌, ◌++◌, length, append_assoc, append-nil, Some}
use Rattle.std.specs.Prelude.{slice_get, option_map}
use Rattle.std.proofs.lemmas.Option.{slice_get-map}
use Rattle.gfxspec.specs.Assembly.{Primitive, draw_primitives, draw_indexed_primitives}
use Rattle.gfxspec.specs.State.{Settings}
use Rattle.gfxspec.specs.Items.{Item, Drawn}
use Rattle.gfxspec.specs.Commands.{Command, Draw, DrawIndexed}
use Rattle.gfxspec.specs.Recorded.{items, items_at, settings_after, open_after}
use Rattle.gfxspec.specs.Predication.{performed, withholds}
use Rattle.meaning.proofs.Withheld.{items_performed-push}
use Rattle.pixelevents.specs.declared.Place.{Place}
use Rattle.pixelevents.specs.Places.{StandsAt, items_of_command, triangles_at}

-- ---- elements of lists behind one another

module _ {A : Type 0} where
  get_behind : (xs ys : List A) (n : ℕ) → slice_get (xs ++ ys) (length xs + n) ≡ slice_get ys n
  get_behind [] ys n = ap (slice_get ys) (none n)
    where
      none : (n : ℕ) → 0 + n ≡ n
      none n = omega arith
  get_behind (x ∷ xs) ys n = ap (slice_get (x ∷ (xs ++ ys))) (one (length xs) n) ∙ get_behind xs ys n
    where
      one : (l n : ℕ) → suc l + n ≡ suc (l + n)
      one l n = omega arith

  get_before : (xs ys : List A) (n : ℕ) → n < length xs → slice_get (xs ++ ys) n ≡ slice_get xs n
  get_before [] ys n h = absurd (omega (arith, h))
  get_before (x ∷ xs) ys zero h = refl
  get_before (x ∷ xs) ys (suc n) h = get_before xs ys n (omega (arith, h))

-- ---- places

-- commands behind others add their own items
pub items_more : (results : ℕ → Bool) (front back : List Command) → (more : List Item) × (items (performed results (front ++ back)) ≡ items (performed results front) ++ more)
items_more results front [] = ([], ap (λ cs. items (performed results cs)) (append-nil front) ∙ sym (append-nil (items (performed results front))))
items_more results front (c ∷ cs) =
    let rest = items_more results (front ++ c ∷ []) cs in
    let own = items_of_command results front c in
    (own ++ rest.0, ap (λ cs. items (performed results cs)) (sym (append_assoc front (c ∷ []) cs)) ∙ rest.1 ∙ ap (λ is. is ++ rest.0) (items_performed-push results front c) ∙ append_assoc (items (performed results front)) own rest.0)

pub places_name : (results : ℕ → Bool) (commands : List Command) (item : ℕ) (place : Place) (h : StandsAt results commands item place) → slice_get (items (performed results commands)) item ≡ slice_get (items_of_command results h.front h.command) place.triangle
places_name results commands item place h =
    let own = items_of_command results h.front h.command in
    let rest = items_more results (h.front ++ h.command ∷ []) h.back in
    let before = items (performed results h.front) in
    let whole : items (performed results commands) ≡ before ++ (own ++ rest.0) =
    ap (λ cs. items (performed results cs)) (h.split ∙ sym (append_assoc h.front (h.command ∷ []) h.back))
    ∙ rest.1
    ∙ ap (λ is. is ++ rest.0) (items_performed-push results h.front h.command)
    ∙ append_assoc before own rest.0 in
    ap (λ is. slice_get is item) whole
    ∙ ap (slice_get (before ++ (own ++ rest.0))) h.number
    ∙ get_behind before (own ++ rest.0) place.triangle
    ∙ get_before own rest.0 place.triangle h.within

-- a triangle of a command is its item
triangle_item : (s : Settings) (o : List ℕ) (c : Command) (n : ℕ) (p : Primitive) → slice_get (triangles_at s c) n ≡ Some p → slice_get (items_at s o c) n ≡ Some (Drawn p s o)
triangle_item s o (Draw count start) n p h = slice_get-map (λ p. Drawn p s o) (draw_primitives s count start) n ∙ ap (option_map (λ p. Drawn p s o)) h
triangle_item s o (DrawIndexed count start base) n p h = slice_get-map (λ p. Drawn p s o) (draw_indexed_primitives s count start base) n ∙ ap (option_map (λ p. Drawn p s o)) h
triangle_item s o c n p h = absurd cc

pub places_name_triangles : (results : ℕ → Bool) (commands : List Command) (item : ℕ) (place : Place) (h : StandsAt results commands item place) (p : Primitive) → slice_get (triangles_at (settings_after h.front) h.command) place.triangle ≡ Some p → slice_get (items (performed results commands)) item ≡ Some (Drawn p (settings_after h.front) (open_after h.front))
places_name_triangles results commands item place h p is =
    places_name results commands item place h ∙ there (withholds results s.predicate) h.within
  where
    s : Settings
    s = settings_after h.front

    own : List Item
    own = items_at s (open_after h.front) h.command

    there : (b : Bool) → place.triangle < length (cond b [] own) → slice_get (cond b [] own) place.triangle ≡ Some (Drawn p s (open_after h.front))
    there true l = absurd (omega (arith, l))
    there false l = triangle_item s (open_after h.front) h.command place.triangle p is
