-- A draw of a triangle list as several draws, one behind the other.
use Rattle.std.proofs.Common.{◌≡◌, ◌∙◌, ap, sym, subst, refl, arith, Bool, true, false, not, ◌&&◌, ℕ, ℤ, zero, suc, ◌+◌, ◌-◌, ◌*◌, ◌≤◌, cond, List, [], ◌∷◌, ◌++◌, length, take, drop, append_assoc, length-drop}
use Rattle.std.specs.Prelude.{Option, Some, None, nat_lt}
use Rattle.std.specs.List.{list_all}
use Rattle.std.proofs.Math.Seq.{take-add}
use Rattle.std.proofs.lemmas.Bool.Decides.{nat_tests}
use Rattle.std.proofs.lemmas.List.Folds.{list_all-append}
use Rattle.std.proofs.lemmas.List.{drop-drop, length-take-le, length-map, map-append}
use Rattle.gfxspec.specs.declared.error.GfxError.{GfxError}
use Rattle.gfxspec.specs.declared.geometry.Vertex.{Vertex}
use Rattle.gfxspec.specs.declared.state.Topology.TheVariants.{TriangleList}
use Rattle.gfxspec.specs.State.{Settings}
use Rattle.gfxspec.specs.Items.{Drawn}
use Rattle.gfxspec.specs.Assembly.{Primitive, list_primitives, part, vertices_at, drawn_primitives, drawn_indexed, draw_primitives, draw_indexed_primitives}
use Rattle.gfxspec.specs.Commands.{Command}
use Rattle.gfxspec.specs.Recorded.{settings_after, drawn_items}
use Rattle.gfxspec.specs.Refusals.{is_used_well}
use Rattle.gfxspec.specs.Predication.{withholds}
use Rattle.meaning.specs.OneMore.{performed_items}
use Rattle.meaning.proofs.Accepting.{none_of}
use Rattle.cmdlist.specs.DrawRows.{draw_rows, draw_indexed_rows}
use Rattle.binner.specs.Segments.{CanFollow, IsSame, IsMore, laid_items, draw_of}

-- ---- triangles

threes : (k : ℕ) (xs ys : List Vertex) → length xs ≡ 3 * k → list_primitives (xs ++ ys) ≡ list_primitives xs ++ list_primitives ys
threes zero [] ys h = refl
threes zero (x ∷ xs) ys h = absurd (omega (arith, h))
threes (suc k) (a ∷ b ∷ c ∷ vs) ys h = ap (λ ps. record { first = a; second = b; third = c } ∷ ps) (threes k vs ys (omega (arith, h)))
threes (suc k) (a ∷ b ∷ []) ys h = absurd (omega (arith, h))
threes (suc k) (a ∷ []) ys h = absurd (omega (arith, h))
threes (suc k) [] ys h = absurd (omega (arith, h))

-- a part as its first n and the rest
part_in_two : {X : Type 0} (xs : List X) (n rest at : ℕ) → n ≤ rest → part rest at xs ≡ part n at xs ++ part (rest - n) (at + n) xs
part_in_two xs n rest at l = ap (λ m. part m at xs) whole ∙ take-add n (rest - n) (drop at xs) ∙ ap (λ zs. take n (drop at xs) ++ take (rest - n) zs) (drop-drop n at xs)
  where
    whole : rest ≡ n + (rest - n)
    whole = omega arith

part_length : {X : Type 0} (xs : List X) (n rest at : ℕ) → at + rest ≤ length xs → n ≤ rest → length (part n at xs) ≡ n
part_length xs n rest at h l = length-take-le n (drop at xs) long
  where
    long : n ≤ length (drop at xs)
    long = omega (arith, length-drop at xs)

vertices_in_two : (vs : List Vertex) (k rest at : ℕ) → at + rest ≤ length vs → 3 * k ≤ rest → list_primitives (part rest at vs) ≡ list_primitives (part (3 * k) at vs) ++ list_primitives (part (rest - 3 * k) (at + 3 * k) vs)
vertices_in_two vs k rest at h l =
    ap list_primitives (part_in_two vs (3 * k) rest at l) ∙ threes k (part (3 * k) at vs) (part (rest - 3 * k) (at + 3 * k) vs) (part_length vs (3 * k) rest at h l)

indices_in_two : (vs : List Vertex) (base : ℤ) (indices : List ℕ) (k rest at : ℕ) → at + rest ≤ length indices → 3 * k ≤ rest → list_primitives (vertices_at vs base (part rest at indices)) ≡ list_primitives (vertices_at vs base (part (3 * k) at indices)) ++ list_primitives (vertices_at vs base (part (rest - 3 * k) (at + 3 * k) indices))
indices_in_two vs base indices k rest at h l =
    ap (λ is. list_primitives (vertices_at vs base is)) (part_in_two indices (3 * k) rest at l)
    ∙ ap list_primitives (map-append _ (part (3 * k) at indices) (part (rest - 3 * k) (at + 3 * k) indices))
    ∙ threes k (vertices_at vs base (part (3 * k) at indices)) (vertices_at vs base (part (rest - 3 * k) (at + 3 * k) indices)) (length-map (part (3 * k) at indices) _ ∙ part_length indices (3 * k) rest at h l)

-- the triangles of a draw
abbrev triangles : Option ℤ → Settings → ℕ → ℕ → List Primitive
triangles None s count start = draw_primitives s count start
triangles (Some base) s count start = draw_indexed_primitives s count start base

-- how many can be drawn from the first place on
abbrev size : Option ℤ → Settings → ℕ
size None s = length s.vertices
size (Some base) s = length s.indices

drawn_in_two : (b : Option ℤ) (s : Settings) (k rest at : ℕ) → s.topology ≡ Some TriangleList → at + rest ≤ size b s → 3 * k ≤ rest → triangles b s rest at ≡ triangles b s (3 * k) at ++ triangles b s (rest - 3 * k) (at + 3 * k)
drawn_in_two None s k rest at e h l =
    subst (λ t. drawn_primitives t (part rest at s.vertices) ≡ drawn_primitives t (part (3 * k) at s.vertices) ++ drawn_primitives t (part (rest - 3 * k) (at + 3 * k) s.vertices)) (sym e)
    (vertices_in_two s.vertices k rest at h l)
drawn_in_two (Some base) s k rest at e h l =
    subst (λ t. drawn_indexed t s.vertices base (part rest at s.indices) ≡ drawn_indexed t s.vertices base (part (3 * k) at s.indices) ++ drawn_indexed t s.vertices base (part (rest - 3 * k) (at + 3 * k) s.indices)) (sym e)
    (indices_in_two s.vertices base s.indices k rest at h l)

performed_draw : (results : ℕ → Bool) (b : Option ℤ) (s : Settings) (count start : ℕ) → performed_items results s [] (draw_of b count start) ≡ cond (withholds results s.predicate) [] (drawn_items s [] (triangles b s count start))
performed_draw results None s count start = refl
performed_draw results (Some base) s count start = refl

performed_in_two : (results : ℕ → Bool) (b : Option ℤ) (s : Settings) (k rest at : ℕ) → s.topology ≡ Some TriangleList → at + rest ≤ size b s → 3 * k ≤ rest → performed_items results s [] (draw_of b rest at) ≡ performed_items results s [] (draw_of b (3 * k) at) ++ performed_items results s [] (draw_of b (rest - 3 * k) (at + 3 * k))
performed_in_two results b s k rest at e h l =
    performed_draw results b s rest at ∙ either (withholds results s.predicate)
    ∙ ap (λ is. cond (withholds results s.predicate) [] (drawn_items s [] (triangles b s (3 * k) at)) ++ is) (sym (performed_draw results b s (rest - 3 * k) (at + 3 * k)))
    ∙ ap (λ is. is ++ performed_items results s [] (draw_of b (rest - 3 * k) (at + 3 * k))) (sym (performed_draw results b s (3 * k) at))
  where
    either : (w : Bool) → cond w [] (drawn_items s [] (triangles b s rest at)) ≡ cond w [] (drawn_items s [] (triangles b s (3 * k) at)) ++ cond w [] (drawn_items s [] (triangles b s (rest - 3 * k) (at + 3 * k)))
    either true = refl
    either false =
        ap (drawn_items s []) (drawn_in_two b s k rest at e h l)
        ∙ map-append (λ p. Drawn p s []) (triangles b s (3 * k) at) (triangles b s (rest - 3 * k) (at + 3 * k))

-- ---- what can be drawn

below : (a b : ℕ) → nat_lt a b ≡ false → b ≤ a
below a b e = grind (arith, nat_tests)

not_beyond : (a b : ℕ) → b ≤ a → nat_lt a b ≡ false
not_beyond a b e = grind (arith, nat_tests)

not_false : (b : Bool) → not b ≡ false → b ≡ true
not_false true h = refl
not_false false h = sym h

-- a draw lies in its buffer, which isn't too long
pub fits : (b : Option ℤ) (s : Settings) (rest at : ℕ) → CanFollow s (draw_of b rest at) → (at + rest ≤ size b s) × (size b s ≤ 65536)
fits None s rest at h =
    let n = none_of (draw_rows s rest at) h.drawable.within in
    (below (length s.vertices) (at + rest) n.1.0, below 65536 (length s.vertices) h.drawable.sound.vertex_count)
fits (Some base) s rest at h =
    let n = none_of (draw_indexed_rows s rest at base) h.drawable.within in
    (below (length s.indices) (at + rest) n.1.0, below 65536 (length s.indices) h.drawable.sound.index_count)

-- what holds of a part holds of each part of it
all_of_part : {X : Type 0} (p : X → Bool) (xs : List X) (rest at n from : ℕ) → at ≤ from → from + n ≤ at + rest → list_all p (part rest at xs) ≡ true → list_all p (part n from xs) ≡ true
all_of_part p xs rest at n from a l h =
    first (list_all p (part n from xs)) _ (sym (list_all-append p (part n from xs) (part (rest - (from - at) - n) (from + n) xs)) ∙ behind)
  where
    first : (x y : Bool) → (x && y) ≡ true → x ≡ true
    first true y e = refl
    first false y e = e

    second : (x y : Bool) → (x && y) ≡ true → y ≡ true
    second true y e = e
    second false y e = absurd cc

    place : at + (from - at) ≡ from
    place = omega arith

    behind : list_all p (part n from xs ++ part (rest - (from - at) - n) (from + n) xs) ≡ true
    behind =
        ap (list_all p) (sym (part_in_two xs n (rest - (from - at)) from (omega (arith, a, l))))
        ∙ ap (λ m. list_all p (part (rest - (from - at)) m xs)) (sym place)
        ∙ second (list_all p (part (from - at) at xs)) _ (sym (list_all-append p (part (from - at) at xs) (part (rest - (from - at)) (at + (from - at)) xs)) ∙ ap (list_all p) (sym (part_in_two xs (from - at) rest at (omega (arith, a, l)))) ∙ h)

pub can_draw_part : (b : Option ℤ) (s : Settings) (rest at n from : ℕ) → at ≤ from → from + n ≤ at + rest → CanFollow s (draw_of b rest at) → CanFollow s (draw_of b n from)
can_draw_part None s rest at n from a l h =
    let rows = none_of (draw_rows s rest at) h.drawable.within in
    record {
      drawable = record { sound = h.drawable.sound; within = both _ _ _ _ rows.0 (not_beyond (length s.vertices) (from + n) (omega (arith, l, (fits None s rest at h).0))) };
      note = tt;
      sound = h.sound;
      unissued = refl;
    }
  where
    both : (a b : Bool) (e f : Option GfxError) → a ≡ false → b ≡ false → cond a e (cond b f None) ≡ None
    both a b e f p q = rw (p, q) refl
can_draw_part (Some base) s rest at n from a l h =
    let rows = none_of (draw_indexed_rows s rest at base) h.drawable.within in
    record {
      drawable = record {
        sound = h.drawable.sound;
        within = all_three _ _ _ _ _ _ rows.0 (not_beyond (length s.indices) (from + n) (omega (arith, l, (fits (Some base) s rest at h).0)))
            (ap not (all_of_part (is_used_well s.topology (length s.vertices) base) s.indices rest at n from a l (not_false _ rows.1.1.0)));
      };
      note = tt;
      sound = h.sound;
      unissued = refl;
    }
  where
    all_three : (a b c : Bool) (e f g : Option GfxError) → a ≡ false → b ≡ false → c ≡ false → cond a e (cond b f (cond c g None)) ≡ None
    all_three a b c e f g p q r = rw (p, q, r) refl

-- ---- what is left of a draw

-- Of a draw so many are left, from this place on: what is more by the draw of the rest is more by the whole draw.
pub record Left (b : Option ℤ) (count start : ℕ) (finished : List (List Command)) (opened : List Command) (rest at : ℕ) (now : List (List Command)) (next : List Command) : Type 0 where
  pub follows : CanFollow (settings_after next) (draw_of b rest at)
  pub listed : (settings_after next).topology ≡ Some TriangleList
  pub means : (more : List (List Command)) (last : List Command) → IsMore (draw_of b rest at) now next more last → IsMore (draw_of b count start) finished opened more last

pub all_left : (b : Option ℤ) (count start : ℕ) (fs : List (List Command)) (xs : List Command) → CanFollow (settings_after xs) (draw_of b count start) → (settings_after xs).topology ≡ Some TriangleList → Left b count start fs xs count start fs xs
all_left b count start fs xs f e = record { follows = f; listed = e; means = λ more last m. m }

-- a draw sets nothing
same_settings : (b : Option ℤ) (count start : ℕ) (gs hs : List (List Command)) (xs ys : List Command) → IsMore (draw_of b count start) gs xs hs ys → settings_after ys ≡ settings_after xs
same_settings None count start gs hs xs ys m = m.state
same_settings (Some base) count start gs hs xs ys m = m.state

more_by : (b : Option ℤ) (count start : ℕ) (gs hs : List (List Command)) (xs ys : List Command) → settings_after ys ≡ settings_after xs → ((results : ℕ → Bool) → laid_items results hs ys ≡ laid_items results gs xs ++ performed_items results (settings_after xs) [] (draw_of b count start)) → IsMore (draw_of b count start) gs xs hs ys
more_by None count start gs hs xs ys e is = record { state = e; items = is }
more_by (Some base) count start gs hs xs ys e is = record { state = e; items = is }

pub less_left : (b : Option ℤ) (count start : ℕ) (fs : List (List Command)) (xs : List Command) (k rest at : ℕ) (gs : List (List Command)) (ys : List Command) (mid : List Command) (hs : List (List Command)) (zs : List Command) → 3 * k ≤ rest → Left b count start fs xs rest at gs ys → IsMore (draw_of b (3 * k) at) gs ys gs mid → IsSame gs mid hs zs → Left b count start fs xs (rest - 3 * k) (at + 3 * k) hs zs
less_left b count start fs xs k rest at gs ys mid hs zs l h m same =
    let state : settings_after zs ≡ settings_after ys = same.state ∙ same_settings b (3 * k) at gs gs ys mid m in
    let s = settings_after ys in
    record {
      follows = subst (λ t. CanFollow t (draw_of b (rest - 3 * k) (at + 3 * k))) (sym state) (can_draw_part b s rest at (rest - 3 * k) (at + 3 * k) (omega arith) (omega (arith, l)) h.follows);
      listed = ap (λ t. t.topology) state ∙ h.listed;
      means = λ more last n.
          h.means more last (more_by b rest at gs more ys last (same_settings b (rest - 3 * k) (at + 3 * k) hs more zs last n ∙ state)
          (λ results.
          n.items results
          ∙ ap (λ is. is ++ performed_items results (settings_after zs) [] (draw_of b (rest - 3 * k) (at + 3 * k))) (same.items results ∙ m.items results)
          ∙ ap (λ t. (laid_items results gs ys ++ performed_items results s [] (draw_of b (3 * k) at)) ++ performed_items results t [] (draw_of b (rest - 3 * k) (at + 3 * k))) state
          ∙ append_assoc (laid_items results gs ys) (performed_items results s [] (draw_of b (3 * k) at)) (performed_items results s [] (draw_of b (rest - 3 * k) (at + 3 * k)))
          ∙ ap (λ is. laid_items results gs ys ++ is) (sym (performed_in_two results b s k rest at h.listed (fits b s rest at h.follows).0 l))));
    }
