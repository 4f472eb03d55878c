-- Arguments in groups: vertices and indices.
use Rattle.std.proofs.Common.{◌≡◌, ℕ, ℤ, ◌*◌, ◌/◌, ◌%◌, Bool, true, false, cond, eqb, List, [], ◌∷◌, ◌++◌, length, map, replicate, zero, suc, Some, None, refl, sym, ap, ◌∙◌, arith}
use Rattle.std.specs.Prelude.{decimal, FitsSigned}
use Rattle.std.specs.List.{AllByRecursion, flat_map}
use Rattle.std.specs.Int.{w32}
use Rattle.std.specs.Fmt.{signed_decimal}
use Rattle.std.proofs.lemmas.List.{length-append, length-map}
use Rattle.std.proofs.lemmas.Bool.{eqb-true}
use Rattle.gfxspec.specs.declared.geometry.Vertex.{Vertex}
use Rattle.scenetext.specs.declared.range.Range.{Range}
use Rattle.scenetext.specs.declared.verbs.CommandWord.TheVariants as words
use Rattle.scenetext.specs.declared.range.TheConstants.{U32, BYTE, INDEX}
use Rattle.scenetext.specs.Numbers.{Kind, fits_kind, fit, i32s}
use Rattle.scenetext.specs.Commands.{vertex_kinds, Groups, ranges, shape, kinds_of, vertex_words, IsVertex}
use Rattle.scenetext.specs.Ranges.{kind_of, kinds, AreIn}
use Rattle.scenetext.proofs.TextLemmas.{IsWordText, and_left, and_right}
use Rattle.scenetext.proofs.NumberLemmas.{IsWordText-signed_decimal, integer_fits, small_signed, value-signed_decimal, value, number, value-decimal, natural_between, integer_is}
use Rattle.scenetext.proofs.RangeLemmas.{are_small, length-AreIn, naturals_fit, naturals_texts}

-- what all words of two lists are
pub All-join : {X : Type 0} (P : X → Type 0) (xs ys : List X) → AllByRecursion P xs → AllByRecursion P ys → AllByRecursion P (xs ++ ys)
All-join P [] ys h k = k
All-join P (x ∷ xs) ys h k = (h.0, All-join P xs ys h.1 k)

-- kinds and words, one list behind the other
pub fit-append : (ks ls : List Kind) (ws vs : List (List ℕ)) → length ks ≡ length ws → fit ks ws ≡ true → fit (ks ++ ls) (ws ++ vs) ≡ fit ls vs
fit-append [] ls [] vs e h = refl
fit-append [] ls (w ∷ ws) vs e h = absurd (omega arith)
fit-append (k ∷ ks) ls [] vs e h = absurd (omega arith)
fit-append (k ∷ ks) ls (w ∷ ws) vs e h = rw (and_left (fits_kind k w) (fit ks ws) h) (fit-append ks ls ws vs (omega arith) (and_right (fits_kind k w) (fit ks ws) h))

pub groups_found : (ks ls : List Kind) (n : ℕ) → kinds_of (Groups ks) n ≡ Some ls → (n % length ks ≡ 0) × (flat_map (λ k. k) (replicate (n / length ks) ks) ≡ ls)
groups_found ks ls n h = test (eqb (n % length ks) 0) refl h
  where
    test : (t : Bool) → eqb (n % length ks) 0 ≡ t → cond t (Some (flat_map (λ k. k) (replicate (n / length ks) ks))) None ≡ Some ls → (n % length ks ≡ 0) × (flat_map (λ k. k) (replicate (n / length ks) ks) ≡ ls)
    test true e g = (eqb-true _ _ e, cc)
    test false e g = absurd cc

-- ---- vertices, seven words each

-- the vertices that these words spell
abbrev pub vertices_from : List (List ℕ) → List Vertex
vertices_from (x ∷ y ∷ z ∷ r ∷ g ∷ b ∷ a ∷ ws) = record { x = number x; y = number y; z = value z; rgba = value r ∷ value g ∷ value b ∷ value a ∷ [] } ∷ vertices_from ws
vertices_from ws = []

pub vertex_fits : (v : Vertex) → IsVertex v → fit vertex_kinds (vertex_words v) ≡ true
vertex_fits v h = rw (integer_fits v.x h.x, integer_fits v.y h.y) (naturals_fit (ranges words.Vb) (v.z ∷ v.rgba) refl h.others)

pub length-vertex_words : (v : Vertex) → IsVertex v → length (vertex_words v) ≡ 7
length-vertex_words v h = omega (arith, length-map v.rgba decimal, length-AreIn (ranges words.Vb) (v.z ∷ v.rgba) h.others)

vertex_texts : (v : Vertex) → IsVertex v → AllByRecursion IsWordText (vertex_words v)
vertex_texts v h = (IsWordText-signed_decimal v.x (small_signed v.x h.x), (IsWordText-signed_decimal v.y (small_signed v.y h.y), naturals_texts (ranges words.Vb) (v.z ∷ v.rgba) refl h.others))

pub vertices_texts : (vs : List Vertex) → AllByRecursion IsVertex vs → AllByRecursion IsWordText (flat_map vertex_words vs)
vertices_texts [] h = tt
vertices_texts (v ∷ vs) h = All-join IsWordText (vertex_words v) (flat_map vertex_words vs) (vertex_texts v h.0) (vertices_texts vs h.1)

pub length-vertices : (vs : List Vertex) → AllByRecursion IsVertex vs → length (flat_map vertex_words vs) ≡ 7 * length vs
length-vertices [] h = refl
length-vertices (v ∷ vs) h = omega (arith, length-append (vertex_words v) (flat_map vertex_words vs), length-vertex_words v h.0, length-vertices vs h.1)

pub vertices_fit : (vs : List Vertex) → AllByRecursion IsVertex vs → fit (flat_map (λ k. k) (replicate (length vs) vertex_kinds)) (flat_map vertex_words vs) ≡ true
vertices_fit [] h = refl
vertices_fit (v ∷ vs) h = fit-append vertex_kinds (flat_map (λ k. k) (replicate (length vs) vertex_kinds)) (vertex_words v) (flat_map vertex_words vs) (sym (length-vertex_words v h.0)) (vertex_fits v h.0) ∙ vertices_fit vs h.1

vertex_again : (x y : ℤ) (z : ℕ) (rgba : List ℕ) (rest : List (List ℕ)) → FitsSigned w32 x → FitsSigned w32 y → AreIn (ranges words.Vb) (z ∷ rgba) → vertices_from (signed_decimal x ∷ signed_decimal y ∷ decimal z ∷ (map decimal rgba ++ rest)) ≡ record { x = x; y = y; z = z; rgba = rgba } ∷ vertices_from rest
vertex_again x y z [] rest fx fy h = absurd h.1
vertex_again x y z (r ∷ []) rest fx fy h = absurd h.1.1
vertex_again x y z (r ∷ g ∷ []) rest fx fy h = absurd h.1.1.1
vertex_again x y z (r ∷ g ∷ b ∷ []) rest fx fy h = absurd h.1.1.1.1
vertex_again x y z (r ∷ g ∷ b ∷ a ∷ []) rest fx fy h = rw (value-signed_decimal x (small_signed x fx), value-signed_decimal y (small_signed y fy), value-decimal z (omega (arith, h.0.high)), value-decimal r (omega (arith, h.1.0.high)), value-decimal g (omega (arith, h.1.1.0.high)), value-decimal b (omega (arith, h.1.1.1.0.high)), value-decimal a (omega (arith, h.1.1.1.1.0.high))) refl
vertex_again x y z (r ∷ g ∷ b ∷ a ∷ c ∷ more) rest fx fy h = absurd h.1.1.1.1.1

pub vertices_again : (vs : List Vertex) → AllByRecursion IsVertex vs → vertices_from (flat_map vertex_words vs) ≡ vs
vertices_again [] h = refl
vertices_again (v ∷ vs) h = vertex_again v.x v.y v.z v.rgba (flat_map vertex_words vs) h.0.x h.0.y h.0.others ∙ ap (λ (us : List Vertex). v ∷ us) (vertices_again vs h.1)

pub groups_of : (n k : ℕ) → n ≡ 7 * k → kinds_of (shape words.Vb) n ≡ Some (flat_map (λ ks. ks) (replicate k vertex_kinds))
groups_of n k h =
    let r : n % 7 ≡ 0 = omega arith in
    let q : n / 7 ≡ k = omega arith in
    rw (r, q) refl

pub vertices_back : (m : ℕ) (ws : List (List ℕ)) → length ws ≡ 7 * m → fit (flat_map (λ k. k) (replicate m vertex_kinds)) ws ≡ true → (flat_map vertex_words (vertices_from ws) ≡ ws) × AllByRecursion IsVertex (vertices_from ws)
vertices_back zero [] e h = (refl, tt)
vertices_back zero (w ∷ ws) e h = absurd (omega arith)
vertices_back (suc m) [] e h = absurd (omega arith)
vertices_back (suc m) (x ∷ []) e h = absurd (omega arith)
vertices_back (suc m) (x ∷ y ∷ []) e h = absurd (omega arith)
vertices_back (suc m) (x ∷ y ∷ z ∷ []) e h = absurd (omega arith)
vertices_back (suc m) (x ∷ y ∷ z ∷ r ∷ []) e h = absurd (omega arith)
vertices_back (suc m) (x ∷ y ∷ z ∷ r ∷ g ∷ []) e h = absurd (omega arith)
vertices_back (suc m) (x ∷ y ∷ z ∷ r ∷ g ∷ b ∷ []) e h = absurd (omega arith)
vertices_back (suc m) (x ∷ y ∷ z ∷ r ∷ g ∷ b ∷ a ∷ ws) e h =
    let h0 = and_right (fits_kind i32s x) _ h in
    let h1 = and_right (fits_kind i32s y) _ h0 in
    let h2 = and_right (fits_kind (kind_of U32) z) _ h1 in
    let h3 = and_right (fits_kind (kind_of BYTE) r) _ h2 in
    let h4 = and_right (fits_kind (kind_of BYTE) g) _ h3 in
    let h5 = and_right (fits_kind (kind_of BYTE) b) _ h4 in
    let h6 = and_right (fits_kind (kind_of BYTE) a) _ h5 in
    let fx = integer_is x (and_left (fits_kind i32s x) _ h) in
    let fy = integer_is y (and_left (fits_kind i32s y) _ h0) in
    let fz = natural_between 0 4294967295 z (omega arith) (and_left (fits_kind (kind_of U32) z) _ h1) in
    let fr = natural_between 0 255 r (omega arith) (and_left (fits_kind (kind_of BYTE) r) _ h2) in
    let fg = natural_between 0 255 g (omega arith) (and_left (fits_kind (kind_of BYTE) g) _ h3) in
    let fb = natural_between 0 255 b (omega arith) (and_left (fits_kind (kind_of BYTE) b) _ h4) in
    let fa = natural_between 0 255 a (omega arith) (and_left (fits_kind (kind_of BYTE) a) _ h5) in
    let more = vertices_back m ws (omega arith) h6 in (
      rw (← fx.0, ← fy.0, ← fz.0, ← fr.0, ← fg.0, ← fb.0, ← fa.0, more.0) refl,
      (record { x = fx.1; y = fy.1; others = (record { low = fz.1; high = fz.2 }, (record { low = fr.1; high = fr.2 }, (record { low = fg.1; high = fg.2 }, (record { low = fb.1; high = fb.2 }, (record { low = fa.1; high = fa.2 }, tt))))) }, more.1),
    )

-- ---- indices, one word each

abbrev pub IsIndex : ℕ → Type 0
IsIndex i = AreIn (ranges words.Ib) (i ∷ [])

-- as many ranges of an index
abbrev pub index_ranges : ℕ → List Range
index_ranges n = replicate n INDEX

-- kinds in groups of one
pub single_groups : (n : ℕ) → flat_map (λ k. k) (replicate n (kinds (ranges words.Ib))) ≡ kinds (index_ranges n)
single_groups zero = refl
single_groups (suc n) = ap (λ (ks : List Kind). kind_of INDEX ∷ ks) (single_groups n)

pub indices_small : (n : ℕ) → are_small (index_ranges n) ≡ true
indices_small zero = refl
indices_small (suc n) = indices_small n

pub indices_in : (is : List ℕ) → AllByRecursion IsIndex is → AreIn (index_ranges (length is)) is
indices_in [] h = tt
indices_in (i ∷ is) h = (h.0.0, indices_in is h.1)

pub indices_are : (n : ℕ) (is : List ℕ) → AreIn (index_ranges n) is → AllByRecursion IsIndex is
indices_are zero [] h = tt
indices_are zero (i ∷ is) h = absurd h
indices_are (suc n) [] h = absurd h
indices_are (suc n) (i ∷ is) h = ((h.0, tt), indices_are n is h.1)

pub singles_of : (n : ℕ) → kinds_of (shape words.Ib) n ≡ Some (kinds (index_ranges n))
singles_of n =
    let r : n % 1 ≡ 0 = omega arith in
    let q : n / 1 ≡ n = omega arith in
    rw (r, q) (ap Some (single_groups n))
