-- How many triangles the runs of a strip have.
use Rattle.std.proofs.Common.{◌≡◌, ◌∙◌, ap, sym, refl, arith, ℕ, suc, ◌+◌, ◌-◌, ◌≤◌, List, [], ◌∷◌, length, length-append, length-take, length-drop, ◌/◌}
use Rattle.std.specs.Prelude.{ℤ, Bool, true, false, cond, nat_le, if◌then◌else◌, Option, Some, None}
use Rattle.std.specs.List.{flat_map, onto_first}
use Rattle.std.specs.Borrow.{Bor}
use Rattle.std.proofs.lemmas.List.{length-map}
use Rattle.std.proofs.lemmas.Bool.Decides.{nat_tests}
use Rattle.gfxspec.specs.declared.geometry.Vertex.{Vertex}
use Rattle.gfxspec.specs.declared.state.Topology.TheVariants.{TriangleList, TriangleStrip}
use Rattle.gfxspec.specs.declared.state.Topology.{Topology}
use Rattle.gfxspec.specs.Assembly.{is_cut, runs, vertices_at, strip_primitives, indexed_primitives, part}
use Rattle.assemble.specs.declared.draws.Draw.{Draw}
use Rattle.assemble.specs.Drawing.{IsInRangeOf, IsInRange, triangles_by, triangles_of}
use Rattle.assemble.proofs.PlaceLaws.{list_drops}

-- how many triangles the next place of a run makes
abbrev pub completed : ℕ → ℕ
completed run = if nat_le 2 run then 1 else 0

-- how many triangles the places of a strip complete, of which the first stands behind so many of its run
abbrev pub tail_count : ℕ → List ℕ → ℕ
tail_count run [] = 0
tail_count run (x ∷ xs) = cond (is_cut x) (tail_count 0 xs) (completed run + tail_count (suc run) xs)

-- the triangles of runs, and of runs of which the first has so many places more
abbrev total : List (List ℕ) → ℕ
total [] = 0
total (part ∷ parts) = length part - 2 + total parts

abbrev total_behind : ℕ → List (List ℕ) → ℕ
total_behind run [] = run - 2
total_behind run (part ∷ parts) = (run + length part - 2) + total parts

total_begun : (parts : List (List ℕ)) → total_behind 0 parts ≡ total parts
total_begun [] = refl
total_begun (part ∷ parts) = omega arith

total_onto : (run x : ℕ) (parts : List (List ℕ)) → total_behind run (onto_first x parts) ≡ total_behind (suc run) parts
total_onto run x [] = omega arith
total_onto run x (part ∷ parts) = omega arith

one_more : (run : ℕ) → completed run + (run - 2) ≡ suc run - 2
one_more run = grind (arith, nat_tests)

module _ (xs : List ℕ) (x run : ℕ) (cut : tail_count 0 xs + (0 - 2) ≡ total_behind 0 (runs xs)) (longer : tail_count (suc run) xs + (suc run - 2) ≡ total_behind (suc run) (runs xs)) where
  tail_by : (p : Bool) → cond p (tail_count 0 xs) (completed run + tail_count (suc run) xs) + (run - 2) ≡ total_behind run (cond p ([] ∷ runs xs) (onto_first x (runs xs)))
  tail_by true = let f = total_begun (runs xs) in omega arith
  tail_by false = let f = total_onto run x (runs xs) in let g = one_more run in omega arith

tail_is : (xs : List ℕ) (run : ℕ) → tail_count run xs + (run - 2) ≡ total_behind run (runs xs)
tail_is [] run = omega arith
tail_is (x ∷ xs) run = tail_by xs x run (tail_is xs 0) (tail_is xs (suc run)) (is_cut x)

pub length-strip : (even : Bool) (vs : List Vertex) → length (strip_primitives even vs) ≡ length vs - 2
length-strip even [] = refl
length-strip even (a ∷ []) = refl
length-strip even (a ∷ b ∷ []) = refl
length-strip true (a ∷ b ∷ c ∷ vs) = let e = length-strip false (b ∷ c ∷ vs) in omega arith
length-strip false (a ∷ b ∷ c ∷ vs) = let e = length-strip true (b ∷ c ∷ vs) in omega arith

length-strips : (vs : List Vertex) (base : ℤ) (parts : List (List ℕ)) → length (flat_map (λ run. strip_primitives true (vertices_at vs base run)) parts) ≡ total parts
length-strips vs base [] = refl
length-strips vs base (part ∷ parts) =
    length-append (strip_primitives true (vertices_at vs base part)) _
    ∙ (let e = length-strip true (vertices_at vs base part) in
    let f = length-strips vs base parts in
    let g : length (vertices_at vs base part) ≡ length part = simp length-map in
    omega arith)

-- the triangles of a strip by indices
pub count_is : (vs : List Vertex) (base : ℤ) (indices : List ℕ) → length (indexed_primitives TriangleStrip vs base indices) ≡ tail_count 0 indices
count_is vs base indices =
    length-strips vs base (runs indices) ∙ (let e = tail_is indices 0 in let f = total_begun (runs indices) in omega arith)

length-part : {A : Type 0} (xs : List A) (count start : ℕ) → start + count ≤ length xs → length (part count start xs) ≡ count
length-part xs count start h = simp (length-take, length-drop) (omega arith)

-- how many triangles a list has, and a strip without indices
pub count_of_list : (o : Option (Bor (List ℕ))) (d : Draw) → IsInRangeOf o d → d.topology ≡ TriangleList → d.count / 3 ≡ length (triangles_by o d)
count_of_list None d h e =
    let n = list_drops (part d.count d.start d.vertices.now) in
    let m = length-part d.vertices.now d.count d.start h in
    rw e (sym (n ∙ ap (λ x. x / 3) m))
count_of_list (Some indices) d h e =
    let n = list_drops (vertices_at d.vertices.now d.base (part d.count d.start indices.now)) in
    let m = length-part indices.now d.count d.start h.range in
    rw e (sym (n ∙ ap (λ x. x / 3) (length-map _ _ ∙ m)))

pub count_of_plain_strip : (o : Option (Bor (List ℕ))) (d : Draw) → IsInRangeOf o d → o ≡ None → d.topology ≡ TriangleStrip → d.count - 2 ≡ length (triangles_by o d)
count_of_plain_strip None d h none e =
    let n = length-strip true (part d.count d.start d.vertices.now) in
    let m = length-part d.vertices.now d.count d.start h in
    rw e (sym (n ∙ ap (λ x. x - 2) m))
count_of_plain_strip (Some indices) d h none e = cc

tail_few : (xs : List ℕ) (run : ℕ) → tail_count run xs ≤ length xs
tail_few [] run = omega arith
tail_few (x ∷ xs) run =
    few_by (is_cut x) run (tail_count 0 xs) (tail_count (suc run) xs) (length xs) (tail_few xs 0) (tail_few xs (suc run))
  where
    few_by : (p : Bool) (run m n k : ℕ) → m ≤ k → n ≤ k → cond p m (completed run + n) ≤ suc k
    few_by true run m n k a b = omega arith
    few_by false run m n k a b = grind (arith, nat_tests)

few_by_topology : (topology : Topology) (o : Option (Bor (List ℕ))) (d : Draw) → IsInRangeOf o d → d.topology ≡ topology → length (triangles_by o d) ≤ d.count
few_by_topology TriangleList o d h e = let n = count_of_list o d h e in omega arith
few_by_topology TriangleStrip None d h e = let n = count_of_plain_strip None d h refl e in omega arith
few_by_topology TriangleStrip (Some indices) d h e =
    let used = part d.count d.start indices.now in
    let n = count_is d.vertices.now d.base used in
    let m = length-part indices.now d.count d.start h.range in
    let k = tail_few used 0 in
    rw e (omega arith)

-- no more triangles than places
pub few : (d : Draw) → IsInRange d → length (triangles_of d) ≤ d.count
few d h = few_by_topology d.topology d.indices d h refl
