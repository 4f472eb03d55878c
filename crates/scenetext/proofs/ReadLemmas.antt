-- What the parts of the reader owe.
use Rattle.std.proofs.Common.{◌≡◌, ℕ, zero, suc, ◌+◌, ◌-◌, ◌*◌, ◌<◌, ◌≤◌, Bool, true, false, ◌&&◌, List, [], ◌∷◌, ◌++◌, length, map, replicate, Some, refl, sym, ap, subst, ◌∙◌, append_assoc, arith}
use Rattle.std.specs.Prelude.{Result, Ok, Err, None, IfOk, IfErr, Bool, bytes_eq, codes, decimal, drop, slice_index, count_by}
use Rattle.std.specs.Result.{IsErrAnd}
use Rattle.std.specs.List.{AllByRecursion, flat_map}
use Rattle.std.proofs.lemmas.List.{length-append, length-map}
use Rattle.std.proofs.lemmas.Bool.Decides.{nat_tests}
use Rattle.std.proofs.lemmas.Result.{err_from_is_err_and}
use Rattle.std.proofs.lemmas.Fmt.{digits_value-decimal}
use Rattle.gfxspec.specs.declared.geometry.Vertex.{Vertex}
use Rattle.gfxspec.specs.DepthStencil.{FaceSetting}
use Rattle.scenetext.specs.declared.fault.Fault.TheVariants as faults
use Rattle.scenetext.specs.declared.fault.ReadError.{ReadError}
use Rattle.scenetext.specs.declared.fault.ReadError.TheVariants as errors
use Rattle.scenetext.specs.declared.verbs.CommandWord.{CommandWord}
use Rattle.scenetext.specs.declared.verbs.CommandWord.TheVariants as words
use Rattle.scenetext.specs.Scene.{Actor, Verb, Execute}
use Rattle.scenetext.specs.Text.{words_of}
use Rattle.scenetext.specs.Numbers.{Kind, NonZero, context_word, fits_kind, fit}
use Rattle.scenetext.specs.Commands.{vertex_kinds, face_ranges, ranges, shape, name, kinds_of, face_numbers, vertex_words, verb_words, IsVertex}
use Rattle.scenetext.specs.Spelling.{actor_word, is_immediate_actor}
use Rattle.scenetext.specs.Faults.{word, or_fault, unless, arguments_fault, finishes, has_list, later_line_fault}
use Rattle.scenetext.specs.declared.range.TheConstants.{INDEX}
use Rattle.scenetext.specs.Ranges.{kind_of, kinds, AreIn}
use Rattle.scenetext.specs.Reading.{Reads, Refuses, HasCounted, ReadsCounted, RefusesCounted, IsHead, RefusesLine}
use Rattle.scenetext.proofs.NumberLemmas.{own}
use Rattle.scenetext.proofs.RangeLemmas.{and_false, fit_fails, length-AreIn, naturals_fit}
use Rattle.scenetext.proofs.GroupLemmas.{fit-append, vertex_fits, length-vertex_words, length-vertices, groups_of, IsIndex, index_ranges, indices_in, singles_of}
use Rattle.scenetext.proofs.VerbLemmas.{exec_fit, command_named-name}
use Rattle.scenetext.proofs.SceneLemmas.{actor_known, immediate_is}

fit-front : (ks ls : List Kind) (ws : List (List ℕ)) → fit ks ws ≡ false → fit (ks ++ ls) ws ≡ false
fit-front [] ls ws h = absurd cc
fit-front (k ∷ ks) ls [] h = refl
fit-front (k ∷ ks) ls (w ∷ ws) h = by (fits_kind k w) (fit ks ws) (fit (ks ++ ls) ws) h (fit-front ks ls ws)
  where
    by : (a b c : Bool) → (a && b) ≡ false → (b ≡ false → c ≡ false) → (a && c) ≡ false
    by true b c h f = f h
    by false b c h f = refl

-- an error that a `?` hands on
pub handed_on : {T E : Type 0} (r : Result T E) (e : E) (P : E → Type 0) → IsErrAnd r (λ d. d ≡ e) → P e → IfErr r P
handed_on r e P h p =
    let d = err_from_is_err_and r h in
    rw (d.1, d.2) p

-- the next word does not fit
pub next_fails : (k : Kind) (ks : List Kind) (ws : List (List ℕ)) → fits_kind k (word ws 0) ≡ false → fit (k ∷ ks) ws ≡ false
next_fails k ks [] f = refl
next_fails k ks (w ∷ ws) f = rw f refl

-- the words behind one do not
pub later_fail : (k : Kind) (ks : List Kind) (old ws : List (List ℕ)) (w : List ℕ) → old ≡ w ∷ ws → fit ks ws ≡ false → fit (k ∷ ks) old ≡ false
later_fail k ks old ws w e f = ap (fit (k ∷ ks)) e ∙ and_false (fits_kind k w) _ f

-- the next face does not fit
pub face_fails : (ks : List Kind) (ws : List (List ℕ)) → fit (kinds face_ranges) ws ≡ false → fit (kinds face_ranges ++ ks) ws ≡ false
face_fails ks ws h = fit-front (kinds face_ranges) ks ws h

-- the words behind a face do not
pub behind_face_fail : (ks : List Kind) (f : FaceSetting) (old ws : List (List ℕ)) → old ≡ map decimal (face_numbers f) ++ ws → fit ks ws ≡ false → fit (kinds face_ranges ++ ks) old ≡ false
behind_face_fail ks f old ws e h = ap (fit (kinds face_ranges ++ ks)) e ∙ search (and_false, h)

-- how words do not fit
pub ruleset words_fail = (next_fails, later_fail, face_fails, behind_face_fail)

-- arguments of which one does not fit
pub refused : (c : CommandWord) (ks : List Kind) (ws : List (List ℕ)) (e : ReadError) → kinds_of (shape c) (length ws) ≡ Some ks → e ≡ errors.Fault faults.Argument → fit ks ws ≡ false → Refuses c ws e
refused c ks ws e found is f = subst (Refuses c ws) (sym is) (λ rows. ap (λ o. or_fault o faults.ArgumentCount (λ ls. unless (fit ls ws) faults.Argument rows)) found ∙ ap (λ b. unless b faults.Argument rows) f)

-- ---- a rasterizer state with a bias

refused_raster : (ws : List (List ℕ)) (e : ReadError) → length ws ≡ 4 → e ≡ errors.Fault faults.Argument → fit (kinds (ranges words.Raster) ++ NonZero ∷ []) ws ≡ false → Refuses words.Raster ws e
refused_raster ws e four is f = refused words.Raster (kinds (ranges words.Raster) ++ NonZero ∷ []) ws e (ap (kinds_of (shape words.Raster)) four) is f

-- one of the three numbers is none of its range
pub numbers_refused : (ws : List (List ℕ)) (e : ReadError) → length ws ≡ 4 → e ≡ errors.Fault faults.Argument → fit (kinds (ranges words.Raster)) ws ≡ false → Refuses words.Raster ws e
numbers_refused ws e four is f = refused_raster ws e four is (fit-front (kinds (ranges words.Raster)) (NonZero ∷ []) ws f)

-- the word behind three numbers is no bias
pub bias_refused : (ws rest : List (List ℕ)) (values : List ℕ) (e : ReadError) → length ws ≡ 4 → ws ≡ map decimal values ++ rest → AreIn (ranges words.Raster) values → e ≡ errors.Fault faults.Argument → fits_kind NonZero (word rest 0) ≡ false → Refuses words.Raster ws e
bias_refused ws rest values e four are h is f =
    refused_raster ws e four is
    (ap (fit (kinds (ranges words.Raster) ++ NonZero ∷ [])) are
    ∙ fit-append (kinds (ranges words.Raster)) (NonZero ∷ []) (map decimal values) rest (length-AreIn (ranges words.Raster) values h ∙ sym (length-map values decimal)) (naturals_fit (ranges words.Raster) values refl h)
    ∙ next_fails NonZero [] rest f)

-- ---- vertices

fit_vertices_fail : (vs : List Vertex) (ws : List (List ℕ)) (r : ℕ) → AllByRecursion IsVertex vs → fit vertex_kinds ws ≡ false → fit (flat_map (λ k. k) (replicate (length vs + suc r) vertex_kinds)) (flat_map vertex_words vs ++ ws) ≡ false
fit_vertices_fail [] ws r h f =
    let e : 0 + suc r ≡ suc r = omega arith in
    rw e (fit-front vertex_kinds (flat_map (λ k. k) (replicate r vertex_kinds)) ws f)
fit_vertices_fail (v ∷ vs) ws r h f =
    let e : suc (length vs) + suc r ≡ suc (length vs + suc r) = omega arith in
    ap (λ n. fit (flat_map (λ k. k) (replicate n vertex_kinds)) (flat_map vertex_words (v ∷ vs) ++ ws)) e
    ∙ ap (fit (vertex_kinds ++ flat_map (λ k. k) (replicate (length vs + suc r) vertex_kinds))) (append_assoc (vertex_words v) (flat_map vertex_words vs) ws)
    ∙ fit-append vertex_kinds (flat_map (λ k. k) (replicate (length vs + suc r) vertex_kinds)) (vertex_words v) (flat_map vertex_words vs ++ ws) (sym (length-vertex_words v h.0)) (vertex_fits v h.0)
    ∙ fit_vertices_fail vs ws r h.1 f

-- a vertex that is none, behind others
pub vertices_refuse : (old ws : List (List ℕ)) (vs : List Vertex) (r : ℕ) (e : ReadError) → e ≡ errors.Fault faults.Argument → old ≡ flat_map vertex_words vs ++ ws → AllByRecursion IsVertex vs → length ws ≡ 7 * suc r → fit vertex_kinds ws ≡ false → Refuses words.Vb old e
vertices_refuse old ws vs r e is t h l f =
    let n : length old ≡ 7 * (length vs + suc r) = omega (arith, ap length t, length-append (flat_map vertex_words vs) ws, length-vertices vs h) in
    let found = groups_of (length old) (length vs + suc r) n in
    let fails : fit (flat_map (λ k. k) (replicate (length vs + suc r) vertex_kinds)) old ≡ false = ap (fit (flat_map (λ k. k) (replicate (length vs + suc r) vertex_kinds))) t ∙ fit_vertices_fail vs ws r h f in
    refused words.Vb (flat_map (λ k. k) (replicate (length vs + suc r) vertex_kinds)) old e found is fails

-- ---- indices

replicate-middle : {X : Type 0} (x : X) (a b : ℕ) → replicate (a + suc b) x ≡ replicate a x ++ x ∷ replicate b x
replicate-middle x zero b =
    let e : 0 + suc b ≡ suc b = omega arith in
    rw e refl
replicate-middle x (suc a) b =
    let e : suc a + suc b ≡ suc (a + suc b) = omega arith in
    rw e (ap (λ xs. x ∷ xs) (replicate-middle x a b))

-- a word that is no index, behind others
pub indices_refuse : (old ws : List (List ℕ)) (is : List ℕ) (e : ReadError) → e ≡ errors.Fault faults.Argument → old ≡ map decimal is ++ ws → AllByRecursion IsIndex is → 0 < length ws → fits_kind (kind_of INDEX) (word ws 0) ≡ false → Refuses words.Ib old e
indices_refuse old ws is e fault t h l f =
    let more = length ws - 1 in
    let n : length old ≡ length is + suc more = omega (arith, ap length t, length-append (map decimal is) ws, length-map is decimal) in
    let found : kinds_of (shape words.Ib) (length old) ≡ Some (kinds (index_ranges (length is + suc more))) = ap (kinds_of (shape words.Ib)) n ∙ singles_of (length is + suc more) in
    let fails : fit (kinds (index_ranges (length is + suc more))) old ≡ false =
    ap (fit (kinds (index_ranges (length is + suc more)))) t
    ∙ ap (λ rs. fit (kinds rs) (map decimal is ++ ws)) (replicate-middle INDEX (length is) more)
    ∙ fit_fails (index_ranges (length is)) is INDEX (index_ranges more) ws (indices_in is h) l f in
    refused words.Ib (kinds (index_ranges (length is + suc more))) old e found fault fails

-- ---- a list that is finished

-- a command other than `exec` names no list
pub counted : {V : Type 0} (value : V → Verb) (finished : List ℕ) (c : CommandWord) (ws : List (List ℕ)) (r : Result V ReadError) → bytes_eq (name c) (codes "exec") ≡ false → IfOk r (λ v. Reads c ws (value v)) → IfOk r (λ v. ReadsCounted finished c ws (value v))
counted value finished c ws (Ok v) other h = record { reads = h; has_list = lists (value v) h.words_are }
  where
    lists : (v : Verb) → verb_words v ≡ name c ∷ ws → HasCounted finished v
    lists (Execute k list restore) e =
        let is : false ≡ true = sym other ∙ ap (λ x. bytes_eq (word x 0) (codes "exec")) (sym e) in
        absurd cc
    lists v e = tt
counted value finished c ws (Err e) other h = tt

-- a row that applies whatever rows come after it
pub refused_counted : {V : Type 0} (finished : List ℕ) (c : CommandWord) (ws : List (List ℕ)) (r : Result V ReadError) → IfErr r (Refuses c ws) → IfErr r (RefusesCounted finished c ws)
refused_counted finished c ws (Ok v) h = tt
refused_counted finished c ws (Err errors.Memory) h = tt
refused_counted finished c ws (Err (errors.Fault f)) h = λ earlier actor n. h _

-- an `exec` of a list that is not finished
pub list_missing : (finished : List ℕ) (ws : List (List ℕ)) (k list : ℕ) (restore : Bool) → Reads words.Exec ws (Execute k list restore) → slice_index finished k ≤ list → RefusesCounted finished words.Exec ws (errors.Fault faults.NoSuchList)
list_missing finished ws k list restore r h earlier actor n =
    let count : slice_index finished k ≡ count_by (finishes (context_word k)) earlier = n k r.verb.0 in
    let lacks : has_list earlier (actor ∷ verb_words (Execute k list restore)) ≡ false =
    rw (digits_value-decimal own list (omega (arith, r.verb.1.0.high)), ← count) (grind (arith, nat_tests)) in
    subst
    (λ x. arguments_fault (shape words.Exec) x (unless (has_list earlier (actor ∷ name words.Exec ∷ x)) faults.NoSuchList None) ≡ Some faults.NoSuchList)
    (ap (drop 1) r.words_are)
    (rw (exec_fit k list restore r.verb.0 r.verb.1, lacks) refl)

-- ---- a later line

-- arguments that the table refuses, behind their head
pub arguments_refused : (finished line : List ℕ) (ws args : List (List ℕ)) (a : Actor) (c : CommandWord) (e : ReadError) → ws ≡ words_of line → IsHead ws a c args → RefusesCounted finished c args e → RefusesLine finished line e
arguments_refused finished line ws args a c errors.Memory e i h = tt
arguments_refused finished line ws args a c (errors.Fault f) e i h = λ earlier n.
    ap (later_line_fault earlier) (sym e ∙ i.words_are) ∙ rw (actor_known a i.actor, immediate_is a, command_named-name c (is_immediate_actor a) i.serves) (h earlier (actor_word a) n)
