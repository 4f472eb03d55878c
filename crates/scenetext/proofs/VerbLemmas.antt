-- Verbs and their words: the words are what the table of commands wants, and what it lets through are words of a verb.
use Rattle.std.proofs.Common.{◌≡◌, ◌≢◌, ℕ, ℤ, pos, negsuc, zero, suc, ◌+◌, ◌-◌, ◌*◌, ◌/◌, ◌<◌, Bool, true, false, cond, not, eqb, eq-eqb, List, [], ◌∷◌, ◌++◌, length, map, replicate, Some, None, refl, sym, ap, subst, ◌∙◌, arith, get_or}
use Rattle.std.specs.Prelude.{decimal, codes, FitsSigned, Option, Some, None}
use Rattle.std.specs.List.{list_all, AllByRecursion, flat_map}
use Rattle.std.specs.Int.{w32}
use Rattle.std.specs.Fmt.{signed_decimal}
use Rattle.std.proofs.lemmas.List.{length-map, length-replicate}
use Rattle.std.proofs.lemmas.Bool.{eqb-true}
use Rattle.std.proofs.lemmas.Bool.Decides.{nat_tests}
use Rattle.gfxspec.specs.Numbers.{cull_number, topology_number, compare_number}
use Rattle.gfxspec.specs.State.{RasterSetting}
use Rattle.gfxspec.specs.Commands as gfx
use Rattle.scenetext.specs.declared.range.Range.{Range}
use Rattle.scenetext.specs.declared.range.TheConstants.{U32, FLAG}
use Rattle.scenetext.specs.declared.verbs.CommandWord.{CommandWord}
use Rattle.scenetext.specs.declared.verbs.CommandWord.TheVariants as words
use Rattle.scenetext.specs.Scene.{Verb, Call, Finish, Flush, Execute, Query, Pixel}
use Rattle.scenetext.specs.Text.{is_printable, is_word}
use Rattle.scenetext.specs.Numbers.{context_word, Kind, NonZero, Context, is_context, fits_kind, fit, i32s}
use Rattle.scenetext.specs.Commands.{vertex_kinds, OneOf, name, serves, ranges, shape, kinds_of, command_named, flag_number, raster_numbers, bias_words, rect_numbers, depth_stencil_numbers, blend_numbers, vertex_words, verb_words, may_take, IsPredicate, IsVerb, face_ranges, face_numbers}
use Rattle.scenetext.specs.Faults.{word}
use Rattle.scenetext.specs.Ranges.{kind_of, kinds, IsIn, AreIn}
use Rattle.scenetext.proofs.TextLemmas.{IsWordText, Lacks, and_left, and_right}
use Rattle.scenetext.proofs.NumberLemmas.{IsWordText-decimal, IsWordText-signed_decimal, IsWordText-context, natural_fits, integer_fits, nonzero_fits, context_fits, small_signed, value-signed_decimal, value, number, context, value-decimal, natural_between, integer_is, nonzero_is, context_is}
use Rattle.scenetext.proofs.RangeLemmas.{are_small, length-AreIn, naturals_fit, naturals_texts, values_again, naturals_back}
use Rattle.scenetext.proofs.ChoiceLemmas.{flag_from, flag_back, flag_again, topology_again, topology_from, topology_back, cull_from, cull_back, cull_again, compare_from, compare_back, compare_again, stencil_op_from, stencil_op_back, stencil_op_again, logic_op_from, logic_op_back, logic_op_again}
use Rattle.scenetext.proofs.GroupLemmas.{fit-append, groups_found, vertices_from, vertices_texts, length-vertices, vertices_fit, vertices_again, groups_of, vertices_back, IsIndex, index_ranges, indices_small, indices_in, indices_are, singles_of}
use Rattle.gfxspec.specs.DepthStencil.{FaceSetting, DepthStencilSetting}
use Rattle.gfxspec.specs.Color.{BlendSetting}

-- ---- the verb of a command with these words

abbrev raster_from : List ℕ → ℤ → RasterSetting
raster_from ns bias = record { cull = cull_from (get_or ns 0 0); front_ccw = flag_from (get_or ns 1 0); scissor = flag_from (get_or ns 2 0); depth_bias = bias }

abbrev face_from : ℕ → ℕ → ℕ → ℕ → FaceSetting
face_from fail depth_fail pass func = record { fail = stencil_op_from fail; depth_fail = stencil_op_from depth_fail; pass = stencil_op_from pass; func = compare_from func }

abbrev depth_stencil_from : List ℕ → DepthStencilSetting
depth_stencil_from ns =
    record {
      depth = flag_from (get_or ns 0 0);
      write = flag_from (get_or ns 1 0);
      func = compare_from (get_or ns 2 0);
      stencil = flag_from (get_or ns 3 0);
      read_mask = get_or ns 4 0;
      write_mask = get_or ns 5 0;
      front = face_from (get_or ns 6 0) (get_or ns 7 0) (get_or ns 8 0) (get_or ns 9 0);
      back = face_from (get_or ns 10 0) (get_or ns 11 0) (get_or ns 12 0) (get_or ns 13 0);
    }

-- of a command whose arguments are natural numbers
abbrev verb_of : CommandWord → List ℕ → Verb
verb_of words.Topology ns = Call (gfx.SetTopology (topology_from (get_or ns 0 0)))
verb_of words.Scissor ns = Call (gfx.SetScissor (record { left = get_or ns 0 0; top = get_or ns 1 0; right = get_or ns 2 0; bottom = get_or ns 3 0 }))
verb_of words.Ds ns = Call (gfx.SetDepthStencil (depth_stencil_from ns) (get_or ns 14 0))
verb_of words.Blend ns = Call (gfx.SetBlend (record { logic = flag_from (get_or ns 0 0); op = logic_op_from (get_or ns 1 0); mask = get_or ns 2 0 }))
verb_of words.Draw ns = Call (gfx.Draw (get_or ns 0 0) (get_or ns 1 0))
verb_of words.Clearc ns = Call (gfx.ClearColor ns)
verb_of words.Cleards ns = Call (gfx.ClearDepthStencil (get_or ns 0 0) (get_or ns 1 0))
verb_of words.Begin ns = Call (gfx.Begin (get_or ns 0 0))
verb_of words.End ns = Call (gfx.End (get_or ns 0 0))
verb_of words.Finish ns = Finish (flag_from (get_or ns 0 0))
verb_of words.Query ns = Query (get_or ns 0 0)
verb_of words.Pixel ns = Pixel (get_or ns 0 0) (get_or ns 1 0)
verb_of c ns = Flush

abbrev predicate_set : List ℕ → Verb
predicate_set [] = Call (gfx.SetPredication None)
predicate_set (n ∷ ns) = Call (gfx.SetPredication (Some (n, flag_from (get_or ns 0 0))))

abbrev pub verb_from : CommandWord → List (List ℕ) → Verb
verb_from words.Vb ws = Call (gfx.SetVertices (vertices_from ws))
verb_from words.Ib ws = Call (gfx.SetIndices (map value ws))
verb_from words.Raster ws = Call (gfx.SetRaster (raster_from (map value ws) (number (word ws 3))))
verb_from words.Predicate ws = predicate_set (map value ws)
verb_from words.Drawi ws = Call (gfx.DrawIndexed (value (word ws 0)) (value (word ws 1)) (number (word ws 2)))
verb_from words.Exec ws = Execute (context (word ws 0)) (value (word ws 1)) (flag_from (value (word ws 2)))
verb_from c ws = verb_of c (map value ws)

-- a command whose arguments are natural numbers, one of each of its ranges
abbrev is_plain : CommandWord → Bool
is_plain words.Vb = false
is_plain words.Ib = false
is_plain words.Raster = false
is_plain words.Predicate = false
is_plain words.Drawi = false
is_plain words.Exec = false
is_plain c = true

record IsPlain (c : CommandWord) : Type 0 where
  pub shape_is : shape c ≡ OneOf (kinds (ranges c) ∷ [])
  pub small : are_small (ranges c) ≡ true
  pub from : (ws : List (List ℕ)) → verb_from c ws ≡ verb_of c (map value ws)

plain : (c : CommandWord) → is_plain c ≡ true → IsPlain c
plain words.Vb p = absurd cc
plain words.Ib p = absurd cc
plain words.Raster p = absurd cc
plain words.Predicate p = absurd cc
plain words.Drawi p = absurd cc
plain words.Exec p = absurd cc
plain c p = record { shape_is = refl; small = refl; from = λ ws. refl }

-- ---- numbers by their places

-- as many numbers of a list, from a place on
abbrev pub entries : List Range → ℕ → List ℕ → List ℕ
entries [] i ns = []
entries (r ∷ rs) i ns = get_or ns i 0 ∷ entries rs (suc i) ns

entries-cons : (rs : List Range) (i n : ℕ) (ns : List ℕ) → entries rs (suc i) (n ∷ ns) ≡ entries rs i ns
entries-cons [] i n ns = refl
entries-cons (r ∷ rs) i n ns = ap (λ x. get_or ns i 0 ∷ x) (entries-cons rs (suc i) n ns)

pub entries_are : (rs : List Range) (ns : List ℕ) → AreIn rs ns → entries rs 0 ns ≡ ns
entries_are [] [] h = refl
entries_are [] (n ∷ ns) h = absurd h
entries_are (r ∷ rs) [] h = absurd h
entries_are (r ∷ rs) (n ∷ ns) h = ap (λ x. n ∷ x) (entries-cons rs 0 n ns ∙ entries_are rs ns h.1)

pub in_at : (rs : List Range) (ns : List ℕ) → AreIn rs ns → (i : ℕ) → i < length rs → IsIn (get_or rs i U32) (get_or ns i 0)
in_at [] ns h i below = absurd (omega (arith, below))
in_at (r ∷ rs) [] h i below = absurd h
in_at (r ∷ rs) (n ∷ ns) h zero below = h.0
in_at (r ∷ rs) (n ∷ ns) h (suc i) below = in_at rs ns h.1 i (omega (arith, below))

-- ---- a verb spells the numbers that it is made of

record IsMade (c : CommandWord) (ns : List ℕ) (v : Verb) : Type 0 where
  pub words : verb_words v ≡ name c ∷ map decimal ns
  pub verb : IsVerb v
  pub taken : (immediate : Bool) → may_take v immediate ≡ serves c immediate

-- a verb of numbers that are these
made_of : (c : CommandWord) (ns numbers : List ℕ) (v : Verb) → verb_words v ≡ name c ∷ map decimal numbers → ((immediate : Bool) → may_take v immediate ≡ serves c immediate) → (AreIn (ranges c) numbers → IsVerb v) → AreIn (ranges c) ns → numbers ≡ ns → IsMade c ns v
made_of c ns numbers v words taken verb h same = record {
  words = words ∙ ap (λ x. name c ∷ map decimal x) same;
  verb = verb (subst (λ x. AreIn (ranges c) x) (sym same) h);
  taken = taken;
}

-- a verb of the numbers as they stand
made_plain : (c : CommandWord) (ns : List ℕ) (v : Verb) → verb_words v ≡ name c ∷ map decimal (entries (ranges c) 0 ns) → ((immediate : Bool) → may_take v immediate ≡ serves c immediate) → (AreIn (ranges c) (entries (ranges c) 0 ns) → IsVerb v) → AreIn (ranges c) ns → IsMade c ns v
made_plain c ns v words taken verb h = made_of c ns (entries (ranges c) 0 ns) v words taken verb h (entries_are (ranges c) ns h)

-- a state that has these numbers
depth_stencil_read : (ns : List ℕ) (s : DepthStencilSetting) → AreIn (ranges words.Ds) ns → s.depth ≡ flag_from (get_or ns 0 0) → s.write ≡ flag_from (get_or ns 1 0) → compare_number s.func ≡ get_or ns 2 0 → s.stencil ≡ flag_from (get_or ns 3 0) → s.read_mask ≡ get_or ns 4 0 → s.write_mask ≡ get_or ns 5 0
    → face_numbers s.front ≡ get_or ns 6 0 ∷ get_or ns 7 0 ∷ get_or ns 8 0 ∷ get_or ns 9 0 ∷ [] → face_numbers s.back ≡ get_or ns 10 0 ∷ get_or ns 11 0 ∷ get_or ns 12 0 ∷ get_or ns 13 0 ∷ []
    → IsMade words.Ds ns (Call (gfx.SetDepthStencil s (get_or ns 14 0)))
depth_stencil_read ns s h depth write func stencil read_mask write_mask front back =
    let at = in_at (ranges words.Ds) ns h in
    let d : flag_number s.depth ≡ get_or ns 0 0 = ap flag_number depth ∙ flag_back (get_or ns 0 0) (at 0 (omega arith)) in
    let w : flag_number s.write ≡ get_or ns 1 0 = ap flag_number write ∙ flag_back (get_or ns 1 0) (at 1 (omega arith)) in
    let t : flag_number s.stencil ≡ get_or ns 3 0 = ap flag_number stencil ∙ flag_back (get_or ns 3 0) (at 3 (omega arith)) in
    let same : depth_stencil_numbers s (get_or ns 14 0) ≡ entries (ranges words.Ds) 0 ns = cc in
    made_of words.Ds ns (depth_stencil_numbers s (get_or ns 14 0)) (Call (gfx.SetDepthStencil s (get_or ns 14 0))) refl (λ im. refl) (λ a. a) h (same ∙ entries_are (ranges words.Ds) ns h)

face_back : (fail depth_fail pass func : ℕ) → AreIn face_ranges (fail ∷ depth_fail ∷ pass ∷ func ∷ []) → face_numbers (face_from fail depth_fail pass func) ≡ fail ∷ depth_fail ∷ pass ∷ func ∷ []
face_back fail depth_fail pass func h = rw (stencil_op_back fail h.0, stencil_op_back depth_fail h.1.0, stencil_op_back pass h.1.1.0, compare_back func h.1.1.1.0) refl

depth_stencil_made : (ns : List ℕ) → AreIn (ranges words.Ds) ns → IsMade words.Ds ns (verb_of words.Ds ns)
depth_stencil_made ns h =
    let at = in_at (ranges words.Ds) ns h in
    depth_stencil_read ns (depth_stencil_from ns) h refl refl (compare_back (get_or ns 2 0) (at 2 (omega arith))) refl refl refl
    (face_back (get_or ns 6 0) (get_or ns 7 0) (get_or ns 8 0) (get_or ns 9 0) (at 6 (omega arith), (at 7 (omega arith), (at 8 (omega arith), (at 9 (omega arith), tt)))))
    (face_back (get_or ns 10 0) (get_or ns 11 0) (get_or ns 12 0) (get_or ns 13 0) (at 10 (omega arith), (at 11 (omega arith), (at 12 (omega arith), (at 13 (omega arith), tt)))))

blend_made : (ns : List ℕ) → AreIn (ranges words.Blend) ns → IsMade words.Blend ns (verb_of words.Blend ns)
blend_made ns h =
    let logic = flag_back (get_or ns 0 0) (in_at (ranges words.Blend) ns h 0 (omega arith)) in
    let op = logic_op_back (get_or ns 1 0) (in_at (ranges words.Blend) ns h 1 (omega arith)) in
    let made : BlendSetting = record { logic = flag_from (get_or ns 0 0); op = logic_op_from (get_or ns 1 0); mask = get_or ns 2 0 } in
    made_of words.Blend ns (blend_numbers made) (verb_of words.Blend ns) refl (λ im. refl) (λ a. a) h (rw (logic, op) (entries_are (ranges words.Blend) ns h))

made : (c : CommandWord) (ns : List ℕ) → is_plain c ≡ true → AreIn (ranges c) ns → IsMade c ns (verb_of c ns)
made words.Vb ns p h = absurd cc
made words.Ib ns p h = absurd cc
made words.Raster ns p h = absurd cc
made words.Predicate ns p h = absurd cc
made words.Drawi ns p h = absurd cc
made words.Exec ns p h = absurd cc
made words.Topology ns p h =
    made_of words.Topology ns _ (verb_of words.Topology ns) refl (λ im. refl) (λ a. a) h
    (ap (λ n. n ∷ []) (topology_back (get_or ns 0 0) (in_at (ranges words.Topology) ns h 0 (omega arith))) ∙ entries_are (ranges words.Topology) ns h)
made words.Ds ns p h = depth_stencil_made ns h
made words.Blend ns p h = blend_made ns h
made words.Clearc ns p h = made_of words.Clearc ns ns (verb_of words.Clearc ns) refl (λ im. refl) (λ a. a) h refl
made words.Finish ns p h =
    made_of words.Finish ns _ (verb_of words.Finish ns) refl (λ im. refl) (λ a. a) h
    (ap (λ n. n ∷ []) (flag_back (get_or ns 0 0) (in_at (ranges words.Finish) ns h 0 (omega arith))) ∙ entries_are (ranges words.Finish) ns h)
made c ns p h = made_plain c ns (verb_of c ns) refl (λ im. refl) (λ a. a) h

-- ---- it is made of its numbers again

raster_again : (r : RasterSetting) → raster_from (raster_numbers r) r.depth_bias ≡ r
raster_again r = rw (cull_again r.cull, flag_again r.front_ccw, flag_again r.scissor) refl

depth_stencil_again : (s : DepthStencilSetting) (reference : ℕ) → verb_of words.Ds (depth_stencil_numbers s reference) ≡ Call (gfx.SetDepthStencil s reference)
depth_stencil_again s reference = simp (flag_again, compare_again, stencil_op_again)

blend_again : (b : BlendSetting) → verb_of words.Blend (blend_numbers b) ≡ Call (gfx.SetBlend b)
blend_again b = rw (flag_again b.logic, logic_op_again b.op) refl

raster_back : (ns : List ℕ) (bias : ℤ) → AreIn (ranges words.Raster) ns → raster_numbers (raster_from ns bias) ≡ ns
raster_back ns bias h =
    let cull = cull_back (get_or ns 0 0) (in_at (ranges words.Raster) ns h 0 (omega arith)) in
    let front_ccw = flag_back (get_or ns 1 0) (in_at (ranges words.Raster) ns h 1 (omega arith)) in
    let scissor = flag_back (get_or ns 2 0) (in_at (ranges words.Raster) ns h 2 (omega arith)) in
    rw (cull, front_ccw, scissor) (entries_are (ranges words.Raster) ns h)

-- ---- from a verb to its words

-- what the words of a verb are
pub record Fits (v : Verb) : Type 0 where
  pub command : CommandWord
  pub arguments : List (List ℕ)
  pub words_are : verb_words v ≡ name command ∷ arguments
  pub taken : (immediate : Bool) → may_take v immediate ≡ serves command immediate
  pub kinds : List Kind
  pub found : kinds_of (shape command) (length arguments) ≡ Some kinds
  pub fits : fit kinds arguments ≡ true
  pub texts : AllByRecursion IsWordText arguments
  pub again : verb_from command arguments ≡ v

found_naturals : (rs : List Range) (ns : List ℕ) → AreIn rs ns → kinds_of (OneOf (kinds rs ∷ [])) (length (map decimal ns)) ≡ Some (kinds rs)
found_naturals rs ns h =
    let e : length (kinds rs) ≡ length (map decimal ns) = length-map rs _ ∙ length-AreIn rs ns h ∙ sym (length-map ns decimal) in
    ap (λ b. cond b (Some (kinds rs)) None) (eq-eqb _ _ e)

naturals : (c : CommandWord) (ns : List ℕ) (v : Verb) → is_plain c ≡ true → verb_words v ≡ name c ∷ map decimal ns → ((immediate : Bool) → may_take v immediate ≡ serves c immediate) → verb_of c ns ≡ v → AreIn (ranges c) ns → Fits v
naturals c ns v p words taken again h =
    let is = plain c p in
    record {
      command = c;
      arguments = map decimal ns;
      words_are = words;
      taken = taken;
      kinds = kinds (ranges c);
      found = ap (λ s. kinds_of s (length (map decimal ns))) is.shape_is ∙ found_naturals (ranges c) ns h;
      fits = naturals_fit (ranges c) ns is.small h;
      texts = naturals_texts (ranges c) ns is.small h;
      again = is.from (map decimal ns) ∙ ap (verb_of c) (values_again (ranges c) ns is.small h) ∙ again;
    }

indices_fits : (is : List ℕ) → AllByRecursion IsIndex is → Fits (Call (gfx.SetIndices is))
indices_fits is h =
    let n = length is in
    let within : AreIn (index_ranges n) is = indices_in is h in
    record {
      command = words.Ib;
      arguments = map decimal is;
      words_are = refl;
      taken = λ im. refl;
      kinds = kinds (index_ranges n);
      found = ap (kinds_of (shape words.Ib)) (length-map is decimal) ∙ singles_of n;
      fits = naturals_fit (index_ranges n) is (indices_small n) within;
      texts = naturals_texts (index_ranges n) is (indices_small n) within;
      again = ap (λ xs. Call (gfx.SetIndices xs)) (values_again (index_ranges n) is (indices_small n) within);
    }

-- two natural numbers, and one behind them that may be negative
drawi_fits : (count start : ℕ) (base : ℤ) → AreIn (ranges words.Drawi) (count ∷ start ∷ []) → FitsSigned w32 base → Fits (Call (gfx.DrawIndexed count start base))
drawi_fits count start base h hb = record {
  command = words.Drawi;
  arguments = decimal count ∷ decimal start ∷ signed_decimal base ∷ [];
  words_are = refl;
  taken = λ im. refl;
  kinds = kinds (ranges words.Drawi) ++ i32s ∷ [];
  found = refl;
  fits = rw (natural_fits 0 4294967295 count h.0.low h.0.high (omega (arith, h.0.high)), natural_fits 0 4294967295 start h.1.0.low h.1.0.high (omega (arith, h.1.0.high)), integer_fits base hb) refl;
  texts = (IsWordText-decimal count (omega (arith, h.0.high)), (IsWordText-decimal start (omega (arith, h.1.0.high)), (IsWordText-signed_decimal base (small_signed base hb), tt)));
  again = rw (value-decimal count (omega (arith, h.0.high)), value-decimal start (omega (arith, h.1.0.high)), value-signed_decimal base (small_signed base hb)) refl;
}

-- a context, the number of a list, and a flag
pub exec_fit : (k list : ℕ) (restore : Bool) → k < 8 → AreIn (ranges words.Exec) (list ∷ flag_number restore ∷ []) → fit (Context ∷ kinds (ranges words.Exec)) (context_word k ∷ map decimal (list ∷ flag_number restore ∷ [])) ≡ true
exec_fit k list restore h numbers = rw (context_fits k h) (naturals_fit (ranges words.Exec) (list ∷ flag_number restore ∷ []) refl numbers)

exec_fits : (k list : ℕ) (restore : Bool) → k < 8 → AreIn (ranges words.Exec) (list ∷ flag_number restore ∷ []) → Fits (Execute k list restore)
exec_fits k list restore h numbers =
    let ns : List ℕ = list ∷ flag_number restore ∷ [] in
    record {
      command = words.Exec;
      arguments = context_word k ∷ map decimal ns;
      words_are = refl;
      taken = λ im. refl;
      kinds = Context ∷ kinds (ranges words.Exec);
      found = refl;
      fits = exec_fit k list restore h numbers;
      texts = (IsWordText-context k h, naturals_texts (ranges words.Exec) ns refl numbers);
      again = (
          let e : 48 + k - 48 ≡ k = omega arith in
          rw (e, value-decimal list (omega (arith, numbers.0.high)), value-decimal (flag_number restore) (omega (arith, numbers.1.0.high)), flag_again restore) refl);
    }

-- no argument, or a query and a value
predicate_fits : (o : Option (ℕ × Bool)) → IsPredicate o → Fits (Call (gfx.SetPredication o))
predicate_fits None h = record {
  command = words.Predicate;
  arguments = [];
  words_are = refl;
  taken = λ im. refl;
  kinds = [];
  found = refl;
  fits = refl;
  texts = tt;
  again = refl;
}
predicate_fits (Some (query, set)) h =
    let ns : List ℕ = query ∷ flag_number set ∷ [] in
    record {
      command = words.Predicate;
      arguments = map decimal ns;
      words_are = refl;
      taken = λ im. refl;
      kinds = kinds (ranges words.Predicate);
      found = refl;
      fits = naturals_fit (ranges words.Predicate) ns refl h;
      texts = naturals_texts (ranges words.Predicate) ns refl h;
      again = rw (value-decimal query (omega (arith, h.0.high)), value-decimal (flag_number set) (omega (arith, h.1.0.high)), flag_again set) refl;
    }

-- ---- a rasterizer state, with a bias or without

pub spelled_bias : (bias : ℤ) → bias ≢ pos 0 → bias_words bias ≡ signed_decimal bias ∷ []
spelled_bias (pos zero) ne = absurd (ne refl)
spelled_bias (pos (suc n)) ne = refl
spelled_bias (negsuc n) ne = refl

unbiased_fits : (r : RasterSetting) → AreIn (ranges words.Raster) (raster_numbers r) → r.depth_bias ≡ pos 0 → Fits (Call (gfx.SetRaster r))
unbiased_fits r h e =
    let ns = raster_numbers r in
    record {
      command = words.Raster;
      arguments = map decimal ns;
      words_are = ap (λ bias. codes "raster" ∷ (map decimal ns ++ bias_words bias)) e;
      taken = λ im. refl;
      kinds = kinds (ranges words.Raster);
      found = refl;
      fits = naturals_fit (ranges words.Raster) ns refl h;
      texts = naturals_texts (ranges words.Raster) ns refl h;
      again = ap (λ xs. Call (gfx.SetRaster (raster_from xs (pos 0)))) (values_again (ranges words.Raster) ns refl h) ∙ ap (λ bias. Call (gfx.SetRaster (raster_from ns bias))) (sym e) ∙ ap (λ s. Call (gfx.SetRaster s)) (raster_again r);
    }

biased_fits : (r : RasterSetting) → AreIn (ranges words.Raster) (raster_numbers r) → FitsSigned w32 r.depth_bias → r.depth_bias ≢ pos 0 → Fits (Call (gfx.SetRaster r))
biased_fits r h f ne =
    let ns = raster_numbers r in
    let bias = r.depth_bias in
    let t = naturals_texts (ranges words.Raster) ns refl h in
    record {
      command = words.Raster;
      arguments = map decimal ns ++ signed_decimal bias ∷ [];
      words_are = ap (λ ws. codes "raster" ∷ (map decimal ns ++ ws)) (spelled_bias bias ne);
      taken = λ im. refl;
      kinds = kinds (ranges words.Raster) ++ NonZero ∷ [];
      found = refl;
      fits = fit-append (kinds (ranges words.Raster)) (NonZero ∷ []) (map decimal ns) (signed_decimal bias ∷ []) refl (naturals_fit (ranges words.Raster) ns refl h) ∙ rw (nonzero_fits bias f ne) refl;
      texts = (t.0, (t.1.0, (t.1.1.0, (IsWordText-signed_decimal bias (small_signed bias f), tt))));
      again = rw (value-decimal (cull_number r.cull) (omega (arith, h.0.high)), value-decimal (flag_number r.front_ccw) (omega (arith, h.1.0.high)), value-decimal (flag_number r.scissor) (omega (arith, h.1.1.0.high)), value-signed_decimal bias (small_signed bias f)) (ap (λ s. Call (gfx.SetRaster s)) (raster_again r));
    }

raster_fits : (r : RasterSetting) (bias : ℤ) → r.depth_bias ≡ bias → AreIn (ranges words.Raster) (raster_numbers r) → FitsSigned w32 r.depth_bias → Fits (Call (gfx.SetRaster r))
raster_fits r (pos zero) e h f = unbiased_fits r h e
raster_fits r (pos (suc n)) e h f = biased_fits r h f (λ z. absurd cc)
raster_fits r (negsuc n) e h f = biased_fits r h f (λ z. absurd cc)

pub verb_fits : (v : Verb) → IsVerb v → Fits v
verb_fits (Call (gfx.SetVertices vs)) h = record {
  command = words.Vb;
  arguments = flat_map vertex_words vs;
  words_are = refl;
  taken = λ im. refl;
  kinds = flat_map (λ ks. ks) (replicate (length vs) vertex_kinds);
  found = groups_of (length (flat_map vertex_words vs)) (length vs) (length-vertices vs h);
  fits = vertices_fit vs h;
  texts = vertices_texts vs h;
  again = ap (λ us. Call (gfx.SetVertices us)) (vertices_again vs h);
}
verb_fits (Call (gfx.SetIndices is)) h = indices_fits is h
verb_fits (Call (gfx.SetTopology t)) h = naturals words.Topology (topology_number t ∷ []) _ refl refl (λ im. refl) (ap (λ x. Call (gfx.SetTopology x)) (topology_again t)) h
verb_fits (Call (gfx.SetRaster r)) h = raster_fits r r.depth_bias refl h.0 h.1
verb_fits (Call (gfx.SetScissor r)) h = naturals words.Scissor (rect_numbers r) _ refl refl (λ im. refl) refl h
verb_fits (Call (gfx.SetDepthStencil s reference)) h = naturals words.Ds (depth_stencil_numbers s reference) _ refl refl (λ im. refl) (depth_stencil_again s reference) h
verb_fits (Call (gfx.SetBlend b)) h = naturals words.Blend (blend_numbers b) _ refl refl (λ im. refl) (blend_again b) h
verb_fits (Call (gfx.SetPredication o)) h = predicate_fits o h
verb_fits (Call (gfx.Draw count start)) h = naturals words.Draw (count ∷ start ∷ []) _ refl refl (λ im. refl) refl h
verb_fits (Call (gfx.DrawIndexed count start base)) h = drawi_fits count start base h.0 h.1
verb_fits (Call (gfx.ClearColor rgba)) h = naturals words.Clearc rgba _ refl refl (λ im. refl) refl h
verb_fits (Call (gfx.ClearDepthStencil depth stencil)) h = naturals words.Cleards (depth ∷ stencil ∷ []) _ refl refl (λ im. refl) refl h
verb_fits (Call (gfx.Begin query)) h = naturals words.Begin (query ∷ []) _ refl refl (λ im. refl) refl h
verb_fits (Call (gfx.End query)) h = naturals words.End (query ∷ []) _ refl refl (λ im. refl) refl h
verb_fits (Finish restore) h = naturals words.Finish (flag_number restore ∷ []) _ refl refl (λ im. refl) (ap Finish (flag_again restore)) h
verb_fits Flush h = naturals words.Flush [] _ refl refl (λ im. refl) refl tt
verb_fits (Execute context list restore) h = exec_fits context list restore h.0 h.1
verb_fits (Query query) h = naturals words.Query (query ∷ []) _ refl refl (λ im. refl) refl h
verb_fits (Pixel x y) h = naturals words.Pixel (x ∷ y ∷ []) _ refl refl (λ im. refl) refl h
verb_fits v h = absurd h

-- ---- from words to their verb

-- what the verb of some words is
pub record Backs (c : CommandWord) (ws : List (List ℕ)) : Type 0 where
  pub words : verb_words (verb_from c ws) ≡ name c ∷ ws
  pub verb : IsVerb (verb_from c ws)
  pub taken : (immediate : Bool) → may_take (verb_from c ws) immediate ≡ serves c immediate

pub one_of : (ks ls : List Kind) (n : ℕ) → kinds_of (OneOf (ks ∷ [])) n ≡ Some ls → (length ks ≡ n) × (ks ≡ ls)
one_of ks ls n h = one_of_test ks ls (eqb (length ks) n) n refl h
  where
    one_of_test : (ks ls : List Kind) (t : Bool) (n : ℕ) → eqb (length ks) n ≡ t → cond t (Some ks) None ≡ Some ls → (length ks ≡ n) × (ks ≡ ls)
    one_of_test ks ls true n e h = (eqb-true _ _ e, cc)
    one_of_test ks ls false n e h = absurd cc

naturals_backs : (c : CommandWord) → is_plain c ≡ true → (ls : List Kind) (ws : List (List ℕ)) → kinds_of (shape c) (length ws) ≡ Some ls → fit ls ws ≡ true → Backs c ws
naturals_backs c p ls ws found fits =
    let is = plain c p in
    let g = one_of (kinds (ranges c)) ls (length ws) (ap (λ s. kinds_of s (length ws)) (sym is.shape_is) ∙ found) in
    let b = naturals_back (ranges c) ws is.small (sym (length-map (ranges c) _) ∙ g.0) (subst (λ ks. fit ks ws ≡ true) (sym g.1) fits) in
    let m = made c (map value ws) p b.1 in
    record {
      words = ap verb_words (is.from ws) ∙ m.words ∙ ap (λ x. name c ∷ x) b.0;
      verb = subst (λ v. IsVerb v) (sym (is.from ws)) m.verb;
      taken = λ im. ap (λ v. may_take v im) (is.from ws) ∙ m.taken im;
    }

drawi_backs : (ws : List (List ℕ)) → 3 ≡ length ws → fit (kinds (ranges words.Drawi) ++ i32s ∷ []) ws ≡ true → Backs words.Drawi ws
drawi_backs [] e h = absurd (omega arith)
drawi_backs (a ∷ []) e h = absurd (omega arith)
drawi_backs (a ∷ b ∷ []) e h = absurd (omega arith)
drawi_backs (a ∷ b ∷ c ∷ []) e h =
    let h1 = and_right (fits_kind (kind_of U32) a) (fit (kind_of U32 ∷ i32s ∷ []) (b ∷ c ∷ [])) h in
    let h2 = and_right (fits_kind (kind_of U32) b) (fit (i32s ∷ []) (c ∷ [])) h1 in
    let x = natural_between 0 4294967295 a (omega arith) (and_left (fits_kind (kind_of U32) a) (fit (kind_of U32 ∷ i32s ∷ []) (b ∷ c ∷ [])) h) in
    let y = natural_between 0 4294967295 b (omega arith) (and_left (fits_kind (kind_of U32) b) (fit (i32s ∷ []) (c ∷ [])) h1) in
    let z = integer_is c (and_left (fits_kind i32s c) true h2) in
    record {
      words = ap (λ w. codes "drawi" ∷ w ∷ decimal (value b) ∷ signed_decimal (number c) ∷ []) (sym x.0) ∙ ap (λ w. codes "drawi" ∷ a ∷ w ∷ signed_decimal (number c) ∷ []) (sym y.0) ∙ ap (λ w. codes "drawi" ∷ a ∷ b ∷ w ∷ []) (sym z.0);
      verb = ((record { low = x.1; high = x.2 }, (record { low = y.1; high = y.2 }, tt)), z.1);
      taken = λ im. refl;
    }
drawi_backs (a ∷ b ∷ c ∷ d ∷ ws) e h = absurd (omega arith)

exec_backs : (ws : List (List ℕ)) → 3 ≡ length ws → fit (Context ∷ kinds (ranges words.Exec)) ws ≡ true → Backs words.Exec ws
exec_backs [] e h = absurd (omega arith)
exec_backs (a ∷ ws) e h =
    let k = context_is a (and_left (is_context a) (fit (kinds (ranges words.Exec)) ws) h) in
    let b = naturals_back (ranges words.Exec) ws refl (omega arith) (and_right (is_context a) (fit (kinds (ranges words.Exec)) ws) h) in
    at ws b.0 b.1 k.0 k.1
  where
    at : (ws : List (List ℕ)) → map decimal (map value ws) ≡ ws → AreIn (ranges words.Exec) (map value ws) → a ≡ context_word (context a) → context a < 8 → Backs words.Exec (a ∷ ws)
    at [] f h g l = absurd h
    at (b ∷ []) f h g l = absurd h.1
    at (b ∷ c ∷ []) f h g l =
        let flag = flag_back (value c) h.1.0 in
        record {
          words = ap (λ n. codes "exec" ∷ context_word (context a) ∷ decimal (value b) ∷ decimal n ∷ []) flag ∙ ap (λ w. codes "exec" ∷ w ∷ map decimal (map value (b ∷ c ∷ []))) (sym g) ∙ ap (λ x. codes "exec" ∷ a ∷ x) f;
          verb = (l, (h.0, (subst (IsIn FLAG) (sym flag) h.1.0, tt)));
          taken = λ im. refl;
        }
    at (b ∷ c ∷ d ∷ ws) f h g l = absurd h.1.1

indices_backs : (ls : List Kind) (ws : List (List ℕ)) → kinds_of (shape words.Ib) (length ws) ≡ Some ls → fit ls ws ≡ true → Backs words.Ib ws
indices_backs ls ws found fits =
    let n = length ws in
    let twice : Some (kinds (index_ranges n)) ≡ Some ls = sym (singles_of n) ∙ found in
    let same : ls ≡ kinds (index_ranges n) = cc in
    let b = naturals_back (index_ranges n) ws (indices_small n) (length-replicate n _) (subst (λ ks. fit ks ws ≡ true) same fits) in
    record { words = ap (λ x. codes "ib" ∷ x) b.0; verb = indices_are n (map value ws) b.1; taken = λ im. refl }

predicate_backs : (ls : List Kind) (ws : List (List ℕ)) → kinds_of (shape words.Predicate) (length ws) ≡ Some ls → fit ls ws ≡ true → Backs words.Predicate ws
predicate_backs ls [] found fits = record { words = refl; verb = tt; taken = λ im. refl }
predicate_backs ls (a ∷ []) found fits = absurd cc
predicate_backs ls (a ∷ b ∷ []) found fits =
    let same : kinds (ranges words.Predicate) ≡ ls = cc in
    let r = naturals_back (ranges words.Predicate) (a ∷ b ∷ []) refl refl (subst (λ ks. fit ks (a ∷ b ∷ []) ≡ true) (sym same) fits) in
    let flag = flag_back (value b) r.1.1.0 in
    record {
      words = ap (λ n. codes "predicate" ∷ decimal (value a) ∷ decimal n ∷ []) flag ∙ ap (λ x. codes "predicate" ∷ x) r.0;
      verb = (r.1.0, (subst (IsIn FLAG) (sym flag) r.1.1.0, tt));
      taken = λ im. refl;
    }
predicate_backs ls (a ∷ b ∷ c ∷ ws) found fits = absurd (none (sym (many (length ws)) ∙ found))
  where
    ks : List Kind
    ks = kinds (ranges words.Predicate)

    not_none : (n : ℕ) → eqb 0 (n + 3) ≡ false
    not_none n = grind (arith, nat_tests)

    not_two : (n : ℕ) → eqb 2 (n + 3) ≡ false
    not_two n = grind (arith, nat_tests)

    three : (n : ℕ) → suc (suc (suc n)) ≡ n + 3
    three n = omega arith

    many : (n : ℕ) → kinds_of (shape words.Predicate) (suc (suc (suc n))) ≡ None
    many n =
        ap (kinds_of (shape words.Predicate)) (three n)
        ∙ ap (λ b. cond b (Some []) (cond (eqb 2 (n + 3)) (Some ks) None)) (not_none n) ∙ ap (λ b. cond b (Some ks) None) (not_two n)

    none : None ≡ Some ls → ⊥
    none e = absurd cc

-- words that fit some kinds and others behind them
fit-parts : (ks ls : List Kind) (ws vs : List (List ℕ)) → length ks ≡ length ws → fit (ks ++ ls) (ws ++ vs) ≡ true → (fit ks ws ≡ true) × (fit ls vs ≡ true)
fit-parts [] ls [] vs e h = (refl, h)
fit-parts [] ls (w ∷ ws) vs e h = absurd (omega arith)
fit-parts (k ∷ ks) ls [] vs e h = absurd (omega arith)
fit-parts (k ∷ ks) ls (w ∷ ws) vs e h =
    let more = fit-parts ks ls ws vs (omega arith) (and_right (fits_kind k w) (fit (ks ++ ls) (ws ++ vs)) h) in
    (rw (and_left (fits_kind k w) (fit (ks ++ ls) (ws ++ vs)) h) more.0, more.1)

unbiased_backs : (a b c : List ℕ) → fit (kinds (ranges words.Raster)) (a ∷ b ∷ c ∷ []) ≡ true → Backs words.Raster (a ∷ b ∷ c ∷ [])
unbiased_backs a b c fits =
    let n = naturals_back (ranges words.Raster) (a ∷ b ∷ c ∷ []) refl refl fits in
    let back = raster_back (map value (a ∷ b ∷ c ∷ [])) (pos 0) n.1 in
    record {
      words = ap (λ ns. codes "raster" ∷ (map decimal ns ++ [])) back ∙ ap (λ ws. codes "raster" ∷ ws) n.0;
      verb = (subst (AreIn (ranges words.Raster)) (sym back) n.1, record { sfits = grind (arith, nat_tests) });
      taken = λ im. refl;
    }

biased_backs : (a b c d : List ℕ) → fit (kinds (ranges words.Raster) ++ NonZero ∷ []) (a ∷ b ∷ c ∷ d ∷ []) ≡ true → Backs words.Raster (a ∷ b ∷ c ∷ d ∷ [])
biased_backs a b c d fits =
    let parts = fit-parts (kinds (ranges words.Raster)) (NonZero ∷ []) (a ∷ b ∷ c ∷ []) (d ∷ []) refl fits in
    let n = naturals_back (ranges words.Raster) (a ∷ b ∷ c ∷ []) refl refl parts.0 in
    let z = nonzero_is d (and_left (fits_kind NonZero d) true parts.1) in
    let back = raster_back (map value (a ∷ b ∷ c ∷ [])) (number d) n.1 in
    record {
      words = ap (λ ns. codes "raster" ∷ (map decimal ns ++ bias_words (number d))) back ∙ ap (λ ws. codes "raster" ∷ (ws ++ bias_words (number d))) n.0 ∙ ap (λ ws. codes "raster" ∷ a ∷ b ∷ c ∷ ws) (spelled_bias (number d) z.2 ∙ ap (λ w. w ∷ []) (sym z.0));
      verb = (subst (AreIn (ranges words.Raster)) (sym back) n.1, z.1);
      taken = λ im. refl;
    }

raster_backs : (ls : List Kind) (ws : List (List ℕ)) → kinds_of (shape words.Raster) (length ws) ≡ Some ls → fit ls ws ≡ true → Backs words.Raster ws
raster_backs ls [] found fits = absurd cc
raster_backs ls (a ∷ []) found fits = absurd cc
raster_backs ls (a ∷ b ∷ []) found fits = absurd cc
raster_backs ls (a ∷ b ∷ c ∷ []) found fits =
    let same : kinds (ranges words.Raster) ≡ ls = cc in
    unbiased_backs a b c (subst (λ ks. fit ks (a ∷ b ∷ c ∷ []) ≡ true) (sym same) fits)
raster_backs ls (a ∷ b ∷ c ∷ d ∷ []) found fits =
    let same : kinds (ranges words.Raster) ++ NonZero ∷ [] ≡ ls = cc in
    biased_backs a b c d (subst (λ ks. fit ks (a ∷ b ∷ c ∷ d ∷ []) ≡ true) (sym same) fits)
raster_backs ls (a ∷ b ∷ c ∷ d ∷ e ∷ ws) found fits = absurd (none (sym (many (length ws)) ∙ found))
  where
    ks : List Kind
    ks = kinds (ranges words.Raster)

    not_three : (n : ℕ) → eqb 3 (n + 5) ≡ false
    not_three n = grind (arith, nat_tests)

    not_four : (n : ℕ) → eqb 4 (n + 5) ≡ false
    not_four n = grind (arith, nat_tests)

    five : (n : ℕ) → suc (suc (suc (suc (suc n)))) ≡ n + 5
    five n = omega arith

    many : (n : ℕ) → kinds_of (shape words.Raster) (suc (suc (suc (suc (suc n))))) ≡ None
    many n =
        ap (kinds_of (shape words.Raster)) (five n)
        ∙ ap (λ t. cond t (Some ks) (cond (eqb 4 (n + 5)) (Some (ks ++ NonZero ∷ [])) None)) (not_three n) ∙ ap (λ t. cond t (Some (ks ++ NonZero ∷ [])) None) (not_four n)

    none : None ≡ Some ls → ⊥
    none e = absurd cc

-- words that fit a command are those of the verb that they make
pub backs : (c : CommandWord) (ls : List Kind) (ws : List (List ℕ)) → kinds_of (shape c) (length ws) ≡ Some ls → fit ls ws ≡ true → Backs c ws
backs words.Vb ls ws found fits =
    let g = groups_found vertex_kinds ls (length ws) found in
    let e : length ws ≡ 7 * (length ws / 7) = omega (arith, g.0) in
    let r = vertices_back (length ws / 7) ws e (subst (λ ks. fit ks ws ≡ true) (sym g.1) fits) in
    record { words = ap (λ x. codes "vb" ∷ x) r.0; verb = r.1; taken = λ im. refl }
backs words.Ib ls ws found fits = indices_backs ls ws found fits
backs words.Raster ls ws found fits = raster_backs ls ws found fits
backs words.Predicate ls ws found fits = predicate_backs ls ws found fits
backs words.Drawi ls ws found fits =
    let g = one_of (kinds (ranges words.Drawi) ++ i32s ∷ []) ls (length ws) found in
    drawi_backs ws g.0 (subst (λ ks. fit ks ws ≡ true) (sym g.1) fits)
backs words.Exec ls ws found fits =
    let g = one_of (Context ∷ kinds (ranges words.Exec)) ls (length ws) found in
    exec_backs ws g.0 (subst (λ ks. fit ks ws ≡ true) (sym g.1) fits)
backs c ls ws found fits = naturals_backs c refl ls ws found fits

-- ---- the names of commands

-- the command of a name
pub command_named-name : (c : CommandWord) (im : Bool) → serves c im ≡ true → command_named (name c) im ≡ Some c
command_named-name words.Finish im h = rw h refl
command_named-name words.Flush im h = rw h refl
command_named-name words.Exec im h = rw h refl
command_named-name words.Query im h = rw h refl
command_named-name words.Pixel im h = rw h refl
command_named-name c im h = refl

-- a word that is known, tested
lacks_from : (w : List ℕ) → list_all (λ b. not (eqb b 32)) w ≡ true → Lacks 32 w
lacks_from [] h = tt
lacks_from (b ∷ bs) h = (grind (arith, nat_tests, and_left (not (eqb b 32)) (list_all (λ b. not (eqb b 32)) bs) h), lacks_from bs (and_right (not (eqb b 32)) (list_all (λ b. not (eqb b 32)) bs) h))

pub IsWordText-known : (w : List ℕ) → is_word w ≡ true → list_all is_printable w ≡ true → list_all (λ b. not (eqb b 32)) w ≡ true → IsWordText w
IsWordText-known w a b c = record { is = a; printable = b; no_space = lacks_from w c }

pub IsWordText-name : (c : CommandWord) → IsWordText (name c)
IsWordText-name words.Vb = IsWordText-known (codes "vb") refl refl refl
IsWordText-name c = IsWordText-known (name c) refl refl refl
