-- Runs of lists, one after the other.
use Rattle.std.proofs.Common.{◌≡◌, ◌∙◌, ◌⊎◌, inl, inr, sym, ap, subst, refl, arith, ℕ, ◌+◌, ◌<◌, List, [], ◌∷◌, length, get_or, Some, None}
use Rattle.std.specs.Prelude.{Bool, true, false, Option, is_none, unwrap_or, slice_set, if◌then◌else◌, Result, Ok, Err, MatchResult, IfOk, OnOk, IfErr, OnErr}
use Rattle.std.proofs.lemmas.List.{length-set}
use Rattle.gfxspec.specs.declared.geometry.Size.{Size}
use Rattle.gfxspec.specs.declared.error.GfxError.{GfxError}
use Rattle.gfxspec.specs.declared.error.GfxError.TheVariants.{OutOfMemory}
use Rattle.gfxspec.specs.Items.{after_items, issue_count}
use Rattle.gfxspec.specs.Commands.{Command}
use Rattle.gfxspec.specs.Recorded.{items, issues, after_finish}
use Rattle.gfxspec.specs.Tiles.{tile_count}
use Rattle.binmem.specs.Lists.{no_words}
use Rattle.meaning.specs.Contexts.{result_after, result_at, with_counts, performed_next}
use Rattle.meaning.proofs.Contexts.{result_same, performed_results_stored}
use Rattle.meaning.proofs.Predicates.{performed_same}
use Rattle.gfxspec.specs.Predication.{performed, result_of}
use Rattle.gfxspec.specs.Refusals.{Row, first_row}
use Rattle.gfxspec.specs.Accepted.{AreAccepted}
use Rattle.port.specs.declared.submission.Submission.{Submission}
use Rattle.tileblock.specs.Surface.{Surface, IsWhole, pixel_of}
use Rattle.binner.specs.Compiled.{Compilation, IsCompilation, MeansList}
use Rattle.cmdlist.specs.Drawable.{told}
use Rattle.tileprog.specs.Programs.{ProgramsRan}
use Rattle.tileprog.proofs.Ordering.{list_ran}
use Rattle.immediate.specs.Outputs as outputs
use Rattle.immediate.specs.Outputs.{Outputs, IsOutput, performed_over, IsCompiled}
use Rattle.immediate.specs.Held.{Held, Ran, Runs, shown, answered, context_of, held_of, held_behind, outputs_of}
use Rattle.immediate.proofs.Settled.{stored_settled}
use Rattle.immediate.specs.Next.{Lists, IsTaken, ExecutesNext}

same_counts : (f h : ℕ → ℕ) (k : ℕ) (queries : List ℕ) (results : List (Option ℕ)) → ((i : ℕ) → i < k + length queries → f i ≡ h i) → with_counts k f queries results ≡ with_counts k h queries results
same_counts f h k [] results same = refl
same_counts f h k (q ∷ queries) results same =
    ap (λ (n : ℕ). with_counts (k + 1) f queries (slice_set results q (Some n))) (same k (omega arith))
    ∙ same_counts f h (k + 1) queries (slice_set results q (Some (h k))) (λ i l. same i (omega arith))

pub fresh_output : (s : Surface) (results : List (Option ℕ)) (bins : List (List ℕ)) → IsWhole s → length results ≡ 64 → bins ≡ no_words (tile_count s.size) → IsOutput s results (Some bins)
fresh_output s results bins whole long none = record {
  whole = whole;
  many = long;
  empty = λ other e. sym (ap (λ (k : Option (List (List ℕ))). unwrap_or k bins) e) ∙ none;
}

-- the programs of a compiled list ran, and the counts are stored
pub list_has_run : (list : List Command) (c : Compilation) (old new : Surface) (results after : List (Option ℕ)) (counts : List ℕ) → IsCompilation c → c.size ≡ old.size → MeansList (performed_over record { surface = old; results = results } list) c → c.issues ≡ length (issues list) → length results ≡ 64
    → ProgramsRan c old new counts → after ≡ with_counts 0 (λ k. get_or counts k 0) (issues list) results
    → outputs.HasRun list record { surface = old; results = results } record { surface = new; results = after }
list_has_run list c old new results after counts sound size means many long ran stored =
    let told : ℕ → Bool = λ q. result_of (result_at results q) in
    let left : List Command = performed told list in
    let all = list_ran left c old new counts sound size means ran in
    record {
      size = ran.size;
      pixels = all.pixels;
      results = λ q l.
          ap (λ (rs : List (Option ℕ)). result_at rs q) stored
          ∙ ap (λ (rs : List (Option ℕ)). result_at rs q)
          (same_counts (λ k. get_or counts k 0) (λ k. issue_count k (items left) old.size.width old.size.height (pixel_of old)) 0 (issues list) results
          (λ i less. all.counts i (omega (arith, less, many))))
          ∙ performed_results_stored old.size told list (pixel_of old) results q (omega (arith, l, long));
    }

pub length_counts : (counts : ℕ → ℕ) (k : ℕ) (queries : List ℕ) (results : List (Option ℕ)) → length (with_counts k counts queries results) ≡ length results
length_counts counts k [] results = refl
length_counts counts k (q ∷ queries) results =
    length_counts counts (k + 1) queries (slice_set results q (Some (counts k))) ∙ length-set results q (Some (counts k))

-- the pending commands ran
pub pending_ran : (old new : Outputs) (before after : List Command) → outputs.HasRun before old new → after ≡ after_finish true before → Ran [] true (held_of old before) (held_of new after)
pending_ran old new before after ran begun = record {
  size = ran.size;
  run = record { pixels = ran.pixels; results = ran.results; pending = begun };
  settled = refl;
}

-- and then a list
pub list_ran_behind : (list : List Command) (restore : Bool) (a m : Held) (o : Outputs) (w : List (List Command)) (p : List Command) → AreAccepted list → Ran [] true a m → outputs.HasRun list (outputs_of m) o → w ≡ m.waiting → p ≡ after_finish restore a.pending → Ran list restore a (held_behind o w p)
list_ran_behind list restore a m o w p accepted first ran kept begun =
    let left : List Command = performed_over (outputs_of m) list in
    let settled : w ≡ [] = kept ∙ first.settled in
    let before : (x y : ℕ) → x < a.surface.size.width → y < a.surface.size.height → pixel_of m.surface x y ≡ shown a x y =
    λ x y w h. sym (stored_settled m first.settled x y) ∙ first.run.pixels x y w h in
    let same : left ≡ performed_next a.surface.size (context_of a) list =
    performed_same (λ q. result_of (result_at m.results q)) (λ q. result_of (answered a q)) list accepted (λ q l. ap result_of (first.run.results q l)) in
    record {
      size = ran.size ∙ first.size;
      run = record {
        pixels = λ x y k h.
            stored_settled (held_behind o w p) settled x y
            ∙ ran.pixels x y (subst (λ (s : Size). x < s.width) (sym first.size) k) (subst (λ (s : Size). y < s.height) (sym first.size) h)
            ∙ ap (after_items (items left) x y) (before x y k h)
            ∙ ap (λ (cs : List Command). after_items (items cs) x y (shown a x y)) same;
        results = λ q l.
            subst (λ (s : Size). result_at o.results q ≡ result_after s left (pixel_of m.surface) q (result_at m.results q)) first.size (ran.results q l)
            ∙ result_same a.surface.size left (pixel_of m.surface) (shown a) q (result_at m.results q) (answered a q) before (first.run.results q l)
            ∙ ap (λ (cs : List Command). result_after a.surface.size cs (shown a) q (answered a q)) same;
        pending = begun;
      };
      settled = settled;
    }

-- ---- the steps of a run, over what stands in the code

module _ (list : List Command) (o : Outputs) (c : Compilation) (old new : Surface) (results after : List (Option ℕ)) (counts : List ℕ) (is : record { surface = old; results = results } ≡ o) (compiled : IsCompiled list o c) where
  size_is : c.size ≡ old.size
  size_is = compiled.size ∙ ap (λ (p : Outputs). p.surface.size) (sym is)

  pub run_stored : IsCompilation c → length results ≡ 64 → ProgramsRan c old new counts → after ≡ with_counts 0 (λ k. get_or counts k 0) (issues list) results
      → outputs.HasRun list o record { surface = new; results = after }
  run_stored sound long ran stored =
      subst (λ (p : Outputs). outputs.HasRun list p record { surface = new; results = after }) is
      (list_has_run list c old new results after counts sound size_is (subst (λ (p : Outputs). MeansList (performed_over p list) c) (sym is) compiled.means) compiled.issues long ran stored)

-- no command leaves everything as it is
pub none_run : (list : List Command) (o : Outputs) → list ≡ [] → outputs.HasRun list o o
none_run list o none = subst (λ (cs : List Command). outputs.HasRun cs o o) (sym none) record { size = refl; pixels = λ x y w l. refl; results = λ q l. refl }

-- a list that was compiled for this size and under these results is a compilation of it for the target
pub compiled_by : (list : List Command) (o : Outputs) (size : Size) (flags : List Bool) (c : Compilation) → size ≡ o.surface.size → performed (told flags) list ≡ performed_over o list
    → c.size ≡ size → c.issues ≡ length (issues list) → MeansList (performed (told flags) list) c → IsCompiled list o c
compiled_by list o size flags c sized left is many means =
    record { size = is ∙ sized; issues = many; means = subst (λ (cs : List Command). MeansList cs c) left means }

-- a compiled list comes back as it was, and with it the size of its bins
pub bins_behind : {b c : Compilation} → b ≡ c → Some (no_words (tile_count b.size)) ≡ Some (no_words (tile_count c.size))
bins_behind same = ap (λ (k : Compilation). Some (no_words (tile_count k.size))) same

-- what is kept of a drawing with these counts, or of one that was refused
abbrev pub IsKept : {T : Type 0} → (T → List ℕ) → List Command → Result T GfxError → List (Option ℕ) → List (Option ℕ) → Result (Unit {0}) GfxError → Type 0
IsKept items list drawn before after result =
    MatchResult drawn (λ x. (result ≡ Ok tt) × (after ≡ with_counts 0 (λ k. get_or (items x) k 0) (issues list) before)) (λ e. (result ≡ Err e) × (after ≡ before))

module _ {T : Type 0} (items : T → List ℕ) (list : List Command) (o : Outputs) (c : Compilation) (old new : Surface) (results after : List (Option ℕ)) (is : record { surface = old; results = results } ≡ o) (size : c.size ≡ o.surface.size) where
  there : c.size ≡ old.size
  there = size ∙ ap (λ (p : Outputs). p.surface.size) (sym is)

  -- what the type of outputs keeps, where a drawing shows that the target is whole and of its size
  pub output_kept : (Drew : T → Type 0) → ((x : T) → Drew x → IsWhole new × (new.size ≡ old.size)) → (drawn : Result T GfxError) (result : Result (Unit {0}) GfxError) (bins : Option (List (List ℕ))) → IsKept items list drawn results after result → IfOk drawn Drew → OnErr drawn (new ≡ old) → IsWhole old → length results ≡ 64 → bins ≡ Some (no_words (tile_count c.size)) → IsOutput new after bins
  output_kept Drew shows (Ok x) result bins kept ran same whole long none =
      subst (IsOutput new after) (sym none)
      (fresh_output new after (no_words (tile_count c.size)) (shows x ran).0 (ap length kept.1 ∙ length_counts (λ k. get_or (items x) k 0) 0 (issues list) results ∙ long)
      (ap (λ (s : Size). no_words (tile_count s)) (there ∙ sym (shows x ran).1)))
  output_kept Drew shows (Err e) result bins kept ran same whole long none =
      subst (IsOutput new after) (sym none)
      (subst (λ (s : Surface). IsOutput s after (Some (no_words (tile_count c.size)))) (sym same)
      (fresh_output old after (no_words (tile_count c.size)) whole (ap length kept.1 ∙ long) (ap (λ (s : Size). no_words (tile_count s)) there)))

  pub kept_output : (drawn : Result T GfxError) (result : Result (Unit {0}) GfxError) (bins : Option (List (List ℕ))) → IsKept items list drawn results after result → IfOk drawn (λ x. ProgramsRan c old new (items x)) → OnErr drawn (new ≡ old) → IsWhole old → length results ≡ 64 → bins ≡ Some (no_words (tile_count c.size)) → IsOutput new after bins
  kept_output = output_kept (λ x. ProgramsRan c old new (items x)) (λ x ran. (ran.whole, ran.size))

  -- the answer, where nothing ran
  pub kept_same : (drawn : Result T GfxError) (result : Result (Unit {0}) GfxError) → IsKept items list drawn results after result → OnErr drawn (new ≡ old) → OnErr result (record { surface = new; results = after } ≡ o)
  kept_same (Ok x) result kept same = subst (λ (r : Result (Unit {0}) GfxError). OnErr r (record { surface = new; results = after } ≡ o)) (sym kept.0) tt
  kept_same (Err e) result kept same =
      subst (λ (r : Result (Unit {0}) GfxError). OnErr r (record { surface = new; results = after } ≡ o)) (sym kept.0)
      (ap (λ (s : Surface). record { surface = s; results = after }) same ∙ ap (λ (rs : List (Option ℕ)). record { surface = old; results = rs }) kept.1 ∙ is)

  pub kept_memory : (drawn : Result T GfxError) (result : Result (Unit {0}) GfxError) → IsKept items list drawn results after result → IfErr drawn (λ e. e ≡ OutOfMemory) → IfErr result (λ e. e ≡ OutOfMemory)
  kept_memory (Ok x) result kept memory = subst (λ (r : Result (Unit {0}) GfxError). IfErr r (λ e. e ≡ OutOfMemory)) (sym kept.0) tt
  kept_memory (Err e) result kept memory = subst (λ (r : Result (Unit {0}) GfxError). IfErr r (λ e. e ≡ OutOfMemory)) (sym kept.0) memory

  -- and where it ran
  pub kept_run : (drawn : Result T GfxError) (result : Result (Unit {0}) GfxError) → IsCompiled list o c → IsCompilation c → length results ≡ 64 → IsKept items list drawn results after result → IfOk drawn (λ x. ProgramsRan c old new (items x)) → OnOk result (outputs.HasRun list o record { surface = new; results = after })
  kept_run (Ok x) result compiled sound long kept ran =
      subst (λ (r : Result (Unit {0}) GfxError). OnOk r (outputs.HasRun list o record { surface = new; results = after })) (sym kept.0)
      (run_stored list o c old new results after (items x) is compiled sound long ran kept.1)
  kept_run (Err e) result compiled sound long kept ran =
      subst (λ (r : Result (Unit {0}) GfxError). OnOk r (outputs.HasRun list o record { surface = new; results = after })) (sym kept.0) tt

-- the pending list behind an execution
pub restored : (restore : Bool) (first mid last : List Command) → mid ≡ after_finish true first → last ≡ (if restore then mid else []) → last ≡ after_finish restore first
restored true first mid last kept is = is ∙ kept
restored false first mid last kept is = is

pub stored_count : (r : Option ℕ) → is_none r ≡ false → Some (unwrap_or r 0) ≡ r
stored_count None e = absurd cc
stored_count (Some n) e = refl

-- ---- the next submission

pub next_executed : (rows : List Row) (restore : Bool) (old new : Held) (before after : Lists) (s : Submission (List Command)) (ran : Result (Unit {0}) GfxError) (result : Result (Option (ℕ × ℕ)) (GfxError × Option (Submission (List Command)))) → first_row rows ≡ None → IsTaken s before after → Runs rows s.list restore old new ran
    → MatchResult ran (λ _. result ≡ Ok (Some (s.port, s.number))) (λ e. result ≡ Err (e, Some s)) → ExecutesNext rows restore old new before after result
next_executed rows restore old new before after s (Ok done) result none taken runs is =
    subst (ExecutesNext rows restore old new before after) (sym is) (none, record { submission = s; taken = taken; port = refl; number = refl; ran = runs.ok })
next_executed rows restore old new before after s (Err e) result none taken runs is =
    subst (ExecutesNext rows restore old new before after) (sym is) record { none = none; memory = memory (first_row rows) none runs.answer; taken = taken; refused = runs.err }
  where
    memory : (o : Option GfxError) → o ≡ None → (o ≡ Some e) ⊎ ((o ≡ None) × (e ≡ OutOfMemory)) → e ≡ OutOfMemory
    memory o none (inl row) = absurd (apart (sym none ∙ row))
      where
        apart : None ≡ Some e → ⊥
        apart same = cc
    memory o none (inr rest) = rest.1
