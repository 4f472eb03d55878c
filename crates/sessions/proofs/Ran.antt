-- Runs of the pending commands, as a session is answered by them.
use Rattle.std.proofs.Common.{true, false, ◌≡◌, ◌∙◌, ⊎_elim, inl, inr, ap, sym, subst, refl, ℕ, Bool, List, [], ◌∷◌, ◌++◌, Option, ◌<◌}
use Rattle.std.proofs.lemmas.List.{append-nil}
use Rattle.gfxspec.specs.declared.geometry.Size.{Size}
use Rattle.gfxspec.specs.Session.{Step, Executes}
use Rattle.meaning.specs.Contexts.{result_at}
use Rattle.meaning.specs.Standing.{Stands}
use Rattle.std.specs.Prelude.{Result, Ok, Err, OnOk, IfErr}
use Rattle.gfxspec.specs.declared.error.GfxError.{GfxError}
use Rattle.gfxspec.specs.Commands.{Command}
use Rattle.gfxspec.specs.Recorded.{queries_open}
use Rattle.gfxspec.specs.declared.error.GfxError.TheVariants.{OutOfMemory}
use Rattle.gfxspec.specs.Refusals.{Row, first_row, flush_rows}
use Rattle.gfxspec.specs.Accepted.{AreAccepted}
use Rattle.command.specs.Calls.{RecordsCall}
use Rattle.immediate.specs.declared.task.Task.TheVariants.{Settle}
use Rattle.immediate.specs.Tasks.{Performs}
use Rattle.immediate.specs.Held.{Held, context_of, held_more, Executed, Ran, Stays, MayHaveRun, IsRefused, Runs, Enqueues}
use Rattle.immediate.proofs.Waiting.{executed_behind}
use Rattle.scenetext.specs.Scene.{Execute}
use Rattle.sessions.specs.declared.run.Running.{Running}
use Rattle.sessions.specs.declared.run.Running.TheVariants as runs
use Rattle.sessions.specs.Taking.{HasRun, HasAsked, ExecutesListed, TracesOn, TracesRun}

-- a run of the pending commands and a list, as it is answered
pub run_is : (list : List Command) (restore : Bool) (did : Type 0) (old new : Held) (result : Result (Unit {0}) GfxError) → Runs (flush_rows (queries_open old.pending)) list restore old new result → (Ran list restore old new → did) → HasRun did (flush_rows (queries_open old.pending)) result
run_is list restore did old new (Ok done) runs does = record { accepted = runs.answer; did = does runs.ok; cause = tt }
run_is list restore did old new (Err e) runs does = record { accepted = tt; did = tt; cause = ⊎_elim (λ row. inl row) (λ memory. inr memory.1) runs.answer }

pub ran_executed : (list : List Command) (restore : Bool) (old new : Held) → Ran list restore old new → Executed list restore old new
ran_executed list restore old new ran = record { size = ran.size; run = ran.run }

-- a question leaves what an execution of nothing does, whether its answer is heard or not
pub asked_executed : (heard : Bool) (flushed : Held → Held → Type 0) → ((old new : Held) → flushed old new → Executed [] true old new) → (old new : Held) → HasAsked heard flushed old new → Executed [] true old new
asked_executed true flushed runs old new asked = ran_executed [] true old new asked
asked_executed false flushed runs old new asked = runs old new asked

-- the same of an execution
pub enqueue_is : (list : List Command) (restore : Bool) (did : Type 0) (old new : Held) (result : Result (Unit {0}) GfxError) → Enqueues (flush_rows (queries_open old.pending)) list restore old new result → (Executed list restore old new → did) → HasRun did (flush_rows (queries_open old.pending)) result
enqueue_is list restore did old new (Ok done) runs does = record { accepted = runs.answer; did = does runs.ok; cause = tt }
enqueue_is list restore did old new (Err e) runs does = record { accepted = tt; did = tt; cause = ⊎_elim (λ row. inl row) (λ memory. inr memory.1) runs.answer }

-- the same of what waits alone
pub settle_is : (old new : Held) (result : Result (Unit {0}) GfxError) → OnOk result (Stays old new × (new.waiting ≡ [])) → IfErr result (λ e. e ≡ OutOfMemory) → HasRun (Stays old new) [] result
settle_is old new (Ok done) ran memory = record { accepted = refl; did = ran.0; cause = tt }
settle_is old new (Err e) ran memory = record { accepted = tt; did = tt; cause = inr memory }

-- what is taken behind it
pub taken_behind : (w : ℕ → ℕ → List Command) (k n : ℕ) (restore : Bool) (a b c : Held) → Stays a b → ExecutesListed w k n restore b c → ExecutesListed w k n restore a c
taken_behind w k n restore a b c s taken = (taken.0, taken.1, executed_behind a b s (w k n) restore c taken.2)

pub same_rows : (a b : Held) → Stays a b → first_row (flush_rows (queries_open b.pending)) ≡ first_row (flush_rows (queries_open a.pending))
same_rows a b s = ap (λ (l : List Command). first_row (flush_rows (queries_open l))) s.pending

-- the list that it is taken for
pub list_taken : (list right : List Command) (restore : Bool) (old new : Held) → list ≡ right → queries_open list ≡ [] → AreAccepted list → Executed list restore old new → (queries_open right ≡ []) × AreAccepted right × Executed right restore old new
list_taken list right restore old new same none accepted ran =
    subst (λ (l : List Command). (queries_open l ≡ []) × AreAccepted l × Executed l restore old new) same (none, accepted, ran)

-- ---- what is traced beside a context

stands_on : (steps : List Step) (a b : Held) → Stays a b → Stands a.surface.size steps (context_of a) → Stands b.surface.size steps (context_of b)
stands_on steps a b s h = subst (λ z. Stands z steps (context_of b)) (sym s.size) record {
  pixels = λ x y w v. s.pixels x y w v ∙ h.pixels x y w v;
  results = λ q l. ap (λ (rs : List (Option ℕ)). result_at rs q) s.results ∙ h.results q l;
  none_open = h.none_open;
  pending = s.pending ∙ h.pending;
  accepted = subst AreAccepted (sym s.pending) h.accepted;
}

module _ {C : Type 0} (traces : Size → List Step → ℕ → ℕ → C → Type 0) where
  -- nothing was taken
  pub traces_stay : (h : Held) (c : C) → TracesOn traces h [] c c
  traces_stay h c steps x y stands t = subst (λ ss. traces h.surface.size ss x y c) (sym (append-nil steps)) t

  -- what waited ran, and then more
  pub traces_behind : (h k : Held) (more : List Step) (a b c : C) → Stays h k → TracesOn traces h [] a b → TracesOn traces k more b c → TracesOn traces h more a c
  traces_behind h k more a b c s none on steps x y stands t =
      subst (λ z. traces z (steps ++ more) x y c) s.size
      (on steps x y (stands_on steps h k s stands)
      (subst (λ z. traces z steps x y b) (sym s.size) (subst (λ ss. traces h.surface.size ss x y b) (append-nil steps) (none steps x y stands t))))

-- what holds anyway
pub anyway : {T E P : Type 0} (r : Result T E) → P → OnOk r P
anyway (Ok x) p = p
anyway (Err e) p = tt

-- a context beside which nothing is traced
abbrev pub Untraced : {C : Type 0} → Size → List Step → ℕ → ℕ → C → Type 0
Untraced size steps x y c = Unit {0}

pub untraced : {C T E : Type 0} (agrees : Type 0) (w : ℕ → ℕ → List Command) (r : Running) (h : Held) (a b : C) (result : Result T E) → OnOk result (TracesRun Untraced agrees w r h a b)
untraced agrees w runs.Settle h a b (Ok done) = λ steps x y stands t. tt
untraced agrees w runs.Flush h a b (Ok done) = λ steps x y stands t. tt
untraced agrees w runs.FlushLine h a b (Ok done) = λ steps x y stands t. tt
untraced agrees w (runs.Execute k n restore) h a b (Ok done) = λ ok steps x y stands t. tt
untraced agrees w r h a b (Err e) = tt

-- what is traced of a list is traced of the one that it is taken for
pub traces_listed : {C T E : Type 0} (traces : Size → List Step → ℕ → ℕ → C → Type 0) (agrees : Type 0) (h : Held) (list right : List Command) (restore : Bool) (a b : C) (result : Result T E) → (agrees → list ≡ right) → OnOk result (TracesOn traces h (Executes list restore ∷ []) a b) → OnOk result (agrees → TracesOn traces h (Executes right restore ∷ []) a b)
traces_listed traces agrees h list right restore a b (Ok done) same on = λ ok. subst (λ l. TracesOn traces h (Executes l restore ∷ []) a b) (same ok) on
traces_listed traces agrees h list right restore a b (Err e) same on = tt

-- ---- a target keeps its size

may_size : (old new : Held) → MayHaveRun old new → new.surface.size ≡ old.surface.size
may_size old new (inl stays) = stays.size
may_size old new (inr ran) = ran.size

left_size : (e : GfxError) (old new : Held) → IsRefused e old new → new.surface.size ≡ old.surface.size
left_size e old new (inl same) = ap (λ (h : Held). h.surface.size) same
left_size e old new (inr left) = may_size old new left.1

pub runs_size : {T : Type 0} (rows : List Row) (list : List Command) (restore : Bool) (old new : Held) (result : Result T GfxError) → Runs rows list restore old new result → new.surface.size ≡ old.surface.size
runs_size rows list restore old new (Ok done) runs = runs.ok.size
runs_size rows list restore old new (Err e) runs = left_size e old new runs.err

pub enqueues_size : {T : Type 0} (rows : List Row) (list : List Command) (restore : Bool) (old new : Held) (result : Result T GfxError) → Enqueues rows list restore old new result → new.surface.size ≡ old.surface.size
enqueues_size rows list restore old new (Ok done) runs = runs.ok.size
enqueues_size rows list restore old new (Err e) runs = left_size e old new runs.err

pub settle_size : (old new : Held) (result : Result (Unit {0}) GfxError) → Performs Settle [] old new result → new.surface.size ≡ old.surface.size
settle_size old new (Ok done) ran = ran.ok.0.size
settle_size old new (Err e) ran = may_size old new ran.left

pub record_size : (k : Command) (old new : Held) (result : Result (Unit {0}) GfxError) → RecordsCall (λ (h : Held). h.pending) held_more old k new result → new.surface.size ≡ old.surface.size
record_size k old new (Ok done) call = ap (λ (h : Held). h.surface.size) call.ok
record_size k old new (Err e) call = ap (λ (h : Held). h.surface.size) call.err

pub still_inside : (x y : ℕ) (old new : Held) → new.surface.size ≡ old.surface.size → (x < old.surface.size.width) × (y < old.surface.size.height) → (x < new.surface.size.width) × (y < new.surface.size.height)
still_inside x y old new same inside = subst (λ (z : Size). (x < z.width) × (y < z.height)) (sym same) inside
