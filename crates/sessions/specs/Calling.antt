-- Accepted calls on contexts, as the contracts of the calls say what each did and told, and what the script that spells them leaves: a line for each call (Microsoft Learn, "Immediate and Deferred Rendering").
use Rattle.std.specs.Prelude.{ℕ, ◌≡◌, ◌<◌, ◌⊎◌, Bool, true, List, [], ◌∷◌, ◌++◌, slice_index_or, Some, None, Result, Ok}
use Rattle.gfxspec.specs.declared.TheConstants.{QUERY_LIMIT}
use Rattle.gfxspec.specs.declared.geometry.Size.{Size}
use Rattle.gfxspec.specs.declared.pixel.Pixel.{Pixel as PixelValue}
use Rattle.gfxspec.specs.declared.error.GfxError.{GfxError}
use Rattle.gfxspec.specs.Commands.{Command}
use Rattle.gfxspec.specs.Recorded.{queries_open, after_finish}
use Rattle.gfxspec.specs.Refusals.{first_row, AnswersBy, finish_rows, flush_rows, pixel_rows, query_rows}
use Rattle.gfxspec.specs.Accepted.{AreAccepted}
use Rattle.tileblock.specs.Surface.{size_rows}
use Rattle.meaning.specs.Standing.{IsNew, session_result}
use Rattle.command.specs.Calls.{RecordsCall}
use Rattle.immediate.specs.Held.{Held, context_of, held_more, shown, answered, Runs, Enqueues}
use Rattle.scenetext.specs.Scene.{Actor, Immediate, Deferred, Verb, Call, Finish, Flush, Execute, Query, Pixel, Line, Scene}
use Rattle.recorders.specs.Recording.{Recording, nothing_recorded}
use Rattle.tga.specs.Image.{image_bytes}
use Rattle.answers.specs.declared.line.Answer.{Answer}
use Rattle.answers.specs.declared.line.Answer.TheVariants.{Counted, Shown}
use Rattle.answers.specs.Lines.{answer_lines}
use Rattle.sessions.specs.declared.outcome.Ended.TheVariants as ended
use Rattle.sessions.specs.Lists.{steps_of}
use Rattle.sessions.specs.Answers.{pixel_after}
use Rattle.sessions.specs.Writing.{scene_output}

-- what the immediate context holds, and of each deferred context the lists that it has finished and the one that it is recording
pub record Contexts : Type 0 where
  pub immediate : Held
  pub deferred : ℕ → Recording

-- a call that gives nothing but that it was accepted
abbrev done : Result (Unit {0}) GfxError
done = Ok tt

-- a finished list was executed: at once, or so that it may wait; its type keeps that its commands are accepted and leave no query open
pub record ExecutesList (list : List Command) (restore : Bool) (old new : Held) : Type 0 where
  pub none_open : queries_open list ≡ []
  pub accepted : AreAccepted list
  pub called : Runs (flush_rows (queries_open old.pending)) list restore old new done ⊎ Enqueues (flush_rows (queries_open old.pending)) list restore old new done

-- the call that a verb spells was made on the immediate context, where the deferred ones hold this, and was accepted; what it told
abbrev pub ImmediateCalled : (ℕ → Recording) → Verb → Held → Held → List Answer → Type 0
ImmediateCalled deferred (Call c) old new told = RecordsCall (λ (h : Held). h.pending) held_more old c new done × (told ≡ [])
ImmediateCalled deferred Flush old new told = Runs (flush_rows (queries_open old.pending)) [] true old new done × (told ≡ [])
ImmediateCalled deferred (Execute k n restore) old new told = ExecutesList (slice_index_or (deferred k).lists n []) restore old new × (told ≡ [])
ImmediateCalled deferred (Query q) old new told =
    (count : ℕ) × Runs (query_rows (queries_open old.pending) (answered old q) q) [] true old new (Ok count) × (Some count ≡ answered old q) × (told ≡ Counted q count ∷ [])
ImmediateCalled deferred (Pixel x y) old new told =
    (value : PixelValue) × Runs (pixel_rows old.surface.size (queries_open old.pending) x y) [] true old new (Ok value) × (value ≡ shown old x y) × (told ≡ Shown x y value ∷ [])
ImmediateCalled deferred (Finish restore) old new told = ⊥

-- on a deferred context
abbrev pub DeferredCalled : Verb → Recording → Recording → Type 0
DeferredCalled (Call c) old new =
    RecordsCall (λ (list : List Command). list) (λ list c. list ++ c ∷ []) old.current c new.current done × (new.lists ≡ old.lists)
DeferredCalled (Finish restore) old new =
    (list : List Command) × AnswersBy (finish_rows old.current) (Ok list) × (list ≡ old.current) × (new.current ≡ after_finish restore old.current) × (new.lists ≡ old.lists ++ list ∷ [])
DeferredCalled v old new = ⊥

-- a call changes the context that it is made on, and no other
abbrev pub CalledOn : Actor → Verb → Contexts → Contexts → List Answer → Type 0
CalledOn Immediate v old new told = ImmediateCalled old.deferred v old.immediate new.immediate told × ((k : ℕ) → new.deferred k ≡ old.deferred k)
CalledOn (Deferred k) v old new told =
    DeferredCalled v (old.deferred k) (new.deferred k) × ((j : ℕ) → (j ≡ k → ⊥) → new.deferred j ≡ old.deferred j) × (new.immediate ≡ old.immediate) × (told ≡ [])

-- the calls that lines spell were made one behind the other, and all were accepted; what they told
abbrev pub AreCalled : List Line → Contexts → Contexts → List Answer → Type 0
AreCalled [] old new told = (new ≡ old) × (told ≡ [])
AreCalled (l ∷ ls) old new told =
    (between : Contexts) × (first : List Answer) × (rest : List Answer)
    × CalledOn l.actor l.verb old between first × AreCalled ls between new rest × (told ≡ first ++ rest)

-- contexts on which nothing was called, the immediate one with a target of this size
pub record AreFresh (size : Size) (c : Contexts) : Type 0 where
  pub allowed : first_row (size_rows size) ≡ None
  pub size_is : c.immediate.surface.size ≡ size
  pub immediate : IsNew size (context_of c.immediate)
  pub deferred : (k : ℕ) → c.deferred k ≡ nothing_recorded

-- Contexts that hold what a script leaves: each pixel and each query's count, and where the immediate context has no query open, what was told and is shown are the answers and the image of the script.
pub record HoldWhatIsLeft (scene : Scene) (told : List Answer) (c : Contexts) : Type 0 where
  pub pixels : (x y : ℕ) → x < scene.size.width → y < scene.size.height → shown c.immediate x y ≡ pixel_after scene.size scene.lines x y
  pub counts : (q : ℕ) → q < QUERY_LIMIT → answered c.immediate q ≡ session_result scene.size (steps_of scene.lines) q
  pub output : queries_open c.immediate.pending ≡ [] → scene_output scene ≡ record { lines = answer_lines told; image = image_bytes scene.size (shown c.immediate); ended = ended.Done }
