-- Who makes the runs of a context: what is asked of an engine, and what comes of it (this project's own).
use Rattle.std.specs.Prelude.{ℕ, ◌≡◌, Bool, List, [], ◌∷◌, map, length, IsTrue, Option, Result, IfOk, IfErr, IfSome, OnErr}
use Rattle.std.specs.declared.vec.Vec.{Vec}
use Rattle.arrayvec.specs.ArrayVec.{ArrayVec}
use Rattle.gfxspec.specs.declared.geometry.Size.{Size}
use Rattle.gfxspec.specs.declared.error.GfxError.{GfxError}
use Rattle.gfxspec.specs.declared.error.GfxError.TheVariants.{OutOfMemory}
use Rattle.gfxspec.specs.Limits.{is_size}
use Rattle.gfxspec.specs.Tiles.{tile_count}
use Rattle.gfxspec.specs.Recorded.{issues}
use Rattle.gfxspec.specs.Predication.{performed}
use Rattle.gfxspec.specs.Accepted.{AreAccepted}
use Rattle.tileblock.specs.Surface.{Surface, IsWhole}
use Rattle.binmem.specs.Lists.{no_words}
use Rattle.command.specs.declared.command.Command.{Command as Code}
use Rattle.command.specs.Seen.{command_value}
use Rattle.binner.specs.Compiled.{Compilation, IsCompilation, MeansList}
use Rattle.cmdlist.specs.Drawable.{told}
use Rattle.binner.specs.Segments.{cut_items, AreCompiled}
use Rattle.segmentrun.specs.declared.job.SegmentJob.{SegmentJob}
use Rattle.segmentrun.specs.Running.{running}
use Rattle.tileprog.specs.declared.program.TileProgram.{TileProgram}
use Rattle.tileprog.specs.Programs.{AllRan, ProgramsRan, lists_of, tiles_of}

module _ {A : Type 0} where
  -- ---- a list, with issues of its own

  pub record MayList (commands : List (Code A)) (size : Size) (bins : List (List ℕ)) : Type 0 where
    pub accepted : AreAccepted (map command_value commands)
    pub sized : IsTrue (is_size size)
    pub empty : bins ≡ no_words (tile_count size)

  -- it was compiled under these results of the queries, or there was no memory for it
  pub record IsListed (commands : List (Code A)) (size : Size) (results : List Bool) (made : Result Compilation (GfxError × List (List ℕ))) : Type 0 where
    pub for_size : IfOk made (λ c. c.size ≡ size)
    pub issued : IfOk made (λ c. c.issues ≡ length (issues (map command_value commands)))
    pub means : IfOk made (λ c. MeansList (performed (told results) (map command_value commands)) c)
    pub refused : IfErr made (λ e. e ≡ (OutOfMemory, no_words (tile_count size)))

  -- ---- segments of lists

  abbrev pub MayCompile : SegmentJob A → Option (List (List ℕ)) → Type 0
  MayCompile job bins = IfSome bins (λ b. b ≡ no_words (tile_count job.size))

  -- they were compiled, or there was no memory for it; the job came back
  pub record AreMade (job : SegmentJob A) (made : Result (Compilation × Vec Compilation A) GfxError × SegmentJob A) : Type 0 where
    pub lists : IfOk made.0 (λ lists. AreCompiled job.size (cut_items (told job.results) (running job)) (lists.0 ∷ lists.1.items))
    pub memory : IfErr made.0 (λ e. e ≡ OutOfMemory)
    pub back : made.1 ≡ job

  -- ---- the tiles of a program

  pub record MayDraw (program : TileProgram A) (target : Surface) : Type 0 where
    pub for_size : program.first.size ≡ target.size
    pub whole : IsWhole target

  -- they were drawn and counted, or there was no memory for it and nothing was
  pub record IsDrawnBy (program : TileProgram A) (old new : Surface) (drawn : Result (ArrayVec ℕ) GfxError × Compilation) : Type 0 where
    pub ran : IfOk drawn.0 (λ counts. AllRan (lists_of program) old new)
    pub alone : (c : Compilation) → lists_of program ≡ c ∷ [] → tiles_of program ≡ c.touched → IsCompilation c → IfOk drawn.0 (λ counts. ProgramsRan c old new counts.items)
    pub same : OnErr drawn.0 (new ≡ old)
    pub memory : IfErr drawn.0 (λ e. e ≡ OutOfMemory)
    pub first : drawn.1 ≡ program.first

  -- ---- an engine that does all of it

  pub record IsEngine
      (may_list : List (Code A) → Size → List (List ℕ) → Type 0)
      (lists : List (Code A) → Size → List Bool → List (List ℕ) → Result Compilation (GfxError × List (List ℕ)) → Type 0)
      (may_compile : SegmentJob A → Option (List (List ℕ)) → Type 0)
      (compiles : SegmentJob A → Option (List (List ℕ)) → Result (Compilation × Vec Compilation A) GfxError × SegmentJob A → Type 0)
      (may_draw : TileProgram A → Surface → Type 0)
      (draws : TileProgram A → Surface → Surface → Result (ArrayVec ℕ) GfxError × Compilation → Type 0) : Type 0 where
    pub list_allowed : (cs : List (Code A)) (size : Size) (bins : List (List ℕ)) → MayList cs size bins → may_list cs size bins
    pub listed : (cs : List (Code A)) (size : Size) (results : List Bool) (bins : List (List ℕ)) (made : Result Compilation (GfxError × List (List ℕ))) → lists cs size results bins made → IsListed cs size results made
    pub compile_allowed : (job : SegmentJob A) (bins : Option (List (List ℕ))) → MayCompile job bins → may_compile job bins
    pub compiled : (job : SegmentJob A) (bins : Option (List (List ℕ))) (made : Result (Compilation × Vec Compilation A) GfxError × SegmentJob A) → compiles job bins made → AreMade job made
    pub draw_allowed : (p : TileProgram A) (target : Surface) → MayDraw p target → may_draw p target
    pub drawn : (p : TileProgram A) (old new : Surface) (made : Result (ArrayVec ℕ) GfxError × Compilation) → draws p old new made → IsDrawnBy p old new made
