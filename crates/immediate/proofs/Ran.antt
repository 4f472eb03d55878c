-- What was done with the tiles that a compiled list touches.
use Rattle.std.proofs.Common.{◌≡◌, ◌∙◌, sym, ap, refl, arith, ℕ, ◌<◌, List, [], ◌∷◌, length, get_or, replicate}
use Rattle.std.specs.Prelude.{Bool, true, Result, Ok, Err, OnOk, OnErr, IfOk, IfErr}
use Rattle.std.specs.List.{Contains, sum_by}
use Rattle.arrayvec.specs.ArrayVec.{ArrayVec}
use Rattle.gfxspec.specs.declared.error.GfxError.{GfxError}
use Rattle.gfxspec.specs.declared.error.GfxError.TheVariants.{OutOfMemory}
use Rattle.std.specs.Bool.{◌==◌}
use Rattle.std.proofs.lemmas.Bool.{eqb-true}
use Rattle.std.proofs.lemmas.List.{get_or-replicate, length-replicate}
use Rattle.gfxspec.specs.declared.pixel.Pixel.{Pixel}
use Rattle.tileblock.specs.Surface.{Surface, IsWhole, pixel_of}
use Rattle.binner.specs.Compiled.{Compilation, IsCompilation}
use Rattle.tilerun.specs.Drawn.{IsDrawn, AreCounts}
use Rattle.tileprog.specs.declared.program.TileProgram.{TileProgram}
use Rattle.tileprog.specs.Programs.{ProgramsRan, pixel_by, pixel_by_all, count_by, lists_of, tiles_of}
use Rattle.tileprog.proofs.Touched.{all_pixels, all_counts}
use Rattle.tileprog.proofs.Several.{alone_drawn, alone_counts, all_ran}
use Rattle.immediate.specs.Engines.{IsDrawnBy}

-- the job of the list drew on its tiles and counted over them: all programs ran
pub programs_ran : (c : Compilation) (old new : Surface) (counts : List ℕ) → IsCompilation c → IsDrawn (pixel_by c) c.touched old new → AreCounts (count_by c) c.issues c.touched (pixel_of old) counts → ProgramsRan c old new counts
programs_ran c old new counts sound drawn counted = record {
  size = drawn.size;
  whole = drawn.whole;
  pixels = all_pixels c sound old new drawn;
  many = counted.many;
  counts = all_counts c sound (pixel_of old) counts counted;
}

pub no_length : {A : Type 0} (xs : List A) → length xs ≡ 0 → xs ≡ []
no_length [] e = refl
no_length (x ∷ xs) e = absurd (omega arith)

pub is_none : {A : Type 0} (xs : List A) (n : ℕ) (b : Bool) → n ≡ length xs → b ≡ (n == 0) → b ≡ true → xs ≡ []
is_none xs n b many is holds = no_length xs (sym many ∙ eqb-true n 0 (sym is ∙ holds))

-- where a job draws on no tile, nothing is drawn
pub none_drawn : (drawn : ℕ → ℕ → ℕ → Pixel → Pixel) (tiles : List ℕ) (old : Surface) → IsWhole old → tiles ≡ [] → IsDrawn drawn tiles old old
none_drawn drawn tiles old whole none = record { size = refl; whole = whole; here = λ x y p q there. absurd (nowhere there); elsewhere = λ x y p q out. refl }
  where
    nowhere : {t : ℕ} → Contains tiles t → ⊥
    nowhere there = let l : there.0 < length tiles = there.1 in let e = ap length none in absurd (omega arith)

-- a list that touches no tile
pub nothing_ran : (c : Compilation) (old : Surface) (counts : List ℕ) → IsCompilation c → IsWhole old → c.touched ≡ [] → counts ≡ replicate c.issues 0 → ProgramsRan c old old counts
nothing_ran c old counts sound whole none zeros =
    programs_ran c old old counts sound
    (none_drawn (pixel_by c) c.touched old whole none)
    record {
      many = ap length zeros ∙ length-replicate c.issues 0;
      each = λ i l. ap (λ (xs : List ℕ). get_or xs i 0) zeros ∙ get_or-replicate c.issues i 0 0 l ∙ ap (sum_by (λ t. count_by c t i (pixel_of old))) (sym none);
    }

-- ---- what an engine draws

module _ {A : Type 0} (job : TileProgram A) (old new : Surface) where
  -- a job ran over its tiles, or there was no memory for its board
  pub drawn_over : (counts : Result (ArrayVec ℕ) GfxError) (back : TileProgram A) (first : Compilation) → OnOk counts (IsDrawn (pixel_by_all (lists_of job)) (tiles_of job) old new) → IfOk counts (λ c. AreCounts (count_by job.first) job.first.issues (tiles_of job) (pixel_of old) c.items)
      → OnErr counts (new ≡ old) → IfErr counts (λ e. e ≡ OutOfMemory) → back ≡ job → first ≡ back.first → IsDrawnBy job old new (counts, first)
  drawn_over (Ok counts) back first drawn counted same memory kept is = record {
    ran = all_ran job old new drawn;
    alone = λ c lists tiles sound.
        programs_ran c old new counts.items sound (alone_drawn job c old new lists tiles drawn)
        (alone_counts job c (pixel_of old) counts.items (ap (λ (cs : List Compilation). get_or cs 0 c) lists) tiles counted);
    same = tt;
    memory = tt;
    first = is ∙ ap (λ (p : TileProgram A). p.first) kept;
  }
  drawn_over (Err e) back first drawn counted same memory kept is = record { ran = tt; alone = λ c lists tiles sound. tt; same = same; memory = memory; first = is ∙ ap (λ (p : TileProgram A). p.first) kept }

-- a job that draws on no tile
pub idly_drawn : {A : Type 0} (job : TileProgram A) (old : Surface) (counts : ArrayVec ℕ) (first : Compilation) → IsWhole old → tiles_of job ≡ [] → counts.items ≡ replicate job.first.issues 0 → first ≡ job.first → IsDrawnBy job old old (Ok counts, first)
idly_drawn {A} job old counts first whole none zeros is = record {
  ran = all_ran job old old (none_drawn (pixel_by_all (lists_of job)) (tiles_of job) old whole none);
  alone = λ c lists tiles sound.
      let same : job.first ≡ c = ap (λ (cs : List Compilation). get_or cs 0 c) lists in
      nothing_ran c old counts.items sound whole (sym tiles ∙ none) (zeros ∙ ap (λ (k : Compilation). replicate k.issues 0) same);
  same = tt;
  memory = tt;
  first = is;
}
