-- What an engine makes of segments, over what stands in the code.
use Rattle.std.proofs.Common.{◌≡◌, ◌∙◌, sym, subst, arith, ℕ, ◌-◌, ◌≤◌, List, ◌∷◌, length, take_all, Some, None}
use Rattle.std.specs.Prelude.{Option, Result, Ok, IfOk}
use Rattle.std.specs.declared.vec.Vec.{Vec}
use Rattle.gfxspec.specs.declared.error.GfxError.{GfxError}
use Rattle.gfxspec.specs.Commands.{Command}
use Rattle.tileblock.specs.Surface.{Surface}
use Rattle.binner.specs.Compiled.{Compilation}
use Rattle.cmdlist.specs.Drawable.{told}
use Rattle.binner.specs.Segments.{cut_items, AreCompiled}
use Rattle.segmentrun.specs.declared.job.SegmentJob.{SegmentJob}
use Rattle.segmentrun.specs.Running.{running}
use Rattle.immediate.specs.Outputs.{IsOutput}
use Rattle.immediate.specs.Batched.{part}
use Rattle.immediate.specs.Engines.{AreMade}

-- the lists of a job that was compiled
pub made_lists : {A : Type 0} (job : SegmentJob A) (made : Result (Compilation × Vec Compilation A) GfxError × SegmentJob A) → AreMade job made → (first : Compilation) (behind : Vec Compilation A) → made.0 ≡ Ok (first, behind) → AreCompiled job.size (cut_items (told job.results) (running job)) (first ∷ behind.items)
made_lists job made are first behind is = subst (λ r. IfOk r (λ lists. AreCompiled job.size (cut_items (told job.results) (running job)) (lists.0 ∷ lists.1.items))) is are.lists

-- where its bins are taken, none wait
pub taken_bins : (s : Surface) (results : List (Option ℕ)) (bins now : Option (List (List ℕ))) → IsOutput s results bins → now ≡ None → IsOutput s results now
taken_bins s results bins now is none = record { whole = is.whole; many = is.many; empty = λ b e. let bad : None ≡ Some b = sym none ∙ e in absurd (cc) }

-- all segments
pub part_all : (n : ℕ) (segments : List (List Command)) → n ≡ length segments → part 0 n segments ≡ segments
part_all n segments all = let e : length segments ≤ n - 0 = omega arith in take_all (n - 0) segments e
