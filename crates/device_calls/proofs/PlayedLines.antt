-- Lines that are played by handles.
use Rattle.std.proofs.Common.{◌≡◌, ◌∙◌, ap, sym, subst, ℕ, ◌+◌, false, List, ◌++◌, length, take, Option, Some, refl, inl, inr}
use Rattle.std.specs.Prelude.{◌==◌, MatchBool}
use Rattle.std.proofs.Math.Seq.{take-append_seam}
use Rattle.gfxspec.specs.declared.error.GfxError.{GfxError}
use Rattle.gfxspec.specs.declared.error.GfxError.TheVariants.{OutOfMemory, TargetSize, VertexRange, VertexCount, DrawRange, IndexRange, TopologyUnset, ScissorRect, QueryOpen, QueryNotOpen, QueryNumber, QueryLeftOpen, ListTooLong, TooManyIssues, PixelRange, WorkerCount, NotIssued, Unfinished, PortFull, PredicateInList}
use Rattle.gfxspec.specs.Error.{error_number}
use Rattle.scenetext.specs.declared.fault.Fault.{Fault}
use Rattle.scenetext.specs.declared.fault.Fault.TheVariants as faults
use Rattle.scenetext.specs.declared.fault.ReadError.{ReadError}
use Rattle.scenetext.specs.declared.fault.ReadError.TheVariants as errors
use Rattle.scenetext.specs.Faults.{number_of_fault}
use Rattle.scenetext.specs.Reading.{number_of_error}
use Rattle.immediate.specs.Held.{Held}
use Rattle.recorders.specs.Recording.{Recording}
use Rattle.answers.specs.declared.line.Answer.{Answer}
use Rattle.answers.specs.Lines.{answer_lines}
use Rattle.sessions.specs.Calling.{Contexts}
use Rattle.player.specs.Lines.{contexts_of, PlaysLine, RefusesLine, IsLeft}
use Rattle.device_calls.specs.declared.playing.LineTold.{LineTold}
use Rattle.device_calls.specs.Answers.{ByHandle}
use Rattle.device_calls.specs.Playing.{IsLinePlayed, IsLineRefused, IsPlayed}

-- ---- no number of a fault or a refusal is 0

of_refusal : (e : GfxError) → (error_number e == 0) ≡ false
of_refusal OutOfMemory = refl
of_refusal TargetSize = refl
of_refusal VertexRange = refl
of_refusal VertexCount = refl
of_refusal DrawRange = refl
of_refusal IndexRange = refl
of_refusal TopologyUnset = refl
of_refusal ScissorRect = refl
of_refusal QueryOpen = refl
of_refusal QueryNotOpen = refl
of_refusal QueryNumber = refl
of_refusal QueryLeftOpen = refl
of_refusal ListTooLong = refl
of_refusal TooManyIssues = refl
of_refusal PixelRange = refl
of_refusal WorkerCount = refl
of_refusal NotIssued = refl
of_refusal Unfinished = refl
of_refusal PortFull = refl
of_refusal PredicateInList = refl

of_fault : (f : Fault) → (number_of_fault f == 0) ≡ false
of_fault faults.LineForm = refl
of_fault faults.FirstLine = refl
of_fault faults.Actor = refl
of_fault faults.Command = refl
of_fault faults.ArgumentCount = refl
of_fault faults.Argument = refl
of_fault faults.NoSuchList = refl

of_error : (e : ReadError) → (number_of_error e == 0) ≡ false
of_error errors.Memory = refl
of_error (errors.Fault f) = of_fault f

named : (text : List ℕ) (c : Contexts) (n : ℕ) → RefusesLine text c n → (n == 0) ≡ false
named text c n (inl f) = ap (λ m. m == 0) f.numbered ∙ of_error f.error
named text c n (inr f) = ap (λ m. m == 0) f.numbered ∙ of_refusal f.refusal

-- ---- by the values that the handles hold

pub refused_line : (text : List ℕ) (p q : List Recording) (h k : Held) (told : LineTold) (answer : List ℕ) (n : ℕ) → RefusesLine text (contexts_of p h) n → q ≡ p → IsLeft n h k → IsPlayed text p h q k told answer n
refused_line text p q h k told answer n r same left =
    subst (λ b. MatchBool b (IsLinePlayed text p h q k told answer) (IsLineRefused text p h q k n)) (sym (named text (contexts_of p h) n r)) (record { refused = r; same = same; left = left })

pub played_line : (text : List ℕ) (p q : List Recording) (h k : Held) (tells : List Answer) (rest : List ℕ) (told : LineTold) (answer behind : List ℕ) → PlaysLine text (contexts_of p h) (contexts_of q k) tells rest → told.taken + length rest ≡ length text → told.answer ≡ length (answer_lines tells) → answer ≡ answer_lines tells ++ behind → IsPlayed text p h q k told answer 0
played_line text p q h k tells rest told answer behind plays taken size written = record {
  tells = tells;
  rest = rest;
  plays = plays;
  taken = taken;
  size = size;
  line = ap (λ n. take n answer) size ∙ ap (take (length (answer_lines tells))) written ∙ take-append_seam (answer_lines tells) behind;
}

pub by_both : {P H : Type 0} (a b : Option P) (x y : Option H) (p q : P) (h k : H) (R : P → P → H → H → Type 0) → a ≡ Some p → b ≡ Some q → x ≡ Some h → y ≡ Some k → R p q h k → ByHandle a b (λ p q. ByHandle x y (λ h k. R p q h k))
by_both a b x y p q h k R ea eb ex ey r = rw (ea, eb, ex, ey) r
