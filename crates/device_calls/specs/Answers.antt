-- How calls by handles are answered (this project's own): by a number, and what a handle holds before and behind is what the call of a context says.
use Rattle.std.specs.Prelude.{ℕ, slice_index, ◌≡◌, ◌==◌, List, [], ◌∷◌, ◌++◌, find, Option, Some, None, unwrap_or, Result, Ok, Err, if◌then◌else◌}
use Rattle.gfxspec.specs.declared.error.GfxError.{GfxError}
use Rattle.gfxspec.specs.declared.error.GfxError.TheVariants.{OutOfMemory, TargetSize, VertexRange, VertexCount, DrawRange, IndexRange, TopologyUnset, ScissorRect, QueryOpen, QueryNotOpen, QueryNumber, QueryLeftOpen, ListTooLong, TooManyIssues, PixelRange, WorkerCount, NotIssued, Unfinished, PortFull, PredicateInList}
use Rattle.gfxspec.specs.Error.{error_number}
use Rattle.gfxspec.specs.Commands.{Command}
use Rattle.command.specs.Calls.{RecordsCall}
use Rattle.gfxspec.specs.declared.pixel.Pixel.{Pixel}
use Rattle.immediate.specs.Held.{Held, held_more}
use Rattle.device_calls.specs.declared.devices.PixelTold.{PixelTold}

-- the refusal of a number
abbrev pub refusal_of : ℕ → GfxError
refusal_of n =
    unwrap_or
    (find (λ e. error_number e == n)
    (OutOfMemory ∷ TargetSize ∷ VertexRange ∷ VertexCount ∷ DrawRange ∷ IndexRange ∷ TopologyUnset ∷ ScissorRect ∷ QueryOpen ∷ QueryNotOpen ∷ QueryNumber ∷ QueryLeftOpen ∷ ListTooLong ∷ TooManyIssues ∷ PixelRange ∷ WorkerCount ∷ NotIssued ∷ Unfinished ∷ PortFull ∷ []))
    PredicateInList

-- the answer that a number is: 0, or the number of a refusal
abbrev pub answer_of : ℕ → Result (Unit {0}) GfxError
answer_of n = if n == 0 then Ok tt else Err (refusal_of n)

-- what is said of the values that a handle holds before and behind a call, and that it holds one
abbrev pub ByHandle : {S : Type 0} → Option S → Option S → (S → S → Type 0) → Type 0
ByHandle (Some old) (Some new) P = P old new
ByHandle (Some old) None P = ⊥
ByHandle None new P = ⊥

-- a call that records, by the handle of a device; where nothing was described the answer is 32, and nothing is changed
abbrev pub DeviceRecords : Option Held → Option Command → Option Held → ℕ → Type 0
DeviceRecords before (Some c) behind n = ByHandle before behind (λ old new. RecordsCall (λ h. h.pending) held_more old c new (answer_of n))
DeviceRecords before None behind n = (n ≡ 32) × (behind ≡ before)

-- a call that records, by the handle of a deferred context
abbrev pub ContextRecords : Option (List Command) → Option Command → Option (List Command) → ℕ → Type 0
ContextRecords before (Some c) behind n =
    ByHandle before behind (λ old new. RecordsCall (λ commands. commands) (λ commands k. commands ++ k ∷ []) old c new (answer_of n))
ContextRecords before None behind n = (n ≡ 32) × (behind ≡ before)

-- a pixel as it is told
abbrev pub pixel_told : Pixel → PixelTold
pixel_told p =
    record {
      depth = p.ds.depth;
      red = slice_index p.rgba 0;
      green = slice_index p.rgba 1;
      blue = slice_index p.rgba 2;
      alpha = slice_index p.rgba 3;
      stencil = p.ds.stencil;
    }
