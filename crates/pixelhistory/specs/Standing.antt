-- A trace beside a session (this project's own).
use Rattle.std.specs.Prelude.{ℕ, ◌≡◌, ◌+◌, List, length}
use Rattle.gfxspec.specs.declared.geometry.Size.{Size}
use Rattle.gfxspec.specs.Session as session
use Rattle.gfxspec.specs.Session.{Step}
use Rattle.meaning.specs.Standing.{settled}
use Rattle.pixelevents.specs.Origins.{AreNamed, IsOriginOf}
use Rattle.pixelevents.specs.Sessions.{performed_items}
use Rattle.pixelhistory.specs.declared.session.SessionTrace.{SessionTrace}
use Rattle.pixelhistory.specs.Tracing.{IsTraceOf}

-- it went past the items of these steps, and tells where its events come from
pub record TracesAll {A : Type 0} (size : Size) (steps : List Step) (x y : ℕ) (t : SessionTrace A) : Type 0 where
  pub past : IsTraceOf (performed_items size steps) x y t.trace
  pub named : AreNamed (IsOriginOf size steps) t.trace.events.items t.origins.items

-- it went past all that ran of a session; its number is that of the step of the first pending command
pub record Traces {A : Type 0} (size : Size) (steps : List Step) (x y : ℕ) (t : SessionTrace A) : Type 0 where
  pub ran : TracesAll size (settled steps) x y t
  pub first : length steps ≡ t.step + length (session.pending steps)
