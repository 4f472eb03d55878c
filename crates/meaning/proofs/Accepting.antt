-- What the commands of a list are, each accepted behind those before it.
use Rattle.std.proofs.Common.{◌≡◌, sym, subst, refl, arith, ℕ, suc, length, Bool, true, false, not, cond, List, [], ◌∷◌, ◌++◌, append_assoc}
use Rattle.std.specs.Prelude.{Some, None, ◌==◌}
use Rattle.std.proofs.lemmas.Bool.Decides.{nat_tests}
use Rattle.std.proofs.lemmas.List.{append-nil}
use Rattle.gfxspec.specs.State.{Settings}
use Rattle.gfxspec.specs.Commands.{Command, SetVertices, SetIndices, SetScissor, SetPredication, Kept}
use Rattle.gfxspec.specs.Recorded.{settings_after}
use Rattle.gfxspec.specs.Refusals.{Row, first_row, list_rows, some_open, flush_rows}
use Rattle.gfxspec.specs.Accepted.{AreSound, IsAccepted, AcceptedBehind, AreAccepted}
use Rattle.meaning.specs.OneMore.{settings_with}
use Rattle.meaning.proofs.Nearest.{settings_after-push}

-- no test of these rows holds
abbrev pub NoneOf : List Row → Type 0
NoneOf [] = Unit {0}
NoneOf (row ∷ rows) = (row.1 ≡ false) × NoneOf rows

pub none_of : (rows : List Row) → first_row rows ≡ None → NoneOf rows
none_of [] h = tt
none_of (row ∷ rows) h = tested row.1 refl h (λ k. none_of rows k)
  where
    tested : (b : Bool) → row.1 ≡ b → cond b (Some row.0) (first_row rows) ≡ None → (first_row rows ≡ None → NoneOf rows) → NoneOf (row ∷ rows)
    tested true e k more = absurd cc
    tested false e k more = (e, more k)

not_false : (b : Bool) → not b ≡ false → b ≡ true
not_false true h = refl
not_false false h = sym h

-- sound settings stay so behind one more accepted command
pub sound_with : (cs : List Command) (c : Command) (s : Settings) → IsAccepted cs c → AreSound s → AreSound (settings_with c s)
sound_with cs (SetVertices vs) s h k =
    let n = none_of (list_rows cs (SetVertices vs)) h in
    record { vertex_count = n.0; in_range = not_false _ n.1.0; index_count = k.index_count; scissor = k.scissor; predicate = k.predicate }
sound_with cs (SetIndices ns) s h k =
    record { vertex_count = k.vertex_count; in_range = k.in_range; index_count = (none_of (list_rows cs (SetIndices ns)) h).0; scissor = k.scissor; predicate = k.predicate }
sound_with cs (SetScissor r) s h k =
    record { vertex_count = k.vertex_count; in_range = k.in_range; index_count = k.index_count; scissor = (none_of (list_rows cs (SetScissor r)) h).0; predicate = k.predicate }
sound_with cs (SetPredication p) s h k =
    record { vertex_count = k.vertex_count; in_range = k.in_range; index_count = k.index_count; scissor = k.scissor; predicate = (none_of (list_rows cs (SetPredication p)) h).0 }
sound_with cs (Kept t) s h k = h.1
sound_with cs c s h k =
    record { vertex_count = k.vertex_count; in_range = k.in_range; index_count = k.index_count; scissor = k.scissor; predicate = k.predicate }

sound_behind : (earlier cs : List Command) → AcceptedBehind earlier cs → AreSound (settings_after earlier) → AreSound (settings_after (earlier ++ cs))
sound_behind earlier [] h k = subst (λ e. AreSound (settings_after e)) (sym (append-nil earlier)) k
sound_behind earlier (c ∷ cs) h k =
    subst (λ e. AreSound (settings_after e)) (append_assoc earlier (c ∷ []) cs)
    (sound_behind (earlier ++ c ∷ []) cs h.1 (subst AreSound (sym (settings_after-push earlier c)) (sound_with earlier c (settings_after earlier) h.0 k)))

-- accepted commands leave sound settings
pub sound_after : (cs : List Command) → AreAccepted cs → AreSound (settings_after cs)
sound_after cs h = sound_behind [] cs h (record { vertex_count = refl; in_range = refl; index_count = refl; scissor = refl; predicate = refl })

-- ---- where no query is open

none_there : (opened : List ℕ) → some_open opened ≡ false → opened ≡ []
none_there [] h = refl
none_there (q ∷ opened) h = absurd (some (length opened) h)
  where
    some : (n : ℕ) → not (suc n == 0) ≡ false → ⊥
    some n e = grind (arith, nat_tests)

-- a call that runs the pending commands isn't refused
pub none_open_at_run : (opened : List ℕ) → first_row (flush_rows opened) ≡ None → opened ≡ []
none_open_at_run opened h = none_there opened (none_of (flush_rows opened) h).0
