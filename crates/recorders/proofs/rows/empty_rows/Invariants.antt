use Rattle.std.proofs.Common.{◌≡◌, ℕ, [], map}
use Rattle.std.specs.Prelude.{slice_index_or}
use Rattle.recorders.proofs.rows.empty_rows.Given as goal

abbrev pub invariant-loop : goal.invariant-loop
invariant-loop g l = (k : ℕ) → slice_index_or (map (λ v. v.items) l.rows.items) k [] ≡ []
