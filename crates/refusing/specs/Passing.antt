-- What a refusing allocator was made of.
use Rattle.std.specs.Prelude.{ℕ}
use Rattle.refusing.specs.declared.Refusing.{Refusing}

-- where growths are passed on to
abbrev pub inner_of : {A : Type 0} → Refusing A → A
inner_of r = r.inner

-- which growth is refused, counted from 1; 0 for none
abbrev pub number_of : {A : Type 0} → Refusing A → ℕ
number_of r = r.gate.refused
