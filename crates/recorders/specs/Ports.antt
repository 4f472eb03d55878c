-- One for each of the four ports.
use Rattle.std.specs.Prelude.{ℕ, zero, suc, List, [], ◌∷◌}
use Rattle.recorders.specs.declared.ports.ByPort.{ByPort}

module _ {T : Type 0} where
  abbrev pub at_port : ByPort T → ℕ → T
  at_port f zero = f.0
  at_port f (suc zero) = f.1
  at_port f (suc (suc zero)) = f.2
  at_port f (suc (suc (suc p))) = f.3

  -- those of all ports in their order
  abbrev pub in_order : ByPort T → List T
  in_order f = f.0 ∷ f.1 ∷ f.2 ∷ f.3 ∷ []
