-- The history of ports (this project's own; lists that several threads record and one executes: Microsoft Learn, "Introduction to Multithreading in Direct3D 11"): what each port sent and what was taken out, in order. What the queue holds stands in `Rule`.
use Rattle.std.specs.Prelude.{◌≡◌, ℕ, Bool, true, false, List, [], ◌∷◌, length, map, All}
use lib.Dec.{eqb}
use Rattle.atomic_table.specs.Seated.{TableId}
use Rattle.port.specs.declared.submission.Submission.{Submission}

-- ports are known by their queue
pub record PortsOf : Type 0 where
  pub queue : TableId

-- a port's pass: what it sent
pub record PortHistory (L : Type 0) : Type 0 where
  pub queue : TableId
  pub port : ℕ
  pub sent : List (Submission L)

-- the pass that takes out: what it took, of all ports
pub record DrainHistory (L : Type 0) : Type 0 where
  pub queue : TableId
  pub taken : List (Submission L)

abbrev pub ports_of : TableId → PortsOf
ports_of z = record { queue = z }

module _ {L : Type 0} where
  abbrev pub port_history : TableId → ℕ → List (Submission L) → PortHistory L
  port_history z p sent = record { queue = z; port = p; sent = sent }

  abbrev pub drain_history : TableId → List (Submission L) → DrainHistory L
  drain_history z taken = record { queue = z; taken = taken }

  abbrev pub submission : ℕ → ℕ → L → Submission L
  submission port number list = record { port = port; number = number; list = list }

  abbrev pub with_if : Bool → Submission L → List (Submission L) → List (Submission L)
  with_if true x xs = x ∷ xs
  with_if false x xs = xs

  -- those of port p, in order
  abbrev pub of_port : ℕ → List (Submission L) → List (Submission L)
  of_port p [] = []
  of_port p (x ∷ xs) = with_if (eqb x.port p) x (of_port p xs)

  -- how many of each port
  abbrev pub counts_of : List (Submission L) → List ℕ
  counts_of taken = length (of_port 0 taken) ∷ length (of_port 1 taken) ∷ length (of_port 2 taken) ∷ length (of_port 3 taken) ∷ []

  -- the four passes of these ports, each at its number
  abbrev pub AreAll : TableId → List (PortHistory L) → Type 0
  AreAll z passes = (map (λ p. p.port) passes ≡ 0 ∷ 1 ∷ 2 ∷ 3 ∷ []) × All (λ p. p.queue ≡ z) passes

  abbrev pub lengths_of : List (PortHistory L) → List ℕ
  lengths_of passes = map (λ p. length p.sent) passes

  -- of each port, what was taken is what was sent: whole, once and in order
  abbrev pub AllTaken : List (PortHistory L) → List (Submission L) → Type 0
  AllTaken passes taken = All (λ p. of_port p.port taken ≡ p.sent) passes

  -- not as many of each port were taken as were sent
  abbrev pub SomeLeft : List (PortHistory L) → List (Submission L) → Type 0
  SomeLeft passes taken = lengths_of passes ≡ counts_of taken → ⊥
