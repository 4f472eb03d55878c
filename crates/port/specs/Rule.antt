-- The rule of the queue: of each port, what was sent is what was taken out and then what the queue holds of it.
use Rattle.std.specs.Prelude.{◌≡◌, ℕ, ◌+◌, ◌<◌, ◌≤◌, ◌^◌, true, false, List, [], ◌∷◌, ◌++◌, length, Option, Some, None, slice_index_or}
use mathlib.Core.Option.{some}
use lib.ListN.{get_elem?}
use Rattle.port.specs.declared.submission.Submission.{Submission}
use Rattle.port.specs.declared.rule.View.{View}
use Rattle.port.specs.History.{of_port, counts_of}

module _ {L : Type 0} where
  -- ---- what a pass knows

  -- a port's pass knows what it sent
  abbrev pub port_view : ℕ → List (Submission L) → View L
  port_view port put = record { sends = true; port = port; put = put; drains = false; taken = []; made = 0; back = [] }

  -- the drain knows what it took out, how many ports it has made, and what each port sent that gave its pass back
  abbrev pub drain_view : List (Submission L) → ℕ → List (List (Submission L)) → View L
  drain_view taken made back = record { sends = false; port = 0; put = []; drains = true; taken = taken; made = made; back = back }

  abbrev pub spent : View L
  spent = record { sends = false; port = 0; put = []; drains = false; taken = []; made = 0; back = [] }

  -- the drain makes the next port
  abbrev pub left_view : View L → View L
  left_view v = drain_view v.taken (v.made + 1) v.back

  abbrev pub right_view : View L → View L
  right_view v = port_view v.made []

  -- the drain takes a port back
  abbrev pub both_views : View L → View L → View L
  both_views v w = drain_view v.taken v.made (v.back ++ w.put ∷ [])

  -- ---- the rule
  -- seat: which pass each port has; all: what was taken out and then what the queue holds

  -- a port's pass knows what was sent by its port
  abbrev pub FitsPort : (ℕ → Option ℕ) → List (Submission L) → ℕ → View L → Type 0
  FitsPort seat all j v = v.sends ≡ true → (seat v.port ≡ Some j) × (v.put ≡ of_port v.port all)

  -- the one drain knows what was taken out, that ports not yet made sent nothing, and what each port sent that gave its pass back
  abbrev pub FitsDrain : ℕ → (ℕ → Option ℕ) → List (Submission L) → List (Submission L) → ℕ → View L → Type 0
  FitsDrain drain seat taken all j v =
      v.drains ≡ true
      → (j ≡ drain)
      × (v.taken ≡ taken)
      × ((p : ℕ) → v.made ≤ p → (seat p ≡ None) × (of_port p all ≡ []))
      × ((k : ℕ) → k < length v.back → (seat k ≡ None) × (slice_index_or v.back k [] ≡ of_port k all))

  -- the queue holds `items`, and the passes know `views`; each port numbers what it sends from 0
  pub record Ordered (items : List (Submission L)) (views : List (View L)) : Type 0 where
    pub drain : ℕ
    pub seat : ℕ → Option ℕ
    pub taken : List (Submission L)
    pub numbered : (p i : ℕ) (x : Submission L) → get_elem? (of_port p (taken ++ items)) i ≡ some x → x.number ≡ i
    pub few : (p : ℕ) → length (of_port p (taken ++ items)) ≤ 2 ^ 32
    pub ports : (j : ℕ) (v : View L) → get_elem? views j ≡ some v → FitsPort seat (taken ++ items) j v
    pub drains : (j : ℕ) (v : View L) → get_elem? views j ≡ some v → FitsDrain drain seat taken (taken ++ items) j v

  -- ---- what steps tell

  -- a push is one more of what that port sent
  abbrev pub sends_one : View L → Submission L → View L → Type 0
  sends_one v x w = w ≡ port_view v.port (v.put ++ x ∷ [])

  -- a pop is the next of its port
  abbrev pub takes_one : View L → Submission L → View L → Type 0
  takes_one v x w = (x.port < 4) × (x.number ≡ length (of_port x.port v.taken)) × (x.number < 2 ^ 32) × (w ≡ drain_view (v.taken ++ x ∷ []) v.made v.back)

  -- at a moment at which a pass knew v, the queue held these
  abbrev pub Moment : View L → List (Submission L) → Type 0
  Moment v items = (j : ℕ) × (views : List (View L)) × Ordered items views × (get_elem? views j ≡ some v)

  -- of each port that gave its pass back, what was sent is what was taken and then what the queue held
  abbrev pub GivenBack : View L → List (Submission L) → Type 0
  GivenBack v items = (k : ℕ) → k < length v.back → slice_index_or v.back k [] ≡ of_port k v.taken ++ of_port k items

  -- ---- what a pass keeps beside its view: numbers that the program can compare

  pub record PortKeeps (out : List (ℕ × Option (Submission L))) (v : View L) (port sent : ℕ) : Type 0 where
    pub no_slot : out ≡ []
    pub is_port : v ≡ port_view port v.put
    pub counted : length v.put ≡ sent
    pub few : sent ≤ 2 ^ 32
    pub in_range : port < 4

  pub record DrainKeeps (out : List (ℕ × Option (Submission L))) (v : View L) (taken : List ℕ) : Type 0 where
    pub no_slot : out ≡ []
    pub is_drain : v ≡ drain_view v.taken 4 []
    pub counted : taken ≡ counts_of v.taken
