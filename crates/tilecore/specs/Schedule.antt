-- The schedule of tiles (this project's own). Each tile is open, with one worker, or done. Each worker has a tile or
-- none, and what it counted for that tile. A worker without a tile claims one; a worker with one counts for it, and
-- hands it in with exactly what it counted. All else is refused, and changes nothing.
use Rattle.std.specs.Prelude.{◌≡◌, ◌≢◌, ◌⊎◌, ℕ, ◌+◌, ◌^◌, ◌<◌, ◌≤◌, ◌==◌, cond, List, [], ◌∷◌, length, slice_index_or, slice_set, replicate}
use mathlib.Core.Option.{some}
use lib.ListN.{get_elem?}

pub data Standing : Type 0 where
  open_tile : Standing
  with_worker : ℕ → Standing
  done_tile : Standing

pub data Hands : Type 0 where
  nothing : Hands
  a_tile : ℕ → Hands

pub record Worker : Type 0 where
  pub hands : Hands
  pub added : List ℕ

pub record Schedule : Type 0 where
  pub tiles : List Standing
  pub workers : List Worker
  -- what was handed in, for each issue
  pub sums : List ℕ

pub data Happening : Type 0 where
  claims : ℕ → Happening
  counts : ℕ → ℕ → ℕ → Happening
  hands_in : ℕ → List ℕ → Happening

pub data Answer : Type 0 where
  got : ℕ → Answer
  none_left : Answer
  was_counted : Answer
  was_done : Answer
  refused : Answer

-- f of each, added up
abbrev pub total : {A : Type 0} → (A → ℕ) → List A → ℕ
total f [] = 0
total f (x ∷ xs) = f x + total f xs

abbrev pub worker : Hands → List ℕ → Worker
worker h a = record { hands = h; added = a }

abbrev pub sums_with : List ℕ → List ℕ → List ℕ
sums_with [] ys = []
sums_with (x ∷ xs) [] = x ∷ xs
sums_with (x ∷ xs) (y ∷ ys) = (x + y) ∷ sums_with xs ys

-- one event, and its answer
abbrev pub Steps : Schedule → Happening → Answer → Schedule → Type 0
Steps s (claims w) (got n) t =
    (a : List ℕ) × (get_elem? s.workers w ≡ some (worker nothing a)) × (get_elem? s.tiles n ≡ some open_tile)
    × (t ≡ record s {
      tiles = slice_set s.tiles n (with_worker w);
      workers = slice_set s.workers w (worker (a_tile n) a);
    })
Steps s (claims w) none_left t =
    (a : List ℕ) × (get_elem? s.workers w ≡ some (worker nothing a))
    × ((n : ℕ) → get_elem? s.tiles n ≢ some open_tile) × (t ≡ s)
Steps s (counts w i k) was_counted t =
    (n : ℕ) × (a : List ℕ) × (get_elem? s.workers w ≡ some (worker (a_tile n) a)) × (i < length s.sums)
    × (t ≡ record s { workers = slice_set s.workers w (worker (a_tile n) (slice_set a i (slice_index_or a i 0 + k))) })
Steps s (hands_in w c) was_done t =
    (n : ℕ) × (get_elem? s.workers w ≡ some (worker (a_tile n) c))
    × (t ≡ record {
      tiles = slice_set s.tiles n done_tile;
      workers = slice_set s.workers w (worker nothing (replicate (length s.sums) 0));
      sums = sums_with s.sums c;
    })
Steps s (claims w) refused t =
    ((n : ℕ) × (a : List ℕ) × (get_elem? s.workers w ≡ some (worker (a_tile n) a))) × (t ≡ s)
Steps s (counts w i k) refused t =
    ((a : List ℕ) × (get_elem? s.workers w ≡ some (worker nothing a))) × (t ≡ s)
Steps s (hands_in w c) refused t =
    ((h : Hands) × (a : List ℕ) × (get_elem? s.workers w ≡ some (worker h a)) × ((h ≡ nothing) ⊎ (a ≢ c))) × (t ≡ s)
Steps s e a t = ⊥

abbrev pub Log : Type 0
Log = List (Happening × Answer)

abbrev pub start : ℕ → ℕ → ℕ → Schedule
start tiles issues workers = record {
  tiles = replicate tiles open_tile;
  workers = replicate workers (worker nothing (replicate issues 0));
  sums = replicate issues 0;
}

-- the log, the newest first, leads there
abbrev pub Runs : Schedule → Log → Schedule → Type 0
Runs s [] t = t ≡ s
Runs s (e ∷ log) t = (m : Schedule) × Runs s log m × Steps m e.0 e.1 t

-- the tile that a worker got last and has not handed in
abbrev pub has : ℕ → Log → Hands
has w [] = nothing
has w ((claims v, got n) ∷ log) = cond (v == w) (a_tile n) (has w log)
has w ((hands_in v c, was_done) ∷ log) = cond (v == w) nothing (has w log)
has w (e ∷ log) = has w log

abbrev pub is_tile : ℕ → Hands → ℕ
is_tile n nothing = 0
is_tile n (a_tile m) = cond (m == n) 1 0

abbrev pub times_claimed : ℕ → Log → ℕ
times_claimed n [] = 0
times_claimed n ((claims v, got m) ∷ log) = is_tile n (a_tile m) + times_claimed n log
times_claimed n (e ∷ log) = times_claimed n log

abbrev pub times_done : ℕ → Log → ℕ
times_done n [] = 0
times_done n ((hands_in v c, was_done) ∷ log) = is_tile n (has v log) + times_done n log
times_done n (e ∷ log) = times_done n log

abbrev pub all_counted : ℕ → Log → ℕ
all_counted i [] = 0
all_counted i ((counts v j k, was_counted) ∷ log) = cond (j == i) k 0 + all_counted i log
all_counted i (e ∷ log) = all_counted i log

abbrev pub all_handed : ℕ → Log → ℕ
all_handed i [] = 0
all_handed i ((hands_in v c, was_done) ∷ log) = slice_index_or c i 0 + all_handed i log
all_handed i (e ∷ log) = all_handed i log

-- what holds of each log that leads from a start to s
pub record Law (issues : ℕ) (log : Log) (s : Schedule) : Type 0 where
  -- no tile is with two workers
  pub one_worker : (n v w : ℕ) (a b : List ℕ) → get_elem? s.workers v ≡ some (worker (a_tile n) a)
      → get_elem? s.workers w ≡ some (worker (a_tile n) b) → v ≡ w
  -- a tile that is with a worker is in that worker's hands, and the reverse
  pub its_worker : (n w : ℕ) → get_elem? s.tiles n ≡ some (with_worker w)
      → (a : List ℕ) × (get_elem? s.workers w ≡ some (worker (a_tile n) a))
  pub its_tile : (n w : ℕ) (a : List ℕ) → get_elem? s.workers w ≡ some (worker (a_tile n) a)
      → get_elem? s.tiles n ≡ some (with_worker w)
  -- none is done unclaimed, and none is claimed, so none is done, twice
  pub once : (n : ℕ) → times_done n log ≤ times_claimed n log
  pub claimed_once : (n : ℕ) → times_claimed n log ≤ 1
  -- where all tiles are done, what was counted was handed in
  pub sums_agree : ((n : ℕ) → n < length s.tiles → get_elem? s.tiles n ≡ some done_tile)
      → (i : ℕ) → i < issues
      → (all_counted i log ≡ all_handed i log) × (slice_index_or s.sums i 0 ≡ all_handed i log)

abbrev pub ScheduleLaw : Type 0
ScheduleLaw = (tiles issues workers : ℕ) (log : Log) (s : Schedule) → Runs (start tiles issues workers) log s
    → Law issues log s

-- what was counted for an issue: what was handed in, and what the workers added for the tiles in their hands
abbrev pub counted : Schedule → ℕ → ℕ
counted s i = slice_index_or s.sums i 0 + total (λ (w : Worker). slice_index_or w.added i 0) s.workers

-- the event names a worker and an issue that there are, and what was counted stays a number of 64 bits
abbrev pub IsPossible : Schedule → Happening → Type 0
IsPossible s (claims w) = w < length s.workers
IsPossible s (counts w i k) = (w < length s.workers) × (i < length s.sums) × (counted s i + k < 2 ^ 64)
IsPossible s (hands_in w c) = w < length s.workers

-- what an event asks to add for an issue
abbrev pub amount_of : Happening → ℕ → ℕ
amount_of (claims w) i = 0
amount_of (counts w j k) i = cond (j == i) k 0
amount_of (hands_in w c) i = 0

-- there are as many tiles, workers and issues as before, and no more was counted than the event asks for
pub record GrowsBy (e : Happening) (s t : Schedule) : Type 0 where
  pub tiles : length t.tiles ≡ length s.tiles
  pub workers : length t.workers ≡ length s.workers
  pub issues : length t.sums ≡ length s.sums
  pub counts : (i : ℕ) → i < length s.sums → counted t i ≤ counted s i + amount_of e i

-- a list of events leads there from a schedule whose tiles are all open, and the law holds of it
pub record IsReached (s : Schedule) : Type 0 where
  pub issues : ℕ
  pub log : Log
  pub runs : Runs (start (length s.tiles) issues (length s.workers)) log s
  pub law : Law issues log s
  pub bounded : (i : ℕ) → i < issues → counted s i < 2 ^ 64
