-- A tile that is with a worker is in that worker's hands.
use Rattle.std.proofs.Common.{◌≡◌, ◌≢◌, ℕ, zero, suc, ◌+◌, List, [], ◌∷◌, length, set, get_or, replicate, sym, ap, ◌∙◌, subst, ⊎_elim}
use mathlib.Core.Option.{some, some-injective, some-ne-none}
use mathlib.Core.Logic.{dite}
use native.Mathlib.Decide.{ℕ_discrete}
use lib.ListN.{get_elem?}
use Rattle.tilecore.specs.Schedule.{Standing, open_tile, with_worker, done_tile, nothing, a_tile, Worker, worker, Schedule, Happening, claims, counts, hands_in, Answer, got, none_left, was_counted, was_done, refused, Steps, Log, start, Runs}
use Rattle.tilecore.proofs.Lists.{at_set, set_here, set_else, within}

abbrev pub Owned : List Standing → List Worker → Type 0
Owned tiles workers = (n w : ℕ) → get_elem? tiles n ≡ some (with_worker w) → (a : List ℕ) × (get_elem? workers w ≡ some (worker (a_tile n) a))

same_tile : (m n : ℕ) (a b : List ℕ) → ◌≡◌ {A = Worker} (worker (a_tile m) a) (worker (a_tile n) b) → m ≡ n
same_tile m n a b e = let q : a_tile m ≡ a_tile n = ap (λ (x : Worker). x.hands) e in cc

has_a_tile : (n : ℕ) (a b : List ℕ) → ◌≡◌ {A = Worker} (worker nothing a) (worker (a_tile n) b) → ⊥
has_a_tile n a b e = let q : nothing ≡ a_tile n = ap (λ (x : Worker). x.hands) e in absurd (cc)

module _ (tiles : List Standing) (workers : List Worker) (h : Owned tiles workers) (w n : ℕ) (a : List ℕ) where
  got_owned : get_elem? workers w ≡ some (worker nothing a) → Owned (set tiles n (with_worker w)) (set workers w (worker (a_tile n) a))
  got_owned idle m v e = ⊎_elim
      (λ (t : (m ≡ n) × (with_worker w ≡ with_worker v)). let same : w ≡ v = (let q : with_worker w ≡ with_worker v = t.1 in cc) in
      (a, subst (λ (i : ℕ). get_elem? (set workers w (worker (a_tile n) a)) i ≡ some (worker (a_tile m) a)) same (set_here workers w (worker (a_tile n) a) (within workers w (worker nothing a) idle) ∙ ap (λ (i : ℕ). some (worker (a_tile i) a)) (sym t.0))))
      (λ (t : (m ≢ n) × (get_elem? tiles m ≡ some (with_worker v))). let o = h m v t.1 in
      (o.0, set_else workers w v (worker (a_tile n) a) (λ q. has_a_tile m a o.0 (some-injective (worker nothing a) (worker (a_tile m) o.0) (sym idle ∙ (ap (λ (i : ℕ). get_elem? workers i) (sym q) ∙ o.1)))) ∙ o.1))
      (at_set tiles n m (with_worker w) (with_worker v) e)

  count_owned : (b : List ℕ) → get_elem? workers w ≡ some (worker (a_tile n) a) → Owned tiles (set workers w (worker (a_tile n) b))
  count_owned b busy m v e = let o = h m v e in dite (ℕ_discrete v w)
      (λ q. let same : m ≡ n = same_tile m n o.0 a (some-injective (worker (a_tile m) o.0) (worker (a_tile n) a) (sym o.1 ∙ (ap (λ (i : ℕ). get_elem? workers i) q ∙ busy))) in
      (b, ap (λ (i : ℕ). get_elem? (set workers w (worker (a_tile n) b)) i) q ∙ (set_here workers w (worker (a_tile n) b) (within workers w (worker (a_tile n) a) busy) ∙ ap (λ (i : ℕ). some (worker (a_tile i) b)) (sym same))))
      (λ q. (o.0, set_else workers w v (worker (a_tile n) b) q ∙ o.1))

  done_owned : (x : Worker) → get_elem? workers w ≡ some (worker (a_tile n) a) → Owned (set tiles n done_tile) (set workers w x)
  done_owned x busy m v e = ⊎_elim
      (λ (t : (m ≡ n) × (done_tile ≡ with_worker v)). absurd (let q : done_tile ≡ with_worker v = t.1 in cc))
      (λ (t : (m ≢ n) × (get_elem? tiles m ≡ some (with_worker v))). let o = h m v t.1 in
      (o.0, set_else workers w v x (λ q. t.0 (same_tile m n o.0 a (some-injective (worker (a_tile m) o.0) (worker (a_tile n) a) (sym o.1 ∙ (ap (λ (i : ℕ). get_elem? workers i) q ∙ busy))))) ∙ o.1))
      (at_set tiles n m done_tile (with_worker v) e)

step_owned : (s : Schedule) (e : Happening) (a : Answer) (t : Schedule) → Owned s.tiles s.workers → Steps s e a t → Owned t.tiles t.workers
step_owned s (claims w) (got n) t h x = subst (λ (q : Schedule). Owned q.tiles q.workers) (sym x.3) (got_owned s.tiles s.workers h w n x.0 x.1)
step_owned s (claims w) none_left t h x = subst (λ (q : Schedule). Owned q.tiles q.workers) (sym x.3) h
step_owned s (claims w) refused t h x = subst (λ (q : Schedule). Owned q.tiles q.workers) (sym x.1) h
step_owned s (claims w) was_counted t h x = absurd x
step_owned s (claims w) was_done t h x = absurd x
step_owned s (counts w i k) was_counted t h x = subst (λ (q : Schedule). Owned q.tiles q.workers) (sym x.4) (count_owned s.tiles s.workers h w x.0 x.1 (set x.1 i (get_or x.1 i 0 + k)) x.2)
step_owned s (counts w i k) refused t h x = subst (λ (q : Schedule). Owned q.tiles q.workers) (sym x.1) h
step_owned s (counts w i k) (got n) t h x = absurd x
step_owned s (counts w i k) none_left t h x = absurd x
step_owned s (counts w i k) was_done t h x = absurd x
step_owned s (hands_in w c) was_done t h x = subst (λ (q : Schedule). Owned q.tiles q.workers) (sym x.2) (done_owned s.tiles s.workers h w x.0 c (worker nothing (replicate (length s.sums) 0)) x.1)
step_owned s (hands_in w c) refused t h x = subst (λ (q : Schedule). Owned q.tiles q.workers) (sym x.1) h
step_owned s (hands_in w c) (got n) t h x = absurd x
step_owned s (hands_in w c) none_left t h x = absurd x
step_owned s (hands_in w c) was_counted t h x = absurd x

none_with : (tiles n w : ℕ) → get_elem? (replicate tiles open_tile) n ≡ some (with_worker w) → ⊥
none_with zero n w e = some-ne-none (with_worker w) (sym e)
none_with (suc tiles) zero w e = let q : open_tile ≡ with_worker w = some-injective open_tile (with_worker w) e in absurd (cc)
none_with (suc tiles) (suc n) w e = none_with tiles n w e

pub run_owned : (tiles issues workers : ℕ) (log : Log) (s : Schedule) → Runs (start tiles issues workers) log s → Owned s.tiles s.workers
run_owned tiles issues workers [] s e = subst (λ (q : Schedule). Owned q.tiles q.workers) (sym e) (λ n w x. absurd (none_with tiles n w x))
run_owned tiles issues workers (x ∷ log) s r = step_owned r.0 x.0 x.1 s (run_owned tiles issues workers log r.0 r.1) r.2
