-- A run with one more worker, who does nothing.
use Rattle.std.proofs.Common.{◌≡◌, ℕ, zero, suc, ◌+◌, ◌<◌, List, [], ◌∷◌, ◌++◌, length, set, get_or, replicate, refl, sym, ap, ◌∙◌, arith}
use mathlib.Core.Option.{some, some-ne-none}
use lib.ListN.{get_elem?}
use Rattle.tilecore.specs.Schedule.{open_tile, with_worker, done_tile, nothing, a_tile, Worker, worker, Schedule, Happening, claims, counts, hands_in, Answer, got, none_left, was_counted, was_done, refused, Steps, Log, start, Runs, sums_with}
use Rattle.tilecore.proofs.Lists.{within}

module _ {A : Type 0} where
  set_longer : (xs ys : List A) (i : ℕ) (z : A) → i < length xs → set (xs ++ ys) i z ≡ set xs i z ++ ys
  set_longer [] ys i z h = absurd (omega arith)
  set_longer (x ∷ xs) ys zero z h = refl
  set_longer (x ∷ xs) ys (suc i) z h = λ k. x ∷ set_longer xs ys i z (omega arith) k

  longer_at : (l m : List A) (i : ℕ) (a : A) → get_elem? l i ≡ some a → get_elem? (l ++ m) i ≡ some a
  longer_at [] m i a e = absurd (some-ne-none a (sym e))
  longer_at (x ∷ xs) m zero a e = e
  longer_at (x ∷ xs) m (suc i) a e = longer_at xs m i a e

  replicate_more : (n : ℕ) (a : A) → replicate n a ++ a ∷ [] ≡ replicate (suc n) a
  replicate_more zero a = refl
  replicate_more (suc n) a = λ k. a ∷ replicate_more n a k

abbrev pub with_one : Worker → Schedule → Schedule
with_one y s = record s { workers = s.workers ++ y ∷ [] }

more_steps : (y : Worker) (s : Schedule) (e : Happening) (a : Answer) (t : Schedule) → Steps s e a t → Steps (with_one y s) e a (with_one y t)
more_steps y s (claims w) (got n) t x = (
  x.0,
  longer_at s.workers (y ∷ []) w (worker nothing x.0) x.1,
  x.2,
  ap (with_one y) x.3 ∙ (λ i. record { tiles = set s.tiles n (with_worker w); workers = sym (set_longer s.workers (y ∷ []) w (worker (a_tile n) x.0) (within s.workers w (worker nothing x.0) x.1)) i; sums = s.sums }),
)
more_steps y s (claims w) none_left t x = (x.0, longer_at s.workers (y ∷ []) w (worker nothing x.0) x.1, x.2, ap (with_one y) x.3)
more_steps y s (claims w) refused t x = ((x.0.0, x.0.1, longer_at s.workers (y ∷ []) w (worker (a_tile x.0.0) x.0.1) x.0.2), ap (with_one y) x.1)
more_steps y s (claims w) was_counted t x = absurd x
more_steps y s (claims w) was_done t x = absurd x
more_steps y s (counts w i k) was_counted t x = let new : Worker = worker (a_tile x.0) (set x.1 i (get_or x.1 i 0 + k)) in (
  x.0,
  x.1,
  longer_at s.workers (y ∷ []) w (worker (a_tile x.0) x.1) x.2,
  x.3,
  ap (with_one y) x.4 ∙ (λ j. record { tiles = s.tiles; workers = sym (set_longer s.workers (y ∷ []) w new (within s.workers w (worker (a_tile x.0) x.1) x.2)) j; sums = s.sums }),
)
more_steps y s (counts w i k) refused t x = ((x.0.0, longer_at s.workers (y ∷ []) w (worker nothing x.0.0) x.0.1), ap (with_one y) x.1)
more_steps y s (counts w i k) (got n) t x = absurd x
more_steps y s (counts w i k) none_left t x = absurd x
more_steps y s (counts w i k) was_done t x = absurd x
more_steps y s (hands_in w c) was_done t x = let new : Worker = worker nothing (replicate (length s.sums) 0) in (
  x.0,
  longer_at s.workers (y ∷ []) w (worker (a_tile x.0) c) x.1,
  ap (with_one y) x.2 ∙ (λ j. record { tiles = set s.tiles x.0 done_tile; workers = sym (set_longer s.workers (y ∷ []) w new (within s.workers w (worker (a_tile x.0) c) x.1)) j; sums = sums_with s.sums c }),
)
more_steps y s (hands_in w c) refused t x = ((x.0.0, x.0.1, longer_at s.workers (y ∷ []) w (worker x.0.0 x.0.1) x.0.2, x.0.3), ap (with_one y) x.1)
more_steps y s (hands_in w c) (got n) t x = absurd x
more_steps y s (hands_in w c) none_left t x = absurd x
more_steps y s (hands_in w c) was_counted t x = absurd x

pub run_more : (tiles issues workers : ℕ) (log : Log) (s : Schedule) → Runs (start tiles issues workers) log s → Runs (start tiles issues (suc workers)) log (with_one (worker nothing (replicate issues 0)) s)
run_more tiles issues workers [] s e = ap (with_one (worker nothing (replicate issues 0))) e ∙ (λ i. record { tiles = replicate tiles open_tile; workers = replicate_more workers (worker nothing (replicate issues 0)) i; sums = replicate issues 0 })
run_more tiles issues workers (x ∷ log) s r = let idle : Worker = worker nothing (replicate issues 0) in
    (with_one idle r.0, run_more tiles issues workers log r.0 r.1, more_steps idle r.0 x.0 x.1 s r.2)
