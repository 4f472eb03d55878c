-- A schedule stays one that events lead to.
use Rattle.std.proofs.Common.{◌≡◌, ℕ, zero, suc, ◌+◌, ◌^◌, ◌<◌, ◌≤◌, cond, eqb, eq-eqb, ne_eqb, List, [], ◌∷◌, length, get_or, replicate, refl, sym, ap, ◌∙◌, subst, arith, length-set, lit<}
use mathlib.Core.Option.{some, some-injective, some-ne-none}
use mathlib.Core.Logic.{dite}
use native.Mathlib.Decide.{ℕ_discrete}
use lib.ListN.{get_elem?, length-replicate}
use Rattle.tilecore.specs.Schedule.{open_tile, with_worker, Hands, nothing, a_tile, Worker, worker, Schedule, Happening, claims, counts, hands_in, Answer, got, none_left, was_counted, was_done, refused, Steps, Log, start, Runs, all_counted, total, counted, amount_of, GrowsBy, IsPossible, IsReached}
use Rattle.tilecore.proofs.Lists.{within}
use Rattle.tilecore.proofs.Runs.{run_sound, Balanced, run_balanced, law_of}

-- a step makes no tile and no worker
pub same_lengths : (s : Schedule) (e : Happening) (a : Answer) (t : Schedule) → Steps s e a t → (length t.tiles ≡ length s.tiles) × (length t.workers ≡ length s.workers)
same_lengths s (claims w) (got n) t x = (ap (λ (q : Schedule). length q.tiles) x.3 ∙ length-set s.tiles n _, ap (λ (q : Schedule). length q.workers) x.3 ∙ length-set s.workers w _)
same_lengths s (claims w) none_left t x = (ap (λ (q : Schedule). length q.tiles) x.3, ap (λ (q : Schedule). length q.workers) x.3)
same_lengths s (claims w) refused t x = (ap (λ (q : Schedule). length q.tiles) x.1, ap (λ (q : Schedule). length q.workers) x.1)
same_lengths s (claims w) was_counted t x = absurd x
same_lengths s (claims w) was_done t x = absurd x
same_lengths s (counts w i k) was_counted t x = (ap (λ (q : Schedule). length q.tiles) x.4, ap (λ (q : Schedule). length q.workers) x.4 ∙ length-set s.workers w _)
same_lengths s (counts w i k) refused t x = (ap (λ (q : Schedule). length q.tiles) x.1, ap (λ (q : Schedule). length q.workers) x.1)
same_lengths s (counts w i k) (got n) t x = absurd x
same_lengths s (counts w i k) none_left t x = absurd x
same_lengths s (counts w i k) was_done t x = absurd x
same_lengths s (hands_in w c) was_done t x = (ap (λ (q : Schedule). length q.tiles) x.2 ∙ length-set s.tiles x.0 _, ap (λ (q : Schedule). length q.workers) x.2 ∙ length-set s.workers w _)
same_lengths s (hands_in w c) refused t x = (ap (λ (q : Schedule). length q.tiles) x.1, ap (λ (q : Schedule). length q.workers) x.1)
same_lengths s (hands_in w c) (got n) t x = absurd x
same_lengths s (hands_in w c) none_left t x = absurd x
same_lengths s (hands_in w c) was_counted t x = absurd x

-- an event that is possible keeps what was counted small
still_small : (s : Schedule) (log : Log) (i : ℕ) (e : Happening) (a : Answer) → all_counted i log ≡ counted s i → counted s i < 2 ^ 64 → IsPossible s e → all_counted i ((e, a) ∷ log) < 2 ^ 64
still_small s log i (counts w j k) was_counted same small p = dite (ℕ_discrete j i)
    (λ q. let c : cond (eqb j i) k 0 ≡ k = ap (λ b. cond b k 0) (eq-eqb j i q) in let r : counted s i + k < 2 ^ 64 = subst (λ (n : ℕ). counted s n + k < 2 ^ 64) q p.2 in omega arith)
    (λ q. let c : cond (eqb j i) k 0 ≡ 0 = ap (λ b. cond b k 0) (ne_eqb j i q) in omega arith)
still_small s log i e a same small p = omega arith

pub reached_after : (s : Schedule) (e : Happening) (a : Answer) (t : Schedule) → IsReached s → IsPossible s e → Steps s e a t → IsReached t
reached_after s e a t h p x = let long = same_lengths s e a t x in
    let before : Balanced h.issues h.log s = run_balanced (length s.tiles) h.issues (length s.workers) h.log s h.runs in
    let runs : Runs (start (length s.tiles) h.issues (length s.workers)) ((e, a) ∷ h.log) t = (s, h.runs, x) in
    let after : Balanced h.issues ((e, a) ∷ h.log) t = run_balanced (length s.tiles) h.issues (length s.workers) ((e, a) ∷ h.log) t runs in record {
      issues = h.issues;
      log = (e, a) ∷ h.log;
      runs = subst (λ (n : ℕ). Runs (start n h.issues (length t.workers)) ((e, a) ∷ h.log) t) (sym long.0) (subst (λ (n : ℕ). Runs (start (length s.tiles) h.issues n) ((e, a) ∷ h.log) t) (sym long.1) runs);
      law = law_of (length s.tiles) h.issues (length s.workers) ((e, a) ∷ h.log) t runs;
      bounded = λ i less. let y : all_counted i ((e, a) ∷ h.log) ≡ counted t i = after.counted i less in let z = still_small s h.log i e a (before.counted i less) (h.bounded i less) p in omega arith;
    }

pub reached_start : (tiles issues workers : ℕ) → IsReached (start tiles issues workers)
reached_start tiles issues workers = let b : Balanced issues [] (start tiles issues workers) = run_balanced tiles issues workers [] (start tiles issues workers) refl in record {
  issues = issues;
  log = [];
  runs = ap (λ (n : ℕ). start n issues workers) (sym (length-replicate tiles open_tile)) ∙ ap (λ (n : ℕ). start (length (replicate tiles open_tile)) issues n) (sym (length-replicate workers (worker nothing (replicate issues 0))));
  law = law_of tiles issues workers [] (start tiles issues workers) refl;
  bounded = λ i less. let y : 0 ≡ counted (start tiles issues workers) i = b.counted i less in let z : 0 < 2 ^ 64 = lit< tt in omega arith;
}

total_at : {A : Type 0} (f : A → ℕ) (xs : List A) (i : ℕ) (a : A) → get_elem? xs i ≡ some a → f a ≤ total f xs
total_at f [] i a e = absurd (some-ne-none a (sym e))
total_at f (x ∷ xs) zero a e = let h : f x ≡ f a = ap f (some-injective x a e) in omega arith
total_at f (x ∷ xs) (suc i) a e = omega (arith, total_at f xs i a e)

module _ (s : Schedule) (h : IsReached s) (w : ℕ) where
  -- a worker's tile is one of the tiles
  pub its_tile : (n : ℕ) (a : List ℕ) → get_elem? s.workers w ≡ some (worker (a_tile n) a) → n < length s.tiles
  its_tile n a e = within s.tiles n (with_worker w) ((run_sound (length s.tiles) h.issues (length s.workers) h.log s h.runs).owns w n a e)

  -- what it added is a count for each issue
  pub its_counts : (n : ℕ) (a : List ℕ) → get_elem? s.workers w ≡ some (worker (a_tile n) a) → length a ≡ length s.sums
  its_counts n a e = let b = run_balanced (length s.tiles) h.issues (length s.workers) h.log s h.runs in b.widths w n a e ∙ sym b.wide

  -- what it added is part of what was counted
  pub its_share : (x : Hands) (a : List ℕ) → get_elem? s.workers w ≡ some (worker x a) → (i : ℕ) → get_or s.sums i 0 + get_or a i 0 ≤ counted s i
  its_share x a e i = let y : get_or a i 0 ≤ total (λ (v : Worker). get_or v.added i 0) s.workers = total_at (λ (v : Worker). get_or v.added i 0) s.workers w (worker x a) e in omega arith

  pub its_share_fits : (n : ℕ) (a : List ℕ) → get_elem? s.workers w ≡ some (worker (a_tile n) a) → (i : ℕ) → i < length s.sums → get_or s.sums i 0 + get_or a i 0 < 2 ^ 64
  its_share_fits n a e i less = let b = run_balanced (length s.tiles) h.issues (length s.workers) h.log s h.runs in let y = its_share (a_tile n) a e i in
      let wide : length s.sums ≡ h.issues = b.wide in let z : counted s i < 2 ^ 64 = h.bounded i (omega arith) in omega arith

no_more : (log : Log) (e : Happening) (a : Answer) (i : ℕ) → all_counted i ((e, a) ∷ log) ≤ all_counted i log + amount_of e i
no_more log (counts w j k) was_counted i = omega arith
no_more log e a i = omega arith

pub grows : (s : Schedule) (e : Happening) (a : Answer) (t : Schedule) → IsReached s → Steps s e a t → GrowsBy e s t
grows s e a t h x = let long = same_lengths s e a t x in
    let before : Balanced h.issues h.log s = run_balanced (length s.tiles) h.issues (length s.workers) h.log s h.runs in
    let after : Balanced h.issues ((e, a) ∷ h.log) t = run_balanced (length s.tiles) h.issues (length s.workers) ((e, a) ∷ h.log) t (s, h.runs, x) in record {
      tiles = long.0;
      workers = long.1;
      issues = after.wide ∙ sym before.wide;
      counts = λ i less. let wide : length s.sums ≡ h.issues = before.wide in let near : i < h.issues = omega arith in
          let y : all_counted i ((e, a) ∷ h.log) ≡ counted t i = after.counted i near in let z : all_counted i h.log ≡ counted s i = before.counted i near in let q = no_more h.log e a i in omega arith;
    }

pub nothing_counted : (tiles issues workers : ℕ) (i : ℕ) → i < issues → counted (start tiles issues workers) i ≡ 0
nothing_counted tiles issues workers i less = sym ((run_balanced tiles issues workers [] (start tiles issues workers) refl).counted i less)
