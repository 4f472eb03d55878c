-- What the machine does to its fields, as steps of the schedule.
use Rattle.std.proofs.Common.{◌≡◌, ◌≢◌, ℕ, zero, suc, ◌+◌, ◌<◌, ◌≤◌, Bool, true, false, not, ◌&&◌, eqb, List, [], ◌∷◌, ◌++◌, length, take, drop, set, get_or, map, replicate, refl, sym, ap, ◌∙◌, subst, arith, Option, Some, None, is_some, inl, inr, true≢false, eqb-true, eq-eqb}
use Rattle.std.proofs.lemmas.List.{map-set, get_or_default}
use mathlib.Core.Option.{some, some-injective}
use mathlib.Core.Logic.{dite}
use native.Mathlib.Decide.{ℕ_discrete}
use lib.ListN.{get_elem?}
use lib.Pointwise.{pointwise}
use Rattle.tilecore.specs.declared.machine.Place.{Place}
use Rattle.tilecore.specs.declared.machine.Place.TheVariants.{Open, WithWorker, Finished}
use Rattle.tilecore.specs.declared.machine.Crew.{Crew}
use Rattle.tilecore.specs.Schedule.{open_tile, Hands, nothing, a_tile, Worker, worker, Schedule, claims, counts, hands_in, got, none_left, was_counted, was_done, refused, Steps, sums_with}
use Rattle.tilecore.specs.Meaning.{hands_of, standing_of, worker_of, schedule_of}
use Rattle.tilecore.proofs.Lists.{map_at, length_map}

false≢true : false ≢ true
false≢true e = true≢false (sym e)

pub has_tile : (h : Option ℕ) → is_some h ≡ true → (n : ℕ) × (hands_of h ≡ a_tile n)
has_tile None e = absurd (false≢true e)
has_tile (Some n) e = (n, refl)

pub has_none : (h : Option ℕ) → is_some h ≡ false → hands_of h ≡ nothing
has_none None e = refl
has_none (Some n) e = absurd (true≢false e)

-- a list in which an element was written over itself
set_back : {X : Type 0} (xs : List X) (i : ℕ) (x : X) → x ≡ get_or xs i x → set xs i x ≡ xs
set_back [] i x e = refl
set_back (y ∷ ys) zero x e = λ k. e k ∷ ys
set_back (y ∷ ys) (suc i) x e = λ k. y ∷ set_back ys i x e k

module _ {A : Type 0} (tiles : List Place) (crew : List (Crew A)) (sums : List ℕ) (s : Schedule) (view : schedule_of tiles crew sums ≡ s) (w : ℕ) (c : Crew A) (here : c ≡ get_or crew w c) (near : w < length s.workers) where
  the_worker : get_elem? (map worker_of crew) w ≡ some (worker_of c)
  the_worker = let a : w < length (map worker_of crew) = subst (λ (q : Schedule). w < length q.workers) (sym view) near in
      map_at worker_of crew w c (let b = length_map worker_of crew in omega arith) ∙ ap (λ (x : Crew A). some (worker_of x)) (sym here)

  with_hands : (h : Hands) → hands_of c.holding ≡ h → get_elem? (map worker_of crew) w ≡ some (worker h c.added.items)
  with_hands h e = the_worker ∙ ap (λ (x : Hands). some (worker x c.added.items)) e

  pub the_worker_is : (h : Hands) → hands_of c.holding ≡ h → get_elem? s.workers w ≡ some (worker h c.added.items)
  the_worker_is h e = subst (λ (q : Schedule). get_elem? q.workers w ≡ some (worker h c.added.items)) view (with_hands h e)

  -- another reading of the worker
  pub same_crew : (c' : Crew A) → c' ≡ get_or crew w c' → c' ≡ c
  same_crew c' here' = let a : w < length (map worker_of crew) = subst (λ (q : Schedule). w < length q.workers) (sym view) near in
      here' ∙ get_or_default crew w c' c (let b = length_map worker_of crew in omega arith) ∙ sym here

  abbrev now : Schedule
  now = schedule_of tiles crew sums

  -- the schedule after the worker was lent and given back as it was
  pub written_back : schedule_of tiles (set crew w c) sums ≡ s
  written_back = (λ i. record { tiles = map standing_of tiles; workers = map worker_of (set_back crew w c here i); sums = sums }) ∙ view

  pub claim_refused : (n : ℕ) → hands_of c.holding ≡ a_tile n → Steps s (claims w) refused s
  claim_refused n e = ((n, c.added.items, the_worker_is (a_tile n) e), refl)

  pub claim_missed : hands_of c.holding ≡ nothing → ((n : ℕ) → get_elem? (map standing_of tiles) n ≢ some open_tile) → Steps s (claims w) none_left s
  claim_missed e all = (c.added.items, the_worker_is nothing e, subst (λ (q : Schedule). (n : ℕ) → get_elem? q.tiles n ≢ some open_tile) view all, refl)

  pub claim_hit : (n : ℕ) (c' : Crew A) → hands_of c.holding ≡ nothing → get_elem? (map standing_of tiles) n ≡ some open_tile → worker_of c' ≡ worker (a_tile n) c.added.items
      → Steps s (claims w) (got n) (schedule_of (set tiles n (WithWorker w)) (set crew w c') sums)
  claim_hit n c' e free is = subst (λ (q : Schedule). Steps q (claims w) (got n) (schedule_of (set tiles n (WithWorker w)) (set crew w c') sums)) view (
    c.added.items,
    with_hands nothing e,
    free,
    λ i. record { tiles = map-set standing_of tiles n (WithWorker w) i; workers = (map-set worker_of crew w c' ∙ ap (λ (x : Worker). set (map worker_of crew) w x) is) i; sums = sums },
  )

  pub count_refused : (i k : ℕ) → hands_of c.holding ≡ nothing → Steps s (counts w i k) refused (schedule_of tiles (set crew w c) sums)
  count_refused i k e = ((c.added.items, the_worker_is nothing e), written_back)

  pub count_added : (n i k : ℕ) (c' : Crew A) → hands_of c.holding ≡ a_tile n → i < length s.sums → worker_of c' ≡ worker (a_tile n) (set c.added.items i (get_or c.added.items i 0 + k))
      → Steps s (counts w i k) was_counted (schedule_of tiles (set crew w c') sums)
  count_added n i k c' e less is = subst (λ (q : Schedule). Steps q (counts w i k) was_counted (schedule_of tiles (set crew w c') sums)) view (
    n,
    c.added.items,
    with_hands (a_tile n) e,
    subst (λ (q : Schedule). i < length q.sums) (sym view) less,
    λ j. record { tiles = map standing_of tiles; workers = (map-set worker_of crew w c' ∙ ap (λ (x : Worker). set (map worker_of crew) w x) is) j; sums = sums },
  )

  pub hand_in_refused : (xs : List ℕ) → (hands_of c.holding ≡ nothing) → Steps s (hands_in w xs) refused (schedule_of tiles (set crew w c) sums)
  hand_in_refused xs e = ((nothing, c.added.items, the_worker_is nothing e, inl refl), written_back)

  pub hand_in_differs : (xs : List ℕ) → c.added.items ≢ xs → Steps s (hands_in w xs) refused (schedule_of tiles (set crew w c) sums)
  hand_in_differs xs ne = ((hands_of c.holding, c.added.items, the_worker_is (hands_of c.holding) refl, inr ne), written_back)

  pub hand_in_done : (n : ℕ) (xs : List ℕ) (c' : Crew A) (sums' : List ℕ) → hands_of c.holding ≡ a_tile n → c.added.items ≡ xs → worker_of c' ≡ worker nothing (replicate (length sums) 0) → sums' ≡ sums_with sums xs
      → Steps s (hands_in w xs) was_done (schedule_of (set tiles n Finished) (set crew w c') sums')
  hand_in_done n xs c' sums' e same is added = subst (λ (q : Schedule). Steps q (hands_in w xs) was_done (schedule_of (set tiles n Finished) (set crew w c') sums')) view (
    n,
    with_hands (a_tile n) e ∙ ap (λ (x : List ℕ). some (worker (a_tile n) x)) same,
    λ i. record { tiles = map-set standing_of tiles n Finished i; workers = (map-set worker_of crew w c' ∙ ap (λ (x : Worker). set (map worker_of crew) w x) is) i; sums = added i },
  )

pub same_lists : (xs ys : List ℕ) → pointwise eqb xs ys ≡ true → xs ≡ ys
same_lists [] [] e = refl
same_lists [] (y ∷ ys) e = absurd (false≢true e)
same_lists (x ∷ xs) [] e = absurd (false≢true e)
same_lists (x ∷ xs) (y ∷ ys) e = go (eqb x y) refl (same_lists xs ys)
  where
    go : (b : Bool) → eqb x y ≡ b → (pointwise eqb xs ys ≡ true → xs ≡ ys) → x ∷ xs ≡ y ∷ ys
    go true q more = let t : pointwise eqb xs ys ≡ true = sym (ap (λ (b : Bool). b && pointwise eqb xs ys) q) ∙ e in let r = more t in λ i. eqb-true x y q i ∷ r i
    go false q more = let t : false ≡ true = sym (ap (λ (b : Bool). b && pointwise eqb xs ys) q) ∙ e in absurd (false≢true t)

same_refl : (xs : List ℕ) → pointwise eqb xs xs ≡ true
same_refl [] = refl
same_refl (x ∷ xs) = ap (λ (b : Bool). b && pointwise eqb xs xs) (eq-eqb x x refl) ∙ same_refl xs

pub other_lists : (xs ys : List ℕ) → pointwise eqb xs ys ≡ false → xs ≢ ys
other_lists xs ys e q = true≢false (sym (same_refl xs) ∙ ap (pointwise eqb xs) q ∙ e)

pub from_not : (b : Bool) → true ≡ not b → b ≡ false
from_not true e = absurd (true≢false e)
from_not false e = refl

pub from_not' : (b : Bool) → false ≡ not b → b ≡ true
from_not' true e = refl
from_not' false e = absurd (false≢true e)

pub none_added : (xs : List ℕ) → sums_with xs [] ≡ xs
none_added [] = refl
none_added (x ∷ xs) = refl

-- one more issue is added
pub one_added : (xs ys : List ℕ) (i : ℕ) → i < length xs → length ys ≡ length xs → set (sums_with xs (take i ys)) i (get_or (sums_with xs (take i ys)) i 0 + get_or ys i 0) ≡ sums_with xs (take (suc i) ys)
one_added [] ys i h e = absurd (omega arith)
one_added (x ∷ xs) [] i h e = absurd (omega arith)
one_added (x ∷ xs) (y ∷ ys) zero h e = λ i. (x + y) ∷ sym (none_added xs) i
one_added (x ∷ xs) (y ∷ ys) (suc i) h e = λ k. (x + y) ∷ one_added xs ys i (omega arith) (omega arith) k

pub next_added : (xs ys : List ℕ) (i : ℕ) → i < length xs → length ys ≡ length xs → get_or (sums_with xs (take i ys)) i 0 ≡ get_or xs i 0
next_added [] ys i h e = absurd (omega arith)
next_added (x ∷ xs) [] i h e = absurd (omega arith)
next_added (x ∷ xs) (y ∷ ys) zero h e = refl
next_added (x ∷ xs) (y ∷ ys) (suc i) h e = next_added xs ys i (omega arith) (omega arith)

pub one_zero : (xs : List ℕ) (i : ℕ) → i < length xs → set (replicate i 0 ++ drop i xs) i 0 ≡ replicate (suc i) 0 ++ drop (suc i) xs
one_zero [] i h = absurd (omega arith)
one_zero (x ∷ xs) zero h = refl
one_zero (x ∷ xs) (suc i) h = λ k. 0 ∷ one_zero xs i (omega arith) k

open_place : (p : Place) → standing_of p ≡ open_tile → p ≡ Open
open_place Open e = refl
open_place (WithWorker w) e = absurd (cc)
open_place Finished e = absurd (cc)

-- no tile up to this one is open
pub none_so_far : (tiles : List Place) (i : ℕ) → i < length tiles → ((n : ℕ) → n < i → get_elem? (map standing_of tiles) n ≢ some open_tile) → (get_or tiles i Open ≢ Open) → (n : ℕ) → n < i + 1 → get_elem? (map standing_of tiles) n ≢ some open_tile
none_so_far tiles i near before here n less e = dite (ℕ_discrete n i)
    (λ q. here (open_place (get_or tiles i Open) (some-injective (standing_of (get_or tiles i Open)) open_tile (sym (map_at standing_of tiles i Open near) ∙ (ap (λ (k : ℕ). get_elem? (map standing_of tiles) k) (sym q) ∙ e)))))
    (λ q. before n (omega arith) e)

pub take_all : {X : Type 0} (xs : List X) (i : ℕ) → length xs ≤ i → take i xs ≡ xs
take_all [] zero h = refl
take_all [] (suc i) h = refl
take_all (x ∷ xs) zero h = absurd (omega arith)
take_all (x ∷ xs) (suc i) h = λ k. x ∷ take_all xs i (omega arith) k

pub drop_all : {X : Type 0} (xs : List X) (i : ℕ) → length xs ≤ i → drop i xs ≡ []
drop_all [] zero h = refl
drop_all [] (suc i) h = refl
drop_all (x ∷ xs) zero h = absurd (omega arith)
drop_all (x ∷ xs) (suc i) h = drop_all xs i (omega arith)

pub tile_count : {A : Type 0} (tiles : List Place) (crew : List (Crew A)) (sums : List ℕ) (s : Schedule) → schedule_of tiles crew sums ≡ s → length s.tiles ≡ length tiles
tile_count tiles crew sums s view = sym (ap (λ (q : Schedule). length q.tiles) view) ∙ length_map standing_of tiles
