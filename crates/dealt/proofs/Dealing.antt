-- Each move keeps the rule of the numbers.
use Rattle.std.proofs.Common.{◌≡◌, ◌≢◌, ℕ, zero, suc, ◌+◌, ◌<◌, ◌≤◌, Bool, true, false, if◌then◌else◌, length-append, ◌⊎◌, All, List, [], ◌∷◌, ◌++◌, length, set, sym, refl, ap, ◌∙◌, subst, inl, inr, ⊎_elim, arith, Option, Some, None}
use mathlib.Core.Option.{some, some-injective, some-ne-none}
use lib.ListN.{get_elem?}
use lib.Seq.{take-append_seam, drop-append_seam}
use Rattle.std.proofs.lemmas.List.Elements.{All-append, All-take, All-drop}
use Rattle.crossbeam_deque.specs.Tasks.{Pushes, Takes, Pops, Forks}
use Rattle.crossbeam_deque.proofs.Lists.{at_set, at_snoc}
use Rattle.dealt.specs.declared.rule.Task.{Task}
use Rattle.dealt.specs.Deal.{IsOf, Dealt, deals, takes_out}

left : (P : Task → Type 0) (xs ys : List Task) → All P (xs ++ ys) → All P xs
left P xs ys h = subst (All P) (take-append_seam xs ys) (All-take P (length xs) (xs ++ ys) h)

right : (P : Task → Type 0) (xs ys : List Task) → All P (xs ++ ys) → All P ys
right P xs ys h = subst (All P) (drop-append_seam xs ys) (All-drop P (length xs) (xs ++ ys) h)

only : (a v : Option ℕ) (i : ℕ) → get_elem? (a ∷ []) i ≡ some v → i ≡ 0
only a v zero e = refl
only a v (suc i) e = absurd (some-ne-none v (sym e))

-- what all views are stays so where one becomes the same
views_set : (t : ℕ) (views : List (Option ℕ)) (port : ℕ) (w : Option ℕ) → w ≡ Some t → ((j : ℕ) (v : Option ℕ) → j ≢ port → get_elem? views j ≡ some v → v ≡ Some t) → (j : ℕ) (v : Option ℕ) → get_elem? (set views port w) j ≡ some v → v ≡ Some t
views_set t views port w is others j v e = ⊎_elim (λ (x : (j ≡ port) × (w ≡ v)). sym x.1 ∙ is) (λ (x : (j ≢ port) × (get_elem? views j ≡ some v)). others j v x.0 x.1) (at_set views port j w v e)

pub begins : Dealt [] (None ∷ [])
begins = inl (refl, refl)

single : (P : Task → Type 0) (x : Task) → P x → All P (x ∷ [])
single P x p zero d less = p
single P x p (suc n) d less = absurd (omega arith)

pub dealing : (port : ℕ) (v : Option ℕ) (x : Task) → (v ≡ None) ⊎ (v ≡ Some x.tiles) → x.number < x.tiles → Pushes Dealt port v (x ∷ []) (deals v (x ∷ []))
dealing port v x known small items views h at = (
  Some x.tiles,
  ⊎_elim
      (λ (a : (items ≡ []) × (views ≡ None ∷ [])). let zero_port : port ≡ 0 = only None v port (subst (λ vs. get_elem? vs port ≡ some v) a.1 at) in
      inr (
        x.tiles,
        subst (λ xs. All (IsOf x.tiles) (xs ++ x ∷ [])) (sym a.0) (single (IsOf x.tiles) x (refl, small)),
        views_set x.tiles views port (Some x.tiles) refl (λ j u ne e. absurd (ne (only None u j (subst (λ vs. get_elem? vs j ≡ some u) a.1 e) ∙ sym zero_port))),
      ))
      (λ (b : (t : ℕ) × All (IsOf t) items × ((p : ℕ) (u : Option ℕ) → get_elem? views p ≡ some u → u ≡ Some t)).
      let same : x.tiles ≡ b.0 = ⊎_elim (λ (n : v ≡ None). let q : None ≡ Some b.0 = sym n ∙ b.2 port v at in absurd (cc)) (λ (n : v ≡ Some x.tiles). let q : Some x.tiles ≡ Some b.0 = sym n ∙ b.2 port v at in cc) known in
      inr (b.0, All-append (IsOf b.0) items (x ∷ []) b.1 (single (IsOf b.0) x (same, (let s : x.number < x.tiles = small in omega arith))), views_set b.0 views port (Some x.tiles) (ap Some same) (λ j u ne e. b.2 j u e)))
      h,
  refl,
)

abbrev Known : List Task → List (Option ℕ) → Type 0
Known items views = (t : ℕ) × All (IsOf t) items × ((p : ℕ) (u : Option ℕ) → get_elem? views p ≡ some u → u ≡ Some t)

-- where a pass knows the number of tiles, all do
known : (items : List Task) (views : List (Option ℕ)) (port t : ℕ) (v : Option ℕ) → v ≡ Some t → Dealt items views → get_elem? views port ≡ some v → Known items views
known items views port t v is h at = ⊎_elim
    (λ (a : (items ≡ []) × (views ≡ None ∷ [])). let e : get_elem? (None ∷ []) port ≡ some v = subst (λ vs. get_elem? vs port ≡ some v) a.1 at in
    let z : port ≡ 0 = only None v port e in let q : None ≡ v = some-injective None v (subst (λ i. get_elem? (None ∷ []) i ≡ some v) z e) in let r : None ≡ Some t = q ∙ is in absurd (cc))
    (λ (b : Known items views). b) h

pub pops : (port t : ℕ) (v : Option ℕ) → v ≡ Some t → Pops Dealt port v (takes_out v)
pops port t v is x items views h at = let b = known (items ++ x ∷ []) views port t v is h at in let mine = right (IsOf b.0) items (x ∷ []) b.1 0 x (omega arith) in (
  v,
  inr (b.0, left (IsOf b.0) items (x ∷ []) b.1, views_set b.0 views port v (b.2 port v at) (λ j u ne e. b.2 j u e)),
  (refl, b.2 port v at ∙ ap Some (sym mine.0), (let a : x.tiles ≡ b.0 = mine.0 in let c : x.number < b.0 = mine.1 in omega arith)),
)

pub takes : (port t : ℕ) (v : Option ℕ) → v ≡ Some t → Takes Dealt port v 1 (takes_out v)
takes port t v is [] items views some_one few h at = absurd (omega arith)
takes port t v is (x ∷ xs) items views some_one few h at = let b = known (x ∷ xs ++ items) views port t v is h at in let mine = b.1 0 x (omega arith) in (
  v,
  inr (b.0, right (IsOf b.0) (x ∷ xs) items b.1, views_set b.0 views port v (b.2 port v at) (λ j u ne e. b.2 j u e)),
  (refl, b.2 port v at ∙ ap Some (sym mine.0), (let a : x.tiles ≡ b.0 = mine.0 in let c : x.number < b.0 = mine.1 in omega arith)),
)

pub forks : (port t : ℕ) (v : Option ℕ) → v ≡ Some t → Forks Dealt port v v v
forks port t v is items views h at = let b = known items views port t v is h at in let mine = b.2 port v at in
    inr (b.0, b.1, λ j u e. ⊎_elim (λ (x : get_elem? (set views port v) j ≡ some u). views_set b.0 views port v mine (λ i w ne q. b.2 i w q) j u x) (λ (x : v ≡ u). sym x ∙ mine) (at_snoc (set views port v) v u j e))

-- a list to which one more came, or none
pub added : (xs ys : List ℕ) (x t : ℕ) (b : Bool) → ys ≡ (if b then xs ++ x ∷ [] else xs) → All (λ y. y ≡ t) xs → x ≡ t → All (λ y. y ≡ t) ys × (length ys ≤ length xs + 1)
added xs ys x t true e h is = (subst (All (λ y. y ≡ t)) (sym e) (All-append (λ y. y ≡ t) xs (x ∷ []) h (one is)), (let a : length ys ≡ length xs + 1 = ap length e ∙ length-append xs (x ∷ []) in omega arith))
  where
    one : x ≡ t → All (λ y. y ≡ t) (x ∷ [])
    one p zero d less = p
    one p (suc n) d less = absurd (omega arith)
added xs ys x t false e h is = (subst (All (λ y. y ≡ t)) (sym e) h, (let a : length ys ≡ length xs = ap length e in omega arith))
