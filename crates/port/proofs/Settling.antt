-- What the passes come to once they are all back.
use Rattle.std.proofs.Common.{◌≡◌, ℕ, zero, suc, ◌<◌, Bool, true, false, List, [], ◌∷◌, ◌++◌, length, map, get_or, refl, sym, ap, ◌∙◌, subst, arith, All, Option, Some, None}
use Rattle.std.specs.Prelude.{MatchOption}
use lib.Dec.{eqb}
use Rattle.std.proofs.Math.Seq.{take-append_seam}
use Rattle.std.proofs.lemmas.List.{append-nil, length-map, map-append, get_or-map}
use Rattle.std.proofs.lemmas.List.Elements.{All-nil, All-cons, All-head, All-tail, All-take}
use Rattle.atomic_table.specs.Seated.{TableId}
use Rattle.port.specs.declared.submission.Submission.{Submission}
use Rattle.port.specs.declared.rule.View.{View}
use Rattle.port.specs.History.{of_port, with_if, PortHistory, DrainHistory, port_history, drain_history, counts_of, AreAll, lengths_of, AllTaken}
use Rattle.port.specs.Rule.{drain_view, both_views}
use Rattle.port.proofs.Lists.{of-append, of-here, settled}

module _ {L : Type 0} where
  -- the drain's view after it took a port back
  pub taken_back : (w : View L) {v u : View L} {t : List (Submission L)} {b : List (List (Submission L))} → v ≡ drain_view t 4 b → u ≡ both_views v w → u ≡ drain_view t 4 (b ++ w.put ∷ [])
  taken_back w e f = f ∙ (λ i. both_views (e i) w)

  pub listed : {passes : List (PortHistory L)} {r0 r1 r2 r3 k0 k1 k2 k3 : PortHistory L} → passes ≡ r0 ∷ r1 ∷ r2 ∷ r3 ∷ [] → k0 ≡ r0 → k1 ≡ r1 → k2 ≡ r2 → k3 ≡ r3 → passes ≡ k0 ∷ k1 ∷ k2 ∷ k3 ∷ []
  listed e e0 e1 e2 e3 = e ∙ (λ i. sym e0 i ∷ sym e1 i ∷ sym e2 i ∷ sym e3 i ∷ [])

  module _ {passes : List (PortHistory L)} {t0 t1 t2 t3 : TableId} {n0 n1 n2 n3 : ℕ} {p0 p1 p2 p3 : List (Submission L)}
      (is : passes ≡ port_history t0 n0 p0 ∷ port_history t1 n1 p1 ∷ port_history t2 n2 p2 ∷ port_history t3 n3 p3 ∷ []) {z : TableId} (all : AreAll z passes) where
    pub numbers : n0 ∷ n1 ∷ n2 ∷ n3 ∷ [] ≡ 0 ∷ 1 ∷ 2 ∷ 3 ∷ []
    numbers = sym (ap (map (λ (p : PortHistory L). p.port)) is) ∙ all.0

    queues : All (λ (p : PortHistory L). p.queue ≡ z) (port_history t0 n0 p0 ∷ port_history t1 n1 p1 ∷ port_history t2 n2 p2 ∷ port_history t3 n3 p3 ∷ [])
    queues = subst (All (λ (p : PortHistory L). p.queue ≡ z)) is all.1

    pub queue_2 : t2 ≡ z
    queue_2 = queues 2 (port_history t0 n0 p0) (omega arith)

    pub queue_3 : t3 ≡ z
    queue_3 = queues 3 (port_history t0 n0 p0) (omega arith)

    pub all_taken : {s0 s1 s2 s3 : ℕ} {s : List ℕ} (taken items : List (Submission L)) → ((k : ℕ) → k < 4 → get_or (p0 ∷ p1 ∷ p2 ∷ p3 ∷ []) k [] ≡ of_port k taken ++ of_port k items)
        → length p0 ≡ s0 → length p1 ≡ s1 → length p2 ≡ s2 → length p3 ≡ s3 → s0 ∷ s1 ∷ s2 ∷ s3 ∷ [] ≡ s → s ≡ counts_of taken → AllTaken passes taken
    all_taken taken items known l0 l1 l2 l3 e f = subst (λ ps. AllTaken ps taken) (sym is) four
      where
        counted : (k : ℕ) → get_or (length p0 ∷ length p1 ∷ length p2 ∷ length p3 ∷ []) k 9 ≡ get_or (counts_of taken) k 9
        counted k = ap (λ l. get_or l k 9) ((λ i. l0 i ∷ l1 i ∷ l2 i ∷ l3 i ∷ []) ∙ (e ∙ f))

        each : (k n : ℕ) (put : List (Submission L)) → n ≡ k → put ≡ of_port k taken ++ of_port k items → length put ≡ length (of_port k taken) → of_port n taken ≡ put
        each k n put same g long = ap (λ p. of_port p taken) same ∙ settled k put taken items g long

        four : AllTaken (port_history t0 n0 p0 ∷ port_history t1 n1 p1 ∷ port_history t2 n2 p2 ∷ port_history t3 n3 p3 ∷ []) taken
        four zero d _ = each 0 n0 p0 (ap (λ l. get_or l 0 9) numbers) (known 0 (omega arith)) (counted 0)
        four (suc zero) d _ = each 1 n1 p1 (ap (λ l. get_or l 1 9) numbers) (known 1 (omega arith)) (counted 1)
        four (suc (suc zero)) d _ = each 2 n2 p2 (ap (λ l. get_or l 2 9) numbers) (known 2 (omega arith)) (counted 2)
        four (suc (suc (suc zero))) d _ = each 3 n3 p3 (ap (λ l. get_or l 3 9) numbers) (known 3 (omega arith)) (counted 3)
        four (suc (suc (suc (suc k)))) d less = absurd (omega arith)

    pub all_lengths : {s0 s1 s2 s3 : ℕ} → length p0 ≡ s0 → length p1 ≡ s1 → length p2 ≡ s2 → length p3 ≡ s3 → s0 ∷ s1 ∷ s2 ∷ s3 ∷ [] ≡ lengths_of passes
    all_lengths l0 l1 l2 l3 = (λ i. sym l0 i ∷ sym l1 i ∷ sym l2 i ∷ sym l3 i ∷ []) ∙ sym (ap lengths_of is)

  -- the drain behind one call that takes out
  pub after_next : (X : Type 0) (P Q : Submission L → Type 0) (o : Option (Submission L)) (old new : DrainHistory L) → MatchOption o ((new ≡ old) × X) (λ s. P s × Q s × (new ≡ drain_history old.queue (old.taken ++ s ∷ [])))
      → (new.queue ≡ old.queue) × (rest : List (Submission L)) × (new.taken ≡ old.taken ++ rest)
  after_next X P Q None old new h = (ap (λ (d : DrainHistory L). d.queue) h.0, [], ap (λ (d : DrainHistory L). d.taken) h.0 ∙ sym (append-nil old.taken))
  after_next X P Q (Some s) old new h = (ap (λ (d : DrainHistory L). d.queue) h.2, s ∷ [], ap (λ (d : DrainHistory L). d.taken) h.2)

-- what holds of all lists that were sent holds of those that were taken
module _ {L : Type 0} (P : L → Type 0) where
  abbrev lists : List (Submission L) → List L
  lists xs = map (λ s. s.list) xs

  without : (b : Bool) (x : Submission L) (xs : List (Submission L)) → All P (lists (with_if b x xs)) → All P (lists xs)
  without true x xs h = All-tail P x.list (lists xs) h
  without false x xs h = h

  each : (xs : List (Submission L)) → ((p : ℕ) → p < 4 → All P (lists (of_port p xs))) → All (λ s. s.port < 4 → P s.list) xs
  each [] h = All-nil (λ (s : Submission L). s.port < 4 → P s.list)
  each (x ∷ xs) h =
      All-cons (λ (s : Submission L). s.port < 4 → P s.list) x xs (λ low. All-head P x.list (lists (of_port x.port xs)) (subst (λ ys. All P (lists ys)) (of-here x.port x xs refl) (h x.port low)))
      (each xs (λ p low. without (eqb x.port p) x (of_port p xs) (h p low)))

  numbered : (p : ℕ) → p < 4 → get_or (0 ∷ 1 ∷ 2 ∷ 3 ∷ []) p 0 ≡ p
  numbered zero low = refl
  numbered (suc zero) low = refl
  numbered (suc (suc zero)) low = refl
  numbered (suc (suc (suc zero))) low = refl
  numbered (suc (suc (suc (suc p)))) low = absurd (omega (arith, low))

  pub taken_so : (z : TableId) (passes : List (PortHistory L)) (taken rest : List (Submission L)) → AreAll z passes → AllTaken passes (taken ++ rest) → All (λ (p : PortHistory L). All P (lists p.sent)) passes → All (λ s. s.port < 4 → P s.list) taken
  taken_so z passes taken rest back all so = each taken of_each
    where
      of_each : (p : ℕ) → p < 4 → All P (lists (of_port p taken))
      of_each p low =
          let none : PortHistory L = port_history z 0 [] in
          let four : length passes ≡ 4 = sym (length-map passes (λ (h : PortHistory L). h.port)) ∙ ap length back.0 in
          let inside : p < length passes = omega (arith, low, four) in
          let port_is = sym (get_or-map (λ (h : PortHistory L). h.port) passes p none 0 inside) ∙ ap (λ ns. get_or ns p 0) back.0 ∙ numbered p low in
          let sent = subst (λ xs. All P (lists xs)) (sym (ap (λ n. of_port n (taken ++ rest)) (sym port_is) ∙ all p none inside)) (so p none inside) in
          let front = lists (of_port p taken) in
          let behind = lists (of_port p rest) in
          subst (All P) (take-append_seam front behind)
          (All-take P (length front) (front ++ behind) (subst (All P) (ap lists (of-append p taken rest) ∙ map-append (λ (s : Submission L). s.list) (of_port p taken) (of_port p rest)) sent))
