-- Each step keeps the rule.
use Rattle.std.proofs.Common.{◌≡◌, ◌≢◌, ℕ, ◌+◌, ◌<◌, ◌≤◌, ◌^◌, true, true≢false, List, [], ◌∷◌, ◌++◌, length, set, sym, refl, ap, ◌∙◌, subst, ⊎_elim, append_assoc, arith, Option, Some, None, get_or}
use mathlib.Core.Option.{some, some-ne-none}
use lib.ListN.{get_elem?}
use lib.Dec.{eqb}
use Rattle.std.proofs.lemmas.Bool.{cases_lt}
use Rattle.std.proofs.lemmas.List.{length-append, get_or_append_left}
use Rattle.std.proofs.Math.Seq.{get_or-append_seam}
use Rattle.crossbeam_queue.proofs.Lists.{at_set}
use Rattle.std.specs.Map.{update}
use Rattle.std.proofs.lemmas.Map.{update_here, update_apart}
use Rattle.crossbeam_queue.specs.Fifo.{Pushes, Pops, Forks, Merges, Learns}
use Rattle.port.specs.declared.submission.Submission.{Submission}
use Rattle.port.specs.declared.rule.View.{View}
use Rattle.port.specs.History.{of_port}
use Rattle.port.specs.Rule.{port_view, drain_view, spent, left_view, right_view, both_views, FitsPort, FitsDrain, Ordered, sends_one, takes_one, Moment, GivenBack}
use Rattle.port.proofs.Lists.{at_each, same_some, none_some, at_new, at_middle, all_set, of-append, of-here, of-last, of-other}

at_most : (k n : ℕ) → k ≢ n → k < n + 1 → k < n
at_most k n apart less = ⊎_elim (λ x. x) (λ over. absurd (apart (omega arith))) (cases_lt k n)

module _ {L : Type 0} where
  alone : (v u : View L) (j : ℕ) → get_elem? (v ∷ []) j ≡ some u → (j ≡ 0) × (v ≡ u)
  alone v u j e = ⊎_elim (λ x. absurd (some-ne-none u (sym x))) (λ x. x) (at_new [] v u j e)

  pub begins : Ordered {L = L} [] (drain_view [] 0 [] ∷ [])
  begins = record {
    drain = 0;
    seat = λ _. None;
    taken = [];
    numbered = λ p i x e. absurd (some-ne-none x (sym e));
    few = λ p. omega arith;
    ports = λ j v e. subst (λ (u : View L). FitsPort (λ _. None) [] j u) (alone _ v j e).1 (λ s. absurd (true≢false (sym s)));
    drains = λ j v e. subst (λ (u : View L). FitsDrain 0 (λ _. None) [] [] j u) (alone _ v j e).1 (λ _. ((alone _ v j e).0, refl, (λ p _. (refl, refl)), λ k less. absurd (omega arith)));
  }

  pub sends : (n pass : ℕ) (v : View L) (x : Submission L) → v.sends ≡ true → x.port ≡ v.port → x.number ≡ length v.put → length v.put < 2 ^ 32 → Pushes Ordered n pass v x (sends_one v x)
  sends n pass v x may port number room items views _ h at =
      let w : View L = port_view v.port (v.put ++ x ∷ []) in
      let mine = h.ports pass v at may in
      let all : List (Submission L) = h.taken ++ items in
      let after : List (Submission L) = h.taken ++ (items ++ x ∷ []) in
      let more : after ≡ all ++ x ∷ [] = sym (append_assoc h.taken items (x ∷ [])) in
      let here : of_port v.port after ≡ v.put ++ x ∷ [] = ap (of_port v.port) more ∙ (of-last v.port all x port ∙ ap (λ l. l ++ x ∷ []) (sym mine.1)) in
      let other : (q : ℕ) → q ≢ v.port → of_port q after ≡ of_port q all = λ q n. ap (of_port q) more ∙ of-other q all x (λ e. n (sym e ∙ port)) in (
        w,
        record {
          drain = h.drain;
          seat = h.seat;
          taken = h.taken;
          numbered = at_each (λ q. (i : ℕ) (y : Submission L) → get_elem? (of_port q after) i ≡ some y → y.number ≡ i) v.port
              (λ i y e. ⊎_elim (λ old. h.numbered v.port i y (ap (λ l. get_elem? l i) (sym mine.1) ∙ old)) (λ new. ap (λ (z : Submission L). z.number) (sym new.1) ∙ (number ∙ sym new.0)) (at_new v.put x y i (ap (λ l. get_elem? l i) (sym here) ∙ e)))
              (λ q n i y e. h.numbered q i y (ap (λ l. get_elem? l i) (sym (other q n)) ∙ e));
          few = at_each (λ q. length (of_port q after) ≤ 2 ^ 32) v.port
              (let l = ap length here in let a = length-append v.put (x ∷ []) in omega arith)
              (λ q n. subst (λ l. length l ≤ 2 ^ 32) (sym (other q n)) (h.few q));
          ports = all_set (FitsPort h.seat after) views pass w (λ _. (mine.0, sym here))
              (λ j u apart e s. let o = h.ports j u e s in (o.0, o.1 ∙ sym (other u.port (λ q. apart (same_some j pass (sym o.0 ∙ (ap h.seat q ∙ mine.0)))))));
          drains = all_set (FitsDrain h.drain h.seat h.taken after) views pass w (λ d. absurd (true≢false (sym d)))
              (λ j u apart e d. let o = h.drains j u e d in (
                o.0,
                o.1,
                (λ p le. let q = o.2 p le in (q.0, other p (λ same. none_some pass (sym q.0 ∙ (ap h.seat same ∙ mine.0))) ∙ q.1)),
                λ k less. let q = o.3 k less in (q.0, q.1 ∙ sym (other k (λ same. none_some pass (sym q.0 ∙ (ap h.seat same ∙ mine.0))))),
              ));
        },
        refl,
      )

  pub takes : (pass : ℕ) (v : View L) → v.drains ≡ true → v.made ≡ 4 → Pops Ordered pass v (takes_one v)
  takes pass v may four x items views h at =
      let w : View L = drain_view (v.taken ++ x ∷ []) v.made v.back in
      let mine = h.drains pass v at may in
      let before : List (Submission L) = h.taken ++ x ∷ items in
      let after : List (Submission L) = (h.taken ++ x ∷ []) ++ items in
      let same : before ≡ after = sym (append_assoc h.taken (x ∷ []) items) in
      let mids : of_port x.port before ≡ of_port x.port h.taken ++ x ∷ of_port x.port items = of-append x.port h.taken (x ∷ items) ∙ ap (λ l. of_port x.port h.taken ++ l) (of-here x.port x items refl) in
      let found : get_elem? (of_port x.port before) (length (of_port x.port h.taken)) ≡ some x = ap (λ l. get_elem? l (length (of_port x.port h.taken))) mids ∙ at_middle (of_port x.port h.taken) x (of_port x.port items) in
      let number : x.number ≡ length (of_port x.port h.taken) = h.numbered x.port _ x found in
      let long : length (of_port x.port before) ≡ length (of_port x.port h.taken) + length (x ∷ of_port x.port items) = ap length mids ∙ length-append (of_port x.port h.taken) (x ∷ of_port x.port items) in
      let few : length (of_port x.port before) ≤ 2 ^ 32 = h.few x.port in (
        w,
        record {
          drain = h.drain;
          seat = h.seat;
          taken = h.taken ++ x ∷ [];
          numbered = subst (λ (a : List (Submission L)). (p i : ℕ) (y : Submission L) → get_elem? (of_port p a) i ≡ some y → y.number ≡ i) same h.numbered;
          few = subst (λ (a : List (Submission L)). (p : ℕ) → length (of_port p a) ≤ 2 ^ 32) same h.few;
          ports = all_set (FitsPort h.seat after) views pass w (λ s. absurd (true≢false (sym s)))
              (λ j u apart e. subst (λ (a : List (Submission L)). FitsPort h.seat a j u) same (h.ports j u e));
          drains = all_set (FitsDrain h.drain h.seat (h.taken ++ x ∷ []) after) views pass w
              (λ _. (
                mine.0,
                ap (λ l. l ++ x ∷ []) mine.1,
                (λ p le. let q = mine.2 p le in (q.0, ap (of_port p) (sym same) ∙ q.1)),
                λ k less. let q = mine.3 k less in (q.0, q.1 ∙ ap (of_port k) same),
              ))
              (λ j u apart e d. absurd (apart ((h.drains j u e d).0 ∙ sym mine.0)));
        },
        (
          ⊎_elim (λ less. less) (λ over. absurd (some-ne-none x (sym (ap (λ l. get_elem? l (length (of_port x.port h.taken))) (sym (mine.2 x.port (omega arith)).1) ∙ found)))) (cases_lt x.port 4),
          number ∙ ap (λ l. length (of_port x.port l)) (sym mine.1),
          omega arith,
          refl,
        ),
      )

  pub forks : (pass : ℕ) (v : View L) → v.drains ≡ true → v.back ≡ [] → Forks Ordered pass v (left_view v) (right_view v)
  forks pass v may none_back items views h at =
      let left : View L = left_view v in
      let right : View L = right_view v in
      let mine = h.drains pass v at may in
      let all : List (Submission L) = h.taken ++ items in
      let vs : List (View L) = set views pass left in
      let seat : ℕ → Option ℕ = update eqb h.seat v.made (Some (length vs)) in
      let fresh = mine.2 v.made (omega arith) in
      let old_ports : (j : ℕ) (u : View L) → get_elem? vs j ≡ some u → FitsPort seat all j u = all_set (FitsPort seat all) views pass left (λ s. absurd (true≢false (sym s)))
      (λ j u apart e s. let o = h.ports j u e s in (update_apart h.seat v.made _ u.port (λ q. none_some j (sym fresh.0 ∙ (ap h.seat (sym q) ∙ o.0))) ∙ o.0, o.1)) in
      let old_drains : (j : ℕ) (u : View L) → get_elem? vs j ≡ some u → FitsDrain h.drain seat h.taken all j u = all_set (FitsDrain h.drain seat h.taken all) views pass left
      (λ _. (
        mine.0,
        mine.1,
        (λ p le. let q = mine.2 p (omega arith) in (update_apart h.seat v.made _ p (λ same. absurd (omega arith)) ∙ q.0, q.1)),
        λ k less. absurd (let n = ap length none_back in omega arith),
      ))
      (λ j u apart e d. absurd (apart ((h.drains j u e d).0 ∙ sym mine.0))) in
      record {
        drain = h.drain;
        seat = seat;
        taken = h.taken;
        numbered = h.numbered;
        few = h.few;
        ports = λ j u e. ⊎_elim (λ old. old_ports j u old)
            (λ new. subst (λ (y : View L). FitsPort seat all j y) new.1 (λ _. (update_here h.seat v.made _ ∙ ap Some (sym new.0), sym fresh.1))) (at_new vs right u j e);
        drains = λ j u e. ⊎_elim (λ old. old_drains j u old)
            (λ new. subst (λ (y : View L). FitsDrain h.drain seat h.taken all j y) new.1 (λ d. absurd (true≢false (sym d)))) (at_new vs right u j e);
      }

  pub merges : (pass : ℕ) (v : View L) (other : ℕ) (w : View L) → v.drains ≡ true → w.sends ≡ true → w.port ≡ length v.back → Merges Ordered pass v other w (both_views v w) spent
  merges pass v other w may theirs_may next items views h at two at' =
      let both : View L = both_views v w in
      let mine = h.drains pass v at may in
      let all : List (Submission L) = h.taken ++ items in
      let vs : List (View L) = set views pass both in
      let was : get_elem? views other ≡ some w = ⊎_elim (λ x. absurd (two x.0)) (λ x. x.1) (at_set views pass other both w at') in
      let theirs = h.ports other w was theirs_may in
      let seat : ℕ → Option ℕ = update eqb h.seat w.port None in
      let freed : (p : ℕ) → h.seat p ≡ None → seat p ≡ None = at_each (λ p. h.seat p ≡ None → seat p ≡ None) w.port (λ _. update_here h.seat w.port None) (λ p n e. update_apart h.seat w.port None p n ∙ e) in
      let now_ports : (j : ℕ) (u : View L) → get_elem? vs j ≡ some u → j ≢ other → FitsPort seat all j u = all_set (λ j u. j ≢ other → FitsPort seat all j u) views pass both (λ _ s. absurd (true≢false (sym s)))
      (λ j u _ e apart s. let o = h.ports j u e s in (update_apart h.seat w.port None u.port (λ q. apart (same_some j other (sym o.0 ∙ (ap h.seat q ∙ theirs.0)))) ∙ o.0, o.1)) in
      let now_drains : (j : ℕ) (u : View L) → get_elem? vs j ≡ some u → FitsDrain h.drain seat h.taken all j u = all_set (FitsDrain h.drain seat h.taken all) views pass both
      (λ _. (
        mine.0,
        mine.1,
        (λ p le. let q = mine.2 p le in (freed p q.0, q.1)),
        at_each (λ k. k < length (v.back ++ w.put ∷ []) → (seat k ≡ None) × (get_or (v.back ++ w.put ∷ []) k [] ≡ of_port k all)) (length v.back)
            (λ _. (
              ap seat (sym next) ∙ update_here h.seat w.port None,
              get_or-append_seam v.back w.put [] [] ∙ (theirs.1 ∙ ap (λ p. of_port p all) next),
            ))
            (λ k n less. let l = length-append v.back (w.put ∷ []) in let under : k < length v.back = at_most k (length v.back) n (omega arith) in let q = mine.3 k under in (freed k q.0, get_or_append_left v.back (w.put ∷ []) [] k under ∙ q.1)),
      ))
      (λ j u apart e d. absurd (apart ((h.drains j u e d).0 ∙ sym mine.0))) in
      record {
        drain = h.drain;
        seat = seat;
        taken = h.taken;
        numbered = h.numbered;
        few = h.few;
        ports = all_set (FitsPort seat all) vs other spent (λ s. absurd (true≢false (sym s))) (λ j u apart e. now_ports j u e apart);
        drains = all_set (FitsDrain h.drain seat h.taken all) vs other spent (λ d. absurd (true≢false (sym d))) (λ j u apart e. now_drains j u e);
      }

  pub looks : (pass : ℕ) (v : View L) → Learns Ordered pass v (Moment v)
  looks pass v items views h at = (pass, views, h, at)

  pub totals : (pass : ℕ) (v : View L) → v.drains ≡ true → Learns Ordered pass v (GivenBack v)
  totals pass v may items views h at k less = let mine = h.drains pass v at may in (mine.3 k less).1 ∙ (of-append k h.taken items ∙ ap (λ l. of_port k l ++ of_port k items) (sym mine.1))
