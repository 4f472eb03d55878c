-- What a pass keeps beside its view, after each step.
use Rattle.std.proofs.Common.{◌≡◌, ◌≢◌, ℕ, zero, suc, ◌+◌, ◌<◌, ◌^◌, List, [], ◌∷◌, ◌++◌, length, set, sym, refl, ap, ◌∙◌, arith, Option}
use Rattle.std.proofs.lemmas.List.{length-append}
use Rattle.port.specs.declared.submission.Submission.{Submission}
use Rattle.port.specs.declared.rule.View.{View}
use Rattle.port.specs.History.{of_port, counts_of}
use Rattle.port.specs.Rule.{drain_view, DrainKeeps}
use Rattle.port.proofs.Lists.{of-last, of-other}

module _ {L : Type 0} where
  one_more : (p : ℕ) (t : List (Submission L)) (x : Submission L) → x.port ≡ p → length (of_port p t) + 1 ≡ length (of_port p (t ++ x ∷ []))
  one_more p t x e = let a = ap length (of-last p t x e) in let b = length-append (of_port p t) (x ∷ []) in omega arith

  as_many : (p : ℕ) (t : List (Submission L)) (x : Submission L) → x.port ≢ p → length (of_port p t) ≡ length (of_port p (t ++ x ∷ []))
  as_many p t x n = ap length (sym (of-other p t x n))

  counted_at : (p : ℕ) (t : List (Submission L)) (x : Submission L) → x.port ≡ p → p < 4 → set (counts_of t) p (length (of_port p t) + 1) ≡ counts_of (t ++ x ∷ [])
  counted_at zero t x e _ = λ i. one_more 0 t x e i ∷ as_many 1 t x (λ q. absurd (omega arith)) i ∷ as_many 2 t x (λ q. absurd (omega arith)) i ∷ as_many 3 t x (λ q. absurd (omega arith)) i ∷ []
  counted_at (suc zero) t x e _ = λ i. as_many 0 t x (λ q. absurd (omega arith)) i ∷ one_more 1 t x e i ∷ as_many 2 t x (λ q. absurd (omega arith)) i ∷ as_many 3 t x (λ q. absurd (omega arith)) i ∷ []
  counted_at (suc (suc zero)) t x e _ = λ i. as_many 0 t x (λ q. absurd (omega arith)) i ∷ as_many 1 t x (λ q. absurd (omega arith)) i ∷ one_more 2 t x e i ∷ as_many 3 t x (λ q. absurd (omega arith)) i ∷ []
  counted_at (suc (suc (suc zero))) t x e _ = λ i. as_many 0 t x (λ q. absurd (omega arith)) i ∷ as_many 1 t x (λ q. absurd (omega arith)) i ∷ as_many 2 t x (λ q. absurd (omega arith)) i ∷ one_more 3 t x e i ∷ []
  counted_at (suc (suc (suc (suc p)))) t x e less = absurd (omega arith)

  -- after a submission was taken out
  pub drain_keeps : {out out' : List (ℕ × Option (Submission L))} {v w : View L} {taken : List ℕ} (x : Submission L) → DrainKeeps out v taken → out' ≡ out
      → (x.port < 4) × (x.number ≡ length (of_port x.port v.taken)) × (x.number < 2 ^ 32) × (w ≡ drain_view (v.taken ++ x ∷ []) v.made v.back) → DrainKeeps out' w (set taken x.port (x.number + 1))
  drain_keeps {v} {w} {taken} x k same told =
      let now : w ≡ drain_view (v.taken ++ x ∷ []) 4 [] = told.3 ∙ (λ i. drain_view (v.taken ++ x ∷ []) ((k.is_drain i).made) ((k.is_drain i).back)) in
      let list = ap (λ (u : View L). u.taken) now in record {
        no_slot = same ∙ k.no_slot;
        is_drain = now ∙ ap (λ t. drain_view t 4 []) (sym list);
        counted = (λ i. set (k.counted i) x.port (told.1 i + 1)) ∙ (counted_at x.port v.taken x refl told.0 ∙ ap counts_of (sym list));
      }
