use Rattle.std.proofs.Common.{◌≡◌, ◌∙◌, ap, sym, arith, ℕ, ◌+◌, ◌≢◌, get_or, length-set}
use Rattle.std.specs.Prelude.{◌==◌, if◌then◌else◌}
use Rattle.std.specs.Int.{bit_at}
use Rattle.std.proofs.lemmas.List.{get_or-set_other}
use Rattle.std.proofs.lemmas.Nat.Bits.{bit_at-zero}
use Rattle.lanes.proofs.Masks.{stored_next}
use Rattle.tileprog.proofs.words.add_counts.Goals as goal

pub loop-k-preserved : goal.loop-k-preserved
loop-k-preserved c =
    let inv = c.loop-k.invariant in
    let k = c.loop-k.k in
    let at = λ (m : ℕ). get_or c.args.counts.now m 0 + (if bit_at c.args.issues m == 1 then c.args.passed else 0) in
    let here = ap (λ n. n + c.share.result) (inv.left k (omega arith)) ∙ ap (λ n. get_or c.args.counts.now k 0 + n) c.share.ensures in
    record {
      long = length-set c.loop-k.counts k _ ∙ inv.long;
      done = stored_next at c.loop-k.counts k _ (omega (arith, inv.long)) here inv.done;
      left = λ m h. let ne : m ≢ k = omega arith in get_or-set_other c.loop-k.counts k m _ 0 ne ∙ inv.left m (omega arith);
    }

pub returns-then-issues-eq0 : goal.returns-then-issues-eq0
returns-then-issues-eq0 c =
    record {
      each = λ k h.
          let closed = ap (λ n. bit_at n k) c.if-issues-eq0.true ∙ bit_at-zero k in
          none (get_or c.args.counts.now k 0) ∙ ap (λ b. get_or c.args.counts.now k 0 + (if b == 1 then c.args.passed else 0)) (sym closed);
    }
  where
    none : (n : ℕ) → n ≡ n + 0
    none n = omega arith
