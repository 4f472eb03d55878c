use Rattle.std.proofs.Common.{◌≡◌, suc, ◌+◌, ◌<◌, ◌++◌, ◌∙◌, ℕ, List, ap, set, replicate, drop, length, length-set, arith}
use Rattle.std.proofs.lemmas.List.{append-nil}
use Rattle.tilecore.proofs.Applying.{one_zero, drop_all}
use Rattle.tilecore.proofs.machine.make_zero.Goals as goal

pub loop-i-preserved : goal.loop-i-preserved
loop-i-preserved g c =
    let near : c.loop-i.i < length c.args.counts.now.items = (let a = c.loop-i-test.true in let b = c.len-i-end.ensures in let d = c.args.counts.now.ok.0 in omega arith) in
    record {
      zeros = ap (λ (l : List ℕ). set l c.loop-i.i 0) c.loop-i.invariant.zeros ∙ one_zero c.args.counts.now.items c.loop-i.i near
          ∙ (let e : suc c.loop-i.i ≡ c.loop-i.i + 1 = omega arith in ap (λ (n : ℕ). replicate n 0 ++ drop n c.args.counts.now.items) e);
      long = length-set c.loop-i.counts.items c.loop-i.i _ ∙ c.loop-i.invariant.long;
    }

pub returns : goal.returns
returns g c =
    let done : c.loop-i.i ≡ length c.args.counts.now.items = (let a = c.loop-i-test.false in let x = c.loop-i.auto.i-end in let b = c.len-i-end.ensures in let d = c.args.counts.now.ok.0 in omega arith) in
    c.loop-i.invariant.zeros ∙ ap (λ (l : List ℕ). replicate c.loop-i.i 0 ++ l) (drop_all c.args.counts.now.items c.loop-i.i (omega arith)) ∙ append-nil (replicate c.loop-i.i 0) ∙ ap (λ (n : ℕ). replicate n 0) done
