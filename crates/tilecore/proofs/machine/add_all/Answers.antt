use Rattle.std.proofs.Common.{◌≡◌, suc, ◌+◌, ◌<◌, ◌∙◌, ℕ, List, ap, set, get_or, take, length, length-set, arith}
use Rattle.std.proofs.lemmas.List.{get_or_default}
use Rattle.tilecore.specs.Schedule.{sums_with}
use Rattle.tilecore.proofs.Applying.{one_added, next_added, take_all}
use Rattle.tilecore.proofs.machine.add_all.Goals as goal

pub overflow_add-index_mut : goal.overflow_add-index_mut
overflow_add-index_mut g c =
    let near : c.loop-i.i < length c.args.sums.now.items = (let a = c.loop-i-test.true in let b = c.len-i-end.ensures in let d = c.args.sums.now.ok.0 in omega arith) in
    let same : c.index_mut.result.now ≡ get_or c.loop-i.sums.items c.loop-i.i 0 = c.index_mut.ensures.value ∙ get_or_default c.loop-i.sums.items c.loop-i.i c.index_mut.result.now 0 (let e = c.loop-i.invariant.long in omega arith) in
    let first : get_or c.loop-i.sums.items c.loop-i.i 0 ≡ get_or c.args.sums.now.items c.loop-i.i 0 = ap (λ (l : List ℕ). get_or l c.loop-i.i 0) c.loop-i.invariant.sums ∙ next_added c.args.sums.now.items c.args.counts.now c.loop-i.i near c.requires.long in
    let fits = c.requires.fits c.loop-i.i near in omega arith

pub loop-i-preserved : goal.loop-i-preserved
loop-i-preserved g c =
    let near : c.loop-i.i < length c.args.sums.now.items = (let a = c.loop-i-test.true in let b = c.len-i-end.ensures in let d = c.args.sums.now.ok.0 in omega arith) in
    let same : c.index_mut.result.now ≡ get_or c.loop-i.sums.items c.loop-i.i 0 = c.index_mut.ensures.value ∙ get_or_default c.loop-i.sums.items c.loop-i.i c.index_mut.result.now 0 (let e = c.loop-i.invariant.long in omega arith) in
    record {
      sums = ap (λ (x : ℕ). set c.loop-i.sums.items c.loop-i.i (x + get_or c.args.counts.now c.loop-i.i 0)) same
          ∙ ap (λ (l : List ℕ). set l c.loop-i.i (get_or l c.loop-i.i 0 + get_or c.args.counts.now c.loop-i.i 0)) c.loop-i.invariant.sums
          ∙ one_added c.args.sums.now.items c.args.counts.now c.loop-i.i near c.requires.long
          ∙ (let e : suc c.loop-i.i ≡ c.loop-i.i + 1 = omega arith in ap (λ (n : ℕ). sums_with c.args.sums.now.items (take n c.args.counts.now)) e);
      long = length-set c.loop-i.sums.items c.loop-i.i _ ∙ c.loop-i.invariant.long;
    }

pub returns : goal.returns
returns g c = c.loop-i.invariant.sums ∙ ap (λ (l : List ℕ). sums_with c.args.sums.now.items l)
    (take_all c.args.counts.now c.loop-i.i (let a = c.loop-i-test.false in let b = c.len-i-end.ensures in let d = c.args.sums.now.ok.0 in let e = c.requires.long in omega arith))
