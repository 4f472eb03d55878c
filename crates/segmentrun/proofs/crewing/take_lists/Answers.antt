use Rattle.std.proofs.Common.{◌≡◌, ◌∙◌, ◌+◌, ◌∷◌, ◌≤◌, ℕ, List, sym, ap, subst, arith}
use Rattle.binner.specs.Compiled.{Compilation}
use Rattle.binner.specs.Segments.{AreCompiled}
use Rattle.segmentrun.specs.Windows.{joined}
use Rattle.segmentrun.specs.Collected.{AreOfWindows}
use Rattle.segmentrun.proofs.Joining.{one_list, and_next}
use Rattle.segmentrun.proofs.Placing.{is_of_window}
use Rattle.segmentrun.proofs.crewing.take_lists.Goals as goal

pub loop-init : goal.loop-init
loop-init g c =
    let first = c.in_ok-first in
    record {
      next = first.ensures.next.0 ∙ ap (λ (n : ℕ). n + 1) c.requires.first.0;
      same = first.ensures.next.1;
      lists = λ size meant one are is. subst (λ (cs : List Compilation). AreCompiled size (joined meant 1) (one ∷ cs)) (sym c.new-behind.ensures.items) is;
    }

pub loop-preserved : goal.loop-preserved
loop-preserved g c =
    let l = c.loop in
    let i = l.invariant in
    let next = c.in_ok-next_list.ensures.next in
    record {
      next = next.0 ∙ ap (λ (n : ℕ). n + 1) i.next;
      same = next.1 ∙ i.same;
      lists = λ size meant one are is.
          subst (λ (cs : List Compilation). AreCompiled size (joined meant (l.counter + 1)) (one ∷ cs)) (sym c.in_ok-push.ensures.items)
          (and_next size meant l.counter (one ∷ l.behind.items) c.in_ok-next_list.field-0 (i.lists size meant one are is)
          (is_of_window size meant l.finished.results l.finished.next l.counter c.in_ok-next_list.field-0 (subst (AreOfWindows size meant) (sym i.same) are) i.next c.in_ok-next_list.ensures.list));
    }

-- the loop ends behind the last window
ended : (n windows : ℕ) → windows ≤ n → n ≤ windows → n ≡ windows
ended n windows a b = omega arith

pub returns-clause-lists : goal.returns-clause-lists
returns-clause-lists g c = λ size meant are.
    let l = c.loop in
    let first = c.in_ok-first in
    subst (λ (n : ℕ). AreCompiled size (joined meant n) (first.first ∷ l.behind.items)) (ended l.counter c.args.windows c.loop-test.false (l.auto.counter-end c.requires.first.1))
    (l.invariant.lists size meant first.first are
    (one_list size (meant 0) first.first (is_of_window size meant c.args.finished.now.results c.args.finished.now.next 0 first.first are c.requires.first.0 first.ensures.list)))
