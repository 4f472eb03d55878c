use Rattle.std.proofs.Common.{true, subst, refl, []}
use Rattle.immediate.specs.Held.{Held, Ran, held_behind}
use Rattle.immediate.proofs.Runs.{list_ran_behind, restored}
use Rattle.immediate.proofs.context.ImmediateContext.run.Goals as goal

pub returns-clause-ok : goal.returns-clause-ok
returns-clause-ok g c =
    let a = c.args.self.now in
    let n = c.run_all.new in
    let m : Held = held_behind n.output n.waiting n.pending in
    let first : Ran [] true a m = subst (λ (h : Held). Ran [] true h m) c.self.view_is c.in_ok-run_all.ensures.ok in
    list_ran_behind c.args.list.now c.args.restore a m c.run.new.self n.waiting c.begin_anew.new.pending c.run.ensures.accepted first c.in_ok-run.ensures.ok refl
    (restored c.args.restore a.pending n.pending c.begin_anew.new.pending first.run.pending c.begin_anew.ensures)
