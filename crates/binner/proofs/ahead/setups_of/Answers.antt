use Rattle.std.proofs.Common.{sym, subst, refl, map, take, ◌+◌, IsNone}
use Rattle.command.specs.Seen.{state_value}
use Rattle.binner.specs.Meaning.{IsSetupOf}
use Rattle.binner.specs.Setups.{AreSetups, ReachesNothing}
use Rattle.binner.proofs.Slices.{primitive_at, one_dropped, one_made}
use Rattle.binner.proofs.ahead.setups_of.Goals.{in-Some+in_ok-push, in_default}
use Rattle.binner.proofs.ahead.setups_of.Goals as goal

pub loop-tri-preserved : goal.loop-tri-preserved
loop-tri-preserved g c =
    let s = state_value c.args.state.now in
    let i = c.loop-tri.tri-index in
    let d = c.tri-item.result in
    let whole = map primitive_at (take (i + 1) c.args.tris.now) in
    elim c.match-prepared.branch [
      | in-Some+in_ok-push w ↦ subst (λ v. AreSetups s c.args.size whole v.items) (sym w.setups-is)
          (one_made s c.args.size c.args.tris.now i d c.loop-tri.setups.items c.loop-tri-test.true c.loop-tri.invariant w.in-Some.setup w.push.new.self.items
          (subst (λ z. IsSetupOf w.in-Some.setup (primitive_at z) s) c.tri-item.is w.in-Some.ensures.setup) w.in_ok-push.ensures.items)
      | in_default w ↦ subst (λ v. AreSetups s c.args.size whole v.items) (sym w.setups-is)
          (one_dropped s c.args.size c.args.tris.now i d c.loop-tri.setups.items c.loop-tri-test.true c.loop-tri.invariant
          (subst (λ z. ReachesNothing s c.args.size (primitive_at z)) c.tri-item.is (c.prepared.ensures.dropped (subst IsNone (sym w.in_default.is) refl))))
    ]
