use Rattle.std.proofs.Common.{rules, sym, subst, ◌-◌}
use Rattle.std.specs.Prelude.{IsTrue}
use Rattle.gfxspec.specs.Assembly.{part, primitives}
use Rattle.command.specs.Seen.{state_value}
use Rattle.binner.specs.Setups.{AreSetups}
use Rattle.binner.specs.Remembered.{IsRemembered, AreRemembered}
use Rattle.binner.proofs.table.TriangleTable.find.Goals as goal

pub returns-clause-setups : goal.returns-clause-setups
returns-clause-setups g c =
    let s = state_value c.args.state.now in
    let d = c.in_ok-earlier.earlier.now in
    let ts = c.self.inside.setups.items in
    let found = c.in_ok-earlier.ensures.lookup.3 in
    let h = subst (IsRemembered ts) (sym (found.1 d)) (subst (AreRemembered ts) (sym c.deref-2.ensures.value) c.self.invariant c.in_ok-place.field-0.now d found.0) in
    let same : IsTrue c.is_of.result = search rules in
    let is = c.is_of.ensures in
    let numbers = part (d.past - d.first) d.first in
    let vertices = c.in_ok-vertices.vertices.now in
    subst (λ ps. AreSetups s c.args.size ps (numbers c.args.self.now)) (sym c.in_ok-vertices.ensures)
    (subst (λ l. AreSetups s c.args.size (primitives c.args.draw.now.topology vertices) (numbers l)) c.self.view_is
    (subst (λ z. AreSetups s z (primitives c.args.draw.now.topology vertices) (numbers ts)) (is.size same)
    (subst (λ t. AreSetups s d.size (primitives t vertices) (numbers ts)) (is.topology same)
    (subst (λ vs. AreSetups s d.size (primitives d.topology vs) (numbers ts)) (is.vertices same)
    (h.set_up s (sym (is.raster same)) (sym (is.scissor same)))))))
