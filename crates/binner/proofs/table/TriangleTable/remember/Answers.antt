use Rattle.std.proofs.Common.{rules, refl, sym, subst, ap, ◌∙◌, drop}
use Rattle.std.proofs.lemmas.List.Elements.{All-push}
use Rattle.gfxspec.specs.Assembly.{primitives}
use Rattle.assemble.specs.Drawing.{triangles_of}
use Rattle.command.specs.Seen.{state_value}
use Rattle.binner.specs.Setups.{AreSetups}
use Rattle.binner.specs.Remembered.{IsRemembered, AreRemembered}
use Rattle.binner.proofs.Remembering.{remembered_last}
use Rattle.binner.proofs.table.TriangleTable.remember.Goals as goal

pub invariant_of-self-2 : goal.invariant_of-self-2
invariant_of-self-2 g c =
    let s = state_value c.args.state.now in
    let ts = c.self.inside.setups.items in
    let first = c.args.first in
    subst (AreRemembered ts) (sym c.in_ok-push.ensures.items)
    (All-push (IsRemembered ts) c.self.inside.draws.items _ c.self.invariant
    (remembered_last ts _ s (search rules) (search rules) refl refl
    (subst (λ ps. AreSetups s c.args.size ps (drop first ts)) (c.in-Some.ensures ∙ ap (primitives c.args.draw.now.topology) (sym c.in_ok-vertices.ensures.items))
    (subst (λ l. AreSetups s c.args.size (triangles_of c.args.draw.now) (drop first l)) (sym c.self.view_is) c.requires.setups))))
