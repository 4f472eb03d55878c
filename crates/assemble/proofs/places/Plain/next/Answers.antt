use Rattle.std.proofs.Common.{◌∙◌, sym}
use Rattle.assemble.proofs.TurnLaws.{left_short}
use Rattle.assemble.proofs.places.Plain.next.Goals as goal

pub returns-in_default : goal.returns-in_default
returns-in_default c =
    let none = sym c.self.view_is ∙ left_short c.self.inside.order c.self.inside.vertices.now c.in_default.len_below in
    (none, none)
