use Rattle.std.proofs.Common.{rules, sym, subst}
use Rattle.gfxspec.specs.Recorded.{drawn_items}
use Rattle.assemble.specs.Drawing.{triangles_of}
use Rattle.command.specs.Seen.{state_value}
use Rattle.binner.specs.Compiling.{Adds}
use Rattle.binner.proofs.compiling.add_known.Goals as goal

pub returns-clause-drawn : goal.returns-clause-drawn
returns-clause-drawn g c =
    let s = state_value c.args.state.now in
    let new = c.add_draw.new.compiling in
    let drawn =
    subst (λ t. Adds c.args.issues (λ opened. drawn_items s opened (triangles_of c.args.draw.now)) c.args.compiling.now (record { lists = new.lists; states = new.states; triangles = t; colors = new.colors; depths = new.depths; current = new.current; drawn = new.drawn }))
    (sym c.remember.ensures.same) c.in_ok-add_draw.ensures.drawn in
    search rules
