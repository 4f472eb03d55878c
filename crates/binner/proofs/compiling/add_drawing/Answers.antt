use Rattle.std.proofs.Common.{refl, ap, sym, subst, ℕ, List}
use Rattle.std.proofs.lemmas.Result.{on_ok_weaker}
use Rattle.gfxspec.specs.Items.{Item}
use Rattle.gfxspec.specs.Commands.{ClearColor, ClearDepthStencil}
use Rattle.gfxspec.specs.Recorded.{drawn_items, items_at}
use Rattle.assemble.specs.Drawing.{triangles_of}
use Rattle.command.specs.Seen.{state_value}
use Rattle.cmdlist.specs.Drawn.{drawing_items}
use Rattle.binner.specs.Setups.{IsSetUp}
use Rattle.binner.proofs.Commands.{adds_color, adds_depth, adds_nothing, adds_same}
use Rattle.binner.proofs.compiling.add_drawing.Goals as goal

pub returns-in-Nothing : goal.returns-in-Nothing
returns-in-Nothing g c =
    let s = state_value c.args.state.now in
    let more : List ℕ → List Item = λ opened. drawing_items s opened c.args.drawing in
    record {
      bins = refl;
      drawn = adds_nothing c.args.issues more c.args.compiling.now (λ opened. ap (drawing_items s opened) c.in-Nothing.is) c.requires.sound;
    }

pub add_drawn-requires-clause-range : goal.add_drawn-requires-clause-range
add_drawn-requires-clause-range g c = (subst (IsSetUp (state_value c.args.state.now) c.args.compiling.now.lists.size c.args.parts) c.in-Triangles.is c.requires.ready).0

pub add_drawn-requires-clause-vertices : goal.add_drawn-requires-clause-vertices
add_drawn-requires-clause-vertices g c = (subst (IsSetUp (state_value c.args.state.now) c.args.compiling.now.lists.size c.args.parts) c.in-Triangles.is c.requires.ready).1

pub add_drawn-requires-clause-made : goal.add_drawn-requires-clause-made
add_drawn-requires-clause-made g c = (subst (IsSetUp (state_value c.args.state.now) c.args.compiling.now.lists.size c.args.parts) c.in-Triangles.is c.requires.ready).2

pub returns-in-Triangles : goal.returns-in-Triangles
returns-in-Triangles g c =
    let s = state_value c.args.state.now in
    let more : List ℕ → List Item = λ opened. drawing_items s opened c.args.drawing in
    record {
      bins = c.add_drawn.ensures.bins;
      drawn = on_ok_weaker c.add_drawn.result
          (adds_same (λ opened. drawn_items s opened (triangles_of c.in-Triangles.draw)) more (λ opened. ap (drawing_items s opened) (sym c.in-Triangles.is)))
          c.add_drawn.ensures.drawn;
    }

pub returns-in-ClearColor : goal.returns-in-ClearColor
returns-in-ClearColor g c =
    let s = state_value c.args.state.now in
    let rgba = c.in-ClearColor.rgba in
    let more : List ℕ → List Item = λ opened. drawing_items s opened c.args.drawing in
    let old = c.args.compiling.now in
    let new = c.add_color.new.compiling in
    record {
      bins = c.add_color.ensures.bins;
      drawn = on_ok_weaker c.add_color.result
          (λ h. adds_same (λ opened. items_at s opened (ClearColor rgba)) more (λ opened. ap (drawing_items s opened) (sym c.in-ClearColor.is)) (adds_color old new s c.args.issues c.requires.sound rgba h))
          c.add_color.ensures.added;
    }

pub returns-in-ClearDepthStencil : goal.returns-in-ClearDepthStencil
returns-in-ClearDepthStencil g c =
    let s = state_value c.args.state.now in
    let value = c.in-ClearDepthStencil.value in
    let more : List ℕ → List Item = λ opened. drawing_items s opened c.args.drawing in
    let old = c.args.compiling.now in
    let new = c.add_depth.new.compiling in
    record {
      bins = c.add_depth.ensures.bins;
      drawn = on_ok_weaker c.add_depth.result
          (λ h. adds_same (λ opened. items_at s opened (ClearDepthStencil value.depth value.stencil)) more (λ opened. ap (drawing_items s opened) (sym c.in-ClearDepthStencil.is)) (adds_depth old new s c.args.issues c.requires.sound value h))
          c.add_depth.ensures.added;
    }
