use Rattle.std.proofs.Common.{◌∙◌, sym}
use Rattle.logicop.proofs.Steps.{on_write, off_write}
use Rattle.logicop.proofs.color_write.ColorWrite.of_state.Goals as goal
use Rattle.logicop.proofs.color_write.ColorWrite.of_state.Goals.{then-logic, else-logic}

pub returns : goal.returns
returns c =
    let v = c.args.state.now in
    let logic = sym c.logic.ensures in
    record {
      gives = λ d h. c.of.ensures.gives d h ∙ elim c.if-logic.branch [
        | then-logic w ↦ on_write v c.if-logic.op _ c.args.source d (logic ∙ w.if-logic.true) (w.op-is ∙ w.op-op.ensures) c.mask.ensures
        | else-logic w ↦ off_write v c.if-logic.op _ c.args.source d (logic ∙ w.if-logic.false) w.op-is c.mask.ensures
      ];
    }
