use Rattle.std.proofs.Common.{sym, subst, rules, refl}
use Rattle.command.specs.Seen.{command_value}
use Rattle.cmdlist.specs.Recorder.{OnlyLength}
use Rattle.cmdlist.proofs.Recording.{drawing_recorded, pushed}
use Rattle.cmdlist.proofs.context.DeferredContext.append_drawing.Goals as goal

pub invariant_of-self-2 : goal.invariant_of-self-2
invariant_of-self-2 g c =
    let only = subst (λ l. OnlyLength l (command_value c.args.command) c.args.triangles) (sym c.self.view_is) c.requires.only in
    drawing_recorded c.self.inside _ (command_value c.args.command) c.args.triangles c.requires.drawing c.self.invariant only (search rules) (pushed _ _ _ c.in_ok-push.ensures.items) refl refl refl
