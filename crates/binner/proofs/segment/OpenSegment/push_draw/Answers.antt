use Rattle.std.proofs.Common.{sym, subst, ap, ◌∙◌, ◌≡◌, ◌++◌, ◌∷◌, [], List}
use Rattle.gfxspec.specs.Commands.{Command}
use Rattle.gfxspec.specs.Recorded.{issues}
use Rattle.command.specs.Seen.{settings_value}
use Rattle.binner.specs.Segments.{IsOpenSegment, IsMore, draw_of}
use Rattle.binner.proofs.Cutting.{pushed, still_open, more_by_push, draw_sets_nothing}
use Rattle.binner.proofs.segment.OpenSegment.push_draw.Goals as goal

pub invariant_of-result : goal.invariant_of-result
invariant_of-result g c =
    let d = c.args.draw in
    let k = draw_of d.base d.count d.start in
    let s = settings_value c.self.inside.settings in
    subst (λ (xs : List Command). IsOpenSegment xs s) (sym (pushed c.self.inside.commands.items c.push.new.self.items c.command.result c.args.self c.self.view_is c.in_ok-push.ensures.items ∙ ap (λ x. c.args.self ++ x ∷ []) c.command.ensures))
    (still_open c.args.self s s k (subst (λ (xs : List Command). IsOpenSegment xs s) c.self.view_is c.self.invariant) c.requires.follows (draw_sets_nothing d.base d.count d.start s))

pub returns : goal.returns
returns g c finished =
    let d = c.args.draw in
    let k = draw_of d.base d.count d.start in
    subst (λ (xs : List Command). IsMore k finished c.args.self finished xs) (sym (pushed c.self.inside.commands.items c.push.new.self.items c.command.result c.args.self c.self.view_is c.in_ok-push.ensures.items ∙ ap (λ x. c.args.self ++ x ∷ []) c.command.ensures))
    (more_by_push finished c.args.self k (subst (λ (xs : List Command). issues xs ≡ []) c.self.view_is c.self.invariant.segment.unissued))
