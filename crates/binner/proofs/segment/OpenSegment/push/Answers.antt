use Rattle.std.proofs.Common.{sym, subst, ◌≡◌, [], List}
use Rattle.gfxspec.specs.Commands.{Command}
use Rattle.gfxspec.specs.Recorded.{issues}
use Rattle.command.specs.Seen.{command_value, settings_value}
use Rattle.binner.specs.Segments.{IsOpenSegment, IsMore}
use Rattle.binner.proofs.Cutting.{pushed, still_open, more_by_push}
use Rattle.binner.proofs.segment.OpenSegment.push.Goals as goal

pub invariant_of-result : goal.invariant_of-result
invariant_of-result g c =
    let k = command_value c.args.command in
    let s = settings_value c.self.inside.settings in
    let t = settings_value c.change.new.self in
    subst (λ (xs : List Command). IsOpenSegment xs t) (sym (pushed c.self.inside.commands.items c.push.new.self.items c.args.command c.args.self c.self.view_is c.in_ok-push.ensures.items))
    (still_open c.args.self s t k (subst (λ (xs : List Command). IsOpenSegment xs s) c.self.view_is c.self.invariant) c.requires.follows c.in_ok-change.ensures.ok)

pub returns : goal.returns
returns g c finished =
    let k = command_value c.args.command in
    subst (λ (xs : List Command). IsMore k finished c.args.self finished xs) (sym (pushed c.self.inside.commands.items c.push.new.self.items c.args.command c.args.self c.self.view_is c.in_ok-push.ensures.items))
    (more_by_push finished c.args.self k (subst (λ (xs : List Command). issues xs ≡ []) c.self.view_is c.self.invariant.segment.unissued))
