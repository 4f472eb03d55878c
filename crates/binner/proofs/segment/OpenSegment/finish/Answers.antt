use Rattle.std.proofs.Common.{rules, ◌≡◌, ◌∷◌, [], map}
use Rattle.gfxspec.specs.Commands.{Kept}
use Rattle.command.specs.Seen.{command_value, settings_value}
use Rattle.binner.proofs.Cutting.{same_behind}
use Rattle.binner.proofs.segment.OpenSegment.finish.Goals as goal

pub returns : goal.returns
returns g c =
    let s = settings_value c.self.inside.settings in
    let is : map command_value c.push-2.new.self.items ≡ Kept s ∷ [] = search rules in
    same_behind c.args.segments.now.items c.push.new.self.items c.args.self (map command_value c.self.inside.commands.items) (map command_value c.push-2.new.self.items) s c.self.view_is c.self.invariant.state c.in_ok-push.ensures.items is
