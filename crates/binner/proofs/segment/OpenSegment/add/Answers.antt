use Rattle.std.proofs.Common.{sym, subst, List}
use Rattle.gfxspec.specs.Commands.{Command}
use Rattle.std.proofs.lemmas.Result.{IfOk-weaker}
use Rattle.gfxspec.specs.Recorded.{settings_after}
use Rattle.command.specs.Seen.{command_value}
use Rattle.binner.specs.Segments.{CanFollow, IsMore, draw_of}
use Rattle.binner.proofs.segment.OpenSegment.add.Goals as goal

pub add_draw-requires : goal.add_draw-requires
add_draw-requires g c = record { follows = subst (CanFollow (settings_after c.args.self)) c.in-Some.ensures c.requires.follows }

pub returns-in-Some : goal.returns-in-Some
returns-in-Some g c =
    let k = command_value c.args.command.now in
    let d = c.in-Some.draw in
    let fs = c.args.segments.now.items in
    let gs = c.add_draw.new.segments.items in
    IfOk-weaker c.add_draw.result (λ (s : List Command). IsMore (draw_of d.base d.count d.start) fs c.args.self gs s) (λ (s : List Command). IsMore k fs c.args.self gs s)
    (λ s m. subst (λ e. IsMore e fs c.args.self gs s) (sym c.in-Some.ensures) m)
    c.add_draw.ensures

pub returns-in_ok-share-in-None : goal.returns-in_ok-share-in-None
returns-in_ok-share-in-None g c =
    let shared = c.in_ok-share-in-None in
    let k = command_value c.args.command.now in
    let fs = c.args.segments.now.items in
    IfOk-weaker c.push.result (λ (s : List Command). IsMore (command_value shared.field-0) fs c.args.self fs s) (λ (s : List Command). IsMore k fs c.args.self fs s)
    (λ s m. subst (λ d. IsMore d fs c.args.self fs s) shared.ensures m)
    (c.push.ensures fs)
