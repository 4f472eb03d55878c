use Rattle.std.proofs.Common.{rules, ◌+◌, ◌<◌, sym, subst, length, set}
use Rattle.pixelevents.proofs.Filling.{Filled, filled_none, filled_more, filled_all}
use Rattle.pixelevents.proofs.told.fill_events.Goals as goal

pub loop-number-init : goal.loop-number-init
loop-number-init c = filled_none c.args.events.now c.args.area.now

pub loop-number-preserved : goal.loop-number-preserved
loop-number-preserved c =
    let l = c.loop-number in
    let few : l.number < length c.args.events.now = search rules in
    subst (λ v. Filled c.args.events.now (l.number + 1) c.args.area.now (set l.area l.number v)) (sym c.event_told.ensures)
    (filled_more c.args.events.now l.number _ c.args.area.now l.area few c.requires l.invariant)

pub returns : goal.returns
returns c =
    let l = c.loop-number in
    filled_all c.args.events.now l.number c.args.area.now l.area (search rules) l.invariant
