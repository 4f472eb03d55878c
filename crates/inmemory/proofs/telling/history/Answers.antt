use Rattle.std.proofs.Common.{rules, ◌≡◌, ◌≤◌, ◌<◌, length, refl}
use Rattle.pixelevents.specs.Named.{events_filled}
use Rattle.inmemory.specs.Histories.{whole, few, none}
use Rattle.inmemory.proofs.telling.history.Goals as goal

pub returns-in-Err : goal.returns-in-Err
returns-in-Err g c = none c.in-Err.why c.in-Err.ensures.refused (search rules) refl

pub returns-then-area-len : goal.returns-then-area-len
returns-then-area-len g c =
    let es = c.in-Ok.events in
    let small : length c.args.area.now < length es.items = search rules in
    few es.items c.in-Ok.ensures.history small (search rules) refl

pub returns : goal.returns
returns g c =
    let es = c.in-Ok.events in
    let room : length es.items ≤ length c.args.area.now = search rules in
    let after : c.fill_events.new.area ≡ events_filled c.args.area.now es.items = search rules in
    whole es.items c.in-Ok.ensures.history room (search rules) after
