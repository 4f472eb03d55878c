use Rattle.std.proofs.Common.{rules, ◌≤◌, ◌<◌, ◌∙◌, ap, sym, subst, arith, length, map}
use Rattle.std.proofs.lemmas.List.{length-map, length-set, get_or-map}
use Rattle.scenetext.specs.Scene.{Line}
use Rattle.scenetext.specs.Seen.{line_value}
use Rattle.recorders.specs.Apart.{a_line}
use Rattle.recorders.specs.Dealing.{taker_of}
use Rattle.recorders.proofs.Places.{dealt_next}
use Rattle.recorders.proofs.dealing.deal.Goals as goal

pub loop-place-preserved : goal.loop-place-preserved
loop-place-preserved g c =
    let lines = c.args.lines.now in
    let i = c.loop-place.place in
    let five = c.loop-place.invariant.five in
    let low : i < length lines = search rules in
    let here = get_or-map line_value lines i c.index-lines-place.result a_line low in
    record {
      five = subst (λ n. 5 ≤ n) (sym (length-set c.loop-place.places.items c.taker_of.result c.push.new.self)) five;
      rows =
          dealt_next (λ v. v.items) c.loop-place.places.items (map line_value lines) i c.taker_of.result c.index_mut.result.now c.push.new.self (omega (arith, five, c.taker_of.ensures.one))
          c.index_mut.ensures.value c.in_ok-push.ensures.items (subst (λ n. i < n) (sym (length-map lines line_value)) low) (ap (λ (l : Line). taker_of l.actor) here ∙ sym c.taker_of.ensures.taker) c.loop-place.invariant.rows;
    }
