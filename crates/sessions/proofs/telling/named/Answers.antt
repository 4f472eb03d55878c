use Rattle.std.proofs.Common.{◌≡◌, ◌∙◌, ◌+◌, ◌<◌, ◌≤◌, ap, sym, arith, length}
use Rattle.std.proofs.lemmas.List.{length-map, length-take-le}
use Rattle.scenetext.specs.Seen.{line_value}
use Rattle.recorders.proofs.Places.{next_place}
use Rattle.sessions.specs.Playing.{own_place}
use Rattle.sessions.proofs.telling.named.Goals as goal

pub slice_bounds-line_behind-end : goal.slice_bounds-line_behind-end
slice_bounds-line_behind-end g c =
    let dealt = c.args.dealt.now in
    let inside : own_place dealt c.args.origin.step < length dealt = (next_place dealt 4 c.args.origin.step c.requires.below).inside in
    let count : length dealt ≡ length c.args.lines.now = ap length c.requires.same ∙ length-map c.args.lines.now line_value in
    let place : c.line-place.result.0 ≡ own_place dealt c.args.origin.step = c.line-place.ensures.place in
    let few : c.line-place.result.0 ≤ length c.args.lines.now = omega (arith, inside, count, place) in
    sym (length-take-le c.line-place.result.0 c.args.lines.now few)

pub returns : goal.returns
returns g c =
    let dealt = c.args.dealt.now in
    let inside : own_place dealt c.args.origin.step < length dealt = (next_place dealt 4 c.args.origin.step c.requires.below).inside in
    let count : length dealt ≡ length c.args.lines.now = ap length c.requires.same ∙ length-map c.args.lines.now line_value in
    let place : c.line-place.result.0 ≡ own_place dealt c.args.origin.step = c.line-place.ensures.place in
    let few : c.line-place.result.0 ≤ length c.args.lines.now = omega (arith, inside, count, place) in
    ap (λ n. record { event = c.args.event; line = n; place = c.args.origin.place })
    (c.line_behind.ensures ∙ ap (λ n. n + 2) (length-take-le c.line-place.result.0 c.args.lines.now few ∙ place))
