use Rattle.std.proofs.Common.{◌<◌, ◌∙◌, ap, sym, subst, arith, List, length, map}
use Rattle.std.proofs.lemmas.List.{length-map, get_or-map}
use Rattle.std.specs.Prelude.{slice_index_or}
use Rattle.scenetext.specs.Scene.{Line}
use Rattle.scenetext.specs.Seen.{line_value}
use Rattle.recorders.specs.Apart.{line_at, a_line}
use Rattle.recorders.specs.Dealing.{places_of, place_at}
use Rattle.recorders.proofs.Places.{place_is}
use Rattle.recorders.proofs.dealing.DealtLines.line.Goals as goal

pub bounds-lines-place : goal.bounds-lines-place
bounds-lines-place g c =
    let ls = map line_value c.self.inside.lines.now in
    let few = subst (λ (ls : List Line). c.args.number < length (places_of c.args.taker 0 ls)) (sym c.self.view_is) c.requires.number in
    let at = place_is (λ v. v.items) c.self.inside.places.items ls c.args.taker c.args.number c.index.result.now c.as_slice-places.result.now c.self.invariant c.requires.taker c.index.ensures c.as_slice-places.ensures.value few in
    omega (arith, at.1, length-map c.self.inside.lines.now line_value)

pub offset_bounds-lines-place : goal.offset_bounds-lines-place
offset_bounds-lines-place g c = let low = bounds-lines-place g c in omega (arith, low)

pub returns-clause-line : goal.returns-clause-line
returns-clause-line g c =
    let ls = map line_value c.self.inside.lines.now in
    let few = subst (λ (ls : List Line). c.args.number < length (places_of c.args.taker 0 ls)) (sym c.self.view_is) c.requires.number in
    let at = place_is (λ v. v.items) c.self.inside.places.items ls c.args.taker c.args.number c.index.result.now c.as_slice-places.result.now c.self.invariant c.requires.taker c.index.ensures c.as_slice-places.ensures.value few in
    let low : slice_index_or c.as_slice-places.result.now c.args.number 0 < length c.self.inside.lines.now = omega (arith, at.1, length-map c.self.inside.lines.now line_value) in
    ap line_value c.index-lines-place.is ∙ sym (get_or-map line_value c.self.inside.lines.now _ c.index-lines-place.result a_line low)
    ∙ ap (line_at ls) at.0 ∙ ap (λ ls. line_at ls (place_at c.args.taker ls c.args.number)) c.self.view_is
