use Rattle.std.proofs.Common.{rules, arith, ap, Some, ◌≡◌, ◌+◌, ◌-◌, ◌<◌, ◌≤◌, ◌∙◌, sym, subst, drop, length}
use Rattle.binner.proofs.Lasting.{Keeps, found}
use Rattle.binner.proofs.lists.is_drawn_since.Goals as goal

pub returns-in-Some-Tri : goal.returns-in-Some-Tri
returns-in-Some-Tri c h =
    let at = c.loop-place.place in
    let some = c.loop-place-test.true in
    let back : at - 1 + 1 ≡ at = omega (arith, some) in
    let inside : at - 1 < length c.args.tail.now = search rules in
    let first : c.args.first ≤ c.in-Some-Tri.number = search rules in
    found c.args.tail.now (at - 1) 0 inside (subst (λ n. Keeps (drop n c.args.tail.now)) (sym back) c.loop-place.invariant)
    c.args.first c.in-Some-Tri.number c.in-Some-Tri.field-0-1 (sym c.decode.ensures.value ∙ c.in-Some-Tri.is ∙ ap (λ w. Some w) c.in-Some-Tri.field-0-is) first
