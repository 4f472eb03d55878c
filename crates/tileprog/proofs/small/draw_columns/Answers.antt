use Rattle.std.proofs.Common.{◌≡◌, ◌∙◌, ap, sym, subst, rules, arith, ℕ, ◌+◌, ◌*◌, ◌≤◌}
use Rattle.depthplane.specs.Places.{Places}
use Rattle.edges.specs.Walk.{EdgePlace}
use Rattle.tileprog.specs.Quads.{IsQuads, edges_at, walk_at}
use Rattle.tileprog.specs.Spreads.{stroke_of}
use Rattle.tileprog.proofs.Stroking.{columns_from}
use Rattle.tileprog.proofs.FourRows.{column_drawn, column_counted, column_few, no_columns_yet, all_columns_drawn}
use Rattle.tileprog.proofs.small.draw_columns.Goals as goal

pub loop-quad-init : goal.loop-quad-init
loop-quad-init c =
    let t = c.args.triangle.now in
    let old = c.args.block.now in
    let start = old.rect.left + 4 * t.first in
    record {
      edges = c.requires.edges;
      walk = c.requires.walk;
      drew = columns_from (stroke_of t) old start t.clip.top t.clip.bottom;
      count = no_columns_yet t old start;
      few = omega arith;
    }

pub draw_column-more-requires-clause-over : goal.draw_column-more-requires-clause-over
draw_column-more-requires-clause-over c =
    subst (λ r. IsQuads c.args.triangle.now r) (sym c.loop-quad.invariant.drew.rect) c.requires.over

pub draw_column-more-requires-clause-edges : goal.draw_column-more-requires-clause-edges
draw_column-more-requires-clause-edges c =
    c.loop-quad.invariant.edges ∙ ap (λ r. edges_at c.args.triangle.now r c.loop-quad.quad c.args.triangle.now.clip.top) (sym c.loop-quad.invariant.drew.rect)

pub draw_column-more-requires-clause-walk : goal.draw_column-more-requires-clause-walk
draw_column-more-requires-clause-walk c =
    c.loop-quad.invariant.walk ∙ ap (λ r. walk_at c.args.triangle.now r c.loop-quad.quad c.args.triangle.now.clip.top) (sym c.loop-quad.invariant.drew.rect)

pub loop-quad-preserved : goal.loop-quad-preserved
loop-quad-preserved c =
    let t = c.args.triangle.now in
    let old = c.args.block.now in
    let mid = c.loop-quad.block in
    let new = c.draw_column-more.new.block in
    let quad = c.loop-quad.quad in
    let inv = c.loop-quad.invariant in
    let more = c.draw_column-more.result in
    let first : t.first ≤ quad = search rules in
    let right : EdgePlace → EdgePlace = λ e. record e { x = e.x + 4 } in
    let behind : Places → Places = λ w. record w { x = w.x + 4 } in
    let place : ℕ → EdgePlace = λ x. record { triangle = t.plane.now.triangle; left = old.rect.left + 4 * t.first; top = t.clip.top; x = x; y = t.clip.top } in
    let deep : ℕ → Places = λ x. record { plane = t.plane.now; left = old.rect.left + 4 * t.first; top = t.clip.top; x = x; y = t.clip.top } in
    let next : old.rect.left + 4 * quad + 4 ≡ old.rect.left + 4 * (quad + 1) = omega arith in
    record {
      edges = c.four_right.ensures ∙ ap right inv.edges ∙ ap place next;
      walk = c.four_right-in-loop-quad.ensures ∙ ap behind inv.walk ∙ ap deep next;
      drew = column_drawn t old mid new c.requires.over quad c.loop-quad.passed more first inv.drew inv.count c.draw_column-more.ensures;
      count = column_counted t old mid new c.requires.over quad c.loop-quad.passed more first inv.drew inv.count c.draw_column-more.ensures;
      few = column_few t old mid new c.requires.over quad c.loop-quad.passed more first inv.drew inv.count c.draw_column-more.ensures inv.few;
    }

pub returns : goal.returns
returns c =
    let inv = c.loop-quad.invariant in
    all_columns_drawn c.args.triangle.now c.args.block.now c.loop-quad.block c.loop-quad.quad c.loop-quad.passed c.requires.over (search rules) inv.drew inv.count inv.few
