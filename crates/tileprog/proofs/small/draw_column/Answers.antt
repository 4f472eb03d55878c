use Rattle.std.proofs.Common.{◌≡◌, ◌∙◌, ap, sym, rules, arith, ℕ, ◌+◌, ◌-◌, ◌*◌, ◌^◌, ◌<◌, ◌≤◌}
use Rattle.std.specs.Prelude.{slice_index, if◌then◌else◌, ◌==◌}
use Rattle.std.proofs.lemmas.List.{get_or-replicate}
use Rattle.gfxspec.specs.declared.geometry.PixelRect.{PixelRect}
use Rattle.depthplane.specs.Places.{Places}
use Rattle.edges.specs.Walk.{EdgePlace}
use Rattle.tileprog.specs.Quads.{edges_at, walk_at}
use Rattle.tileprog.proofs.FourLanes.{one_few}
use Rattle.tileprog.proofs.FourRows.{more_drawn, more_counted, more_few, no_rows_yet, none_counted_yet, all_rows_drawn}
use Rattle.tileprog.proofs.small.draw_column.Goals as goal

pub loop-row-init : goal.loop-row-init
loop-row-init c =
    let t = c.args.triangle.now in
    let old = c.args.block.now in
    let quad = c.args.quad in
    let row = t.clip.top - c.rect-rect.result.top in
    let top_is = ap (λ (r : PixelRect). r.top) c.rect-rect.ensures in
    let within = c.requires.over.within.top in
    let first : t.clip.top ≡ old.rect.top + row = omega (arith, top_is, within) in
    let x = old.rect.left + 4 * quad in
    record {
      edges = c.copied-edges.ensures ∙ c.requires.edges ∙ ap (λ y. edges_at t old.rect quad y) first;
      walk = c.copied-walk.ensures ∙ c.requires.walk ∙ ap (λ y. walk_at t old.rect quad y) first;
      drew = no_rows_yet t old x (old.rect.top + row) (sym first);
      long = search rules;
      count = none_counted_yet t old x (old.rect.top + row) (sym first);
      few = λ j h. let none = get_or-replicate {A = ℕ} 4 j 0 0 h in omega (arith, none);
    }

pub loop-row-preserved : goal.loop-row-preserved
loop-row-preserved c =
    let t = c.args.triangle.now in
    let old = c.args.block.now in
    let mid = c.loop-row.block in
    let new = c.draw_quad-ones.new.block in
    let quad = c.args.quad in
    let row = c.loop-row.row in
    let inv = c.loop-row.invariant in
    let over = c.requires.over in
    let top : t.clip.top ≤ old.rect.top + row = search rules in
    let bottom : old.rect.top + row < t.clip.bottom = search rules in
    let within = c.within4-within.result in
    let marks = c.covered-covered.result in
    let cover = c.select4-cover.result in
    let c_is : (j : ℕ) → j < 4 → slice_index cover j ≡ (if slice_index within j == 1 then slice_index marks j else 0) =
    λ j h. c.select4-cover.ensures j h ∙ ap (λ d. if slice_index within j == 1 then slice_index marks j else d) (get_or-replicate 4 j 0 0 h) in
    let lower : EdgePlace → EdgePlace = λ e. record e { y = e.y + 1 } in
    let deeper : Places → Places = λ w. record w { y = w.y + 1 } in
    let next : old.rect.top + row + 1 ≡ old.rect.top + (row + 1) = omega arith in
    record {
      edges = c.down.ensures ∙ ap lower inv.edges ∙ ap (λ y. edges_at t old.rect quad y) next;
      walk = c.down-in-loop-row.ensures ∙ ap deeper inv.walk ∙ ap (λ y. walk_at t old.rect quad y) next;
      drew = more_drawn t old mid new over quad row top bottom inv.drew c.loop-row.edges inv.edges c.loop-row.walk inv.walk c.rect-rect.result c.rect-rect.ensures c.args.brush.now.brush c.requires.brush
          marks within cover c.depths-depths.result c.draw_quad-ones.result c.loop-row.counts c.add4-more.result
          c.covered-covered.ensures c.within4-within.ensures c_is c.depths-depths.ensures c.draw_quad-ones.ensures.block c.draw_quad-ones.ensures.passed c.add4-more.ensures;
      long = search rules;
      count = more_counted t old mid new over quad row top bottom inv.drew c.loop-row.edges inv.edges c.loop-row.walk inv.walk c.rect-rect.result c.rect-rect.ensures c.args.brush.now.brush c.requires.brush
          marks within cover c.depths-depths.result c.draw_quad-ones.result c.loop-row.counts c.add4-more.result
          c.covered-covered.ensures c.within4-within.ensures c_is c.depths-depths.ensures c.draw_quad-ones.ensures.block c.draw_quad-ones.ensures.passed c.add4-more.ensures inv.count;
      few = more_few t old mid new over quad row top bottom inv.drew c.loop-row.edges inv.edges c.loop-row.walk inv.walk c.rect-rect.result c.rect-rect.ensures c.args.brush.now.brush c.requires.brush
          marks within cover c.depths-depths.result c.draw_quad-ones.result c.loop-row.counts c.add4-more.result
          c.covered-covered.ensures c.within4-within.ensures c_is c.depths-depths.ensures c.draw_quad-ones.ensures.block c.draw_quad-ones.ensures.passed c.add4-more.ensures inv.few;
    }

pub add4-more-requires : goal.add4-more-requires
add4-more-requires c =
    let small : c.loop-row.row < 2 ^ 31 = search rules in
    record {
      fits = λ j h.
          let few = c.loop-row.invariant.few j h in
          let one = one_few (slice_index c.draw_quad-ones.result j) _ (c.draw_quad-ones.ensures.passed j h) in
          omega (arith, few, one, small);
    }

pub sum_of-requires : goal.sum_of-requires
sum_of-requires c = λ j h.
    let few = c.loop-row.invariant.few j h in
    let row : c.loop-row.row ≤ 32 = search rules in
    omega (arith, few, row)

pub returns : goal.returns
returns c =
    let t = c.args.triangle.now in
    let old = c.args.block.now in
    let inv = c.loop-row.invariant in
    all_rows_drawn t old c.loop-row.block (old.rect.left + 4 * c.args.quad) (old.rect.top + c.loop-row.row) c.sum_of.result c.loop-row.counts (search rules) inv.drew c.sum_of.ensures inv.count
    (λ j h. let few = inv.few j h in let row : c.loop-row.row ≤ 32 = search rules in omega (arith, few, row))
