use Rattle.std.proofs.Common.{◌∙◌, sym, refl, arith, ◌<◌}
use Rattle.lanes.specs.Stencil.{stencil_after}
use Rattle.tileprog.proofs.Lanes.{has_all}
use Rattle.tileprog.proofs.spans.is_still.Goals as goal

pub returns : goal.returns
returns c = λ t.
    let test = c.args.brush.now.test in
    let first : 0 < 8 = omega arith in
    record {
      passes = c.requires;
      stencil = λ v small.
          (λ i. stencil_after test (sym (has_all 255 0 refl first) i) (sym (c.all_lanes.ensures 0 first) i) v)
          ∙ c.keeps.ensures t 0 v first (has_all 255 0 refl first) small;
      colors = c.keeps_colors-kept.ensures c.if-not-kept.false;
    }
