use Rattle.std.proofs.Common.{◌≡◌, ◌≢◌, ◌∙◌, ap, sym, arith, ℕ, ◌+◌, ◌<◌, true}
use Rattle.lanes.specs.Stencil.{stencil_after}
use Rattle.tileblock.specs.SpanStored.{lane_pixel}
use Rattle.tileprog.proofs.Spanning.{changed}
use Rattle.tileprog.proofs.spans.operate_rows.Goals as goal

pub returns : goal.returns
returns c =
    let old = c.args.block.now in
    let mid = c.set_stencil_span.new.self in
    let test = c.args.test.now in
    let deep = c.args.deep in
    let span = c.args.span in
    let row = c.args.row in
    let below : row + 1 ≢ row = λ e. absurd (omega (arith, e)) in
    let waits : (j : ℕ) → j < 8 → lane_pixel mid span (row + 1) j ≡ lane_pixel old span (row + 1) j = λ j h. c.set_stencil_span.ensures.rows (row + 1) j c.requires.row h below in
    record {
      mid = mid;
      first = changed _ _ _ _ _ _ c.set_stencil_span.ensures.stored (λ j h.
          let p = lane_pixel old span row j in
          let after = c.after_rows-after.ensures.first j h ∙ ap (λ v. stencil_after test true deep v) (c.stencil_rows-stored.ensures.first j h) in
          λ i. record { rgba = p.rgba; ds = record { depth = p.ds.depth; stencil = after i } });
      waits = waits;
      second = changed _ _ _ _ _ _ c.set_stencil_span-2.ensures.stored (λ j h.
          let p = lane_pixel mid span (row + 1) j in
          let after = c.after_rows-after.ensures.second j h ∙ ap (λ v. stencil_after test true deep v) (c.stencil_rows-stored.ensures.second j h) in
          (λ i. record { rgba = p.rgba; ds = record { depth = p.ds.depth; stencil = after i } })
          ∙ (λ i. record { rgba = p.rgba; ds = record { depth = p.ds.depth; stencil = stencil_after test true deep (sym (waits j h) i).ds.stencil } }));
    }
