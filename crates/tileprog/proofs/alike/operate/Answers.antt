use Rattle.std.proofs.Common.{rules, arith, ◌≡◌, ◌∙◌, sym, subst, refl, true, ◌*◌}
use Rattle.lanes.specs.Stencil.{stencil_after}
use Rattle.tileblock.specs.Block.{pixel_at}
use Rattle.tileprog.specs.Alike.{operated}
use Rattle.tileprog.proofs.Lanes.{has_all}
use Rattle.tileprog.proofs.Places.{ColumnsChanged, no_columns, more_rows_changed, all_columns_changed}
use Rattle.tileprog.proofs.alike.operate.Goals as goal

pub returns-then-keeps : goal.returns-then-keeps
returns-then-keeps c =
    let b = c.args.block.now in
    let test = c.args.test.now in
    record {
      rect = refl;
      pixels = λ u v is.
          let p = pixel_at b u v in
          let kept : stencil_after test true c.args.deep p.ds.stencil ≡ p.ds.stencil =
          (λ i. stencil_after test (sym (has_all 255 0 refl (omega arith)) i) (sym (c.requires.bits 0 (omega arith)) i) p.ds.stencil)
          ∙ c.keeps-keeps.ensures c.if-keeps.true 0 p.ds.stencil (omega arith) (has_all 255 0 refl (omega arith)) (c.read_bytes.ensures u v is) in
          λ i. record { rgba = p.rgba; ds = record { depth = p.ds.depth; stencil = sym kept i } };
    }

pub loop-pair-init : goal.loop-pair-init
loop-pair-init c =
    let none : 0 ≡ 2 * 0 = omega arith in
    let b = c.args.block.now in
    let f = operated c.args.test.now c.args.deep in
    record { so_far = subst (λ at. ColumnsChanged f b b at) none (no_columns f b) }

pub loop-pair-preserved : goal.loop-pair-preserved
loop-pair-preserved c =
    record {
      so_far = more_rows_changed (operated c.args.test.now c.args.deep) c.args.block.now c.loop-pair.block _ c.loop-pair.pair c.requires.tile c.loop-pair.invariant.so_far c.operate_rows.ensures;
    }

pub returns : goal.returns
returns c =
    let n = c.loop-pair.pair in
    let done : n ≡ 64 = search rules in
    let all : 2 * n ≡ 128 = omega (arith, done) in
    all_columns_changed (operated c.args.test.now c.args.deep) c.args.block.now c.loop-pair.block (2 * n) c.requires.tile all c.loop-pair.invariant.so_far
