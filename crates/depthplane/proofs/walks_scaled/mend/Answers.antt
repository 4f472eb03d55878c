use Rattle.std.proofs.Common.{rules, arith, ◌≡◌, ◌≢◌, ◌∙◌, ℕ, ◌+◌, below_more, slice_index, w64, FitsSigned}
use Rattle.std.specs.Int.{w128}
use Rattle.std.specs.Prelude.{slice_set}
use Rattle.std.proofs.lemmas.Int.{to_z-of_z}
use Rattle.std.proofs.lemmas.List.{get_or-set_same, get_or-set_other}
use Rattle.gfxspec.specs.Raster.{centre}
use Rattle.depthplane.specs.Height.{height, size_of}
use Rattle.depthplane.specs.Mended.{mended_by}
use Rattle.depthplane.proofs.walks_scaled.mend.Goals as goal

pub loop-j-preserved : goal.loop-j-preserved
loop-j-preserved c =
    let old = c.loop-j.exact in
    let j = c.loop-j.j in
    let v = c.mended.result in
    let x = c.args.x in
    let y = c.args.y in
    let now = c.args.plane.now in
    let i = c.loop-j.invariant in
    let f : FitsSigned w64 c.size-area.result = search rules in
    let g : FitsSigned w128 c.at-there.result = search rules in
    let depth : ℕ → ℕ = λ k. mended_by (height now (centre (x + k) y)) (size_of now) (slice_index c.args.depths k) in
    let there : c.at-there.result ≡ height now (centre (x + j) y) =
    c.at-there.ensures.value ∙ c.height-height.ensures.value (x + j) y in
    let size : c.size-area.result ≡ size_of now = c.size-area.ensures.value in
    let same : v ≡ mended_by c.at-there.result c.size-area.result (slice_index c.args.depths j) = simp to_z-of_z at c.mended.ensures in
    let here : v ≡ depth j = same ∙ (λ k. mended_by (there k) (size k) (slice_index c.args.depths j)) in
    record {
      long = search rules;
      stored = below_more (λ k. slice_index (slice_set old j v) k ≡ depth k) j
          (λ k l. let ne : k ≢ j = omega arith in get_or-set_other old j k v 0 ne ∙ i.stored k l)
          (get_or-set_same old j v 0 (omega arith) ∙ here);
    }

pub returns : goal.returns
returns c = λ j h. c.loop-j.invariant.stored j (omega arith)
