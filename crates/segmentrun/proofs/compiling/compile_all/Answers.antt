use Rattle.std.proofs.Common.{◌∙◌, ◌++◌, ap, subst, take, take_all, List, arith}
use Rattle.gfxspec.specs.Commands.{Command}
use Rattle.gfxspec.specs.Recorded.{items}
use Rattle.gfxspec.specs.Predication.{performed}
use Rattle.binner.specs.Batched.{MeansItems}
use Rattle.binner.specs.Compiling.{HasCompiled}
use Rattle.cmdlist.specs.Drawable.{told}
use Rattle.binner.specs.Segments.{cut_items}
use Rattle.segmentrun.proofs.Joining.{one_more}
use Rattle.segmentrun.proofs.compiling.compile_all.Goals as goal

pub loop-segment-preserved : goal.loop-segment-preserved
loop-segment-preserved g c =
    let l = c.loop-segment in
    let results = told c.args.results.now in
    let segments = c.args.segments.now in
    record {
      size = c.in_ok-batch-2.ensures.size ∙ l.invariant.size;
      compiled = subst (HasCompiled c.in_ok-batch-2.batch) (ap (λ (s : List Command). cut_items results (take l.segment-index segments) ++ items (performed results s)) c.segment-item.is ∙ one_more results segments l.segment-index c.segment-item.result c.loop-segment-test.true)
          (c.in_ok-batch-2.ensures.means (cut_items results (take l.segment-index segments)) l.invariant.compiled);
    }

pub returns-clause-compiled : goal.returns-clause-compiled
returns-clause-compiled g c =
    let l = c.loop-segment in
    let results = told c.args.results.now in
    let segments = c.args.segments.now in (
      c.finish.ensures.size ∙ l.invariant.size,
      c.finish.ensures.issues,
      subst (λ (ss : List (List Command)). MeansItems (cut_items results ss) c.finish.result) (take_all l.segment-index segments (let past = c.loop-segment-test.false in omega arith))
          (c.finish.ensures.means (cut_items results (take l.segment-index segments)) l.invariant.compiled),
    )
