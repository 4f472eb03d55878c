use Rattle.std.proofs.Common.{◌∙◌, ap, arith, drop}
use Rattle.std.proofs.lemmas.List.{drop-drop}
use Rattle.scenetext.proofs.CutLemmas.{block_added}
use Rattle.scenetext.proofs.text.front_blocks.Goals as goal

pub loop-block-preserved : goal.loop-block-preserved
loop-block-preserved c =
    let at = c.loop-block.invariant in
    let cut = c.in-Some.ensures.cases in
    record {
      rest = cut.1 ∙ ap (drop 32) at.rest ∙ drop-drop 32 c.loop-block.count c.args.text.now;
      within = omega (arith, at.within, cut.2);
      form = block_added c.args.text.now c.in-Some.block.now c.loop-block.rest.now c.loop-block.count 32 c.loop-block.form c.in-Some-with_block.longer at.rest cut.0 at.form c.in-Some-with_block.ensures;
    }
