use Rattle.tileprog.proofs.Touched.{few_tiles_in}
use Rattle.tileprog.proofs.Several.{alone_kept}
use Rattle.tileprog.proofs.program.TileProgram.new.Goals as goal

pub invariant_of-result : goal.invariant_of-result
invariant_of-result g c =
    let sound = c.touched-touched.ensures.sound in
    let kept = alone_kept c.args.compiled sound in
    record {
      few = few_tiles_in c.args.compiled.size sound.size c.args.compiled.touched kept.tiles;
      few_issues = sound.issues;
      lists = kept;
    }
