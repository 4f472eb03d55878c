use Rattle.immediate.proofs.Ran.{drawn_over}
use Rattle.immediate.proofs.drawing.draw_alone.Goals as goal

pub returns : goal.returns
returns g c =
    let ran = c.run_alone-counts in
    drawn_over c.args.program c.args.target.now ran.new.target ran.result.0 ran.result.1 c.into_compiled.result ran.ensures.drawn ran.ensures.counts ran.ensures.same ran.ensures.memory ran.ensures.job c.into_compiled.ensures
