use Rattle.std.proofs.Common.{[], ◌∷◌, List, sym, subst}
use Rattle.gfxspec.specs.Commands.{Command}
use Rattle.binner.specs.Compiled.{Compilation}
use Rattle.cmdlist.specs.Drawable.{told}
use Rattle.binner.specs.Segments.{cut_items, AreCompiled}
use Rattle.segmentrun.specs.Running.{running}
use Rattle.segmentrun.proofs.Joining.{one_list}
use Rattle.segmentrun.proofs.crewing.compile_here.Goals as goal

pub returns-clause-compiled : goal.returns-clause-compiled
returns-clause-compiled g c =
    let job = c.args.job.now in
    let results = told job.results in
    let compiled = c.in_ok-compiled.compiled in
    subst (λ (cs : List Compilation). AreCompiled job.size (cut_items results (running job)) (compiled ∷ cs)) (sym c.new.ensures.items)
    (subst (λ (ss : List (List Command)). AreCompiled job.size (cut_items results ss) (compiled ∷ [])) c.running.ensures (one_list job.size (cut_items results c.running.result.now) compiled c.in_ok-compiled.ensures.compiled))
