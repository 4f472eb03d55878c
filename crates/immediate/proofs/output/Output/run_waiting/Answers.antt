use Rattle.std.proofs.Common.{◌∙◌, subst, List, []}
use Rattle.gfxspec.specs.Commands.{Command}
use Rattle.tileprog.specs.Programs.{AllRan, lists_of}
use Rattle.tileprog.specs.Several.{behind_it}
use Rattle.tileprog.proofs.Several.{can_run_behind}
use Rattle.immediate.specs.Outputs.{cut_over}
use Rattle.immediate.specs.Batched.{part}
use Rattle.immediate.proofs.Runs.{IsKept, output_kept, kept_same, kept_memory, bins_behind}
use Rattle.immediate.proofs.Drawn.{segments_kept}
use Rattle.immediate.proofs.output.Output.run_waiting.Goals as goal

pub invariant_of-self : goal.invariant_of-self
invariant_of-self g c =
    let i = c.self.inside in
    let kept = subst (λ (l : List Command). IsKept (λ counts. counts.items) l c.draw-drawn.result.0 i.results c.keep.new.results c.keep.result) c.none.ensures c.keep.ensures.kept in
    let job = c.in_ok-program.program in
    let o = c.args.self.now in
    let segments = part c.args.places.start c.args.places.end c.args.waiting.now in
    let size = (can_run_behind o.surface.size (cut_over o segments) job.first (behind_it job.behind) c.in_ok-program.ensures.compiled).0 in
    output_kept (λ counts. counts.items) [] o job.first i.target c.draw-drawn.new.target i.results c.keep.new.results (c.self.view_is ∙ c.program.ensures.same) size
    (λ _. AllRan (lists_of job) i.target c.draw-drawn.new.target) (λ x ran. (ran.whole, ran.size))
    c.draw-drawn.result.0 c.keep.result c.keep.new.bins kept c.draw-drawn.ensures.ran c.draw-drawn.ensures.same c.self.invariant.whole c.self.invariant.many
    (c.keep.ensures.bins ∙ bins_behind c.draw-drawn.ensures.first)

pub returns-clause-ok : goal.returns-clause-ok
returns-clause-ok g c =
    let i = c.self.inside in
    let kept = subst (λ (l : List Command). IsKept (λ counts. counts.items) l c.draw-drawn.result.0 i.results c.keep.new.results c.keep.result) c.none.ensures c.keep.ensures.kept in
    let job = c.in_ok-program.program in
    let o = c.args.self.now in
    let segments = part c.args.places.start c.args.places.end c.args.waiting.now in
    segments_kept o i.target c.draw-drawn.new.target i.results (c.self.view_is ∙ c.program.ensures.same)
    (λ counts. counts.items) (cut_over o segments) (lists_of job) c.draw-drawn.result.0 c.keep.result c.keep.new.results c.in_ok-program.ensures.compiled kept c.draw-drawn.ensures.ran

pub returns-clause-memory : goal.returns-clause-memory
returns-clause-memory g c =
    let i = c.self.inside in
    let kept = subst (λ (l : List Command). IsKept (λ counts. counts.items) l c.draw-drawn.result.0 i.results c.keep.new.results c.keep.result) c.none.ensures c.keep.ensures.kept in
    let job = c.in_ok-program.program in
    let o = c.args.self.now in
    let segments = part c.args.places.start c.args.places.end c.args.waiting.now in
    let size = (can_run_behind o.surface.size (cut_over o segments) job.first (behind_it job.behind) c.in_ok-program.ensures.compiled).0 in
    kept_memory (λ counts. counts.items) [] o job.first i.target c.draw-drawn.new.target i.results c.keep.new.results (c.self.view_is ∙ c.program.ensures.same) size
    c.draw-drawn.result.0 c.keep.result kept c.draw-drawn.ensures.memory

pub returns-clause-err : goal.returns-clause-err
returns-clause-err g c =
    let i = c.self.inside in
    let kept = subst (λ (l : List Command). IsKept (λ counts. counts.items) l c.draw-drawn.result.0 i.results c.keep.new.results c.keep.result) c.none.ensures c.keep.ensures.kept in
    let job = c.in_ok-program.program in
    let o = c.args.self.now in
    let segments = part c.args.places.start c.args.places.end c.args.waiting.now in
    let size = (can_run_behind o.surface.size (cut_over o segments) job.first (behind_it job.behind) c.in_ok-program.ensures.compiled).0 in
    kept_same (λ counts. counts.items) [] o job.first i.target c.draw-drawn.new.target i.results c.keep.new.results (c.self.view_is ∙ c.program.ensures.same) size
    c.draw-drawn.result.0 c.keep.result kept c.draw-drawn.ensures.same
