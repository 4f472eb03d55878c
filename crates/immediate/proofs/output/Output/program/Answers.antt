use Rattle.std.proofs.Common.{ap, sym, subst, ◌∙◌, ◌∷◌, List}
use Rattle.std.specs.Prelude.{Bool}
use Rattle.gfxspec.specs.declared.geometry.Size.{Size}
use Rattle.gfxspec.specs.Commands.{Command}
use Rattle.binner.specs.Compiled.{Compilation}
use Rattle.cmdlist.specs.Drawable.{told}
use Rattle.binner.specs.Segments.{cut_items, AreCompiled}
use Rattle.segmentrun.specs.Running.{running}
use Rattle.tileprog.proofs.Several.{can_run_behind}
use Rattle.immediate.specs.Outputs.{cut_over}
use Rattle.immediate.specs.Batched.{part}
use Rattle.immediate.proofs.Drawn.{compiled_over}
use Rattle.immediate.proofs.Making.{made_lists, taken_bins}
use Rattle.immediate.proofs.output.Output.program.Goals as goal

pub program_of-requires-clause-unissued : goal.program_of-requires-clause-unissued
program_of-requires-clause-unissued g c =
    let job = c.job-job.result in
    let made = c.requires.engine.compiled _ _ _ c.compile-lists.ensures in
    (can_run_behind job.size (cut_items (told job.results) (running job)) c.in_ok-first.first c.in_ok-first.behind.items (made_lists job c.compile-lists.result made c.in_ok-first.first c.in_ok-first.behind c.in_ok-first.was)).1

pub program_of-requires-clause-behind : goal.program_of-requires-clause-behind
program_of-requires-clause-behind g c =
    let job = c.job-job.result in
    let made = c.requires.engine.compiled _ _ _ c.compile-lists.ensures in
    (can_run_behind job.size (cut_items (told job.results) (running job)) c.in_ok-first.first c.in_ok-first.behind.items (made_lists job c.compile-lists.result made c.in_ok-first.first c.in_ok-first.behind c.in_ok-first.was)).2

pub invariant_of-self-in_err-program_of : goal.invariant_of-self-in_err-program_of
invariant_of-self-in_err-program_of g c = taken_bins c.self.inside.target c.self.inside.results c.self.inside.bins c.take-bins.new.self c.self.invariant c.take-bins.ensures.after

pub returns-in_err-program_of-clause-kept : goal.returns-in_err-program_of-clause-kept
returns-in_err-program_of-clause-kept g c =
    let made = c.requires.engine.compiled _ _ _ c.compile-lists.ensures in
    c.take_back.ensures ∙ ap (λ j. j.segments.items) made.back ∙ c.job-job.ensures.segments

pub returns-clause-kept : goal.returns-clause-kept
returns-clause-kept g c =
    let made = c.requires.engine.compiled _ _ _ c.compile-lists.ensures in
    c.take_back.ensures ∙ ap (λ j. j.segments.items) made.back ∙ c.job-job.ensures.segments

pub returns-clause-compiled : goal.returns-clause-compiled
returns-clause-compiled g c =
    let o = c.args.self.now in
    let job = c.job-job.result in
    let made = c.requires.engine.compiled _ _ _ c.compile-lists.ensures in
    let segments = part c.args.places.start c.args.places.end c.args.waiting.now in
    let lists = c.in_ok-first.first ∷ c.in_ok-first.behind.items in
    let compiled = made_lists job c.compile-lists.result made c.in_ok-first.first c.in_ok-first.behind c.in_ok-first.was in
    subst (λ (cs : List Compilation). AreCompiled o.surface.size (cut_over o segments) cs) (sym c.in_ok-program_of.ensures)
    (compiled_over o c.size-size.result c.told_by-told.result segments lists c.self.inside.target c.self.inside.results
    c.self.view_is c.size-size.ensures.value c.told_by-told.ensures
    (subst (λ (z : Size). AreCompiled z (cut_items (told c.told_by-told.result) segments) lists) c.job-job.ensures.size
    (subst (λ (rs : List Bool). AreCompiled job.size (cut_items (told rs) segments) lists) c.job-job.ensures.results
    (subst (λ (ss : List (List Command)). AreCompiled job.size (cut_items (told job.results) ss) lists) c.job-job.ensures.running compiled))))
