use Rattle.std.proofs.Common.{◌≡◌, ◌∙◌, ◌∷◌, ℕ, List, sym, ap, subst}
use Rattle.std.proofs.lemmas.Result.{IfOk-weaker}
use Rattle.std.specs.List.{AllZip}
use Rattle.gfxspec.specs.Items.{Item}
use Rattle.cmdlist.specs.Drawable.{told}
use Rattle.binner.specs.Segments.{cut_items, AreCompiled}
use Rattle.segmentrun.specs.declared.job.SegmentJob.{SegmentJob}
use Rattle.segmentrun.specs.Running.{running}
use Rattle.segmentrun.specs.Windows.{window_of, joined}
use Rattle.segmentrun.proofs.Joining.{all_windows}
use Rattle.segmentrun.proofs.Placing.{AreNumbered, Gives, are_of_windows}
use Rattle.segmentrun.proofs.crewing.run_windows.Goals as goal

-- what each window of a job means
abbrev pub its_windows : {A : Type 0} → SegmentJob A → ℕ → List Item
its_windows job number = cut_items (told job.results) (window_of job.width number (running job))

pub returns-clause-compiled : goal.returns-clause-compiled
returns-clause-compiled g c =
    let job = c.args.job in
    let run = c.run_by_crew-board in
    let placed = run.result.1.view.placed in
    let same : run.result.0.job ≡ job = ap (λ b. b.job) run.ensures.same.0 ∙ c.requires.new.0 in
    let zip = subst (λ j. AllZip (Gives {A = g.row.A.Denot} j.size (its_windows j)) placed c.in-Ok.finished.results) same c.in-Ok.ensures.ok.2 in
    let are = are_of_windows job.size (its_windows job) placed c.in-Ok.finished.results (subst AreNumbered (sym run.ensures.same.2) c.place_all.ensures.placed) zip in
    IfOk-weaker c.take_lists-lists.result _ _
    (λ lists h. subst (λ (is : List Item). AreCompiled job.size is (lists.0 ∷ lists.1.items)) (ap (joined (its_windows job)) c.tiles-windows.ensures ∙ all_windows (told job.results) job.width (running job) job.windows job.whole) h)
    (c.take_lists-lists.ensures.lists job.size (its_windows job) are)
