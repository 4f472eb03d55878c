use Rattle.std.proofs.Common.{◌≡◌, ◌∙◌, ℕ, List, ap, sym, subst, length, get_or, arith}
use Rattle.std.specs.List.{AllZip}
use Rattle.tilerun.proofs.Finishing.{as_many, rects_fit, have_run, all_counted}
use Rattle.tilerun.proofs.running.finish.Goals as goal

pub put_back-requires-clause-fresh : goal.put_back-requires-clause-fresh
put_back-requires-clause-fresh g c κs within = let t = g.J.TileJob in let b = g.J.BlockJob in (
  c.in-Ok.ensures.ok.1,
  as_many t.tile_number b.open_block b.done_block (t.gives c.args.board.job) (b.touched c.args.job.now) c.args.target.now c.args.seat.view.placed c.in-Ok.finished.results c.requires.placed c.in-Ok.ensures.ok.2,
)

pub put_back-requires-clause-rects : goal.put_back-requires-clause-rects
put_back-requires-clause-rects g c κs within = let t = g.J.TileJob in let b = g.J.BlockJob in
    rects_fit t.tile_number b.open_block b.done_block (t.gives c.args.board.job) (b.touched c.args.job.now) c.args.target.now c.args.seat.view.placed c.in-Ok.finished.results c.requires.placed c.in-Ok.ensures.ok.2
    (λ o d h. g.met.J.BlockJob.keeps_rect c.args.board.job o d h)

pub counts_of-requires-after_bounds : goal.counts_of-requires-after_bounds
counts_of-requires-after_bounds g c κs within = let t = g.J.TileJob in
    let long : length c.put_back.new.finished.counts ≡ t.issue_count c.args.job.now = ap length c.put_back.ensures.counts ∙ (c.in-Ok.ensures.counts.0 ∙ sym (ap t.issue_count c.requires.own.1)) in
    let few = g.met.J.TileJob.few_issues c.args.job.now in
    (long ∙ sym c.issues.ensures, (let e = c.issues.ensures in omega arith))

-- the results are those of the caller's job
its_results : {J O D : Type 0} (gives : J → O → D → Type 0) (a b : J) (placed : List O) (results : List D) → a ≡ b → AllZip (gives b) placed results → AllZip (gives a) placed results
its_results gives a b placed results e = subst (λ (j : _). AllZip (gives j) placed results) (sym e)

pub returns-clause-run : goal.returns-clause-run
returns-clause-run g c = let t = g.J.TileJob in let b = g.J.BlockJob in let job = c.args.job.now in
    have_run t.tile_number b.open_block b.done_block (t.gives job) (b.touched job) c.args.target.now c.args.seat.view.placed c.in-Ok.finished.results c.requires.placed
    (its_results t.gives job c.args.board.job c.args.seat.view.placed c.in-Ok.finished.results c.requires.own.1 c.in-Ok.ensures.ok.2) (b.drawn job) c.put_back.new.target c.put_back.ensures.back
    (λ o d n x y h at i. g.met.J.BlockJob.draws job o d n x y h at i)

pub returns-clause-counts : goal.returns-clause-counts
returns-clause-counts g c = λ opening opens. let t = g.J.TileJob in let b = g.J.BlockJob in let job = c.args.job.now in
    let same : c.counts_of.result.items ≡ c.in-Ok.finished.counts = c.counts_of.ensures ∙ c.put_back.ensures.counts in
    let issues : t.issue_count job ≡ t.issue_count c.args.board.job = ap t.issue_count c.requires.own.1 in
    all_counted t.tile_number b.open_block b.done_block (t.gives job) (b.touched job) c.args.target.now c.args.seat.view.placed c.in-Ok.finished.results c.requires.placed
    (its_results t.gives job c.args.board.job c.args.seat.view.placed c.in-Ok.finished.results c.requires.own.1 c.in-Ok.ensures.ok.2)
    (t.issue_count job) t.done_count (b.counted job) opening c.counts_of.result.items opens (ap length same ∙ (c.in-Ok.ensures.counts.0 ∙ sym issues))
    (λ i less. ap (λ (xs : List ℕ). get_or xs i 0) same ∙ c.in-Ok.ensures.counts.1 i (let e = issues in omega arith))
    (λ o d n i h at less agree. g.met.J.BlockJob.counts job o d n i opening h at less agree)
