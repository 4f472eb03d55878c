use Rattle.std.proofs.Common.{rules, ap, sym, ◌∙◌, ℕ, replicate}
use Rattle.immediate.proofs.Ran.{idly_drawn, no_length}
use Rattle.immediate.proofs.drawing.draw.Goals as goal

pub returns-then-is_empty : goal.returns-then-is_empty
returns-then-is_empty g c =
    idly_drawn c.args.program c.args.target.now c.no_counts.result c.into_compiled.result c.requires.fits.whole (sym c.touched.ensures.list ∙ no_length c.touched.result.now (search rules))
    (c.no_counts.ensures ∙ ap (λ (n : ℕ). replicate n 0) c.issues.ensures) c.into_compiled.ensures

pub returns : goal.returns
returns g c = c.requires.engine.drawn _ _ _ _ c.draw.ensures
