use Rattle.std.proofs.Common.{rules, w32, FitsSigned}
use Rattle.std.specs.Prelude.{pos, ◌+ℤ◌, ◌-ℤ◌}
use Rattle.std.proofs.lemmas.Int.{to_z-of_z}
use Rattle.depthplane.proofs.StartLaws.{line_start_is}
use Rattle.depthplane.proofs.start.line_start.Goals as goal

pub returns-clause-start : goal.returns-clause-start
returns-clause-start c =
    let f : FitsSigned w32 c.args.least = search rules in
    let g : FitsSigned w32 c.args.greatest = search rules in
    let h : FitsSigned w32 c.max.result = search rules in
    let k : FitsSigned w32 (c.args.greatest -ℤ c.args.least) = search rules in
    let l : FitsSigned w32 (c.args.greatest -ℤ c.args.least +ℤ pos 127) = search rules in
    let low = simp to_z-of_z at c.max.ensures.value in
    simp to_z-of_z (line_start_is c.args.least c.args.greatest c.max.result c.requires.order low)
