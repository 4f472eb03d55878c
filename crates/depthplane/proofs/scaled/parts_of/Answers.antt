use Rattle.std.proofs.Common.{rules, pos, w64, FitsSigned}
use Rattle.std.proofs.lemmas.Int.{to_z-of_z}
use Rattle.depthplane.proofs.ScaledLaws.{parts_near, parts_exact}
use Rattle.depthplane.proofs.scaled.parts_of.Goals as goal

pub returns-clause-near : goal.returns-clause-near
returns-clause-near c = λ n h.
    let d = c.args.divisor in
    let g : FitsSigned w64 c.args.division.remainder = search rules in
    let low = simp to_z-of_z at c.fraction.ensures.least in
    let high = simp to_z-of_z at c.fraction.ensures.most in
    rw c.from.ensures (parts_near n (pos d.number) c.args.division c.fraction.result d.is_divisor c.requires low high h)

pub returns-clause-exact : goal.returns-clause-exact
returns-clause-exact c = λ n none h.
    let d = c.args.divisor in
    let g : FitsSigned w64 c.args.division.remainder = search rules in
    let high = simp to_z-of_z at c.fraction.ensures.most in
    rw c.from.ensures (parts_exact n (pos d.number) c.args.division c.fraction.result d.is_divisor none high h)
