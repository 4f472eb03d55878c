use Rattle.std.proofs.Common.{◌∙◌, rules, arith, ◌≡◌, ◌-◌, ◌≤◌, min}
use Rattle.std.specs.Prelude.{◌&&◌, nat_le, nat_lt}
use Rattle.tileprog.proofs.Bits.{powers, bits_between, lanes_between}
use Rattle.tileprog.proofs.column.lanes_within.Goals as goal

pub overflow_sub-result : goal.overflow_sub-result
overflow_sub-result c =
    let p = powers c.saturating_sub-from.result c.min-to.result (search rules) (search rules) in
    let a = p.0 in
    let b = p.1 in
    omega arith

pub returns : goal.returns
returns c = λ j h.
    let from : c.saturating_sub-from.result ≡ c.args.left - c.args.x = search rules in
    let to : c.min-to.result ≡ min (c.args.right - c.args.x) 8 = search rules in
    let few : c.min-to.result ≤ 8 = search rules in
    let before : c.saturating_sub-from.result ≤ c.min-to.result = search rules in
    bits_between c.saturating_sub-from.result c.min-to.result j before few
    ∙ (λ i. nat_le (from i) j && nat_lt j (to i))
    ∙ lanes_between c.args.x c.args.left c.args.right j c.requires.some c.requires.begun c.requires.ended h
