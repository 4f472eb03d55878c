use Rattle.std.proofs.Common.{rules, arith, ◌≤◌, ◌+◌, ◌∙◌, ap, sym, subst, [], length, map}
use Rattle.std.specs.Prelude.{if◌then◌else◌}
use Rattle.std.proofs.lemmas.List.{length-map, take_all}
use Rattle.scenetext.specs.Seen.{line_value}
use Rattle.sessions.specs.Answers.{answers_behind}
use Rattle.sessions.proofs.Steps.{counted_more}
use Rattle.sessions.proofs.ending.asked.Goals as goal
use Rattle.sessions.proofs.ending.asked.Goals.{then-asks, else-asks}

pub loop-line-preserved : goal.loop-line-preserved
loop-line-preserved g c =
    let l = c.loop-line in
    let low = l.invariant.few in
    let step = counted_more line_value c.args.lines.now l.line-index c.line-item.result l.count c.if-asks.count c.asks.result c.loop-line-test.true c.line-item.is c.asks.ensures l.invariant.counted in
    elim c.if-asks.branch [
      | then-asks w ↦
          let is = w.count-is in
          record { few = omega (arith, low, is); counted = step (is ∙ sym (ap (λ b. if b then l.count + 1 else l.count) w.if-asks.true)) }
      | else-asks w ↦
          let is = w.count-is in
          record { few = omega (arith, low, is); counted = step (is ∙ sym (ap (λ b. if b then l.count + 1 else l.count) w.if-asks.false)) }
    ]

pub returns : goal.returns
returns g c size =
    let l = c.loop-line in
    let end : length c.args.lines.now ≤ l.line-index = search rules in
    ap (λ ls. length (answers_behind size [] ls)) (sym (take_all l.line-index (map line_value c.args.lines.now) (subst (λ n. n ≤ l.line-index) (sym (length-map c.args.lines.now line_value)) end))) ∙ l.invariant.counted size
