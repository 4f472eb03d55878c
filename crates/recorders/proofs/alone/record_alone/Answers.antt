use Rattle.std.proofs.Common.{rules, ◌≡◌, sym, subst, []}
use Rattle.std.specs.Prelude.{All}
use Rattle.std.proofs.lemmas.List.Elements.{All-nil}
use Rattle.recorders.specs.Apart.{IsListed}
use Rattle.recorders.proofs.EndLemmas.{all_ended}
use Rattle.recorders.proofs.RowLemmas.{rows_none}
use Rattle.recorders.proofs.alone.record_alone.Goals as goal

pub invariant_of-result : goal.invariant_of-result
invariant_of-result g c =
    let ls = c.args.lines.now in
    let empty : c.new-kept.result.items ≡ [] = search rules in
    let none = subst (All (IsListed ls)) (sym empty) (All-nil (IsListed ls)) in
    let a = c.record_lines.ensures.recorded in
    let b = c.record_lines-2.ensures.recorded in
    let d = c.record_lines-3.ensures.recorded in
    let e = c.record_lines-4.ensures.recorded in (
      c.add_all.ensures ls (e.listed (d.listed (b.listed (a.listed none)))) (rows_none ls c.new-rows.result c.new-rows.ensures),
      all_ended ls _ _ _ _ a.ends b.ends d.ends e.ends,
    )
