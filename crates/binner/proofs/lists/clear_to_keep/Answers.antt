use Rattle.std.proofs.Common.{rules, ◌≡◌, Some}
use Rattle.tileword.specs.Word.{decoded, encoded}
use Rattle.binner.specs.Lists.{at}
use Rattle.binner.proofs.Lasting.{can_cut}
use Rattle.binner.proofs.lists.clear_to_keep.Goals as goal

pub returns-then-are_both_clears : goal.returns-then-are_both_clears
returns-then-are_both_clears g c =
    let number = c.in_ok-number.field-0.now in
    let a : decoded number ≡ Some c.in_ok-first.first = search rules in
    let b : encoded c.in_ok-first.first ≡ number = search rules in
    can_cut number c.in_ok-first.first c.args.word c.tail.result.now (at c.args.lists.now c.args.tile) c.tail.ensures (c.in_ok-number.ensures.value) a b (c.are_both_clears.ensures c.if-are_both_clears.true) (search rules)

pub overflow_cast-tile : goal.overflow_cast-tile
overflow_cast-tile g c = search rules

pub index-requires : goal.index-requires
index-requires g c = search rules

pub returns-then-index : goal.returns-then-index
returns-then-index g c = search rules

pub tail-requires : goal.tail-requires
tail-requires g c = search rules

pub last-requires : goal.last-requires
last-requires g c κs = search rules

pub branch-number-requires : goal.branch-number-requires
branch-number-requires g c κs = search rules

pub from_residual-requires : goal.from_residual-requires
from_residual-requires g c κs = search rules

pub returns-in_err-number : goal.returns-in_err-number
returns-in_err-number g c = search rules

pub decode-requires : goal.decode-requires
decode-requires g c = search rules

pub branch-first-requires : goal.branch-first-requires
branch-first-requires g c κs = search rules

pub from_residual-requires-in_err-first : goal.from_residual-requires-in_err-first
from_residual-requires-in_err-first g c κs = search rules

pub returns-in_err-first : goal.returns-in_err-first
returns-in_err-first g c = search rules

pub are_both_clears-requires : goal.are_both_clears-requires
are_both_clears-requires g c = search rules

pub returns-else-are_both_clears : goal.returns-else-are_both_clears
returns-else-are_both_clears g c = search rules
