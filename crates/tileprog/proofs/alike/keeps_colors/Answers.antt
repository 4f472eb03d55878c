use Rattle.std.proofs.Common.{◌≡◌, ◌<◌, arith, ℕ, true, length, get_or, rules}
use Rattle.std.specs.Prelude.{◌==◌}
use Rattle.std.proofs.lemmas.Bool.Decides.{nat_tests}
use Rattle.tileprog.proofs.Painted.{color_kept}
use Rattle.tileprog.proofs.alike.keeps_colors.Goals as goal

zero_is : (n : ℕ) → (n == 0) ≡ true → n ≡ 0
zero_is n h = grind (arith, nat_tests, h)

pub returns-then-write : goal.returns-then-write
returns-then-write c = λ t.
    let rgba = c.args.rgba in
    let ls : length rgba ≡ 4 = search rules in
    let hs : (k : ℕ) → get_or rgba k 0 < 256 = search rules in
    color_kept c.args.blend c.of_state-write.result rgba _ c.of_state-write.ensures c.from_le_bytes.ensures ls hs c.if-write.true (zero_is c.of_state-write.result.flip t)
