use Rattle.std.proofs.Common.{arith, ◌≡◌, ℕ, ◌+◌, ◌*◌, ◌%◌}
use Rattle.depthplane.proofs.scaled.Scaled.at.Goals as goal

pub returns : goal.returns
returns c = rw (c.from.ensures, c.from-2.ensures) (by c.args.self.origin (c.args.self.right * c.args.x) (c.args.self.down * c.args.y))
  where
    by : (o r d : ℕ) → ((o + r % 18446744073709551616) % 18446744073709551616 + d % 18446744073709551616) % 18446744073709551616 ≡ (o + r + d) % 18446744073709551616
    by o r d = omega arith
