use Rattle.std.proofs.Common.{◌≡◌, sym, subst, arith}
use Rattle.std.proofs.lemmas.Bool.Decides.{nat_tests}
use Rattle.std.specs.Prelude.{All}
use Rattle.recorders.specs.Apart.{IsListed}
use Rattle.recorders.specs.Ports.{at_port}
use Rattle.recorders.specs.Recorders.{port_of}
use Rattle.recorders.proofs.received.join_of.Goals as goal

pub returns-in-0-clause-listed : goal.returns-in-0-clause-listed
returns-in-0-clause-listed g c =
    let port : port_of c.args.context ≡ 0 = grind (arith, nat_tests) in
    subst (λ p. All (IsListed (at_port c.args.recorders.now p).task.lines) c.join.result.0.items) (sym port) c.join.ensures.listed

pub returns-in-1-clause-listed : goal.returns-in-1-clause-listed
returns-in-1-clause-listed g c =
    let port : port_of c.args.context ≡ 1 = grind (arith, nat_tests) in
    subst (λ p. All (IsListed (at_port c.args.recorders.now p).task.lines) c.join-in-1.result.0.items) (sym port) c.join-in-1.ensures.listed

pub returns-in-2-clause-listed : goal.returns-in-2-clause-listed
returns-in-2-clause-listed g c =
    let port : port_of c.args.context ≡ 2 = grind (arith, nat_tests) in
    subst (λ p. All (IsListed (at_port c.args.recorders.now p).task.lines) c.join-in-2.result.0.items) (sym port) c.join-in-2.ensures.listed

pub returns-in_default-clause-listed : goal.returns-in_default-clause-listed
returns-in_default-clause-listed g c =
    let port : port_of c.args.context ≡ 3 = grind (arith, nat_tests) in
    subst (λ p. All (IsListed (at_port c.args.recorders.now p).task.lines) c.join-in_default.result.0.items) (sym port) c.join-in_default.ensures.listed
