use Rattle.std.proofs.Common.{refl, List}
use Rattle.gfxspec.specs.Commands.{Command}
use Rattle.immediate.proofs.Waiting.{on_ok, on_err, executed_settled, left_settled}
use Rattle.immediate.proofs.context.ImmediateContext.enqueue.Goals as goal

pub returns-then-wait-2-clause-ok : goal.returns-then-wait-2-clause-ok
returns-then-wait-2-clause-ok g c =
    let b = c.wait.new.self in
    let d = c.settle.new.self in
    executed_settled c.args.self.now b (c.wait.ensures.same c.if-wait.false) d d c.in_ok-settle.ensures.ok.0 refl c.wait-2.new.self c.args.list.now c.args.restore
    (c.wait-2.ensures.waits c.if-wait-2.true)

pub returns-clause-ok : goal.returns-clause-ok
returns-clause-ok g c =
    let b = c.wait.new.self in
    let d = c.settle.new.self in
    let list : List Command = c.args.list.now in
    on_ok c.run-2.result
    (λ ran. executed_settled c.args.self.now b (c.wait.ensures.same c.if-wait.false) d c.wait-2.new.self c.in_ok-settle.ensures.ok.0 (c.wait-2.ensures.same c.if-wait-2.false) c.run-2.new.self list c.args.restore record { size = ran.size; run = ran.run })
    c.run-2.ensures.ok

pub returns-clause-left : goal.returns-clause-left
returns-clause-left g c =
    let b = c.wait.new.self in
    let d = c.settle.new.self in
    on_err c.run-2.result
    (left_settled c.args.self.now b (c.wait.ensures.same c.if-wait.false) d c.wait-2.new.self c.in_ok-settle.ensures.ok.0 (c.wait-2.ensures.same c.if-wait-2.false) c.run-2.new.self)
    c.run-2.ensures.left
