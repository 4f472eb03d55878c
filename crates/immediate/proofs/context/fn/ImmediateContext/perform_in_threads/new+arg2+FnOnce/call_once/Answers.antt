use Rattle.immediate.proofs.context.fn.ImmediateContext.perform_in_threads.new+arg2+FnOnce.call_once.Goals as goal

pub new+arg2-requires : goal.new+arg2-requires
new+arg2-requires g c = let k = c.requires.1.1 in (k.1.0, (k.1.1, (k.1.2, (k.1.3, k.0))))
