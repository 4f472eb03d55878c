use Rattle.immediate.proofs.context.fn.ImmediateContext.perform_by_crew.new+arg3+FnOnce.call_once.Goals as goal

pub new+arg3-requires : goal.new+arg3-requires
new+arg3-requires g c = let k = c.requires.1.1.1 in (k.1.0, (k.1.1, (k.1.2, (k.1.3, k.0))))
