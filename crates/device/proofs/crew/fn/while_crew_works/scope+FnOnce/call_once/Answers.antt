use Rattle.device.proofs.crew.fn.while_crew_works.«scope+FnOnce».call_once.Goals as goal

-- behind what it says of lifetimes the closure has its own requires, and then what is known of the type parameters
pub scope-requires : goal.scope-requires
scope-requires g c =
    let known = c.requires.1.1.1.1.1 in (known.1.0, (known.1.1, (known.1.2, (known.1.3, (known.1.4, known.0)))))
