use Rattle.kf_registry.proofs.hot_caller.lend_inside.Goals as goal

pub returns-in-Ok : goal.returns-in-Ok
returns-in-Ok g c = record { ran = rw (← c.loop.invariant) c.in-Ok.ensures.ran }
