use Rattle.kf_registry.proofs.caller.ValueCaller.call.Goals as goal

pub returns-in-Ok-ran-clause-ran : goal.returns-in-Ok-ran-clause-ran
returns-in-Ok-ran-clause-ran g c = rw (← c.in-Err.ensures.back) c.in-Ok-ran.ensures.ran
