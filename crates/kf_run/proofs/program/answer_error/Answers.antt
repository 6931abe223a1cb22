use Rattle.std.proofs.Common.{refl, inl, rules}
use Rattle.kf_script.specs.declared.fault.RunFault.TheVariants.{Memory}
use Rattle.kf_run.proofs.program.answer_error.Goals as goal

pub returns-in_default-clause-fault : goal.returns-in_default-clause-fault
returns-in_default-clause-fault g c = λ _. (Memory, c.tell-in_default.ensures.named, inl (refl, search rules))
