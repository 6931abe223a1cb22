use Rattle.std.proofs.Common.{refl, inr, rules}
use Rattle.kf_script.specs.declared.fault.RunFault.TheVariants.{Memory}
use Rattle.kf_run.proofs.opened.run_opened.Goals as goal

pub returns-in-OutOfMemory-clause-fault : goal.returns-in-OutOfMemory-clause-fault
returns-in-OutOfMemory-clause-fault g c = λ _. (Memory, c.tell.ensures.named, inr (refl, search rules, search rules))
