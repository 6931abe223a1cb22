use Rattle.std.proofs.Common.{inr, refl}
use Rattle.kf_core.specs.declared.refusal.Refusal.TheVariants.{NoMemory}
use Rattle.kf_handles.proofs.file_steps.open.Goals as goal

-- there was no memory for the file
pub returns-in-Err-new-clause-why : goal.returns-in-Err-new-clause-why
returns-in-Err-new-clause-why c = λ room refused. (NoMemory, inr (inr (inr (inr refl))), refl)
