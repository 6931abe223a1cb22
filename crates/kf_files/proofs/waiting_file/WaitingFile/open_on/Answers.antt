use Rattle.kf_files.proofs.Waits.{visits_told, opens_told}
use Rattle.kf_files.proofs.waiting_file.WaitingFile.open_on.Goals as goal

pub returns-in-Err-clause-opens : goal.returns-in-Err-clause-opens
returns-in-Err-clause-opens g c = rw c.into_hold.ensures.same (rw (← c.new.ensures.same) (opens_told (λ v. visits_told _ _ _ _ (λ i. i) (λ d x. x) v) c.in-Err.ensures.opens))
