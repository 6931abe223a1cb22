use Rattle.kf_shared.proofs.LookUps.{look_ups_start, look_ups_are_of_run, look_ups_go_on}
use Rattle.kf_shared.proofs.laws.look_ups_are_of_run.Goals as goal

pub returns : goal.returns
returns c = record { start = look_ups_start; of_run = look_ups_are_of_run; go_on = look_ups_go_on }
