use Rattle.kf_index.proofs.Above.{first_from_gap, first_past_place}
use Rattle.kf_index.proofs.named.first_above.Goals as goal

pub returns-in-Ok : goal.returns-in-Ok
returns-in-Ok c = record { first = first_past_place _ c.requires.rising _ _ c.in-Ok.ensures.found }

pub returns-in-Err : goal.returns-in-Err
returns-in-Err c = record { first = first_from_gap _ _ _ c.in-Err.ensures.absent }
