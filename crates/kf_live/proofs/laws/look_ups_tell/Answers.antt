use Rattle.kf_live.proofs.Alike.{lead_alike, lead_soundly}
use Rattle.kf_live.proofs.laws.look_ups_tell.Goals as goal

pub returns : goal.returns
returns c = record { lead_alike = lead_alike; lead_soundly = lead_soundly }
