-- The rules for what one step up shows about whether the way up meets a top.
use Rattle.kf_core.proofs.Climbs.{meets_more, meets_none, meets_here}

pub ruleset one_step = (meets_more, meets_none, meets_here)
