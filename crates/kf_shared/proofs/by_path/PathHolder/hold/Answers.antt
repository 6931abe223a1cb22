use Rattle.kf_shared.proofs.Finding.{same_holder}
use Rattle.kf_shared.proofs.by_path.PathHolder.hold.Goals as goal

pub returns-clause-same : goal.returns-clause-same
returns-clause-same g c =
    let locked = c.hold_locked.ensures in
    same_holder _ _ _ c.in_default.ensures.same locked.looker locked.seat locked.stays
