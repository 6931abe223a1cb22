use Rattle.kf_table.proofs.Boxes.{nothing_above}
use Rattle.kf_table.proofs.directories.Directories.above.Goals as goal

pub returns-in_default : goal.returns-in_default
returns-in_default c =
    let none = rw c.in_default.is at c.get.ensures.none in
    rw c.none.ensures.empty (record { listed = nothing_above _ _ none })
