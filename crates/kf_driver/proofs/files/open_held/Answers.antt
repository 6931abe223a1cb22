use Rattle.std.proofs.Common.{rules, inr}
use Rattle.kf_driver.proofs.Openings.{refused}
use Rattle.kf_driver.proofs.files.open_held.Goals as goal

pub returns-clause-refused : goal.returns-clause-refused
returns-clause-refused g c =
    λ mode tag is_file. inr (refused _ _ _ _ mode tag _ c.in-Err-open_on.ensures.opens (search rules))
