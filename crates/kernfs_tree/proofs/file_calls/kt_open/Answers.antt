use Rattle.std.proofs.Common.{◌≡◌, ◌∙◌, rules}
use mir.Syntax.{w32}
use mir.Val.{of_z, to_z}
use Rattle.kernfs_tree.proofs.file_calls.kt_open.Goals as goal

pub returns-clause-why : goal.returns-clause-why
returns-clause-why c = λ room refused.
    let same : to_z w32 (of_z w32 c.open.result) ≡ c.open.result = search rules in
    rw same (c.open.ensures.why room (λ zero. refused (same ∙ zero)))
