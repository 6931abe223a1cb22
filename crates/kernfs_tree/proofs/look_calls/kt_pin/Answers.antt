use Rattle.std.proofs.Common.{◌≡◌, ◌∙◌, rules}
use mir.Syntax.{w32}
use mir.Val.{of_z, to_z}
use Rattle.kernfs_tree.proofs.look_calls.kt_pin.Goals as goal

pub returns-clause-why : goal.returns-clause-why
returns-clause-why c = λ room refused.
    let same : to_z w32 (of_z w32 c.pin.result) ≡ c.pin.result = search rules in
    rw same (c.pin.ensures.why room (λ zero. refused (same ∙ zero)))
