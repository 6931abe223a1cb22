-- Why a removal that reports its events is refused.
use Rattle.std.specs.Prelude.{◌≡◌, ◌⊎◌, None}
use Rattle.kf_core.specs.declared.key.Key.{Key}
use Rattle.kf_core.specs.declared.refusal.Refusal.{Refusal}
use Rattle.kf_core.specs.declared.refusal.Refusal.TheVariants.{NoSpace}
use Rattle.kf_tree.specs.Causes.{doom_cause}
use Rattle.kf_tree.specs.TreeLogs.{TreeLog}
use Rattle.kf_shared.specs.Receipts.{KeyRefused}
use Rattle.kf_uevents.specs.Logs.{LogState, IsUsedUp}

-- the removal itself is refused; or there is no cause to refuse the doom of the node, but no number was left
abbrev pub RemoveRefused : LogState → TreeLog → Key → Refusal → Type 0
RemoveRefused log s key refusal = KeyRefused s key refusal
    ⊎ ((doom_cause s.tree s.root key ≡ None) × (refusal ≡ NoSpace) × IsUsedUp log)
