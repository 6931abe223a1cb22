use Rattle.std.proofs.Common.{◌≡◌, ℕ, ◌<◌, true, get_or}
use Rattle.kf_words.specs.Callers.{Handle}
use Rattle.kf_gates.specs.States.{KeeperState}
use Rattle.kf_hot.specs.Gated.{kept_by, openings}
use Rattle.kf_hot.proofs.removal.shut_each.Given as goal

abbrev pub invariant-loop-gate : goal.invariant-loop-gate
invariant-loop-gate l = ((k : ℕ) (d : KeeperState Handle) → k < l.gate-index → (get_or l.gates k d).plan.shut ≡ true)
    × (openings l.gates ≡ openings l.fn.gates) × (kept_by l.gates ≡ kept_by l.fn.gates)
