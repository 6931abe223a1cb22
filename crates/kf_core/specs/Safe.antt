-- What holds of the callers at every moment.
use Rattle.std.specs.Prelude.{◌≡◌, ◌≢◌, ℕ, IsTrue, IsFalse}
use Rattle.kf_core.specs.declared.key.Key.{Key}
use Rattle.kf_core.specs.declared.caller.Phase.{Phase}
use Rattle.kf_core.specs.declared.caller.Phase.TheVariants.{Running, Parted, Spent}
use Rattle.kf_core.specs.Phases.{saw_drain, saw_unused, is_hiding}
use Rattle.kf_core.specs.Bare.{BareWorld, IsCaller, IsLast, is_linked, is_doomed}

-- nobody is running on the key
abbrev pub NoneRunning : BareWorld → Key → Type 0
NoneRunning w key = (c : ℕ) → IsCaller w c key Running → ⊥

-- no other caller hides the key
abbrev pub OnlyHider : BareWorld → ℕ → Key → Type 0
OnlyHider w c key = (d : ℕ) (phase : Phase) → IsCaller w d key phase → IsTrue (is_hiding phase) → d ≡ c

-- only spent callers are on the key
abbrev pub NoneHolding : BareWorld → Key → Type 0
NoneHolding w key = (c : ℕ) (phase : Phase) → IsCaller w c key phase → phase ≡ Spent

-- nobody is running on a key on which a caller is drained, parted or hidden; the key of a drained or parted
-- caller is doomed; the key of a parted caller is not linked; each holder has the last generation of its
-- slot; the key of a running caller is linked; and at most one caller hides a key
pub record Safe (w : BareWorld) : Type 0 where
  -- nobody is running on a key on which a caller is drained, parted or hidden
  pub none_running : (c : ℕ) (key : Key) (phase : Phase) → IsCaller w c key phase → IsTrue (saw_unused phase)
      → NoneRunning w key
  -- the key of a drained or parted caller is doomed
  pub drain_doomed : (c : ℕ) (key : Key) (phase : Phase) → IsCaller w c key phase → IsTrue (saw_drain phase)
      → IsTrue (is_doomed w key)
  -- the key of a parted caller is not linked
  pub parted_gone : (c : ℕ) (key : Key) → IsCaller w c key Parted → IsFalse (is_linked w key)
  -- a caller that holds a slot holds the slot's last generation
  pub held_last : (c : ℕ) (key : Key) (phase : Phase) → IsCaller w c key phase → phase ≢ Spent
      → IsLast w key.slot key.generation
  -- the key of a running caller is linked
  pub running_linked : (c : ℕ) (key : Key) → IsCaller w c key Running → IsTrue (is_linked w key)
  -- at most one caller hides a key
  pub one_hides : (c : ℕ) (key : Key) (phase : Phase) → IsCaller w c key phase → IsTrue (is_hiding phase)
      → OnlyHider w c key
