-- What a caller has in each of its phases, and what it may do.
use Rattle.std.specs.Prelude.{Bool, true, false}
use Rattle.kf_core.specs.declared.caller.Phase.{Phase}
use Rattle.kf_core.specs.declared.caller.Phase.TheVariants.{Still, Turned, Running, Restored, Drained, Parted, Hiding, Hidden, Spent}

-- phases in which a caller may try for a reference, and look for the drain
abbrev pub is_waiting : Phase → Bool
is_waiting Still = true
is_waiting Turned = true
is_waiting _ = false

-- phases in which a caller has a reference, which a drain waits for
abbrev pub has_reference : Phase → Bool
has_reference Running = true
has_reference Restored = true
has_reference _ = false

-- phases after a caller saw the drain
abbrev pub saw_drain : Phase → Bool
saw_drain Drained = true
saw_drain Parted = true
saw_drain _ = false

-- phases after a caller saw that nobody has a reference; nobody may be running on its node
abbrev pub saw_unused : Phase → Bool
saw_unused Drained = true
saw_unused Parted = true
saw_unused Hidden = true
saw_unused _ = false

-- phases in which a caller hides its node
abbrev pub is_hiding : Phase → Bool
is_hiding Hiding = true
is_hiding Hidden = true
is_hiding _ = false

-- phases in which a caller may release its hold
abbrev pub may_release : Phase → Bool
may_release Still = true
may_release Turned = true
may_release Drained = true
may_release Parted = true
may_release _ = false

-- the phase after the release: the caller holds nothing
abbrev pub is_spent : Phase → Bool
is_spent Spent = true
is_spent _ = false
