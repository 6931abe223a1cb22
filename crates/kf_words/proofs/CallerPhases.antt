-- What a caller's phase says about its reference, and whether it hides its key.
use Rattle.std.proofs.Common.{◌≡◌, ◌≢◌, true, false, refl, subst}
use Rattle.kf_core.specs.declared.caller.Phase.{Phase}
use Rattle.kf_core.specs.declared.caller.Phase.TheVariants.{Still, Turned, Running, Broken, Restored, Drained, Parted, Hiding, Hidden, Spent}
use Rattle.kf_core.specs.Phases.{has_reference, is_waiting, is_hiding, may_release}

pub not_running : (p : Phase) → is_waiting p ≡ true → p ≢ Running
not_running p e r = let x : is_waiting Running ≡ true = subst (λ (q : Phase). is_waiting q ≡ true) r e in cc

-- a caller that waits hides nothing, and neither does one that has a reference or may release its hold
pub waits_shown : (p : Phase) → is_waiting p ≡ true → is_hiding p ≡ false
waits_shown Still e = refl
waits_shown Turned e = refl
waits_shown Running e = absurd (let x : false ≡ true = e in cc)
waits_shown Broken e = absurd (let x : false ≡ true = e in cc)
waits_shown Restored e = absurd (let x : false ≡ true = e in cc)
waits_shown Drained e = absurd (let x : false ≡ true = e in cc)
waits_shown Parted e = absurd (let x : false ≡ true = e in cc)
waits_shown Hiding e = absurd (let x : false ≡ true = e in cc)
waits_shown Hidden e = absurd (let x : false ≡ true = e in cc)
waits_shown Spent e = absurd (let x : false ≡ true = e in cc)

pub counts_shown : (p : Phase) → has_reference p ≡ true → is_hiding p ≡ false
counts_shown Still e = absurd (let x : false ≡ true = e in cc)
counts_shown Turned e = absurd (let x : false ≡ true = e in cc)
counts_shown Running e = refl
counts_shown Broken e = absurd (let x : false ≡ true = e in cc)
counts_shown Restored e = refl
counts_shown Drained e = absurd (let x : false ≡ true = e in cc)
counts_shown Parted e = absurd (let x : false ≡ true = e in cc)
counts_shown Hiding e = absurd (let x : false ≡ true = e in cc)
counts_shown Hidden e = absurd (let x : false ≡ true = e in cc)
counts_shown Spent e = absurd (let x : false ≡ true = e in cc)

pub idle_shown : (p : Phase) → may_release p ≡ true → is_hiding p ≡ false
idle_shown Still e = refl
idle_shown Turned e = refl
idle_shown Running e = absurd (let x : false ≡ true = e in cc)
idle_shown Broken e = absurd (let x : false ≡ true = e in cc)
idle_shown Restored e = absurd (let x : false ≡ true = e in cc)
idle_shown Drained e = refl
idle_shown Parted e = refl
idle_shown Hiding e = absurd (let x : false ≡ true = e in cc)
idle_shown Hidden e = absurd (let x : false ≡ true = e in cc)
idle_shown Spent e = absurd (let x : false ≡ true = e in cc)

-- a caller that may release its hold has no reference
pub idle_uncounted : (p : Phase) → may_release p ≡ true → has_reference p ≡ false
idle_uncounted Still e = refl
idle_uncounted Turned e = refl
idle_uncounted Running e = absurd (let x : false ≡ true = e in cc)
idle_uncounted Broken e = refl
idle_uncounted Restored e = absurd (let x : false ≡ true = e in cc)
idle_uncounted Drained e = refl
idle_uncounted Parted e = refl
idle_uncounted Hiding e = refl
idle_uncounted Hidden e = refl
idle_uncounted Spent e = refl
