-- What a new phase of one caller does to the list of callers.
use Rattle.std.proofs.Common.{◌≡◌, ℕ, refl, sym, subst, true}
use Rattle.kf_core.specs.declared.key.Key.{Key}
use Rattle.kf_core.specs.declared.caller.Phase.{Phase}
use Rattle.kf_core.specs.declared.caller.Phase.TheVariants.{Still, Turned, Running, Broken, Restored, Drained, Parted, Hiding, Hidden, Spent}
use Rattle.kf_core.specs.declared.event.Event.TheVariants.{Release}
use Rattle.kf_core.specs.Phases.{is_waiting, may_release}
use Rattle.kf_world.specs.Bounded.{BoundedWorld, May}
use Rattle.kf_tree.specs.TreeLogs.{TreeLog}
use Rattle.kf_plain.specs.Nodes.{Nodes, nodes_of, Waits}

pub waiting_releases : (p : Phase) → is_waiting p ≡ true → may_release p ≡ true
waiting_releases Still h = refl
waiting_releases Turned h = refl
waiting_releases Running h = absurd (cc)
waiting_releases Broken h = absurd (cc)
waiting_releases Restored h = absurd (cc)
waiting_releases Drained h = absurd (cc)
waiting_releases Parted h = absurd (cc)
waiting_releases Hiding h = absurd (cc)
waiting_releases Hidden h = absurd (cc)
waiting_releases Spent h = absurd (cc)

pub waits_inside : (n : Nodes) (log : TreeLog) (w : BoundedWorld) (id : ℕ) (key : Key) → nodes_of log w ≡ n → Waits n.callers id key → Waits w.world.callers id key
waits_inside n log w id key is h = subst (λ (m : Nodes). Waits m.callers id key) (sym is) h

pub may_be_released : (n : Nodes) (log : TreeLog) (w : BoundedWorld) (id : ℕ) (key : Key) → nodes_of log w ≡ n → Waits n.callers id key → May w (Release id)
may_be_released n log w id key is h = let h' = waits_inside n log w id key is h in (_, (key, h'.phase, h'.there, waiting_releases h'.phase h'.waits, refl))
