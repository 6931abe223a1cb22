-- What is reported for a device, and whom its removal wakes.
use Rattle.std.proofs.Common.{◌≡◌, inl, inr, ℕ, ◌-◌, ◌^◌, ◌<◌, ◌≤◌, List, [], ◌∷◌, ◌++◌, refl, ap, sym, subst, true, false}
use Rattle.std.specs.Prelude.{Option, Some, Result, Ok, Err, IfOk, IfErr, MatchBool}
use Rattle.std.specs.Option.{option_map_or}
use Rattle.kf_core.specs.declared.key.Key.{Key}
use Rattle.kf_core.specs.declared.slot.NodeFlags.{NodeFlags}
use Rattle.kf_core.specs.Marks.{fresh_marks}
use Rattle.kf_core.specs.Tree.{Tree, marks_of}
use Rattle.kf_files.specs.Telling.{WasTold, WereTold}
use Rattle.kf_notify.specs.PostStates.{Numbers, HandleRaised, HandleFound, id_of}
use Rattle.kf_uevents.specs.declared.uevent.Action.{Action}
use Rattle.kf_uevents.specs.declared.uevent.Action.TheVariants.{Add}
use Rattle.kf_uevents.specs.Devices.{DeviceTold}
use Rattle.kf_uevents.specs.declared.uevent.Uevent.{Uevent}
use Rattle.kf_tree.specs.TreeLogs.{TreeLog}
use Rattle.kf_uevents.specs.Logs.{LogState, Told}
use Rattle.kf_uevents.specs.News.{IsEventOf, OneTold, is_told, tells}

-- the slot was notified: its number was raised, or was found at the last one
pub woken_by : {E : Type 0} (old new : Numbers) (slot : ℕ) (result : Result ℕ E) → slot < old.slots → id_of new ≡ id_of old
    → IfOk result (λ number. HandleRaised old slot number new) → IfErr result (λ _. HandleFound old slot (2 ^ 64 - 1) new) → WasTold old slot new
woken_by old new slot (Ok number) near same raised full = record { same = same; told = inl (near, (number, raised)) }
woken_by old new slot (Err why) near same raised full = record { same = same; told = inr (inl (near, full)) }

-- if the slot has no number, to notify it does nothing
pub woken_nobody : (old : Numbers) (slot : ℕ) → old.slots ≤ slot → WasTold old slot old
woken_nobody old slot past = record { same = refl; told = inr (inr (past, refl)) }

-- the slots of the keys so far were notified, and then the slot of one more key
pub one_more : (old between new : Numbers) (keys : List Key) (key : Key) → WereTold old keys between → WasTold between key.slot new → WereTold old (keys ++ key ∷ []) new
one_more old between new [] key told one = (new, subst (λ (n : Numbers). WasTold n key.slot new) told one, refl)
one_more old between new (k ∷ ks) key told one = (told.0, told.1, one_more told.0 between new ks key told.2 one)

-- a node that was just born is reported when it is activated
pub born_is_told : (t : Tree) (key : Key) → marks_of t key ≡ Some fresh_marks → is_told t Add key ≡ true
born_is_told t key born = ap (λ (o : Option NodeFlags). option_map_or (tells Add) o false) born

-- if the node is one that is reported, one event was reported
pub told_one : (t : Tree) (root key : Key) (action : Action) (old new : LogState) → is_told t action key ≡ true
    → DeviceTold t root action key old new → OneTold t root action key old new
told_one t root key action old new is told = subst (λ b. MatchBool b (OneTold t root action key old new) (new ≡ old)) is told

-- the node is one that is reported, and its event was reported
pub told_device : (found kept : TreeLog) (key : Key) (action : Action) (event : Uevent) (old new : LogState) → found ≡ kept → is_told found.tree action key ≡ true
    → event.key ≡ key → IsEventOf found.tree found.root action event → Told old new (event ∷ []) → DeviceTold kept.tree kept.root action key old new
told_device found kept key action event old new same is keyed tells told =
    subst (λ (s : TreeLog). DeviceTold s.tree s.root action key old new) same
    (subst (λ b. MatchBool b (OneTold found.tree found.root action key old new) (new ≡ old)) (sym is) (event, keyed, tells, told))
