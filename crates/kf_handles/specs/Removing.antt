-- What a removal in steps stores, and why it is refused.
use Rattle.std.specs.Prelude.{◌≡◌, ◌⊎◌, true, false, Bool, List, [], ◌∷◌, ◌++◌, Contains, All, MatchBool, if◌then◌else◌}
use Rattle.kf_core.specs.declared.key.Key.{Key}
use Rattle.kf_core.specs.declared.command.Command.{Command}
use Rattle.kf_core.specs.declared.command.Command.TheVariants.{Doom, Unlink, Show}
use Rattle.kf_core.specs.declared.refusal.Refusal.{Refusal}
use Rattle.kf_core.specs.declared.refusal.Refusal.TheVariants.{Invalid, NoEntry, NoMemory, TooManyHolds}
use Rattle.kf_core.specs.Keys.{same_key}
use Rattle.kf_core.specs.PostOrder.{IsPostOrder}
use Rattle.kf_core.specs.Tree.{is_linked}
use Rattle.kf_tree.specs.Causes.{doomed_in}
use Rattle.kf_tree.specs.TreeLogs.{Stores}
use Rattle.kf_shared.specs.Locked.{Locked, was_given}
use Rattle.kf_shared.specs.Removal.{FoundFullIn}

-- the command takes one of these nodes out of the tree, or shows it
abbrev pub IsEndOf : List Key → Command → Type 0
IsEndOf keys (Unlink key) = Contains keys key
IsEndOf keys (Show key) = Contains keys key
IsEndOf keys other = ⊥

-- some of these nodes were shown or taken out, and nothing else was done
abbrev pub Ends : List Key → Locked → Locked → Type 0
Ends keys old new = (more : List Command) × All (IsEndOf keys) more × Stores old.state new.state more
    × (new.claims ≡ old.claims)

-- what is stored when a node is marked: nothing, if it was marked before
abbrev pub mark_of : Bool → Key → List Command
mark_of marked key = (if marked then [] else Doom key ∷ [])

-- the node and all nodes below it were marked, if the node was not marked before; then some of these nodes
-- were shown or taken out, and nothing else was done
abbrev pub Removes : Bool → Locked → Locked → Key → Type 0
Removes marked old new key = (keys : List Key) × (more : List Command)
    × IsPostOrder old.state.tree key keys × All (IsEndOf keys) more
    × Stores old.state new.state (mark_of marked key ++ more) × (new.claims ≡ old.claims)

-- this was done with a node that was linked, and afterwards its key is linked, or not, as `linked` says
abbrev pub IsRemoving : Locked → Locked → Key → Bool → Type 0
IsRemoving old new key linked = (is_linked old.state.tree key ≡ true)
    × (is_linked new.state.tree key ≡ linked) × Removes (doomed_in old.state.tree key) old new key

-- the key had been given in this tree, its node was no longer linked, and nothing was done
abbrev pub WasGone : Locked → Locked → Key → Type 0
WasGone old new key =
    (was_given old.master.view key ≡ true) × (is_linked old.state.tree key ≡ false) × (new ≡ old)

-- the node was linked; it and all nodes below it are marked, and nothing else is stored
abbrev pub IsMarked : Locked → Locked → Key → Type 0
IsMarked old new key = (is_linked old.state.tree key ≡ true)
    × Stores old.state new.state (mark_of (doomed_in old.state.tree key) key)

-- ---- refusals

-- why the marks of a linked node are refused: it is the root; else a node of the subtree was found with the
-- greatest number of holds, or there was no memory
abbrev pub MarkRefused : Locked → Locked → Key → Refusal → Type 0
MarkRefused old new key why = MatchBool (same_key key old.state.root)
    (why ≡ Invalid)
    (((why ≡ TooManyHolds) × FoundFullIn old.state.tree key new.master.view) ⊎ (why ≡ NoMemory))

-- why a removal is refused: the key was never given in this tree; or the node is marked, and there was no
-- memory; or the node is not marked, and its marks are refused
abbrev pub RemoveRefused : Locked → Locked → Key → Refusal → Type 0
RemoveRefused old new key why = MatchBool (is_linked old.state.tree key)
    (MatchBool (doomed_in old.state.tree key) (why ≡ NoMemory) (MarkRefused old new key why))
    ((why ≡ NoEntry) × (was_given old.master.view key ≡ false))

-- why a claim is refused: the node is not linked; or it is not marked, and its marks are refused
abbrev pub ClaimRefused : Locked → Locked → Key → Refusal → Type 0
ClaimRefused old new key why = MatchBool (is_linked old.state.tree key)
    ((doomed_in old.state.tree key ≡ false) × MarkRefused old new key why)
    (why ≡ NoEntry)
