-- What was found under the lock: why values are not published, taken, swapped or called, and which names were
-- listed. In each case the caller's own hold has seen the history of the tree in which this was found.
use Rattle.std.specs.Prelude.{◌≡◌, ◌⊎◌, ℕ, List, Option, None, Some, MatchResult}
use Rattle.kf_core.specs.declared.key.Key.{Key}
use Rattle.kf_core.specs.declared.key.Node.{Node}
use Rattle.kf_core.specs.declared.refusal.Refusal.{Refusal}
use Rattle.kf_core.specs.declared.refusal.Refusal.TheVariants.{NoEntry, NoMemory, Busy, NoDevice, Invalid, NoSpace}
use Rattle.kf_core.specs.Tree.{Tree}
use Rattle.kf_tree.specs.Causes.{Refuses, create_fault, doom_cause, rename_cause}
use Rattle.kf_tree.specs.Listing.{IsListing}
use Rattle.kf_tree.specs.Paths.{seen}
use Rattle.kf_gates.specs.States.{IsLanes}
use Rattle.kf_words.specs.declared.note.Note.{Note}
use Rattle.kf_words.specs.Callers.{Handle}
use Rattle.kf_shared.specs.Finding.{HasSeenTaken, HoldCause, WasNamed}
use Rattle.kf_shared.specs.Noted.{tree_in}
use Rattle.kf_shared.specs.Receipts.{HoldsRefusal}
use Rattle.kf_registry.specs.Names.{name_in}
use Rattle.kf_registry.specs.Receipts.{IsHot, IsLeaving, IsPlain, hot_node, moved_tree, value_node}

-- when the lock was taken, `Such` was true of the tree and its root, and this hold has seen the history up to
-- then
pub record WasFound (by : Handle) (Such : Tree → Key → Type 0) : Type 0 where
  pub found : List Note
  pub root : Key
  pub at : HasSeenTaken by root found
  pub such : Such (tree_in found) root

-- why this node is not created under this name in the root: the first cause against that in this tree; or, if
-- there is none, no slot was free, or there was no memory
abbrev pub StandCause : List ℕ → Node → Refusal → Tree → Key → Type 0
StandCause name node why t root = (create_fault t root root name node ≡ Some why)
    ⊎ ((create_fault t root root name node ≡ None) × ((why ≡ NoSpace) ⊎ (why ≡ NoMemory)))

-- why a value is not published: the path is not one of a registry; or why its node is not created
abbrev pub PublishRefused : List ℕ → Handle → Refusal → Type 0
PublishRefused path by why =
    MatchResult (name_in path) (λ name. WasFound by (StandCause name value_node why))
    (λ refusal. why ≡ refusal)

-- why a hot value is not published: the path is not one of a registry; a gate may not have this number of
-- lanes; there was no memory; or why its node is not created
abbrev pub HotRefused : List ℕ → ℕ → Handle → Refusal → Type 0
HotRefused path lanes by why = MatchResult (name_in path)
    (λ name. ((IsLanes lanes → ⊥) × (why ≡ Invalid))
    ⊎ (IsLanes lanes × ((why ≡ NoMemory) ⊎ WasFound by (StandCause name hot_node why))))
    (λ refusal. why ≡ refusal)

-- why the node of a key is not removed: the cause against its doom; or, if there is none, a hold was refused
abbrev pub KeyCause : Tree → Key → Key → Refusal → Type 0
KeyCause t root key why = (doom_cause t root key ≡ Some why)
    ⊎ ((doom_cause t root key ≡ None) × HoldsRefusal why)

-- why a value is not taken: the path names no live node in this tree; its value is hot; or why the node is
-- not removed
abbrev pub TakeCause : List ℕ → Refusal → Tree → Key → Type 0
TakeCause path why t root = MatchResult (seen t root path)
    (λ key. (IsHot t key × (why ≡ Busy)) ⊎ (IsPlain t key × KeyCause t root key why))
    (λ refusal. why ≡ refusal)

-- why the hot value of this key is not taken: the path names no live node in this tree; it names a node of
-- another key, or a value that is not hot; or why the node is not removed
abbrev pub HotTakeCause : List ℕ → Key → Refusal → Tree → Key → Type 0
HotTakeCause path key why t root = MatchResult (seen t root path)
    (λ named. (((named ≡ key) × IsHot t named → ⊥) × (why ≡ NoEntry))
    ⊎ ((named ≡ key) × KeyCause t root key why))
    (λ refusal. why ≡ refusal)

-- why the node of a key does not give way to another under this name: there is no hold of it; its move to a
-- leaving name is refused; or why the other one is not created after that move
abbrev pub GiveWayCause : Tree → Key → Key → List ℕ → Refusal → Type 0
GiveWayCause t root key name why = HoldCause t key why ⊎ ((away : List ℕ) × IsLeaving away
    × (Refuses (rename_cause t root key root away) why
    ⊎ StandCause name value_node why (moved_tree t root key away) root))

-- why a value is not swapped: the path names no live node in this tree; its value is hot; or why the node
-- does not give way
abbrev pub SwapCause : List ℕ → List ℕ → Refusal → Tree → Key → Type 0
SwapCause path name why t root = MatchResult (seen t root path)
    (λ key. (IsHot t key × (why ≡ Busy)) ⊎ (IsPlain t key × GiveWayCause t root key name why))
    (λ refusal. why ≡ refusal)

-- why a value is not swapped: the path is not one of a registry; or such a cause was found under the lock
abbrev pub SwapRefused : List ℕ → Handle → Refusal → Type 0
SwapRefused path by why = MatchResult (name_in path)
    (λ name. WasFound by (SwapCause path name why)) (λ refusal. why ≡ refusal)

-- why there is no caller of a hot value: the path names no live node in this tree; its value is not hot;
-- another pass of its gate is refused; or the node's place was empty
abbrev pub HotCallerCause : List ℕ → Refusal → Tree → Key → Type 0
HotCallerCause path why t root = MatchResult (seen t root path)
    (λ key. (IsPlain t key × (why ≡ Invalid)) ⊎ (IsHot t key × (HoldsRefusal why ⊎ (why ≡ NoEntry))))
    (λ refusal. why ≡ refusal)

-- why there is no caller of a hot value: the path is not one of a registry; or such a cause was found under
-- the lock
abbrev pub HotCallerRefused : List ℕ → Handle → Refusal → Type 0
HotCallerRefused path by why = MatchResult (name_in path)
    (λ name. WasFound by (HotCallerCause path why)) (λ refusal. why ≡ refusal)

-- the path named a live node when the lock was taken, but the node's word or its place turned the caller
-- away, with NoDevice or NoEntry
abbrev pub WasNotLent : List ℕ → Handle → Refusal → Type 0
WasNotLent path by why = ((why ≡ NoDevice) ⊎ (why ≡ NoEntry)) × ((hold : Handle) × WasNamed path by hold)

-- when the lock was taken, these were the first live names in the root above the bound, in byte order, up to
-- the limit
abbrev pub WereListed : Handle → Option (List ℕ) → ℕ → List (List ℕ) → Type 0
WereListed by after most names = WasFound by (λ t root. IsListing t root after most names)
