-- What the receipts of a removal say, and why a removal is refused.
use Rattle.std.specs.Prelude.{◌≡◌, ◌≢◌, ◌⊎◌, List, [], ◌∷◌, ◌++◌, map, All, AllPairs, MatchBool, None, Some, true, Result, MatchResult}
use Rattle.kf_core.specs.declared.key.Key.{Key}
use Rattle.kf_core.specs.declared.refusal.Refusal.{Refusal}
use Rattle.kf_core.specs.declared.refusal.Refusal.TheVariants.{Invalid, NoEntry, NoMemory, TooManyHolds}
use Rattle.kf_core.specs.Keys.{same_key}
use Rattle.kf_core.specs.PostOrder.{IsPostOrder}
use Rattle.kf_core.specs.Tree.{Tree, is_linked, in_subtree}
use Rattle.kf_tree.specs.Causes.{doom_cause}
use Rattle.kf_tree.specs.TreeLogs.{TreeLog}
use Rattle.kf_words.specs.Callers.{TableId, Handle, SeatId, IsSameSeat, id_of}
use Rattle.kf_words.specs.Nodes.{IsLastKey}
use Rattle.kf_shared.specs.Locked.{Locked}

-- all are of this table
abbrev pub AreOf : TableId → List Handle → Type 0
AreOf table handles = All (λ h. h.table ≡ table) handles

-- no key occurs twice
abbrev pub AllDifferent : List Key → Type 0
AllDifferent keys = AllPairs (λ a b. a ≢ b) keys

-- what no step of a seat changes: its key, and which seat of which table it is
pub record Owner : Type 0 where
  pub key : Key
  pub seat : SeatId

-- the owner of this hold, call or receipt
abbrev pub owner : Handle → Owner
owner h = record { key = h.key; seat = id_of h }

-- the owners of all these, in their order
abbrev pub owners_of : List Handle → List Owner
owners_of handles = map owner handles

-- there is a last one of these, and its seat is that of this hold
abbrev pub EndsAt : List Handle → Handle → Type 0
EndsAt handles hold =
    (front : List Handle) × (last : Handle) × (handles ≡ front ++ last ∷ []) × IsSameSeat hold last

-- the keys of the node's subtree, in post-order; if the node is not linked, only its own
abbrev pub IsDoomList : Tree → Key → List Key → Type 0
IsDoomList t key keys = MatchBool (is_linked t key) (IsPostOrder t key keys) (keys ≡ key ∷ [])

-- there is a node below the top
abbrev pub HasBelow : Tree → Key → Type 0
HasBelow t top = (key : Key) × (key ≢ top) × (in_subtree t top key ≡ true)

-- why the removal of a node of this tree is refused: it is the root; otherwise there were too many holds, and
-- there is a node below, or there was no memory. If the node is no longer linked, there was no memory
abbrev pub RemovalRefused : Tree → Key → Key → Refusal → Type 0
RemovalRefused t root key why = MatchBool (is_linked t key)
    (MatchBool (same_key key root)
    (why ≡ Invalid)
    (((why ≡ TooManyHolds) × HasBelow t key) ⊎ (why ≡ NoMemory)))
    (why ≡ NoMemory)

-- why holds are refused: a node has no room for another hold, or there was no memory
abbrev pub HoldsRefusal : Refusal → Type 0
HoldsRefusal why = (why ≡ TooManyHolds) ⊎ (why ≡ NoMemory)

-- why the removal of a call's own node is refused: it is the root; otherwise the slot has had a later node,
-- or it has not and the holds were refused
abbrev pub SelfRefused : Locked → Key → Refusal → Type 0
SelfRefused s key why = MatchBool (same_key key s.state.root)
    (why ≡ Invalid)
    (((why ≡ NoEntry) × (¬ IsLastKey s.master.view key)) ⊎ (IsLastKey s.master.view key × HoldsRefusal why))

-- why a removal is refused, whatever the tree
abbrev pub RemovalRefusal : Refusal → Type 0
RemovalRefusal why = (why ≡ Invalid) ⊎ HoldsRefusal why

-- why a self-removal is refused, whatever the tree
abbrev pub SelfRemovalRefusal : Refusal → Type 0
SelfRemovalRefusal why = (why ≡ NoEntry) ⊎ RemovalRefusal why

-- if the node is linked, there is no cause against its doom
abbrev pub MayBeDoomed : TreeLog → Key → Type 0
MayBeDoomed s key = is_linked s.tree key ≡ true → doom_cause s.tree s.root key ≡ None

-- there is no cause against the doom of the node, and these are the keys of its subtree, in post-order
pub record IsRemovalOf (s : TreeLog) (key : Key) (keys : List Key) : Type 0 where
  pub no_cause : doom_cause s.tree s.root key ≡ None
  pub ordered : IsPostOrder s.tree key keys

-- why the node of a key is not removed: there was this cause against its doom; or there was none, and the
-- holds were refused
abbrev pub KeyRefused : TreeLog → Key → Refusal → Type 0
KeyRefused s key why = (doom_cause s.tree s.root key ≡ Some why)
    ⊎ ((doom_cause s.tree s.root key ≡ None) × HoldsRefusal why)

-- the name or path led to no node, for this reason, or to a node that was not removed, for this reason
abbrev pub NamedRefused : TreeLog → Result Key Refusal → Refusal → Type 0
NamedRefused s place why = MatchResult place (λ key. KeyRefused s key why) (λ refusal. refusal ≡ why)
