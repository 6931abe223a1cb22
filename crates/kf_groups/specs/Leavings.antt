-- What the removal of a group has begun under a lock, step by step.
use Rattle.std.specs.Prelude.{◌≡◌, ◌⊎◌, ℕ, List, [], ◌∷◌, Option, None, Some, Result, Ok, Err}
use denote.Ref.{Bor}
use Rattle.kf_core.specs.declared.command.Command.TheVariants.{Doom}
use Rattle.kf_core.specs.declared.key.Key.{Key}
use Rattle.kf_core.specs.declared.refusal.Refusal.{Refusal}
use Rattle.kf_core.specs.declared.refusal.Refusal.TheVariants.{NoEntry, NoMemory}
use Rattle.kf_core.specs.PostOrder.{IsPostOrder}
use Rattle.kf_tree.specs.Causes.{doom_cause}
use Rattle.kf_tree.specs.Paths.{found}
use Rattle.kf_tree.specs.TreeLogs.{TreeLog, IsAccepted}
use Rattle.kf_words.specs.Callers.{Handle}
use Rattle.kf_shared.specs.Locked.{Locked, Unchanged}
use Rattle.kf_shared.specs.Receipts.{NamedRefused}
use Rattle.kf_shared.specs.Removal.{keys_of}
use Rattle.kf_groups.specs.declared.attribute.Attribute.{Attribute}
use Rattle.kf_groups.specs.declared.attribute.Group.{Group}

-- the name leads to a node, and the only command is the doom of this node with all below it; these holds are
-- of its subtree, in post-order
pub record NameBegun (s s' : TreeLog) (dir : Key) (name : List ℕ) (holds : List Handle) : Type 0 where
  pub key : Key
  pub there : found s.tree dir name ≡ Ok key
  pub ordered : IsPostOrder s.tree key (keys_of holds)
  pub doomed : IsAccepted s s' (doom_cause s.tree s.root key) (Doom key)

-- the removal of what the name leads to is refused, for this reason, and nothing has changed
abbrev pub NameStopped : Locked → Locked → Key → List ℕ → Refusal → Type 0
NameStopped s s' dir name why = NamedRefused s.state (found s.state.tree dir name) why × Unchanged s s'

-- for one attribute after another, the removal of its file is begun; or there is no such file, and it is
-- skipped; or the removal is refused, and nothing more is begun
abbrev pub FilesBegun : Locked → Locked → Key → List Attribute → List (List Handle) → Option Refusal → Type 0
FilesBegun s s' dir [] begun refused = (begun ≡ []) × (refused ≡ None) × (s' ≡ s)
FilesBegun s s' dir (attribute ∷ attributes) begun refused =
    ((marked : Locked) × (holds : List Handle) × (later : List (List Handle)) × (begun ≡ holds ∷ later)
    × NameBegun s.state marked.state dir attribute.name.now holds
    × FilesBegun marked s' dir attributes later refused)
    ⊎ ((same : Locked) × NameStopped s same dir attribute.name.now NoEntry
    × FilesBegun same s' dir attributes begun refused)
    ⊎ ((why : Refusal) × (refused ≡ Some why) × (begun ≡ []) × NameStopped s s' dir attribute.name.now why)

-- which removals were begun: if the group has a name, only the removal of its directory, and nothing was
-- refused; if it has none, those of its files
abbrev pub BegunByName : Locked → Locked → Key → List Attribute → Option (Bor (List ℕ))
    → Option (List Handle) → List (List Handle) → Option Refusal → Type 0
BegunByName s s' dir attributes None directory files refused =
    (directory ≡ None) × FilesBegun s s' dir attributes files refused
BegunByName s s' dir attributes (Some name) directory files refused = (files ≡ []) × (refused ≡ None)
    × ((holds : List Handle) × (directory ≡ Some holds) × NameBegun s.state s'.state dir name.now holds)

abbrev pub GroupBegun : Locked → Locked → Key → Group → Option (List Handle) → List (List Handle)
    → Option Refusal → Type 0
GroupBegun s s' dir group directory files refused =
    BegunByName s s' dir group.attributes.now group.name directory files refused

-- why no removal is begun for a group
abbrev pub StoppedByName : TreeLog → Key → Option (Bor (List ℕ)) → Refusal → Type 0
StoppedByName s dir None why = why ≡ NoMemory
StoppedByName s dir (Some name) why = NamedRefused s (found s.tree dir name.now) why

abbrev pub GroupStopped : TreeLog → Key → Group → Refusal → Type 0
GroupStopped s dir group why = StoppedByName s dir group.name why

-- the refusal in this result, if it has one
abbrev pub why_ended : Result (Unit {0}) Refusal → Option Refusal
why_ended (Ok done) = None
why_ended (Err why) = Some why

-- the result once all removals are finished: the refusal that ended them, if there was one
abbrev pub ended : Option Refusal → Result (Unit {0}) Refusal
ended None = Ok tt
ended (Some why) = Err why
