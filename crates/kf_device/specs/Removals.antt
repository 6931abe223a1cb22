-- What a removal by name finds in the tree under the lock, and why an unplug is refused.
use Rattle.std.specs.Prelude.{◌≡◌, ◌⊎◌, ℕ, Bool, true, false, List, Option, None, Some, Result, Ok, Err, MatchResult, codes}
use Rattle.std.specs.Option.{option_map_or}
use Rattle.kf_core.specs.declared.command.Command.TheVariants.{Doom}
use Rattle.kf_core.specs.declared.key.Key.{Key}
use Rattle.kf_core.specs.declared.refusal.Refusal.{Refusal}
use Rattle.kf_core.specs.declared.refusal.Refusal.TheVariants.{NoEntry}
use Rattle.kf_core.specs.Keys.{same_key}
use Rattle.kf_core.specs.PostOrder.{IsPostOrder}
use Rattle.kf_core.specs.Tree.{Tree}
use Rattle.kf_tree.specs.Causes.{doom_cause, link_target}
use Rattle.kf_tree.specs.Paths.{and_then, found, walked}
use Rattle.kf_tree.specs.TreeLogs.{TreeLog, IsAccepted}
use Rattle.kf_shared.specs.Locked.{Locked, Unchanged}
use Rattle.kf_shared.specs.Receipts.{HoldsRefusal}
use Rattle.kf_shared.specs.Removal.{keys_of}
use Rattle.kf_words.specs.Callers.{Handle}
use Rattle.kf_device.specs.declared.removal.Wanted.{Wanted}
use Rattle.kf_device.specs.declared.removal.Wanted.TheVariants.{Any, Directory, LinkTo}

-- the entry with this whole name in the directory of this path, or why there is none
abbrev pub entry_at : TreeLog → List ℕ → List ℕ → Result Key Refusal
entry_at s path name = and_then (walked s.tree s.root path) (λ dir. found s.tree dir name)

-- whether the node of a key is the wanted one: any node, the directory of this key, or a link to that
-- directory
abbrev pub fits : Tree → Wanted → Key → Bool
fits t Any key = true
fits t (Directory dir) key = same_key key dir
fits t (LinkTo dir) key = option_map_or (λ target. same_key target dir) (link_target t key) false

-- the name leads to a wanted node there, and the only command is the doom of this node with all below it;
-- these are the keys of its subtree, in post-order
pub record HasBegun (s s' : TreeLog) (path name : List ℕ) (wanted : Wanted) (keys : List Key) : Type 0 where
  pub key : Key
  pub there : entry_at s path name ≡ Ok key
  pub fit : fits s.tree wanted key ≡ true
  pub ordered : IsPostOrder s.tree key keys
  pub doomed : IsAccepted s s' (doom_cause s.tree s.root key) (Doom key)

-- the name leads to no wanted node there
abbrev pub IsMissing : TreeLog → List ℕ → List ℕ → Wanted → Type 0
IsMissing s path name wanted = (key : Key) → entry_at s path name ≡ Ok key → fits s.tree wanted key ≡ false

-- the removal of a wanted node there was begun, with these holds; or there is no wanted node there, and
-- nothing changed
abbrev pub Begins : Locked → Locked → List ℕ → List ℕ → Wanted → Option (List Handle) → Type 0
Begins s s' path name wanted None = IsMissing s.state path name wanted × (s' ≡ s)
Begins s s' path name wanted (Some holds) = HasBegun s.state s'.state path name wanted (keys_of holds)

-- the removal of a wanted node there was begun, or there is none; or the removal was refused with
-- TooManyHolds or NoMemory, and nothing changed
abbrev pub BeginsOr : Locked → Locked → List ℕ → List ℕ → Wanted
    → Result (Option (List Handle)) Refusal → Type 0
BeginsOr s s' path name wanted begun = MatchResult begun (Begins s s' path name wanted)
    (λ refusal. HoldsRefusal refusal × Unchanged s s')

-- where devices have their directories
abbrev pub devices_path : List ℕ
devices_path = codes "/devices"

-- where devices have their links
abbrev pub links_path : List ℕ
links_path = codes "/bus/devices"

-- the link to this directory or, if none is given, whatever has the name
abbrev pub link_wanted : Option Key → Wanted
link_wanted None = Any
link_wanted (Some dir) = LinkTo dir

-- this directory or, if none is given, whatever has the name
abbrev pub dir_wanted : Option Key → Wanted
dir_wanted None = Any
dir_wanted (Some dir) = Directory dir

-- first the removal of the link is begun, if it is there; then that of the directory is begun, if it is
-- there, or is refused; nothing else is begun
abbrev pub BeginsBoth : Locked → Locked → List ℕ → Option Key → Option (List Handle)
    → Result (Option (List Handle)) Refusal → Type 0
BeginsBoth s s' name dir link directory = (between : Locked)
    × Begins s between links_path name (link_wanted dir) link
    × BeginsOr between s' devices_path name (dir_wanted dir) directory

-- what an unplug returns once it is finished: why the directory stays, if its removal was refused; otherwise
-- success if the link or the directory was there, and NoEntry if not
abbrev pub left : Option (List Handle) → Result (Option (List Handle)) Refusal → Result (Unit {0}) Refusal
left link (Err refusal) = Err refusal
left link (Ok (Some holds)) = Ok tt
left (Some holds) (Ok None) = Ok tt
left None (Ok None) = Err NoEntry

-- why an unplug is refused: neither was there, or the holds for a removal were refused
abbrev pub UnplugRefusal : Refusal → Type 0
UnplugRefusal refusal = (refusal ≡ NoEntry) ⊎ HoldsRefusal refusal
