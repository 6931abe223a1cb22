-- What look-ups in the tree behind a handle return, and what a program gets of that.
use Rattle.std.specs.Prelude.{◌≡◌, ◌<◌, ◌≤◌, ◌⊎◌, ◌^◌, ◌+◌, ℕ, ℤ, pos, negsuc, neg_ℤ, List, [], ◌∷◌, ◌++◌, length, drop, false, Option, None, Some, Result, Ok, Err}
use Rattle.std.specs.Option.{option_map, ok_or}
use Rattle.kf_core.specs.declared.key.Key.{Key}
use Rattle.kf_core.specs.declared.refusal.Refusal.{Refusal}
use Rattle.kf_core.specs.declared.refusal.Refusal.TheVariants.{NoEntry, NoMemory, Invalid}
use Rattle.kf_core.specs.Refusals.{number_of}
use Rattle.kf_core.specs.Tree.{record_at, is_linked}
use Rattle.kf_tree.specs.declared.stat.Stat.{Stat}
use Rattle.kf_tree.specs.Causes.{Refuses, linked_cause, list_cause, text_cause}
use Rattle.kf_tree.specs.Links.{HasLinkText}
use Rattle.kf_tree.specs.Listing.{IsListing}
use Rattle.kf_tree.specs.Paths.{found, walked}
use Rattle.kf_tree.specs.Stat.{stat_of}
use Rattle.kf_tree.specs.Subtrees.{linked_count, owed_count}
use Rattle.kf_tree.specs.TreeLogs.{TreeLog}
use Rattle.kf_tree.specs.Ways.{IsPathOf}
use Rattle.kf_handles.specs.declared.object.Object.{Object}
use Rattle.kf_handles.specs.declared.object.Object.TheVariants as behind
use Rattle.kf_handles.specs.declared.replies.KtCommands.{KtCommands}
use Rattle.kf_handles.specs.declared.replies.KtKey.{KtKey}
use Rattle.kf_handles.specs.declared.replies.KtStat.{KtStat}
use Rattle.kf_handles.specs.Calls.{stat_in_c}

-- ---- what is returned: always Invalid, if the object is not a tree

-- the root's key
abbrev pub root_behind : Object → Result Key Refusal
root_behind (behind.Tree tree) = Ok tree.value.nodes.state.root
root_behind other = Err Invalid

-- this many commands are stored, and at most this many would be stored after a compaction: one for each
-- linked node except the root, one for each marked node, and one for each hidden node
abbrev pub CountsCommands : TreeLog → KtCommands → Type 0
CountsCommands s told = (told.stored ≡ length s.commands)
    × (told.compacted + 1 ≡ linked_count s.tree + owed_count s.tree)

-- the tree has these counts of commands; Invalid if there is no tree
abbrev pub CommandsIn : Object → Result KtCommands Refusal → Type 0
CommandsIn (behind.Tree tree) (Ok told) = CountsCommands tree.value.nodes.state told
CommandsIn (behind.Tree tree) (Err why) = ⊥
CommandsIn other told = told ≡ Err Invalid

-- the key of the child of this name, live or not, or why there is none
abbrev pub find_behind : Object → Key → List ℕ → Result Key Refusal
find_behind (behind.Tree tree) dir name = found tree.value.nodes.state.tree dir name
find_behind other dir name = Err Invalid

-- the key of the node at a path, live or not, or why there is none
abbrev pub walk_behind : Object → List ℕ → Result Key Refusal
walk_behind (behind.Tree tree) path = walked tree.value.nodes.state.tree tree.value.nodes.state.root path
walk_behind other path = Err Invalid

-- the directory of the record that was found; NoEntry if none was found, Invalid if the record is the root's,
-- which has no directory
abbrev pub parent_told : Option (Option Key) → Result Key Refusal
parent_told None = Err NoEntry
parent_told (Some None) = Err Invalid
parent_told (Some (Some dir)) = Ok dir

-- the directory of a node, or why there is none
abbrev pub parent_behind : Object → Key → Result Key Refusal
parent_behind (behind.Tree tree) key =
    parent_told (option_map (λ r. r.parent) (record_at tree.value.nodes.state.tree key))
parent_behind other key = Err Invalid

-- the stat of a node, or NoEntry if the node is not linked
abbrev pub stat_behind : Object → Key → Result Stat Refusal
stat_behind (behind.Tree tree) key =
    ok_or (option_map (stat_of tree.value.nodes.state.tree) (record_at tree.value.nodes.state.tree key))
    NoEntry
stat_behind other key = Err Invalid

-- it is the node's name
abbrev pub NameIn : Object → Key → List ℕ → Type 0
NameIn (behind.Tree tree) key name =
    option_map (λ r. r.name) (record_at tree.value.nodes.state.tree key) ≡ Some name
NameIn other key name = ⊥

-- why there is no name: the node is not linked, or there was no memory
abbrev pub NameRefused : Object → Key → Refusal → Type 0
NameRefused (behind.Tree tree) key why =
    ((why ≡ NoEntry) × (is_linked tree.value.nodes.state.tree key ≡ false)) ⊎ (why ≡ NoMemory)
NameRefused other key why = why ≡ Invalid

-- it is the path that leads to the node
abbrev pub PathIn : Object → Key → List ℕ → Type 0
PathIn (behind.Tree tree) key path =
    IsPathOf tree.value.nodes.state.tree tree.value.nodes.state.root key path
PathIn other key path = ⊥

-- why there is no path
abbrev pub PathRefused : Object → Key → Refusal → Type 0
PathRefused (behind.Tree tree) key why = Refuses (linked_cause tree.value.nodes.state.tree key) why
PathRefused other key why = why ≡ Invalid

-- it is the text of the link
abbrev pub LinkTextIn : Object → Key → List ℕ → Type 0
LinkTextIn (behind.Tree tree) key text =
    HasLinkText tree.value.nodes.state.tree tree.value.nodes.state.root key text
LinkTextIn other key text = ⊥

-- why there is no text
abbrev pub LinkTextRefused : Object → Key → Refusal → Type 0
LinkTextRefused (behind.Tree tree) key why = Refuses (text_cause tree.value.nodes.state.tree key) why
LinkTextRefused other key why = why ≡ Invalid

-- the bound of a listing: none if the name is empty
abbrev pub bound_of : List ℕ → Option (List ℕ)
bound_of [] = None
bound_of (byte ∷ bytes) = Some (byte ∷ bytes)

-- it is the first name of a live child after this one, or the first of all if this one is empty
abbrev pub NextIn : Object → Key → List ℕ → List ℕ → Type 0
NextIn (behind.Tree tree) dir after_this name =
    IsListing tree.value.nodes.state.tree dir (bound_of after_this) 1 (name ∷ [])
NextIn other dir after_this name = ⊥

-- the directory cannot be listed, or has no live child after the bound, or there was no memory
abbrev pub NextRefused : TreeLog → Key → List ℕ → Refusal → Type 0
NextRefused s dir after_this why = Refuses (list_cause s.tree dir) why
    ⊎ ((why ≡ NoEntry) × IsListing s.tree dir (bound_of after_this) 1 [])

-- why there is no next name
abbrev pub NextRefusedIn : Object → Key → List ℕ → Refusal → Type 0
NextRefusedIn (behind.Tree tree) dir after_this why = NextRefused tree.value.nodes.state dir after_this why
NextRefusedIn other dir after_this why = why ≡ Invalid

-- ---- what a program gets of that

-- the negative error number of a refusal
abbrev pub error_in_c : Refusal → ℤ
error_in_c why = neg_ℤ (pos (number_of why))

-- it is the error number of a refusal for which `Why` holds
abbrev pub IsRefusal : (Refusal → Type 0) → ℤ → Type 0
IsRefusal Why answer = (why : Refusal) × Why why × (answer ≡ error_in_c why)

-- 0 is returned and the key is written; or the error number of the refusal is returned, and nothing is
-- written
abbrev pub TellsKey : Result Key Refusal → ℤ → KtKey → KtKey → Type 0
TellsKey (Ok key) answer out out' =
    (answer ≡ pos 0) × (out' ≡ record { slot = key.slot; generation = key.generation })
TellsKey (Err why) answer out out' = (answer ≡ error_in_c why) × (out' ≡ out)

-- 0 is returned and the stat is written; or the error number of the refusal is returned, and nothing is
-- written
abbrev pub TellsStat : Result Stat Refusal → ℤ → KtStat → KtStat → Type 0
TellsStat (Ok stat) answer out out' = (answer ≡ pos 0) × (out' ≡ stat_in_c stat)
TellsStat (Err why) answer out out' = (answer ≡ error_in_c why) × (out' ≡ out)

-- the length of the text is returned, the text is at the front of the buffer, and the rest of the buffer is
-- as before; or -ERANGE is returned, since the text is longer than the buffer or has at least 2^63 bytes, and
-- the whole buffer is as before
abbrev pub WritesText : List ℕ → ℤ → List ℕ → List ℕ → Type 0
WritesText text (pos count) out out' = (count ≡ length text) × (out' ≡ text ++ drop count out)
WritesText text (negsuc why) out out' =
    (why ≡ 33) × (out' ≡ out) × ((length out < length text) ⊎ (2 ^ 63 ≤ length text))

-- a text for which `Such` holds was written as above; or the error number of a refusal for which `Why` holds
-- is returned, and nothing is written
abbrev pub TellsText : (List ℕ → Type 0) → (Refusal → Type 0) → ℤ → List ℕ → List ℕ → Type 0
TellsText Such Why answer out out' = ((text : List ℕ) × Such text × WritesText text answer out out')
    ⊎ (IsRefusal Why answer × (out' ≡ out))

-- 0 is returned and the counts are written; or, if the object is not a tree, -EINVAL is returned and nothing
-- is written
abbrev pub TellsCommands : Object → ℤ → KtCommands → KtCommands → Type 0
TellsCommands (behind.Tree tree) answer out out' =
    (answer ≡ pos 0) × CountsCommands tree.value.nodes.state out'
TellsCommands other answer out out' = (answer ≡ negsuc 21) × (out' ≡ out)
