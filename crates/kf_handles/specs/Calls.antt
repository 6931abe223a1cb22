-- What a program's calls do, in terms of the tree.
use Rattle.std.specs.Prelude.{◌≡◌, ◌≤◌, ℕ, List, Bool, true, false, Option, None, Some, replicate}
use Rattle.kf_core.specs.Limits.{most_slots}
use Rattle.kf_core.specs.declared.key.Key.{Key}
use Rattle.kf_core.specs.declared.key.Node.{Node}
use Rattle.kf_core.specs.declared.command.Command.TheVariants.{Activate}
use Rattle.kf_core.specs.declared.key.Node.TheVariants.{Dir, File, Link}
use Rattle.kf_tree.specs.declared.stat.Stat.{Stat}
use Rattle.kf_tree.specs.Causes.{linked_cause, target_of}
use Rattle.kf_tree.specs.TreeLogs.{IsNew, IsAccepted, IsCompacted}
use Rattle.kf_words.specs.Steps.{opened}
use Rattle.kf_pages.specs.Files.{tag_of}
use Rattle.kf_shared.specs.Locked.{Created, IsHoldOfNode, is_claimed}
use Rattle.kf_handles.specs.declared.object.Object.{Object}
use Rattle.kf_handles.specs.declared.object.Place.{Place}
use Rattle.kf_handles.specs.declared.object.Seat.{Seat}
use Rattle.kf_handles.specs.declared.object.Seat.TheVariants as seat
use Rattle.kf_handles.specs.declared.replies.KtKey.{KtKey}
use Rattle.kf_handles.specs.declared.replies.KtStat.{KtStat}
use Rattle.kf_handles.specs.declared.object.Object.TheVariants as behind
use Rattle.kf_handles.specs.Removing.{IsMarked}
use Rattle.kf_handles.specs.declared.counting.KtCounts.{KtCounts}
use Rattle.kf_handles.specs.Answers.{ClaimedTo, Counted, Moved, OfTrees}

-- the key that a program's key of a node stands for
abbrev pub key_in : KtKey → Key
key_in key = record { slot = key.slot; generation = key.generation }

-- the node was linked in the directory, under this key, and that is stored
abbrev pub CreatedIn : Object → Object → KtKey → List ℕ → Node → Bool → KtKey → Type 0
CreatedIn old new parent name node live key =
    OfTrees (λ before after. Created before after (key_in parent) name node live (key_in key)) old new

-- a key as a program has it, or the key 0, 0 if there is none
abbrev pub key_in_c : Option Key → KtKey
key_in_c None = record { slot = 0; generation = 0 }
key_in_c (Some key) = record { slot = key.slot; generation = key.generation }

-- the number that a program has for a kind of node
abbrev pub kind_in_c : Node → ℕ
kind_in_c Dir = 0
kind_in_c (File mode tag) = 1
kind_in_c (Link target) = 2

-- the permission bits of a file; 0 for other nodes
abbrev pub mode_of : Node → ℕ
mode_of Dir = 0
mode_of (File mode tag) = mode
mode_of (Link target) = 0

-- the stat of a node, as a program has it
abbrev pub stat_in_c : Stat → KtStat
stat_in_c stat = record {
  tag = tag_of stat.node;
  target = key_in_c (target_of stat.node);
  kind = kind_in_c stat.node;
  links = stat.links;
  mode = mode_of stat.node;
  activated = stat.activated;
  doomed = stat.doomed;
  hidden = stat.hidden;
}

-- a tree may have this many slots, and this many holds of each
abbrev pub AreLimits : ℕ → ℕ → Type 0
AreLimits slots holds = (1 ≤ slots) × (slots ≤ most_slots) × (1 ≤ holds) × (holds ≤ 65535)

-- it is a new tree with only the root, with this many slots, and this many holds for each slot; the event
-- number of each slot is 1, and nothing is hidden
abbrev pub IsNewTree : ℕ → ℕ → Object → Type 0
IsNewTree slots holds (behind.Tree tree) =
    IsNew slots (record { slot = 0; generation = 1 }) tree.value.nodes.state
    × (tree.value.nodes.master.view ≡ opened holds slots 0)
    × (tree.value.posts.slots ≡ slots) × (tree.value.posts.start ≡ 1)
    × (tree.value.hidden ≡ replicate slots None)
IsNewTree slots holds other = ⊥

-- it is a hold of the node that has this key in the tree
abbrev pub HoldsNode : Object → KtKey → Seat → Type 0
HoldsNode (behind.Tree tree) key (seat.Hold held) =
    IsHoldOfNode tree.value.nodes.master.table tree.value.nodes.state.tree (key_in key) held.hold
HoldsNode tree key other = ⊥

-- each node of the subtree that is not being removed is activated, and that is stored
abbrev pub ActivatedIn : Object → Object → KtKey → Type 0
ActivatedIn old new key = OfTrees (λ before after. IsAccepted before.state after.state
    (linked_cause before.state.tree (key_in key)) (Activate (key_in key))) old new

-- the node is in the directory, under the name
abbrev pub MovedIn : Object → Object → KtKey → KtKey → List ℕ → Type 0
MovedIn old new key dir name =
    OfTrees (λ before after. Moved before after (key_in key) (key_in dir) name) old new

-- the tree is the same, and the stored commands are its canonical list
abbrev pub CompactedIn : Object → Object → Type 0
CompactedIn old new = OfTrees (λ before after. IsCompacted before.state after.state) old new

-- the node and all nodes below it are marked; the node's removal was claimed before, or not, as this says,
-- and is claimed now
abbrev pub ClaimedIn : Object → Object → KtKey → Bool → Type 0
ClaimedIn old new key before_this = OfTrees (λ before after.
    (is_claimed before.claims (key_in key) ≡ before_this) × ClaimedTo before after (key_in key)
    × IsMarked before after (key_in key)) old new

-- the node is in the tree, and one load of each of its two words found these counts
abbrev pub CountedIn : Object → Object → Key → KtCounts → Type 0
CountedIn old new key told = OfTrees (λ before after.
    Counted before after key (record { holds = told.holds; users = told.users })) old new

-- whether the seat and the object are both nothing
abbrev pub are_nothing : Seat → Object → Bool
are_nothing seat.None behind.Empty = true
are_nothing at object = false

-- whether nothing is in the place
abbrev pub is_nothing : Place → Bool
is_nothing place = are_nothing place.seat place.object

-- nothing is in the place
abbrev pub IsNothing : Place → Type 0
IsNothing place = (place.seat ≡ seat.None) × (place.object ≡ behind.Empty)
