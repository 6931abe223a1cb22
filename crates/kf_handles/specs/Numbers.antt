-- What the calls on event numbers do to what is behind a handle.
use Rattle.std.specs.Prelude.{◌≡◌, ◌≤◌, ◌⊎◌, ◌+◌, ◌-◌, ◌^◌, ℕ, ℤ, negsuc, None, Some}
use Rattle.std.specs.Option.{option_map}
use Rattle.kf_core.specs.declared.key.Key.{Key}
use Rattle.kf_core.specs.declared.refusal.Refusal.{Refusal}
use Rattle.kf_core.specs.declared.refusal.Refusal.TheVariants.{Invalid, NoEntry, NoMemory}
use Rattle.kf_core.specs.Tree.{record_at}
use Rattle.kf_tree.specs.declared.stat.Stat.{Stat}
use Rattle.kf_tree.specs.Stat.{stat_of}
use Rattle.kf_notify.specs.PostStates.{PostState, IsNewPost, IsSamePost, FoundNumber, Made}
use Rattle.kf_handles.specs.declared.object.Object.{Object}
use Rattle.kf_handles.specs.declared.object.Object.TheVariants as behind

-- it is a new post of the slot of a node that the tree has
abbrev pub IsPostOf : Object → Key → PostState → Type 0
IsPostOf (behind.Tree tree) key post = (stat : Stat)
    × (option_map (stat_of tree.value.nodes.state.tree)
    (record_at tree.value.nodes.state.tree key) ≡ Some stat)
    × IsNewPost tree.value.posts key.slot post
IsPostOf other key post = ⊥

-- the tree, its event numbers and its tokens are the same; if there is no tree, everything is as before
abbrev pub IsSameTree : Object → Object → Type 0
IsSameTree (behind.Tree old) (behind.Tree new) =
    (new.value.nodes ≡ old.value.nodes) × (new.value.posts ≡ old.value.posts)
    × (new.value.hidden ≡ old.value.hidden)
IsSameTree old new = new ≡ old

-- why no post is made: NoEntry, since the node is not linked or its slot has no event number; or NoMemory;
-- always Invalid if there is no tree
abbrev pub PostRefused : Object → Key → Refusal → Type 0
PostRefused (behind.Tree tree) key why =
    ((record_at tree.value.nodes.state.tree key ≡ None) × (why ≡ NoEntry))
    ⊎ (((tree.value.posts.slots ≤ key.slot) × (why ≡ NoEntry)) ⊎ (why ≡ NoMemory))
PostRefused other key why = why ≡ Invalid

-- the object is such a post
abbrev pub HasPostOf : Object → Key → Object → Type 0
HasPostOf tree key (behind.Post post) = IsPostOf tree key post
HasPostOf tree key other = ⊥

-- the slot's number was raised to one more than this post found there
abbrev pub WasNotified : Object → Object → Type 0
WasNotified (behind.Post old) (behind.Post new) =
    IsSamePost old new × Made old (new.found + 1) new × (old.numbers.start ≤ new.found)
WasNotified old new = ⊥

-- the slot's event number was found to be the greatest that there is; if there is no post, nothing was done
abbrev pub WasFull : Object → Object → Type 0
WasFull (behind.Post old) (behind.Post new) = IsSamePost old new × FoundNumber old (2 ^ 64 - 1) new
WasFull old new = new ≡ old

-- this was the slot's number, as the post found it
abbrev pub TookNumber : Object → ℕ → Object → Type 0
TookNumber (behind.Post old) number (behind.Post new) =
    IsSamePost old new × FoundNumber old number new × (old.numbers.start ≤ number)
TookNumber old number new = ⊥

-- what a refused notify returns: -EOVERFLOW if there is a post, else -EINVAL
abbrev pub notify_error : Object → ℤ
notify_error (behind.Post post) = negsuc 74
notify_error other = negsuc 21

-- the object is not a post
abbrev pub IsNoPost : Object → Type 0
IsNoPost (behind.Post post) = ⊥
IsNoPost other = Unit {0}
