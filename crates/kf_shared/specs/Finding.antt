-- What finds nodes by their paths and holds them, and what is known of a hold that it makes.
use Rattle.std.specs.Prelude.{◌≡◌, ℕ, List, Ok, Some, MatchBool, MatchResult}
use Rattle.std.specs.Option.{option_map}
use Rattle.kf_core.specs.declared.key.Key.{Key}
use Rattle.kf_core.specs.declared.refusal.Refusal.{Refusal}
use Rattle.kf_core.specs.declared.refusal.Refusal.TheVariants.{NoEntry}
use Rattle.kf_core.specs.Tree.{Tree, record_at, is_linked}
use Rattle.kf_tree.specs.Paths.{seen}
use Rattle.kf_words.specs.declared.note.Note.{Note}
use Rattle.kf_words.specs.Notes.{history_of}
use Rattle.kf_words.specs.Callers.{Handle, IsSameSeat}
use Rattle.kf_words.specs.Another.{StaysAs}
use Rattle.kf_words.specs.Makers.{Maker}
use Rattle.kf_looks.specs.Links.{IsLater}
use Rattle.kf_looks.specs.Paths.{led}
use Rattle.kf_live.specs.Lookers.{Onlooker, links_seen}
use Rattle.kf_shared.specs.Noted.{BeginsWith, tree_in}
use Rattle.kf_shared.specs.Receipts.{HoldsRefusal}
use Rattle.kf_shared.specs.Sections.{IsTaken}

-- a looker of a tree, and a maker of holds of the same tree
pub record PathHolderState : Type 0 where
  pub looker : Onlooker
  pub holds : Maker

-- the holder is as it was, except that its looker and its own hold may have seen more, and that it may have
-- another number of owners to spare
pub record IsSameHolder (old new : PathHolderState) : Type 0 where
  pub root : new.looker.root ≡ old.looker.root
  pub slots : new.looker.slots ≡ old.looker.slots
  pub later : IsLater (links_seen new.looker) (links_seen old.looker)
  pub seat : IsSameSeat old.holds.by new.holds.by
  pub stays : StaysAs old.holds.by new.holds.by

-- in what the looker has seen, the path leads to this key
abbrev pub LedTo : Onlooker → List ℕ → Key → Type 0
LedTo looker path key = option_map (λ found. found.key) (led (links_seen looker) looker.root path) ≡ Some key

-- this was the history of the tree with this root when the lock was taken, and it is all that the hold has
-- seen of the history
pub record HasSeenTaken (hold : Handle) (root : Key) (found : List Note) : Type 0 where
  pub slots : ℕ
  pub began : BeginsWith slots root found
  pub taken : IsTaken found
  pub known : history_of hold.seen ≡ found

-- when the lock was taken, the path named the second hold's node in the tree, and the first hold has seen the
-- history up to that moment
pub record WasNamed (path : List ℕ) (by : Handle) (hold : Handle) : Type 0 where
  pub found : List Note
  pub root : Key
  pub at : HasSeenTaken by root found
  pub named : seen (tree_in found) root path ≡ Ok hold.key
  pub node : option_map (λ r. r.node) (record_at (tree_in found) hold.key) ≡ Some hold.node

-- why there is no hold of a key: no node with this key is linked; or one is, and it was found with the
-- greatest number of holds, or there was no memory
abbrev pub HoldCause : Tree → Key → Refusal → Type 0
HoldCause t key why =
    MatchBool (is_linked t key) (HoldsRefusal why) (why ≡ NoEntry)

-- when the lock was taken, this was why the path named nothing in the tree, or why there was no hold of the
-- node that it named. This hold has seen the history up to that moment
pub record WasNotHeld (path : List ℕ) (by : Handle) (why : Refusal) : Type 0 where
  pub found : List Note
  pub root : Key
  pub at : HasSeenTaken by root found
  pub cause : MatchResult (seen (tree_in found) root path) (λ key. HoldCause (tree_in found) key why)
      (λ refusal. why ≡ refusal)
