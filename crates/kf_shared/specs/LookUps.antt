-- What holds of all that look-ups have seen, while the tree's lock is free.
use Rattle.std.specs.Prelude.{◌≡◌, ℕ, ◌+◌, Some, List, [], ◌∷◌, slice_set, replicate}
use mathlib.Core.List.{IsPrefix}
use mathlib.Core.Option.{some}
use lib.ListN.{get_elem?}
use Rattle.kf_words.specs.declared.note.Note.{Note}
use Rattle.kf_looks.specs.declared.found.Found.{Found}
use Rattle.kf_looks.specs.declared.view.LookView.{LookView}
use Rattle.kf_looks.specs.declared.view.Link.{Link}
use Rattle.kf_looks.specs.Lines.{lines_at, words_for}
use Rattle.kf_looks.specs.Links.{IsLater}
use Rattle.kf_looks.specs.Paths.{led}
use Rattle.kf_looks.specs.Rule.{Kept, Table, opened, plan_of}
use Rattle.kf_looks.specs.Writing.{IsWriter}
use Rattle.kf_live.specs.Laws.{Leads}
use Rattle.kf_shared.specs.Links.{LeadInRun, AreOfRun}
use Rattle.kf_shared.specs.Locked.{Locked, history}
use Rattle.kf_shared.specs.Noted.{tree_in}

-- each time that a link was made, whatever the links so far led to was in a tree of the one run
abbrev pub IsLedInRun : Locked → Type 0
IsLedInRun s = AreOfRun s.state.root s.links (history s)

-- these are the words for look-ups that go with the value of the lock, which is free. They meet their rule,
-- and their writer made the links that the value has, and no other. Each time that a link was made, whatever
-- the links so far led to was in a tree of the run
pub record AreItsWords (slots : ℕ) (words : Table) (s : Locked) : Type 0 where
  pub led : IsLedInRun s
  pub kept : Kept slots words
  pub writer : LookView
  pub seated : get_elem? words.views 0 ≡ some writer
  pub writes : IsWriter writer
  pub made : (plan_of writer.role).links ≡ s.links

-- new words for this many slots, at which only the writer has a seat
abbrev pub new_words : ℕ → ℕ → Table
new_words slots version = record {
  words = slice_set (replicate (words_for slots + lines_at) 0) 0 version;
  homes = [];
  views = opened slots version ∷ [];
}

-- a new tree, for which no link was made yet, goes with new words
abbrev pub LookUpsStart : Type 0
LookUpsStart = (slots version : ℕ) (s : Locked) → IsLedInRun s → s.links ≡ []
    → AreItsWords slots (new_words slots version) s

-- this is what a seat at the words has seen, or had seen at some earlier moment
abbrev pub HasSeen : Table → ℕ → List Link → Type 0
HasSeen words seat seen = (v : LookView) × (get_elem? words.views seat ≡ some v) × IsLater v.seen seen

-- whatever a look-up finds in what its seat has seen is in a tree of the run. There is a beginning of the
-- history, and in the tree that it made, each path leads to the node that the look-up finds by it. This node
-- is live there, and is what was found. The same is true of what a seat saw while a command was under way
abbrev pub LookUpsAreOfRun : Type 0
LookUpsAreOfRun = (slots : ℕ) (words : Table) (s : Locked) (seat : ℕ) (seen : List Link)
    → AreItsWords slots words s → HasSeen words seat seen
    → (part : List Note) × IsPrefix part (history s)
    × ((path : List ℕ) (found : Found) → led seen s.state.root path ≡ Some found
    → Leads (tree_in part) s.state.root path found)

-- what the seat found earlier, when it had seen only a part of that, is in an earlier tree of the run, or in
-- the same one: no look-up goes back in the run
abbrev pub LookUpsGoOn : Type 0
LookUpsGoOn = (slots : ℕ) (words : Table) (s : Locked) (seat : ℕ) (seen before : List Link)
    → AreItsWords slots words s → HasSeen words seat seen → IsLater seen before
    → (now then : List Note) × IsPrefix then now × IsPrefix now (history s)
    × LeadInRun s.state.root seen now × LeadInRun s.state.root before then
