-- What a tree returns for each question, and what the question does to it.
use Rattle.std.specs.Prelude.{◌≡◌, ℕ, ℤ, pos, negsuc, neg_ℤ, List, Bool, true, false, None, MatchBool, slice_set}
use Rattle.kf_core.specs.declared.key.Key.{Key}
use Rattle.kf_core.specs.declared.command.Command.TheVariants.{Activate, Rename}
use Rattle.kf_core.specs.declared.refusal.Refusal.{Refusal}
use Rattle.kf_core.specs.declared.refusal.Refusal.TheVariants.{NoEntry, NoMemory}
use Rattle.kf_core.specs.Refusals.{number_of}
use Rattle.kf_table.specs.Children.{is_there_already}
use Rattle.kf_tree.specs.Causes.{Refuses, linked_cause}
use Rattle.kf_tree.specs.TreeLogs.{IsAccepted, IsCompacted}
use Rattle.kf_core.specs.Tree.{is_linked}
use Rattle.kf_words.specs.declared.counts.Counts.{Counts}
use Rattle.kf_words.specs.Callers.{TableId, Handle}
use Rattle.kf_words.specs.Nodes.{sight_in}
use Rattle.kf_words.specs.Made.{WereLoaded}
use Rattle.kf_shared.specs.Locked.{Locked, Created, CreateRefused, IsHoldOfNode, HoldRefused, Unchanged, move_cause, is_claimed}
use Rattle.kf_handles.specs.Removing.{ClaimRefused, IsMarked}
use Rattle.kf_handles.specs.declared.object.Object.{Object}
use Rattle.kf_handles.specs.declared.object.Object.TheVariants as behind
use Rattle.kf_handles.specs.declared.questions.Question.{Question}
use Rattle.kf_handles.specs.declared.questions.Question.TheVariants as asks
use Rattle.kf_handles.specs.declared.questions.TreeReply.{TreeReply}
use Rattle.kf_handles.specs.declared.questions.TreeReply.TheVariants as told

-- ---- what a reply is: of the expected kind, or a refusal

-- the reply names a key for which `Such` holds, or is a refusal for which `Why` holds
abbrev pub NamedOr : (Key → Type 0) → (Refusal → Type 0) → TreeReply → Type 0
NamedOr Such Why (told.Named key) = Such key
NamedOr Such Why (told.Refused refusal) = Why refusal
NamedOr Such Why other = ⊥

-- the reply has a hold for which `Such` is true, or is a refusal for which `Why` is true
abbrev pub HeldOr : (Handle → Type 0) → (Refusal → Type 0) → TreeReply → Type 0
HeldOr Such Why (told.Held held) = Such held.hold
HeldOr Such Why (told.Refused refusal) = Why refusal
HeldOr Such Why other = ⊥

-- the reply has counts for which `Such` holds, or is a refusal for which `Why` holds
abbrev pub CountedOr : (Counts → Type 0) → (Refusal → Type 0) → TreeReply → Type 0
CountedOr Such Why (told.Counted counts) = Such counts
CountedOr Such Why (told.Refused refusal) = Why refusal
CountedOr Such Why other = ⊥

-- the reply is Done, and `Done` holds; or Not, and `Not` holds; or a refusal for which `Why` holds
abbrev pub DoneOr : Type 0 → Type 0 → (Refusal → Type 0) → TreeReply → Type 0
DoneOr Done Not Why told.Done = Done
DoneOr Done Not Why told.Not = Not
DoneOr Done Not Why (told.Refused refusal) = Why refusal
DoneOr Done Not Why other = ⊥

-- the reply to a step of a removal is Done (this step took the node out), and `Out` holds; or Gone (the node
-- was out before), and `Before` holds; or Not (the node is still there), and `Not` holds; or a refusal for
-- which `Why` holds
abbrev pub OutOr : Type 0 → Type 0 → Type 0 → (Refusal → Type 0) → TreeReply → Type 0
OutOr Out Before Not Why told.Done = Out
OutOr Out Before Not Why told.Gone = Before
OutOr Out Before Not Why told.Not = Not
OutOr Out Before Not Why (told.Refused refusal) = Why refusal
OutOr Out Before Not Why other = ⊥

-- ---- what the questions do

-- the node moved, and that is stored; if it was already there, nothing is stored
abbrev pub Moved : Locked → Locked → Key → Key → List ℕ → Type 0
Moved old new key dir name = (move_cause old key dir name ≡ None)
    × MatchBool (is_there_already old.state.tree key dir name) (new.state ≡ old.state)
    (IsAccepted old.state new.state (move_cause old key dir name) (Rename key dir name))

-- the key is claimed now, and all other claims are as before
abbrev pub ClaimedTo : Locked → Locked → Key → Type 0
ClaimedTo old new key = new.claims ≡ slice_set old.claims key.slot key.generation

-- the node is linked, and one load of each of its two words found these counts
abbrev pub Counted : Locked → Locked → Key → Counts → Type 0
Counted old new key counts = (is_linked old.state.tree key ≡ true)
    × WereLoaded key.slot counts (sight_in old.master) (sight_in new.master)

-- this question, to a tree of this table, led to this tree, and the reply was this
abbrev pub TreeAnswered : TableId → Question → Locked → Locked → TreeReply → Type 0
TreeAnswered table (asks.Create parent name node live) old new reply =
    NamedOr (λ key. Created old new parent name.now node live key)
    (λ why. CreateRefused old new parent name.now node why × Unchanged old new) reply
TreeAnswered table (asks.Hold key) old new reply =
    HeldOr (λ hold. IsHoldOfNode table old.state.tree key hold × Unchanged old new)
    (λ why. HoldRefused old new key why × Unchanged old new) reply
TreeAnswered table (asks.Activate key) old new reply =
    DoneOr (IsAccepted old.state new.state (linked_cause old.state.tree key) (Activate key)) ⊥
    (λ why. Refuses (linked_cause old.state.tree key) why × (new ≡ old)) reply
TreeAnswered table (asks.Rename key dir name) old new reply = DoneOr (Moved old new key dir name.now) ⊥
    (λ why. Refuses (move_cause old key dir name.now) why × Unchanged old new) reply
TreeAnswered table asks.Compact old new reply =
    DoneOr (IsCompacted old.state new.state) ⊥ (λ why. (why ≡ NoMemory) × (new ≡ old)) reply
TreeAnswered table (asks.Claim key) old new reply =
    DoneOr ((is_claimed old.claims key ≡ false) × ClaimedTo old new key × IsMarked old new key)
    ((is_claimed old.claims key ≡ true) × ClaimedTo old new key × IsMarked old new key)
    (λ why. ClaimRefused old new key why × Unchanged old new) reply
TreeAnswered table (asks.Counts key) old new reply =
    CountedOr (λ counts. Counted old new key counts × Unchanged old new)
    (λ why. (why ≡ NoEntry) × (is_linked old.state.tree key ≡ false) × Unchanged old new) reply

-- whether a question asks for a key
abbrev pub is_naming : Question → Bool
is_naming (asks.Create parent name node live) = true
is_naming other = false

-- whether a question asks for a change that is made at once or refused
abbrev pub is_change : Question → Bool
is_change (asks.Activate key) = true
is_change (asks.Rename key dir name) = true
is_change asks.Compact = true
is_change other = false

-- ---- what is behind the handle

-- both objects are trees with the same event numbers and tokens, and this holds of the two
abbrev pub OfTrees : (Locked → Locked → Type 0) → Object → Object → Type 0
OfTrees Such (behind.Tree old) (behind.Tree new) =
    Such old.value.nodes new.value.nodes × (new.value.posts ≡ old.value.posts)
    × (new.value.hidden ≡ old.value.hidden)
OfTrees Such old new = ⊥

-- the tree is as before, except for loads of the words; if there is no tree, everything is as before
abbrev pub IsAsBefore : Object → Object → Type 0
IsAsBefore (behind.Tree old) (behind.Tree new) =
    Unchanged old.value.nodes new.value.nodes × (new.value.posts ≡ old.value.posts)
    × (new.value.hidden ≡ old.value.hidden)
IsAsBefore old new = new ≡ old

-- the tree behind the handle replied to the question; if there is no tree, nothing changed, and the reply is
-- Wrong
abbrev pub AnsweredBehind : Question → Object → Object → TreeReply → Type 0
AnsweredBehind question (behind.Tree old) (behind.Tree new) reply =
    TreeAnswered old.value.nodes.master.table question old.value.nodes new.value.nodes reply
    × (new.value.posts ≡ old.value.posts) × (new.value.hidden ≡ old.value.hidden)
AnsweredBehind question old new reply = (new ≡ old) × (reply ≡ told.Wrong)

-- the number is the error number with which the tree refuses the question; -EINVAL if there is no tree
abbrev pub ToldWhy : Question → Object → Object → ℤ → Type 0
ToldWhy question (behind.Tree old) (behind.Tree new) number = (why : Refusal)
    × (number ≡ neg_ℤ (pos (number_of why)))
    × TreeAnswered old.value.nodes.master.table question old.value.nodes new.value.nodes (told.Refused why)
ToldWhy question old new number = number ≡ negsuc 21
