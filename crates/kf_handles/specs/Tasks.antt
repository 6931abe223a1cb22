-- What a step of a task does to a tree. A program asks for the next step of a task if somebody is inside.
use Rattle.std.specs.Prelude.{◌≡◌, ℤ, pos, negsuc, neg_ℤ, Bool, true, false, List, Option}
use Rattle.kf_core.specs.declared.refusal.Refusal.{Refusal}
use Rattle.kf_core.specs.Refusals.{number_of}
use Rattle.kf_words.specs.Callers.{TableId, Handle}
use Rattle.kf_passes.specs.Gates.{IsClosed, IsOpen}
use Rattle.kf_passes.specs.Ways.{IsInside, IsOutside}
use Rattle.kf_shared.specs.Locked.{Locked, Unchanged}
use Rattle.kf_handles.specs.declared.object.Object.{Object}
use Rattle.kf_handles.specs.declared.object.Object.TheVariants as behind
use Rattle.kf_handles.specs.declared.questions.Task.{Task}
use Rattle.kf_handles.specs.declared.questions.Task.TheVariants as task
use Rattle.kf_handles.specs.declared.questions.TreeReply.{TreeReply}
use Rattle.kf_handles.specs.declared.questions.TreeReply.TheVariants as told
use Rattle.kf_handles.specs.declared.replies.KtKey.{KtKey}
use Rattle.kf_handles.specs.Answers.{DoneOr, OutOr}
use Rattle.kf_handles.specs.Calls.{key_in}
use Rattle.kf_handles.specs.Removing.{IsRemoving, RemoveRefused, WasGone}
use Rattle.kf_handles.specs.Hiding.{SawNobody, SawSomebody, HasHiding, HasNoHiding, HidingRefused, UnhidingRefused, IsHidden, IsUnhidden, IsHiddenStill}

-- a step of this task, in a tree of this table and with its tokens, led to this tree and these tokens, and
-- the reply was this
abbrev pub Stepped : TableId → Task → Locked → List (Option Handle) → Locked → List (Option Handle)
    → TreeReply → Type 0
Stepped table (task.Remove key) old tokens new tokens' reply =
    OutOr (IsRemoving old new key false) (WasGone old new key × (tokens' ≡ tokens))
    (IsRemoving old new key true)
    (λ why. RemoveRefused old new key why × Unchanged old new × (tokens' ≡ tokens)) reply
Stepped table (task.Hide key) old tokens new tokens' reply =
    DoneOr (IsHidden SawNobody table old tokens new tokens' key)
    (IsHidden SawSomebody table old tokens new tokens' key)
    (λ why. HidingRefused table old tokens new key why × Unchanged old new × (tokens' ≡ tokens)) reply
Stepped table (task.Unhide key) old tokens new tokens' reply =
    DoneOr (IsUnhidden old tokens new tokens' key) (IsHiddenStill old tokens new tokens' key)
    (λ why. UnhidingRefused old tokens key why × (new ≡ old) × (tokens' ≡ tokens)) reply

-- both objects are trees with the same event numbers, and this holds of the two trees and their tokens
abbrev pub OfSteps : (Locked → List (Option Handle) → Locked → List (Option Handle) → Type 0)
    → Object → Object → Type 0
OfSteps Such (behind.Tree old) (behind.Tree new) =
    Such old.value.nodes old.value.hidden new.value.nodes new.value.hidden
    × (new.value.posts ≡ old.value.posts)
OfSteps Such old new = ⊥

-- the tree behind the handle made the step; if there is no tree, nothing changed, and the reply is Wrong
abbrev pub SteppedBehind : Task → Object → Object → TreeReply → Type 0
SteppedBehind what (behind.Tree old) (behind.Tree new) reply =
    Stepped old.value.nodes.master.table what old.value.nodes old.value.hidden new.value.nodes
    new.value.hidden reply × (new.value.posts ≡ old.value.posts)
SteppedBehind what old new reply = (new ≡ old) × (reply ≡ told.Wrong)

-- the number is the error number with which the tree refuses the step; -EINVAL if there is no tree
abbrev pub StepToldWhy : Task → Object → Object → ℤ → Type 0
StepToldWhy what (behind.Tree old) (behind.Tree new) number = (why : Refusal)
    × (number ≡ neg_ℤ (pos (number_of why)))
    × Stepped old.value.nodes.master.table what old.value.nodes old.value.hidden new.value.nodes
    new.value.hidden (told.Refused why)
StepToldWhy what old new number = number ≡ negsuc 21

-- it is a tree with a hidden file that somebody may be inside, a gate that is not closed, or a pass that is
-- inside
abbrev pub IsInUse : Object → Type 0
IsInUse (behind.Tree tree) = HasHiding tree.value.hidden
IsInUse (behind.Gate gate) = IsOpen gate.value
IsInUse (behind.Pass way) = IsInside way
IsInUse other = ⊥

-- it is none of these
abbrev pub IsNotInUse : Object → Type 0
IsNotInUse (behind.Tree tree) = HasNoHiding tree.value.hidden
IsNotInUse (behind.Gate gate) = IsClosed gate.value
IsNotInUse (behind.Pass way) = IsOutside way
IsNotInUse other = Unit {0}

-- a step of the node's removal was made, and afterwards its key is linked, or not, as this says
abbrev pub IsRemovingIn : Object → Object → KtKey → Bool → Type 0
IsRemovingIn old new key linked =
    OfSteps (λ before tokens after tokens'. IsRemoving before after (key_in key) linked) old new

-- the key had been given in the tree, its node was no longer linked, and nothing was done
abbrev pub WasGoneIn : Object → Object → KtKey → Type 0
WasGoneIn old new key = OfSteps (λ before tokens after tokens'.
    WasGone before after (key_in key) × (tokens' ≡ tokens)) old new

-- the file is hidden, and its token saw this
abbrev pub IsHiddenIn : (Handle → Type 0) → Object → Object → KtKey → Type 0
IsHiddenIn Saw old new key = OfSteps (λ before tokens after tokens'.
    IsHidden Saw before.master.table before tokens after tokens' (key_in key)) old new

-- the hidden file is shown again
abbrev pub IsUnhiddenIn : Object → Object → KtKey → Type 0
IsUnhiddenIn old new key =
    OfSteps (λ before tokens after tokens'. IsUnhidden before tokens after tokens' (key_in key)) old new

-- the hidden file is still hidden, because somebody is inside
abbrev pub IsHiddenStillIn : Object → Object → KtKey → Type 0
IsHiddenStillIn old new key =
    OfSteps (λ before tokens after tokens'. IsHiddenStill before tokens after tokens' (key_in key)) old new
