-- What hiding a file and showing it again do to a tree and its tokens.
use Rattle.std.specs.Prelude.{◌≡◌, ◌⊎◌, ◌+◌, ◌≤◌, ℕ, true, false, List, All, Option, None, Some, IfSome, MatchBool, length, slice_get, slice_set, if◌then◌else◌}
use Rattle.std.specs.Option.{option_map}
use Rattle.kf_core.specs.declared.key.Key.{Key}
use Rattle.kf_core.specs.declared.key.Node.{Node}
use Rattle.kf_core.specs.declared.key.Node.TheVariants.{Dir, File, Link}
use Rattle.kf_core.specs.declared.caller.Phase.TheVariants as phase_of
use Rattle.kf_core.specs.declared.command.Command.TheVariants.{Hide}
use Rattle.kf_core.specs.declared.refusal.Refusal.{Refusal}
use Rattle.kf_core.specs.declared.refusal.Refusal.TheVariants.{IsDir, Invalid, NoEntry}
use Rattle.kf_core.specs.Tree.{Tree, record_at, is_linked}
use Rattle.kf_tree.specs.declared.stat.Stat.{Stat}
use Rattle.kf_tree.specs.Stat.{stat_of}
use Rattle.kf_tree.specs.TreeLogs.{IsAccepted}
use Rattle.kf_words.specs.Callers.{TableId, Handle, IsSameSeat, WasHidden, seat_view}
use Rattle.kf_words.specs.Layout.{is_unused}
use Rattle.kf_words.specs.Made.{WasAHide, WasALookHidden, WasAShow}
use Rattle.kf_words.specs.Nodes.{PinRefused}
use Rattle.kf_shared.specs.Locked.{Locked, IsHoldOfNode}
use Rattle.kf_shared.specs.Hiding.{hold_cause, HideRefused, ShowDone}

-- ---- one token

-- the token's file is hidden, and the token saw that nobody is inside
abbrev pub SawNobody : Handle → Type 0
SawNobody token = (token.phase ≡ phase_of.Hidden) × (is_unused token.found ≡ true)

-- the token's file is hidden, and the token's last look found somebody inside
abbrev pub SawSomebody : Handle → Type 0
SawSomebody token = (token.phase ≡ phase_of.Hiding) × (is_unused token.found ≡ false)

-- the token made one step, a load of its file's word, and is now this
abbrev pub LookedOnce : Handle → Handle → Type 0
LookedOnce before after = IsSameSeat before after × (after.steps ≡ before.steps + 1)
    × WasALookHidden (seat_view before) (seat_view after)

-- the token made one more look; or it had already seen that nobody is inside, and is exactly as before
abbrev pub HasLookedAgain : Handle → Handle → Type 0
HasLookedAgain before after =
    ((before.phase ≡ phase_of.Hidden) × (after ≡ before)) ⊎ LookedOnce before after

-- once the token had seen that nobody is inside, one step of its seat cleared the bit of a hidden file in the
-- file's word
abbrev pub HasUnhidden : Handle → Type 0
HasUnhidden token = (seen : Handle) × HasLookedAgain token seen × SawNobody seen
    × (hold : Handle) × IsSameSeat seen hold × WasAShow (seat_view seen) (seat_view hold)

-- ---- the tokens of a tree, by slot

-- this is the token of the key, and it is at the key's slot
abbrev pub IsTokenOf : List (Option Handle) → Key → Handle → Type 0
IsTokenOf tokens key token = (token.key ≡ key) × (slice_get tokens key.slot ≡ Some (Some token))

-- this token looked again as above, saw this, and is now at its slot
abbrev pub IsSeen : (Handle → Type 0) → List (Option Handle) → List (Option Handle) → Handle → Type 0
IsSeen Saw tokens tokens' token = (after : Handle) × IsSameSeat token after × HasLookedAgain token after
    × Saw after × (tokens' ≡ slice_set tokens token.key.slot (Some after))

-- each token has seen that nobody is inside its file
abbrev pub HasNoHiding : List (Option Handle) → Type 0
HasNoHiding tokens = All (λ place. IfSome place SawNobody) tokens

-- there is a hidden file that somebody may be inside
abbrev pub HasHiding : List (Option Handle) → Type 0
HasHiding tokens = (slot : ℕ) × (token : Handle) × (slice_get tokens slot ≡ Some (Some token))
    × (token.phase ≡ phase_of.Hiding)

-- ---- what the calls do

-- why a node with this stat cannot be hidden: only files can be hidden, and only until they are marked for
-- removal
abbrev pub hide_fault : Stat → Node → Option Refusal
hide_fault stat Dir = Some IsDir
hide_fault stat (Link target) = Some Invalid
hide_fault stat (File mode tag) = (if stat.doomed then Some NoEntry else None)

-- one step of a new hold of the node hid its key
abbrev pub HasHidden : TableId → Locked → Key → Handle → Type 0
HasHidden table old key token = (hold : Handle) × IsHoldOfNode table old.state.tree key hold
    × IsSameSeat hold token × WasHidden hold token × WasAHide (seat_view hold) (seat_view token)

-- the file was hidden, and that is stored: one step of a new hold of the file hid it, and the next step
-- looked
pub record BeganHide (table : TableId) (old new : Locked) (key : Key) (token : Handle) : Type 0 where
  pub hid : (hidden : Handle) × HasHidden table old key hidden × LookedOnce hidden token
  pub accepted : IsAccepted old.state new.state (hold_cause old.state.tree token) (Hide key)
  pub claims : new.claims ≡ old.claims

-- the file was hidden before, its token looked again as above, and nothing changed in the tree
abbrev pub LookedAgain : Locked → List (Option Handle) → Locked → Key → Handle → Type 0
LookedAgain old tokens new key token =
    (new ≡ old) × (before : Handle) × IsTokenOf tokens key before × HasLookedAgain before token

-- the file is hidden, and its token, which is now at its slot, saw this
abbrev pub IsHidden : (Handle → Type 0) → TableId → Locked → List (Option Handle) → Locked
    → List (Option Handle) → Key → Type 0
IsHidden Saw table old tokens new tokens' key =
    (token : Handle) × (token.key ≡ key) × Saw token
    × (tokens' ≡ slice_set tokens key.slot (Some token))
    × (BeganHide table old new key token ⊎ LookedAgain old tokens new key token)

-- the file's token cleared the bit and is spent; so the file is shown, and that is stored if it is linked
abbrev pub IsUnhidden : Locked → List (Option Handle) → Locked → List (Option Handle) → Key → Type 0
IsUnhidden old tokens new tokens' key =
    ((token : Handle) × IsTokenOf tokens key token × HasUnhidden token)
    × (tokens' ≡ slice_set tokens key.slot None) × ShowDone old new key × (new.claims ≡ old.claims)

-- the file is still hidden, because its token looked and saw somebody inside
abbrev pub IsHiddenStill : Locked → List (Option Handle) → Locked → List (Option Handle) → Key → Type 0
IsHiddenStill old tokens new tokens' key = (token : Handle) × (token.key ≡ key) × SawSomebody token
    × (tokens' ≡ slice_set tokens key.slot (Some token)) × LookedAgain old tokens new key token

-- ---- refusals

-- the stat of the node says that it cannot be hidden, for this cause
abbrev pub FaultTold : Tree → Key → Refusal → Type 0
FaultTold t key why = (stat : Stat) × (option_map (stat_of t) (record_at t key) ≡ Some stat)
    × (hide_fault stat stat.node ≡ Some why)

-- hiding the node by a new hold was refused, by the tree or by the hold's step
abbrev pub NewHoldRefused : TableId → Locked → Key → Refusal → Type 0
NewHoldRefused table old key why = (hold : Handle) × IsHoldOfNode table old.state.tree key hold
    × (back : Handle) × HideRefused old.state.tree hold back why

-- why a file is not hidden: it is not linked; or its stat says that it cannot be hidden; or a hold of its
-- slot was refused; or hiding it by a new hold was refused
abbrev pub BeginRefused : TableId → Locked → Locked → Key → Refusal → Type 0
BeginRefused table old new key why = MatchBool (is_linked old.state.tree key)
    (FaultTold old.state.tree key why
    ⊎ PinRefused old.master.view key.slot why new.master.view
    ⊎ NewHoldRefused table old key why)
    (why ≡ NoEntry)

-- why a hiding is refused: NoEntry if the tree has no such slot; or one of the causes above
abbrev pub HidingRefused : TableId → Locked → List (Option Handle) → Locked → Key → Refusal → Type 0
HidingRefused table old tokens new key why =
    ((length tokens ≤ key.slot) × (why ≡ NoEntry)) ⊎ BeginRefused table old new key why

-- why a file is not shown again: there is no token of the key; Invalid if the node is linked, else NoEntry
abbrev pub UnhidingRefused : Locked → List (Option Handle) → Key → Refusal → Type 0
UnhidingRefused old tokens key why = ((token : Handle) → ¬ IsTokenOf tokens key token)
    × MatchBool (is_linked old.state.tree key) (why ≡ Invalid) (why ≡ NoEntry)
