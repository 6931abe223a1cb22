-- How calls that hide and show a file change what the tree's lock guards.
use Rattle.std.specs.Prelude.{◌≡◌, ◌⊎◌, [], ◌∷◌, Option, None, Some, MatchBool}
use Rattle.kf_core.specs.declared.key.Key.{Key}
use Rattle.kf_core.specs.declared.key.Node.{Node}
use Rattle.kf_core.specs.declared.key.Node.TheVariants.{Dir, File, Link}
use Rattle.kf_core.specs.declared.command.Command.TheVariants.{Show}
use Rattle.kf_core.specs.declared.refusal.Refusal.{Refusal}
use Rattle.kf_core.specs.declared.refusal.Refusal.TheVariants.{Busy, IsDir, Invalid, NoEntry, NoMemory}
use Rattle.kf_core.specs.Refusals.{first_cause}
use Rattle.kf_core.specs.Tree.{Tree}
use Rattle.kf_tree.specs.Causes.{Refuses, hide_cause, hidden_in}
use Rattle.kf_tree.specs.TreeLogs.{IsAccepted}
use Rattle.kf_words.specs.Callers.{Handle, IsSameSeat, FoundHidden, seat_view}
use Rattle.kf_words.specs.Runs.{WasAHide}
use Rattle.kf_words.specs.declared.note.Note.TheVariants.{Did}
use Rattle.kf_shared.specs.Locked.{Locked, Adds, history}

-- why a node of this kind cannot be hidden: only files can
abbrev pub kind_cause : Node → Option Refusal
kind_cause Dir = Some IsDir
kind_cause (File mode tag) = None
kind_cause (Link target) = Some Invalid

-- why the node of a hold may not be hidden: its kind comes first
abbrev pub hold_cause : Tree → Handle → Option Refusal
hold_cause t hold = first_cause (kind_cause hold.node ∷ hide_cause t hold.key ∷ [])

-- why a hiding was refused: there was a cause against it, or no memory, and the hold is as it was. Or there
-- was no cause, but the hold's step found that another caller already hides the key, and the refusal is Busy
abbrev pub HideRefused : Tree → Handle → Handle → Refusal → Type 0
HideRefused t hold back refusal =
    (Refuses (hold_cause t hold) refusal × (back ≡ hold))
    ⊎ ((hold_cause t hold ≡ None) × (refusal ≡ Busy) × IsSameSeat hold back × FoundHidden hold back
    × WasAHide (seat_view hold) (seat_view back))

-- the key is shown, and that is stored; if the key is not both linked and hidden in the tree, the tree is as
-- before
abbrev pub ShowDone : Locked → Locked → Key → Type 0
ShowDone old new key = MatchBool (hidden_in old.state.tree key)
    (IsAccepted old.state new.state None (Show key)) (new.state ≡ old.state)

-- if the key is linked and hidden in the tree, a note was added that it is shown; otherwise no note was added
abbrev pub ShowNoted : Locked → Locked → Key → Type 0
ShowNoted old new key = MatchBool (hidden_in old.state.tree key)
    (Adds old new (Did (Show key))) (history new ≡ history old)

-- a refusal that the tree may give to the hiding of a file, or NoMemory
abbrev pub IsHideRefusal : Refusal → Type 0
IsHideRefusal why = (why ≡ NoEntry) ⊎ (why ≡ IsDir) ⊎ (why ≡ Invalid) ⊎ (why ≡ Busy) ⊎ (why ≡ NoMemory)

-- why a hiding was refused, whatever the tree. The hold is as it was if its node is not a file, or if the
-- tree or a lack of memory was against the hiding. Otherwise the hold's step found that another caller
-- already hides the key, and the refusal is Busy
abbrev pub HidingRefused : Handle → Handle → Refusal → Type 0
HidingRefused hold back why =
    ((kind_cause hold.node ≡ Some why) × (back ≡ hold))
    ⊎ ((kind_cause hold.node ≡ None) × IsHideRefusal why × (back ≡ hold))
    ⊎ ((kind_cause hold.node ≡ None) × (why ≡ Busy) × IsSameSeat hold back × FoundHidden hold back
    × WasAHide (seat_view hold) (seat_view back))
