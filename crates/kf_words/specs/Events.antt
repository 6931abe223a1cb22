-- Which event each step of a seat is, in the world that the views name.
use Rattle.std.specs.Prelude.{◌≡◌, ◌≢◌, ℕ, ◌+◌, List, [], ◌∷◌, ◌++◌, length, Some, is_some, slice_get, slice_set, true, false}
use Rattle.atomic_table.specs.Table.{State}
use Rattle.kf_core.specs.declared.key.Key.{Key}
use Rattle.kf_core.specs.declared.key.Node.{Node}
use Rattle.kf_core.specs.declared.name_bytes.NameBytes.{NameBytes}
use Rattle.kf_core.specs.declared.caller.Phase.TheVariants.{Turned, Running, Broken, Drained, Hiding, Hidden, Spent}
use Rattle.kf_core.specs.declared.event.Event.{Event}
use Rattle.kf_core.specs.declared.event.Event.TheVariants.{Born, Rise, Mark, Pin, Enter, Leave, Break, Restore, Look, Unlink, Part, Hide, LookHidden, Show, Release, Undo}
use Rattle.kf_core.specs.declared.slot.NodeFlags.{NodeFlags}
use Rattle.kf_core.specs.declared.slot.SlotState.{SlotState}
use Rattle.kf_core.specs.Marks.{fresh_marks}
use Rattle.kf_core.specs.Phases.{may_release}
use Rattle.kf_core.specs.Steps.{BareStep, BareRun, MayPin, with_caller}
use Rattle.kf_words.specs.declared.view.CallerView.{CallerView}
use Rattle.kf_words.specs.declared.view.MasterView.{MasterView}
use Rattle.kf_words.specs.declared.view.View.{View}
use Rattle.kf_words.specs.Layout.{active_word, hold_word, is_drained, has_hide, is_unused, has_linked}
use Rattle.kf_words.specs.Rule.{Shown, bare_world, last_key}
use Rattle.kf_words.specs.Steps.{after_try, after_undo, after_leave, after_break, after_restore, after_look, after_part, after_hide, after_look_hidden, after_show, after_release, after_miss, after_count, after_share, new_hold, spent_hold, with_load, with_pin, without_pin, with_look, after_store, after_split, hold_for, with_birth, with_marks, activated_marks, doomed_marks, without_node, after_count_at, key_in}
use Rattle.kf_words.specs.Callers.{IsAtRest, HasReference, IsInPhase}
use Rattle.kf_words.specs.Nodes.{marks_of}

-- the law holds for the caller of each number, in every table that meets the rule
abbrev pub OfEachCaller : (List ℕ → MasterView → List CallerView → ℕ → CallerView → Type 0) → Type 0
OfEachCaller Law = (slots limit : ℕ) (t : State (Unit {0}) View) (shown : Shown slots limit t) (j : ℕ)
    (c : CallerView) → slice_get shown.callers j ≡ Some c → Law t.words shown.master shown.callers j c

-- the law holds for the Master, in every table that meets the rule
abbrev pub OfTheMaster : (MasterView → List CallerView → Type 0) → Type 0
OfTheMaster Law =
    (slots limit : ℕ) (t : State (Unit {0}) View) (shown : Shown slots limit t)
    → Law shown.master shown.callers

-- if the caller of this number gets this new view, that is this event of the world that the views name
abbrev pub Moves : MasterView → List CallerView → ℕ → CallerView → Event → Type 0
Moves m cs j c' event = BareStep (bare_world m cs) event (bare_world m (slice_set cs j c'))

-- if the Master gets this new view, that is this event of the world that the views name
abbrev pub Changes : MasterView → List CallerView → MasterView → Event → Type 0
Changes m cs m' event = BareStep (bare_world m cs) event (bare_world m' cs)

-- a try, which finds the active word as it is in the table, is an Enter: it lets the caller run if and only
-- if the node is live
abbrev pub TryIsEnter : Type 0
TryIsEnter = OfEachCaller
    (λ words m cs j c. IsAtRest c → Moves m cs j (after_try (active_word words c.key.slot) c) (Enter j))

-- the second step of a refused try is an Undo
abbrev pub UndoIsUndo : Type 0
UndoIsUndo =
    OfEachCaller (λ words m cs j c. c.phase ≡ Turned → c.undo_due ≡ true
    → Moves m cs j (after_undo c) (Undo j))

-- a look that finds the word drained is a Look
abbrev pub LookIsLook : Type 0
LookIsLook = OfEachCaller
    (λ words m cs j c. IsAtRest c → is_drained (active_word words c.key.slot) ≡ true
    → Moves m cs j (after_look (active_word words c.key.slot) c) (Look j))

-- a load by a drained caller that finds no node linked is a Part
abbrev pub PartIsPart : Type 0
PartIsPart = OfEachCaller
    (λ words m cs j c. IsInPhase Drained c → has_linked (hold_word words c.key.slot) ≡ false
    → Moves m cs j (after_part (hold_word words c.key.slot) c) (Part j))

-- the end of a call is a Leave, whatever word the step finds
abbrev pub LeaveIsLeave : Type 0
LeaveIsLeave =
    OfEachCaller (λ words m cs j c. HasReference c → (found : ℕ)
    → Moves m cs j (after_leave found c) (Leave j))

-- a step that gives up a reference inside its call is a Break, whatever word it finds
abbrev pub BreakIsBreak : Type 0
BreakIsBreak =
    OfEachCaller (λ words m cs j c. IsInPhase Running c → (found : ℕ)
    → Moves m cs j (after_break found c) (Break j))

-- a step that takes a reference again inside its call is a Restore, whatever word it finds
abbrev pub RestoreIsRestore : Type 0
RestoreIsRestore = OfEachCaller
    (λ words m cs j c. IsInPhase Broken c → (found : ℕ) → Moves m cs j (after_restore found c) (Restore j))

-- a step that releases a hold is a Release, whatever word it finds
abbrev pub ReleaseIsRelease : Type 0
ReleaseIsRelease = OfEachCaller
    (λ words m cs j c. may_release c.phase ≡ true → (found : ℕ)
    → Moves m cs j (after_release found c) (Release j))

-- a step that finds the bit HIDE clear, and sets it, is a Hide
abbrev pub HideIsHide : Type 0
HideIsHide = OfEachCaller
    (λ words m cs j c. IsAtRest c → has_hide (active_word words c.key.slot) ≡ false
    → Moves m cs j (after_hide (active_word words c.key.slot) c) (Hide j))

-- a load by a Hiding caller that finds nobody who uses the node is a LookHidden
abbrev pub LookHiddenIsLook : Type 0
LookHiddenIsLook = OfEachCaller
    (λ words m cs j c. IsInPhase Hiding c → is_unused (active_word words c.key.slot) ≡ true
    → Moves m cs j (after_look_hidden (active_word words c.key.slot) c) (LookHidden j))

-- a step by which a Hidden caller clears the bit HIDE is a Show, whatever word it finds
abbrev pub ShowIsShow : Type 0
ShowIsShow =
    OfEachCaller (λ words m cs j c. IsInPhase Hidden c → (found : ℕ)
    → Moves m cs j (after_show found c) (Show j))

-- if a caller that is not Spent counted a hold of its key, the step that gives this hold its seat is a Pin of
-- that key
abbrev pub ShareIsPin : Type 0
ShareIsPin = OfEachCaller
    (λ words m cs j c. c.phase ≢ Spent
    → BareStep (bare_world m cs) (Pin (length cs) c.key)
    (bare_world m (slice_set cs j (after_share c) ++ new_hold c.key ∷ [])))

-- any caller may count a hold in the hold word of a slot that has a linked node. This is a Pin of that node's
-- key, in the world in which the hold is a caller at once
abbrev pub CountAtIsPin : Type 0
CountAtIsPin = OfEachCaller (λ words m cs j c. (slot : ℕ) → has_linked (hold_word words slot) ≡ true
    → let key : Key = key_in slot (hold_word words slot) in
    BareStep (bare_world m cs) (Pin (length cs) key) (with_caller (bare_world m cs) key))

-- these steps leave the world as it is: a look that finds the word not drained; a load that finds a node
-- linked; a step that finds the bit HIDE already set; a hider's load that finds a user; a step on a hold word
-- that counts nothing; and one that counts one more hold, which has no seat yet
abbrev pub MissIsNothing : Type 0
MissIsNothing = OfEachCaller
    (λ words m cs j c. (found : ℕ)
    → (is_drained found ≡ false → bare_world m (slice_set cs j (after_look found c)) ≡ bare_world m cs)
    × (has_linked found ≡ true → bare_world m (slice_set cs j (after_part found c)) ≡ bare_world m cs)
    × (has_hide found ≡ true → bare_world m (slice_set cs j (after_hide found c)) ≡ bare_world m cs)
    × (is_unused found ≡ false → bare_world m (slice_set cs j (after_look_hidden found c)) ≡ bare_world m cs)
    × (bare_world m (slice_set cs j (after_miss found c)) ≡ bare_world m cs)
    × (bare_world m (slice_set cs j (after_count found c)) ≡ bare_world m cs)
    × ((slot : ℕ) → bare_world m (slice_set cs j (after_count_at slot found c)) ≡ bare_world m cs))

-- the step that activates a linked node, which is neither activated nor doomed, is a Rise
abbrev pub RiseIsRise : Type 0
RiseIsRise = OfTheMaster
    (λ m cs. (key : Key) → marks_of m key ≡ Some fresh_marks
    → Changes m cs (with_marks activated_marks key.slot m) (Rise key))

-- the mark of a linked node that is not doomed yet is a Mark
abbrev pub MarkIsMark : Type 0
MarkIsMark = OfTheMaster
    (λ m cs. (key : Key) (x : NodeFlags) → marks_of m key ≡ Some x → x.doomed ≡ false
    → Changes m cs (with_marks doomed_marks key.slot m) (Mark key))

-- a birth in the slot in which the Master has just stored a new active word is a Born of the slot's next key
abbrev pub BirthIsBorn : Type 0
BirthIsBorn = OfTheMaster
    (λ m cs. (slot : ℕ) (state : SlotState) (parent : Key) (name : NameBytes) (node : Node)
    → m.fresh ≡ Some slot → slice_get m.slots slot ≡ Some state
    → Changes m cs (with_birth slot m)
    (Born (record { slot = slot; generation = state.generation + 1 }) parent name node))

-- the step that takes the linked node of a drained caller out of its slot is an Unlink
abbrev pub UnlinkIsUnlink : Type 0
UnlinkIsUnlink = OfTheMaster
    (λ m cs. (j : ℕ) (c : CallerView) → slice_get cs j ≡ Some c → c.phase ≡ Drained
    → is_some (marks_of m c.key) ≡ true → Changes m cs (without_node c.key.slot m) (Unlink j))

-- when a hold that the Master counted gets its seat, that is a Pin of the slot's last key, if this key may be
-- pinned
abbrev pub SplitIsPin : Type 0
SplitIsPin = OfTheMaster
    (λ m cs. (slot : ℕ) (state : SlotState) → m.pinning ≡ Some slot → slice_get m.slots slot ≡ Some state
    → MayPin (bare_world m cs) (last_key slot state)
    → BareStep (bare_world m cs) (Pin (length cs) (last_key slot state))
    (bare_world (after_split m) (cs ++ hold_for m m.pinning ∷ [])))

-- when a hold that the Master counted gets its seat, that is also a Pin of the key of any caller that holds
-- the slot
abbrev pub HeldSplitIsPin : Type 0
HeldSplitIsPin = OfEachCaller (λ words m cs j c. c.phase ≢ Spent → m.pinning ≡ Some c.key.slot
    → BareStep (bare_world m cs) (Pin (length cs) c.key)
    (bare_world (after_split m) (cs ++ hold_for m m.pinning ∷ [])))

-- the Master's other steps leave the world as it is
abbrev pub RestIsNothing : Type 0
RestIsNothing = OfTheMaster
    (λ m cs. (slot found : ℕ) → (bare_world (with_load slot found m) cs ≡ bare_world m cs)
    × (bare_world (with_look slot found m) cs ≡ bare_world m cs)
    × (bare_world (with_pin slot m) cs ≡ bare_world m cs)
    × (bare_world (without_pin slot m) cs ≡ bare_world m cs)
    × (bare_world (after_store slot m) cs ≡ bare_world m cs))

-- to add a seat of this key that holds nothing is a Pin of the key, followed at once by the Release
abbrev pub Passes : MasterView → List CallerView → Key → Type 0
Passes m cs key = BareRun (bare_world m cs) (Pin (length cs) key ∷ Release (length cs) ∷ [])
    (bare_world m (cs ++ spent_hold key ∷ []))

-- if a caller is not Spent, to add the seat that carries what it has seen is a Pin of its key, followed at
-- once by the Release
abbrev pub ReportPasses : Type 0
ReportPasses = OfEachCaller (λ words m cs j c. c.phase ≢ Spent → Passes m cs c.key)

-- if a key may be pinned, to add a seat of this key that carries what the Master has seen is a Pin of the
-- key, followed at once by the Release
abbrev pub AnswerPasses : Type 0
AnswerPasses = OfTheMaster (λ m cs. (key : Key) → MayPin (bare_world m cs) key → Passes m cs key)
