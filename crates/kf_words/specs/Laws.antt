-- What the words say at every moment, whatever steps the seats have made.
use Rattle.std.specs.Prelude.{◌≡◌, ℕ, ◌-◌, not, Some, None, is_some, slice_get, true}
use Rattle.atomic_table.specs.Table.{State}
use Rattle.kf_core.specs.declared.slot.SlotState.{SlotState}
use Rattle.kf_core.specs.Marks.{are_live, are_doomed}
use Rattle.kf_core.specs.declared.caller.Phase.TheVariants.{Hidden}
use Rattle.kf_core.specs.Bare.{marks, is_live, is_hidden}
use Rattle.kf_core.specs.Phases.{is_hiding}
use Rattle.kf_core.specs.Safe.{Safe, NoneRunning}
use Rattle.kf_core.specs.Steps.{NoReference, OnlySpent}
use Rattle.kf_words.specs.declared.view.CallerView.{CallerView}
use Rattle.kf_words.specs.declared.view.View.{View}
use Rattle.kf_words.specs.Layout.{hide, active_word, hold_word, keeps_out, has_bias, has_hide, is_drained, has_linked, IsFree}
use Rattle.kf_words.specs.Rule.{Shown, bare_world, last_key}

-- the world that the views name is safe
abbrev pub AlwaysSafe : Type 0
AlwaysSafe = (slots limit : ℕ) (t : State (Unit {0}) View) (shown : Shown slots limit t)
    → Safe (bare_world shown.master shown.callers)

-- a slot's active word lets a try in if and only if the slot's last key is live
abbrev pub LetsInTheLive : Type 0
LetsInTheLive = (slots limit : ℕ) (t : State (Unit {0}) View) (shown : Shown slots limit t) (slot : ℕ)
    (state : SlotState) → slice_get shown.master.slots slot ≡ Some state
    → keeps_out (active_word t.words slot)
    ≡ not (is_live (bare_world shown.master shown.callers) (last_key slot state))

-- a slot's active word has the bit BIAS if and only if the marks of its last key are not those of a live
-- node: it is not linked, or not activated, or doomed. The word has the bit HIDE if and only if a caller
-- hides that key
abbrev pub TellsTheHidden : Type 0
TellsTheHidden = (slots limit : ℕ) (t : State (Unit {0}) View) (shown : Shown slots limit t) (slot : ℕ)
    (state : SlotState) → slice_get shown.master.slots slot ≡ Some state
    → (has_bias (active_word t.words slot) ≡ not (are_live state.marks))
    × (has_hide (active_word t.words slot)
    ≡ is_hidden (bare_world shown.master shown.callers) (last_key slot state))

-- while a caller hides its key, a try there is refused, and once the caller is Hidden, nobody is running
-- there
abbrev pub HiddenIsRefused : Type 0
HiddenIsRefused = (slots limit : ℕ) (t : State (Unit {0}) View) (shown : Shown slots limit t) (j : ℕ)
    (c : CallerView) → slice_get shown.callers j ≡ Some c → is_hiding c.phase ≡ true
    → (keeps_out (active_word t.words c.key.slot) ≡ true)
    × (c.phase ≡ Hidden → NoneRunning (bare_world shown.master shown.callers) c.key)

-- while a caller is Hidden, its slot's active word has the bit HIDE. If this bit is cleared, as by the step
-- that shows the key, the word lets a try in if and only if the key is linked, activated and not doomed
abbrev pub ShownLetsIn : Type 0
ShownLetsIn = (slots limit : ℕ) (t : State (Unit {0}) View) (shown : Shown slots limit t) (j : ℕ)
    (c : CallerView) → slice_get shown.callers j ≡ Some c → c.phase ≡ Hidden
    → (has_hide (active_word t.words c.key.slot) ≡ true)
    × (keeps_out (active_word t.words c.key.slot - hide)
    ≡ not (are_live (marks (bare_world shown.master shown.callers) c.key)))

-- if a slot's active word is drained, its last key is doomed and nobody has a reference to the node
abbrev pub DrainedIsUnused : Type 0
DrainedIsUnused = (slots limit : ℕ) (t : State (Unit {0}) View) (shown : Shown slots limit t) (slot : ℕ)
    (state : SlotState) → slice_get shown.master.slots slot ≡ Some state
    → is_drained (active_word t.words slot) ≡ true → (are_doomed state.marks ≡ true)
    × NoReference (bare_world shown.master shown.callers) (last_key slot state)

-- if the slot's hold word is free, no node is linked there and nobody holds the slot
abbrev pub FreeIsUnheld : Type 0
FreeIsUnheld = (slots limit : ℕ) (t : State (Unit {0}) View) (shown : Shown slots limit t) (slot : ℕ)
    (state : SlotState) → slice_get shown.master.slots slot ≡ Some state
    → IsFree (hold_word t.words slot) → (state.marks ≡ None)
    × OnlySpent (bare_world shown.master shown.callers) slot

-- a slot's hold word has the bit LINKED if and only if a node is linked there
abbrev pub TellsTheLinked : Type 0
TellsTheLinked = (slots limit : ℕ) (t : State (Unit {0}) View) (shown : Shown slots limit t) (slot : ℕ)
    (state : SlotState) → slice_get shown.master.slots slot ≡ Some state
    → has_linked (hold_word t.words slot) ≡ is_some state.marks
