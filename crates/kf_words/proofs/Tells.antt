-- What follows from the rule at every moment.
use Rattle.std.proofs.Common.{◌≡◌, ◌&&◌, ◌||◌, ℕ, ◌+◌, ◌-◌, Bool, true, false, not, List, refl, sym, ap, ◌∙◌, arith, eq-eqb}
use Rattle.std.specs.Prelude.{slice_get, Option, Some}
use Rattle.kf_core.specs.declared.caller.Caller.{Caller}
use Rattle.kf_core.specs.declared.caller.Phase.{Phase}
use Rattle.kf_core.specs.declared.slot.SlotState.{SlotState}
use Rattle.kf_core.specs.declared.key.Key.{Key}
use Rattle.kf_core.specs.declared.slot.NodeFlags.{NodeFlags}
use Rattle.kf_core.specs.Bare.{BareWorld, marks, marks_in, is_hidden}
use Rattle.kf_core.specs.Marks.{are_live}
use Rattle.kf_core.specs.Phases.{has_reference, is_hiding, saw_unused}
use Rattle.kf_core.proofs.Hiding.{hider_hidden, hiding_holds}
use Rattle.kf_core.proofs.Keeping.{same_key}
use Rattle.kf_core.proofs.SlotStates.{shown as at_place}
use Rattle.std.proofs.lemmas.Option.{slice_get-map}
use Rattle.std.specs.Option.{option_map}
use Rattle.kf_core.specs.Steps.{NoReference}
use Rattle.kf_words.specs.declared.view.CallerView.{CallerView}
use Rattle.kf_words.specs.declared.view.MasterView.{MasterView}
use Rattle.kf_words.specs.declared.view.View.{View}
use Rattle.atomic_table.specs.Table.{State}
use Rattle.kf_words.specs.Layout.{hide, active_word, hold_word, has_bias, has_hide, is_unused}
use Rattle.kf_words.specs.Rule.{Shown, is_user, users, hiders, holders, pins_in, caller, bare_world, last_key}
use Rattle.kf_words.specs.Laws.{AlwaysSafe, LetsInTheLive, TellsTheHidden, HiddenIsRefused, ShownLetsIn, DrainedIsUnused, FreeIsUnheld, TellsTheLinked}
use Rattle.kf_words.proofs.Bits.{bias_shows, hide_clear, hide_taken, hiders_one, drained_shows, unused_shows, linked_shows}
use Rattle.kf_words.proofs.HiddenBit.{hidden_bit}
use Rattle.kf_words.proofs.Seating.{at_caller, tally-one}
use Rattle.kf_words.proofs.MasterSteps.{users_few, unheld, unlinked_state, only_spent}

pub always_safe : AlwaysSafe
always_safe slots limit t shown = shown.shows.safe

pub tells_the_hidden : TellsTheHidden
tells_the_hidden slots limit t shown slot state its = (
  bias_shows (active_word t.words slot) state.marks (users slot shown.callers) (hiders slot shown.callers) (users_few t.words shown.master shown.callers shown.shows slot state its) (shown.shows.marks slot state its),
  sym (hidden_bit t.words shown.master shown.callers shown.shows slot state its),
)

pub hidden_is_refused : HiddenIsRefused
hidden_is_refused slots limit t shown j c at hides =
    let world : BareWorld = bare_world shown.master shown.callers in
    let there : slice_get world.callers j ≡ Some (caller c) = slice_get-map caller shown.callers j ∙ ap (option_map caller) at in
    let last = shown.shows.safe.held_last j c.key c.phase there (hiding_holds c.phase hides) in
    let key : last_key c.key.slot last.0 ≡ c.key = same_key (last_key c.key.slot last.0) c.key refl last.2 in
    let set : has_hide (active_word t.words c.key.slot) ≡ true = (tells_the_hidden slots limit t shown c.key.slot last.0 last.1).1 ∙ ap (is_hidden world) key ∙ hider_hidden world j c.key c.phase there hides in (
      ap (λ (b : Bool). has_bias (active_word t.words c.key.slot) || b) set ∙ or_true (has_bias (active_word t.words c.key.slot)),
      λ is. shown.shows.safe.none_running j c.key c.phase there (ap saw_unused is),
    )
  where
    or_true : (b : Bool) → (b || true) ≡ true
    or_true true = refl
    or_true false = refl

pub shown_lets_in : ShownLetsIn
shown_lets_in slots limit t shown j c at hid =
    let words : List ℕ = t.words in
    let m : MasterView = shown.master in
    let cs : List CallerView = shown.callers in
    let word : ℕ = active_word t.words c.key.slot in
    let there : slice_get (bare_world m cs).callers j ≡ Some (caller c) = slice_get-map caller cs j ∙ ap (option_map caller) at in
    let hides : is_hiding c.phase ≡ true = ap is_hiding hid in
    let last = shown.shows.safe.held_last j c.key c.phase there (hiding_holds c.phase hides) in
    let key : last_key c.key.slot last.0 ≡ c.key = same_key (last_key c.key.slot last.0) c.key refl last.2 in
    let few = users_few t.words m cs shown.shows c.key.slot last.0 last.1 in
    let own = shown.shows.marks c.key.slot last.0 last.1 in
    let set : has_hide word ≡ true = (tells_the_hidden slots limit t shown c.key.slot last.0 last.1).1 ∙ ap (is_hidden (bare_world m cs)) key ∙ hider_hidden (bare_world m cs) j c.key c.phase there hides in
    let one = hiders_one word last.0.marks (users c.key.slot cs) (hiders c.key.slot cs) few own set in
    let rest = hide_taken word last.0.marks (users c.key.slot cs) (hiders c.key.slot cs) few own one in
    let known : marks (bare_world m cs) (last_key c.key.slot last.0) ≡ last.0.marks = ap (λ o. marks_in o last.0.generation) last.1 ∙ at_place last.0.generation last.0.marks in (
      set,
      ap (λ (b : Bool). b || has_hide (word - hide)) (bias_shows (word - hide) last.0.marks (users c.key.slot cs) 0 few rest)
          ∙ ap (λ (b : Bool). not (are_live last.0.marks) || b) (hide_clear (word - hide) last.0.marks (users c.key.slot cs) 0 few rest refl) ∙ or_false (not (are_live last.0.marks))
          ∙ ap (λ o. not (are_live o)) (sym known ∙ ap (marks (bare_world m cs)) key),
    )
  where
    or_false : (b : Bool) → (b || false) ≡ b
    or_false true = refl
    or_false false = refl

pub lets_in_the_live : LetsInTheLive
lets_in_the_live slots limit t shown slot state its =
    let told = tells_the_hidden slots limit t shown slot state its in
    let key : Key = last_key slot state in
    let world : BareWorld = bare_world shown.master shown.callers in
    let known : marks world key ≡ state.marks = ap (λ o. marks_in o state.generation) its ∙ at_place state.generation state.marks in
    ap (λ (b : Bool). b || has_hide (active_word t.words slot)) told.0 ∙ ap (λ (b : Bool). not (are_live state.marks) || b) told.1 ∙ either (are_live state.marks) (is_hidden world key)
    ∙ ap (λ (o : Option NodeFlags). not (are_live o && not (is_hidden world key))) (sym known)
  where
    either : (a b : Bool) → (not a || b) ≡ not (a && not b)
    either true true = refl
    either true false = refl
    either false b = refl

no_reference : (m : MasterView) (cs : List CallerView) (slot : ℕ) (state : SlotState) → users slot cs ≡ 0 → NoReference (bare_world m cs) (last_key slot state)
no_reference m cs slot state empty c phase is = no (has_reference phase) (λ counted.
    let x = at_caller cs c (record { key = last_key slot state; phase = phase }) is in
    let y : CallerView = x.0 in
    let its_slot : y.key.slot ≡ slot = ap (λ (h : Caller). h.key.slot) x.2 in
    let its_phase : y.phase ≡ phase = ap (λ (h : Caller). h.phase) x.2 in
    let one = tally-one (is_user slot) cs c y x.1
    (ap (λ (b : Bool). b && (has_reference y.phase || y.undo_due)) (eq-eqb y.key.slot slot its_slot) ∙ ap (λ (p : Phase). has_reference p || y.undo_due) its_phase ∙ ap (λ (b : Bool). b || y.undo_due) counted) in
    omega arith)
  where
    no : (b : Bool) → (b ≡ true → ⊥) → b ≡ false
    no true h = absurd (h refl)
    no false h = refl

-- if an active word is unused, nobody has a reference to the last key of its slot
pub unused_is_unused : (slots limit : ℕ) (t : State (Unit {0}) View) (shown : Shown slots limit t) (slot : ℕ) (state : SlotState) → slice_get shown.master.slots slot ≡ Some state → is_unused (active_word t.words slot) ≡ true → NoReference (bare_world shown.master shown.callers) (last_key slot state)
unused_is_unused slots limit t shown slot state its hit =
    let cs : List CallerView = shown.callers in
    no_reference shown.master cs slot state (unused_shows (active_word t.words slot) state.marks (users slot cs) (hiders slot cs) (users_few t.words shown.master cs shown.shows slot state its) (shown.shows.marks slot state its) hit)

pub drained_is_unused : DrainedIsUnused
drained_is_unused slots limit t shown slot state its hit =
    let cs : List CallerView = shown.callers in
    let s = drained_shows (active_word t.words slot) state.marks (users slot cs) (hiders slot cs) (users_few t.words shown.master cs shown.shows slot state its) (shown.shows.marks slot state its) hit in
    (s.1, no_reference shown.master cs slot state s.0)

pub free_is_unheld : FreeIsUnheld
free_is_unheld slots limit t shown slot state its free =
    let u = unheld t.words shown.master shown.callers shown.shows slot state its free in
    (unlinked_state t.words shown.master shown.callers shown.shows slot state its state.marks u.2, λ c key phase there same. only_spent t.words shown.master shown.callers shown.shows slot state its c key phase there same u.0)

pub tells_the_linked : TellsTheLinked
tells_the_linked slots limit t shown slot state its =
    linked_shows shown.master.limit (hold_word t.words slot) state (holders slot shown.callers + pins_in shown.master.pinning slot) shown.shows.few (shown.shows.holds slot state its)
