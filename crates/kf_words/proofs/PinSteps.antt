-- One more hold of any slot keeps the rule, if the slot's hold word has the bit LINKED.
use Rattle.std.proofs.Common.{◌≡◌, ◌≢◌, ℕ, zero, suc, ◌+◌, ◌/◌, ◌%◌, ◌^◌, ◌<◌, ◌≤◌, true, false, List, length, set, refl, sym, ap, ◌∙◌, arith}
use Rattle.std.specs.Prelude.{slice_get, Some, None, is_some}
use Rattle.std.proofs.lemmas.List.{get_or_past}
use mathlib.Core.Option.{some}
use lib.ListN.{get_elem?}
use Rattle.kf_core.specs.declared.slot.SlotState.{SlotState}
use Rattle.kf_core.specs.declared.caller.Phase.TheVariants.{Spent}
use Rattle.kf_core.specs.Bare.{IsLast, is_linked, marks_in}
use Rattle.kf_core.specs.Phases.{is_waiting}
use Rattle.kf_core.proofs.SlotStates.{shown}
use Rattle.kf_words.specs.declared.view.CallerView.{CallerView}
use Rattle.kf_words.specs.declared.view.MasterView.{MasterView}
use Rattle.kf_words.specs.Layout.{one_generation, hold_index, hold_word, has_linked, IsFree, MayPinAt}
use Rattle.kf_words.specs.Rule.{holders, pins_in, bare_world, Shows}
use Rattle.kf_words.specs.Steps.{after_count_at, key_in}
use Rattle.kf_words.proofs.Bits.{linked_shows, free_shows}
use Rattle.kf_words.proofs.MasterAllowed.{state_there, generation_of}
use Rattle.kf_words.proofs.HoldSteps.{more_owes}

below_if : (a b : ℕ) → (b ≤ a → ⊥) → a < b
below_if a zero h = absurd (h (omega arith))
below_if zero (suc b) h = omega arith
below_if (suc a) (suc b) h = let r = below_if a b (λ l. h (omega arith)) in omega arith

module _ (words : List ℕ) (m : MasterView) (cs : List CallerView) (shows : Shows words m cs) (s : ℕ) (bit_is : has_linked (hold_word words s) ≡ true) where
  abbrev word : ℕ
  word = hold_word words s

  -- a slot whose word has LINKED is in the table, since a word beyond the table is read as 0
  pub near : s < length m.slots
  near = below_if s (length m.slots) (λ beyond.
      let wide = shows.wide in
      let zero_is : word ≡ 0 = get_or_past words (hold_index s) 0 (omega arith) in
      let x : false ≡ true = sym (ap has_linked zero_is) ∙ bit_is in cc)

  abbrev state : SlotState
  state = (state_there m.slots s near).0

  there : slice_get m.slots s ≡ Some state
  there = (state_there m.slots s near).1

  abbrev count : ℕ
  count = holders s cs + pins_in m.pinning s

  few : count ≤ 65535
  few = let a = (shows.holds s state there).1 in let d = shows.few in omega arith

  node : is_some state.marks ≡ true
  node = sym (linked_shows m.limit word state count shows.few (shows.holds s state there)) ∙ bit_is

  generation : word / one_generation ≡ state.generation
  generation = ap (λ (n : ℕ). n / one_generation) (shows.holds s state there).0 ∙ generation_of (is_some state.marks) state.generation count few

  pub linked_last : IsLast (bare_world m cs) s (word / one_generation)
  linked_last = (state, there, sym generation)

  -- the key that the hold word names is linked
  pub linked_key : is_linked (bare_world m cs) (key_in s word) ≡ true
  linked_key = ap is_some (ap (λ o. marks_in o (word / one_generation)) there ∙ ap (λ (g : ℕ). marks_in (Some state) g) generation ∙ shown state.generation state.marks) ∙ node

  pub linked_taken : IsFree word → ⊥
  linked_taken free =
      let x : true ≡ false = sym node ∙ (free_shows m.limit word state count shows.few (shows.holds s state there) free).1 in cc

-- one more hold is counted of any slot in which a node is linked
pub count_at_owes : (words : List ℕ) (m : MasterView) (cs : List CallerView) (j : ℕ) (c : CallerView) → Shows words m cs → get_elem? cs j ≡ some c → c.phase ≢ Spent
    → is_waiting c.phase ≡ true → c.undo_due ≡ false → c.pinning ≡ None → (s : ℕ) → MayPinAt m.limit (hold_word words s) → hold_word words s < 18446744073709551616
    → Shows (set words (hold_index s) ((hold_word words s + 1) % 2 ^ 64)) m (set cs j (after_count_at s (hold_word words s) c))
count_at_owes words m cs j c shows at holding waits settled single s may small =
    let h : ℕ = hold_word words s in
    more_owes words m cs j c shows at holding waits settled single (after_count_at s h c) refl refl refl (key_in s h) refl
    (linked_last words m cs shows s may.0) (linked_taken words m cs shows s may.0) may.1 small
