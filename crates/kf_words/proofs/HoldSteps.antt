-- A caller's steps on a hold word keep the rule: a release, the look whether the node has left, and the count
-- of one more hold.
use Rattle.std.proofs.Common.{◌||◌, ◌≡◌, ◌≢◌, ℕ, ◌+◌, ◌-◌, ◌%◌, ◌^◌, ◌<◌, eqb, Bool, true, false, not, List, set, get_or, refl, sym, ap, ◌∙◌, subst, ⊎_elim, arith, length-set, get_or-set_same, get_or-set_other, eq-eqb, ne_eqb}
use Rattle.std.specs.Prelude.{slice_get, Some, None, is_some}
use Rattle.std.proofs.lemmas.List.{set-get_or}
use Rattle.std.proofs.lemmas.Option.{slice_get_within, same_Some}
use mathlib.Core.Logic.{dite}
use mathlib.Core.Option.{some}
use native.Mathlib.Decide.{ℕ_discrete}
use lib.ListN.{get_elem?}
use Rattle.kf_core.specs.declared.key.Key.{Key}
use Rattle.kf_core.specs.declared.slot.SlotState.{SlotState}
use Rattle.kf_core.specs.declared.caller.Phase.{Phase}
use Rattle.kf_core.specs.declared.caller.Phase.TheVariants.{Running, Drained, Parted, Spent}
use Rattle.kf_core.specs.declared.event.Event.{Event}
use Rattle.kf_core.specs.declared.event.Event.TheVariants.{Undo, Part, Release}
use Rattle.kf_core.specs.Bare.{BareWorld, IsLast}
use Rattle.kf_core.specs.Phases.{has_reference, is_hiding, is_waiting, may_release}
use Rattle.kf_core.specs.Steps.{BareStep, with_phase}
use Rattle.kf_words.specs.declared.view.CallerView.{CallerView}
use Rattle.kf_words.specs.declared.view.MasterView.{MasterView}
use Rattle.kf_words.specs.Layout.{bit, active_index, hold_index, active_word, hold_word, has_linked, holds_in, IsFree, HasSpare}
use Rattle.kf_words.specs.Rule.{is_user, is_hider, users, hiders, holders, pins_in, ShowsMarks, ShowsHolds, StillHolds, bare_world, Shows}
use Rattle.kf_words.specs.Steps.{after_step, after_release, after_part, after_miss, after_count}
use Rattle.kf_words.proofs.Bits.{bool_cases, not_spent, waiting_is, hold_less, hold_more, linked_shows, count_shows}
use Rattle.kf_words.proofs.Answered.{part_gone, part_linked}
use Rattle.kf_words.proofs.CallerPhases.{not_running, idle_shown, idle_uncounted}
use Rattle.kf_words.proofs.CallerChanges.{last as last_state, there, known, not_free, off, in_other, seats_stay, pinners_more, held_in_other, held_in_this, held_stay, pinned_stays, moves, users_now, hiders_stay, unmoved}

module _ (words : List ℕ) (m : MasterView) (cs : List CallerView) (j : ℕ) (c : CallerView) (shows : Shows words m cs) (at : get_elem? cs j ≡ some c) (holding : c.phase ≢ Spent) where
  abbrev slot : ℕ
  slot = c.key.slot

  abbrev word : ℕ
  word = active_word words slot

  abbrev hold : ℕ
  hold = hold_word words slot

  abbrev world : BareWorld
  world = bare_world m cs

  abbrev last : IsLast world c.key.slot c.key.generation
  last = last_state j shows at holding

  -- a step on the slot's hold word, by a caller that is not counted as a user
  module _ (c' : CallerView) (same : c'.key ≡ c.key) (idle : (has_reference c.phase || c.undo_due) ≡ false) (idle' : (has_reference c'.phase || c'.undo_due) ≡ false) (settled' : c'.undo_due ≡ false) (runs' : c'.phase ≢ Running) (hides' : is_hiding c'.phase ≡ is_hiding c.phase) where
    uses_stay : (k : ℕ) → users k (set cs j c') ≡ users k cs
    uses_stay k = dite (ℕ_discrete k slot)
        (λ e. subst (λ (x : ℕ). users x (set cs j c') ≡ users x cs) (sym e) (let r = users_now j shows at holding c' same false false idle idle' in omega arith))
        (λ ne. in_other j shows at holding c' same is_user k ne (λ x. off j shows at holding k x (has_reference x.phase || x.undo_due)))

    hides_stay : (k : ℕ) → hiders k (set cs j c') ≡ hiders k cs
    hides_stay k = dite (ℕ_discrete k slot)
        (λ e. subst (λ (x : ℕ). hiders x (set cs j c') ≡ hiders x cs) (sym e) (sym (hiders_stay j shows at holding c' same hides')))
        (λ ne. in_other j shows at holding c' same is_hider k ne (λ x. off j shows at holding k x (is_hiding x.phase)))

    -- a step that changes no word and no count
    unchanged : c'.phase ≢ Spent → c'.pinning ≡ c.pinning → (e : Event) → BareStep world e (with_phase world j c.key c'.phase) → Shows words m (set cs j c')
    unchanged now pins = moves j shows at holding c' same words refl
        (λ k state its. subst (λ (n : ℕ). ShowsMarks (active_word words k) state.marks n (hiders k (set cs j c'))) (sym (uses_stay k))
        (subst (λ (n : ℕ). ShowsMarks (active_word words k) state.marks (users k cs) n) (sym (hides_stay k)) (shows.marks k state its)))
        (λ k state its. subst (λ (n : ℕ). ShowsHolds m.limit (hold_word words k) state (n + pins_in m.pinning k)) (sym (held_stay j shows at holding c' same pins now k)) (shows.holds k state its))
        (λ e. absurd (let x : true ≡ false = sym e ∙ settled' in cc))
        (pinned_stays j shows at holding c' same pins)
        (λ k found s. s) (λ k short free. (refl, refl))
        (λ e. absurd (runs' e))

    -- a step on the hold word of any slot that is not free
    on_hold_word : (s : ℕ) (last : SlotState) → slice_get m.slots s ≡ Some last → (IsFree (hold_word words s) → ⊥) → ((key : Key) → c'.pinning ≡ Some key → IsLast world key.slot key.generation)
        → ((k : ℕ) → k ≢ s → holders k (set cs j c') ≡ holders k cs)
        → (new : ℕ) → ShowsHolds m.limit new last (holders s (set cs j c') + pins_in m.pinning s) → ((found : ℕ) → StillHolds m.limit found (hold_word words s) → StillHolds m.limit found new)
        → (e : Event) → BareStep world e (with_phase world j c.key c'.phase) → Shows (set words (hold_index s) new) m (set cs j c')
    on_hold_word s last its_last taken pinned' held_elsewhere new is still = moves j shows at holding c' same (set words (hold_index s) new) (length-set words (hold_index s) new)
        (λ k state its.
        let short = slice_get_within m.slots k state its in
        subst (λ (n : ℕ). ShowsMarks n state.marks (users k (set cs j c')) (hiders k (set cs j c'))) (sym (get_or-set_other words (hold_index s) (active_index k) new 0 (λ e. omega arith)))
        (subst (λ (n : ℕ). ShowsMarks (active_word words k) state.marks n (hiders k (set cs j c'))) (sym (uses_stay k))
        (subst (λ (n : ℕ). ShowsMarks (active_word words k) state.marks (users k cs) n) (sym (hides_stay k)) (shows.marks k state its))))
        (λ k state its. dite (ℕ_discrete k s)
        (λ e.
        let here : slice_get m.slots s ≡ Some state = subst (λ (x : ℕ). slice_get m.slots x ≡ Some state) e its in
        let both : Some last ≡ Some state = sym its_last ∙ here in
        let one : last ≡ state = cc in
        subst (λ (x : ℕ). ShowsHolds m.limit (hold_word (set words (hold_index s) new) x) state (holders x (set cs j c') + pins_in m.pinning x)) (sym e)
        (subst (λ (x : ℕ). ShowsHolds m.limit x state (holders s (set cs j c') + pins_in m.pinning s)) (sym here_now)
        (subst (λ (x : SlotState). ShowsHolds m.limit new x (holders s (set cs j c') + pins_in m.pinning s)) one is)))
        (λ ne.
        subst (λ (x : ℕ). ShowsHolds m.limit x state (holders k (set cs j c') + pins_in m.pinning k)) (sym (elsewhere_stays k ne))
        (subst (λ (x : ℕ). ShowsHolds m.limit (hold_word words k) state (x + pins_in m.pinning k)) (sym (held_elsewhere k ne)) (shows.holds k state its))))
        (λ e. absurd (let x : true ≡ false = sym e ∙ settled' in cc))
        pinned'
        (λ k found st. dite (ℕ_discrete k s)
        (λ e. subst (λ (x : ℕ). StillHolds m.limit found (hold_word (set words (hold_index s) new) x)) (sym e)
        (subst (λ (x : ℕ). StillHolds m.limit found x) (sym here_now) (still found (subst (λ (x : ℕ). StillHolds m.limit found (hold_word words x)) e st))))
        (λ ne. subst (λ (x : ℕ). StillHolds m.limit found x) (sym (elsewhere_stays k ne)) st))
        (λ k short free. (
          get_or-set_other words (hold_index s) (active_index k) new 0 (λ e. omega arith),
          elsewhere_stays k (λ (e : k ≡ s). taken (subst (λ (x : ℕ). IsFree (hold_word words x)) e free)),
        ))
        (λ e. absurd (runs' e))
      where
        here_now : hold_word (set words (hold_index s) new) s ≡ new
        here_now = let n = slice_get_within m.slots s last its_last in let wide = shows.wide in get_or-set_same words (hold_index s) new 0 (omega arith)

        elsewhere_stays : (k : ℕ) → k ≢ s → hold_word (set words (hold_index s) new) k ≡ hold_word words k
        elsewhere_stays k ne = get_or-set_other words (hold_index s) (hold_index k) new 0 (λ e. ne (omega arith))

  pub release_owes : may_release c.phase ≡ true → c.undo_due ≡ false → hold < 18446744073709551616 → Shows (set words (hold_index slot) ((hold + (2 ^ 64 - 1)) % 2 ^ 64)) m (set cs j (after_release hold c))
  release_owes idles settled small =
      let c' : CallerView = after_release hold c in
      let r = held_in_this j shows at holding c' refl refl true false (ap not (not_spent c.phase holding)) refl in
      let n : ℕ = holders slot cs + pins_in m.pinning slot in
      let n' : ℕ = holders slot (set cs j c') + pins_in m.pinning slot in
      let less : n ≡ n' + 1 = omega arith in
      let is = hold_less m.limit hold last.0 n n' small less (shows.holds slot last.0 last.1) in
      let now = count_shows m.limit ((hold + (2 ^ 64 - 1)) % 2 ^ 64) last.0 n' shows.few is in
      let was = count_shows m.limit hold last.0 n shows.few (shows.holds slot last.0 last.1) in
      on_hold_word c' refl (ap (λ (b : Bool). b || c.undo_due) (idle_uncounted c.phase idles) ∙ settled) refl refl (λ e. absurd (let x : Spent ≡ Running = e in cc)) (sym (idle_shown c.phase idles))
      slot last.0 last.1 (not_free j shows at holding) (pinned_stays j shows at holding c' refl refl) (held_in_other j shows at holding c' refl refl)
      ((hold + (2 ^ 64 - 1)) % 2 ^ 64) is
      (λ found s. ((λ f. absurd (not_free j shows at holding (s.0 f))), (λ room. let q = s.1 room in let most : holds_in hold < m.limit = q in omega arith)))
      (Release j) (c.key, c.phase, there j shows at holding, idles, refl)

  -- a step that leaves its word as it was, and changes no count
  stays : (c' : CallerView) (same : c'.key ≡ c.key) → (has_reference c.phase || c.undo_due) ≡ false → (has_reference c'.phase || c'.undo_due) ≡ false → c'.undo_due ≡ false → c'.phase ≢ Running → is_hiding c'.phase ≡ is_hiding c.phase → c'.phase ≢ Spent → c'.pinning ≡ c.pinning
      → (e : Event) → BareStep world e (with_phase world j c.key c'.phase) → (i : ℕ) → Shows (set words i (get_or words i 0)) m (set cs j c')
  stays c' same idle idle' settled' runs' hides' now pins e event i =
      subst (λ (l : List ℕ). Shows l m (set cs j c')) (sym (set-get_or words i 0)) (unchanged c' same idle idle' settled' runs' hides' now pins e event)

  pub part_owes : c.phase ≡ Drained → c.undo_due ≡ false → Shows (set words (hold_index slot) hold) m (set cs j (after_part hold c))
  part_owes drains settled =
      let idle : (has_reference c.phase || c.undo_due) ≡ false = ap (λ (p : Phase). has_reference p || c.undo_due) drains ∙ settled in
      let linked_is = linked_shows m.limit hold last.0 (holders slot cs + pins_in m.pinning slot) shows.few (shows.holds slot last.0 last.1) in
      ⊎_elim
      (λ (yes : has_linked hold ≡ true). subst (λ (x : CallerView). Shows (set words (hold_index slot) hold) m (set cs j x)) (sym (part_linked hold c yes))
      (stays (after_step c.phase c.undo_due hold c) refl idle idle settled (λ e. absurd (let x : Drained ≡ Running = sym drains ∙ e in cc)) refl holding refl (Undo j) (unmoved j shows at holding) (hold_index slot)))
      (λ (no : has_linked hold ≡ false). subst (λ (x : CallerView). Shows (set words (hold_index slot) hold) m (set cs j x)) (sym (part_gone hold c no))
      (stays (after_step Parted false hold c) refl idle refl refl (λ e. absurd (let x : Parted ≡ Running = e in cc)) (sym (ap is_hiding drains)) (λ e. cc) refl (Part j)
      (record { key = c.key; there = subst (λ (p : Phase). slice_get world.callers j ≡ Some (record { key = c.key; phase = p })) drains (there j shows at holding); gone = ap is_some (known j shows at holding) ∙ sym linked_is ∙ no }, refl) (hold_index slot)))
      (bool_cases (has_linked hold))

  -- a load of any word
  pub miss_owes : is_waiting c.phase ≡ true → c.undo_due ≡ false → (i : ℕ) → Shows (set words i (get_or words i 0)) m (set cs j (after_miss (get_or words i 0) c))
  miss_owes waits settled i =
      let n : ℕ = get_or words i 0 in
      let idle : (has_reference c.phase || c.undo_due) ≡ false = ap (λ (b : Bool). b || c.undo_due) (waiting_is c.phase waits).1 ∙ settled in
      stays (after_miss n c) refl idle idle settled (not_running c.phase waits) refl holding refl (Undo j) (unmoved j shows at holding) i

  -- one more hold of any slot that is not free is counted, if the slot then still has room for one of the
  -- Master's
  pub more_owes : is_waiting c.phase ≡ true → c.undo_due ≡ false → c.pinning ≡ None → (c' : CallerView) → c'.key ≡ c.key → c'.phase ≡ c.phase → c'.undo_due ≡ c.undo_due
      → (key : Key) → c'.pinning ≡ Some key → (its : IsLast world key.slot key.generation) → (IsFree (hold_word words key.slot) → ⊥) → HasSpare m.limit (hold_word words key.slot) → hold_word words key.slot < 18446744073709551616
      → Shows (set words (hold_index key.slot) ((hold_word words key.slot + 1) % 2 ^ 64)) m (set cs j c')
  more_owes waits settled single c' same phase due key pins its taken spare small =
      let s : ℕ = key.slot in
      let h : ℕ = hold_word words s in
      let idle : (has_reference c.phase || c.undo_due) ≡ false = ap (λ (b : Bool). b || c.undo_due) (waiting_is c.phase waits).1 ∙ settled in
      let idle' : (has_reference c'.phase || c'.undo_due) ≡ false = ap (λ (p : Phase). has_reference p || c'.undo_due) phase ∙ ap (λ (b : Bool). has_reference c.phase || b) due ∙ idle in
      let unspent : c'.phase ≢ Spent = λ e. holding (sym phase ∙ e) in
      let seated = seats_stay j shows at holding c' same unspent s in
      let pinned' = pinners_more j shows at holding c' same key single pins s in
      let one : bit (eqb key.slot s) 1 ≡ 1 = ap (λ (b : Bool). bit b 1) (eq-eqb key.slot s refl) in
      let n : ℕ = holders s cs + pins_in m.pinning s in
      let n' : ℕ = holders s (set cs j c') + pins_in m.pinning s in
      let more : n' ≡ n + 1 = omega arith in
      let was = count_shows m.limit h its.0 n shows.few (shows.holds s its.0 its.1) in
      let place : holds_in h + 1 < m.limit = spare in
      let is = hold_more m.limit h its.0 n shows.few small (omega arith) (shows.holds s its.0 its.1) in
      let now = count_shows m.limit ((h + 1) % 2 ^ 64) its.0 (n + 1) shows.few is in
      on_hold_word c' same idle idle' (due ∙ settled) (λ e. not_running c.phase waits (sym phase ∙ e)) (ap is_hiding phase)
      s its.0 its.1 taken
      (λ k p. subst (λ (x : Key). IsLast world x.slot x.generation) (same_Some key k (sym pins ∙ p)) its)
      (λ k ne.
      let a = seats_stay j shows at holding c' same unspent k in
      let b = pinners_more j shows at holding c' same key single pins k in
      let none : bit (eqb key.slot k) 1 ≡ 0 = ap (λ (x : Bool). bit x 1) (ne_eqb key.slot k (λ e. ne (sym e))) in
      omega arith)
      ((h + 1) % 2 ^ 64)
      (subst (λ (k : ℕ). ShowsHolds m.limit ((h + 1) % 2 ^ 64) its.0 k) (sym more) is)
      (λ found st. ((λ f. absurd (taken (st.0 f))), (λ room. omega arith)))
      (Undo j) (ap (λ (p : Phase). with_phase world j c.key p) phase ∙ unmoved j shows at holding)

  -- one more hold is counted in the caller's slot
  pub count_owes : is_waiting c.phase ≡ true → c.undo_due ≡ false → c.pinning ≡ None → HasSpare m.limit hold → hold < 18446744073709551616
      → Shows (set words (hold_index slot) ((hold + 1) % 2 ^ 64)) m (set cs j (after_count hold c))
  count_owes waits settled single spare small =
      more_owes waits settled single (after_count hold c) refl refl refl c.key refl last (not_free j shows at holding) spare small
