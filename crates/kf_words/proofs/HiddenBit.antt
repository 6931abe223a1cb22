-- The bit HIDE says whether a caller hides the last key of the slot.
use Rattle.std.proofs.Common.{◌&&◌, ◌≡◌, ℕ, ◌≤◌, eqb, Bool, true, false, List, refl, sym, ap, ◌∙◌, arith, eq-eqb}
use Rattle.std.specs.Prelude.{slice_get, Some}
use Rattle.std.proofs.lemmas.Option.{same_Some}
use Rattle.std.proofs.lemmas.Bool.{eqb-true}
use Rattle.kf_core.specs.declared.key.Key.{Key}
use Rattle.kf_core.specs.declared.caller.Caller.{Caller}
use Rattle.kf_core.specs.declared.slot.SlotState.{SlotState}
use Rattle.kf_core.specs.declared.caller.Phase.{Phase}
use Rattle.kf_core.specs.Bare.{IsLast, is_hidden}
use Rattle.kf_core.specs.Phases.{is_hiding}
use Rattle.kf_core.proofs.Hiding.{hidden_has, hider_hidden, hiding_holds}
use Rattle.kf_core.proofs.Keeping.{same_key}
use Rattle.kf_core.proofs.Tallies.{same_bool}
use Rattle.kf_words.specs.declared.view.CallerView.{CallerView}
use Rattle.kf_words.specs.declared.view.MasterView.{MasterView}
use Rattle.kf_words.specs.Layout.{active_word, has_hide}
use Rattle.kf_words.specs.Rule.{is_hider, users, hiders, last_key, caller, bare_world, Shows}
use Rattle.kf_words.proofs.Bits.{hide_set, hiders_one}
use Rattle.kf_words.proofs.Seating.{caller_at, at_caller, tally-one, tally-some}
use Rattle.kf_words.proofs.MasterSteps.{users_few}

both : (a b : Bool) → (a && b) ≡ true → (a ≡ true) × (b ≡ true)
both true b h = (refl, h)
both false b h = cc

module _ (words : List ℕ) (m : MasterView) (cs : List CallerView) (shows : Shows words m cs) (slot : ℕ) (state : SlotState) (its : slice_get m.slots slot ≡ Some state) where
  abbrev word : ℕ
  word = active_word words slot

  -- a caller that hides the last key of the slot is counted
  hider_counts : (i : ℕ) (p : Phase) → slice_get (bare_world m cs).callers i ≡ Some (record { key = last_key slot state; phase = p }) → is_hiding p ≡ true → 1 ≤ hiders slot cs
  hider_counts i p there hides =
      let x = at_caller cs i (record { key = last_key slot state; phase = p }) there in
      let y : CallerView = x.0 in
      let its_slot : y.key.slot ≡ slot = ap (λ (h : Caller). h.key.slot) x.2 in
      let its_phase : y.phase ≡ p = ap (λ (h : Caller). h.phase) x.2 in
      tally-one (is_hider slot) cs i y x.1 (ap (λ (b : Bool). b && is_hiding y.phase) (eq-eqb y.key.slot slot its_slot) ∙ ap is_hiding its_phase ∙ hides)

  -- if a caller is counted, the last key is hidden
  counted_hides : 1 ≤ hiders slot cs → is_hidden (bare_world m cs) (last_key slot state) ≡ true
  counted_hides some =
      let r = tally-some (is_hider slot) cs some in
      let y : CallerView = r.1 in
      let b = both (eqb y.key.slot slot) (is_hiding y.phase) r.3 in
      let at_slot : y.key.slot ≡ slot = eqb-true y.key.slot slot b.0 in
      let there : slice_get (bare_world m cs).callers r.0 ≡ Some (caller y) = caller_at cs r.0 y r.2 in
      let last : IsLast (bare_world m cs) y.key.slot y.key.generation = shows.safe.held_last r.0 y.key y.phase there (hiding_holds y.phase b.1) in
      let same : last.0 ≡ state = same_Some last.0 state (sym last.1 ∙ ap (slice_get m.slots) at_slot ∙ its) in
      let key : y.key ≡ last_key slot state = same_key y.key (last_key slot state) at_slot (sym last.2 ∙ ap (λ (s : SlotState). s.generation) same) in
      hider_hidden (bare_world m cs) r.0 (last_key slot state) y.phase (there ∙ ap (λ (k : Key). let x : Caller = record { key = k; phase = y.phase } in Some x) key) b.1

  pub hidden_bit : is_hidden (bare_world m cs) (last_key slot state) ≡ has_hide (active_word words slot)
  hidden_bit =
      let own = shows.marks slot state its in
      let few = users_few words m cs shows slot state its in
      same_bool (is_hidden (bare_world m cs) (last_key slot state)) (has_hide word)
      (λ hidden. let r = hidden_has (bare_world m cs) (last_key slot state) hidden in hide_set word state.marks (users slot cs) (hiders slot cs) few own (hider_counts r.0 r.1 r.2 r.3))
      (λ set. let one = hiders_one word state.marks (users slot cs) (hiders slot cs) few own set in counted_hides (omega arith))
