-- The steps of hiding keep the rule: to hide a key, to look for users while it is hidden, and to show it.
use Rattle.std.proofs.Common.{◌&&◌, ◌||◌, ◌≡◌, ◌≢◌, ℕ, ◌+◌, ◌-◌, ◌%◌, ◌^◌, ◌<◌, bit_or, Bool, true, false, List, set, refl, sym, ap, ◌∙◌, subst, ⊎_elim, arith}
use Rattle.std.specs.Prelude.{slice_get, Some}
use mathlib.Core.Option.{some}
use lib.ListN.{get_elem?}
use Rattle.kf_core.specs.declared.caller.Phase.{Phase}
use Rattle.kf_core.specs.declared.caller.Phase.TheVariants.{Still, Running, Hiding, Hidden, Spent}
use Rattle.kf_core.specs.declared.event.Event.TheVariants.{Undo, Hide, LookHidden, Show}
use Rattle.kf_core.specs.Bare.{BareWorld, IsLast, is_hidden}
use Rattle.kf_core.specs.Phases.{has_reference, is_waiting, is_hiding}
use Rattle.kf_core.proofs.Keeping.{same_key}
use Rattle.kf_words.specs.declared.view.CallerView.{CallerView}
use Rattle.kf_words.specs.declared.view.MasterView.{MasterView}
use Rattle.kf_words.specs.Layout.{hide, active_index, active_word, has_hide, is_unused}
use Rattle.kf_words.specs.Rule.{is_hider, users, hiders, ShowsMarks, last_key, bare_world, Shows}
use Rattle.kf_words.specs.Steps.{after_step, after_hide, after_look_hidden, after_show}
use Rattle.kf_words.proofs.Bits.{bool_cases, unused_shows, hide_set, hide_comes, hide_again, hide_goes, waiting_is}
use Rattle.kf_words.proofs.Seating.{tally-one}
use Rattle.kf_words.proofs.Answered.{hide_sets, hide_found, look_hidden_hits, look_hidden_misses}
use Rattle.kf_words.proofs.HiddenBit.{hidden_bit}
use Rattle.kf_words.proofs.CallerPhases.{not_running, waits_shown}
use Rattle.kf_words.proofs.CallerChanges.{last as last_state, there, in_its_slot, users_few, own_word, none_counted, hiders_now, sees, turns, unmoved}

module _ (words : List ℕ) (m : MasterView) (cs : List CallerView) (j : ℕ) (c : CallerView) (shows : Shows words m cs) (at : get_elem? cs j ≡ some c) (holding : c.phase ≢ Spent) where
  abbrev slot : ℕ
  slot = c.key.slot

  abbrev word : ℕ
  word = active_word words slot

  abbrev world : BareWorld
  world = bare_world m cs

  abbrev last : IsLast world c.key.slot c.key.generation
  last = last_state j shows at holding

  -- in the world the caller has its key and this phase
  in_phase : (p : Phase) → c.phase ≡ p → slice_get world.callers j ≡ Some (record { key = c.key; phase = p })
  in_phase p is = subst (λ (q : Phase). slice_get world.callers j ≡ Some (record { key = c.key; phase = q })) is (there j shows at holding)

  pub hide_owes : is_waiting c.phase ≡ true → c.undo_due ≡ false → word < 18446744073709551616 → Shows (set words (active_index slot) (bit_or word hide)) m (set cs j (after_hide word c))
  hide_owes waits settled small =
      let p = waiting_is c.phase waits in
      let idle : (has_reference c.phase || c.undo_due) ≡ false = ap (λ (b : Bool). b || c.undo_due) p.1 ∙ settled in
      let key : last_key slot last.0 ≡ c.key = same_key (last_key slot last.0) c.key refl last.2 in
      let hides : is_hidden world c.key ≡ has_hide word = ap (is_hidden world) (sym key) ∙ hidden_bit words m cs shows slot last.0 last.1 in
      ⊎_elim
      (λ (found : has_hide word ≡ true). subst (λ (n : ℕ). Shows (set words (active_index slot) n) m (set cs j (after_hide word c))) (sym (hide_again word found small))
      (subst (λ (x : CallerView). Shows (set words (active_index slot) word) m (set cs j x)) (sym (hide_found word c found))
      (sees j shows at holding (after_step c.phase c.undo_due word c) refl refl refl refl holding (λ e. absurd (let x : true ≡ false = sym e ∙ settled in cc)) (λ e. absurd (not_running c.phase waits e)) (Undo j) (unmoved j shows at holding))))
      (λ (clear : has_hide word ≡ false). subst (λ (x : CallerView). Shows (set words (active_index slot) (bit_or word hide)) m (set cs j x)) (sym (hide_sets word c clear))
      (turns j shows at holding (after_step Hiding false word c) refl (bit_or word hide)
      (λ n e. subst (λ (k : ℕ). ShowsMarks (bit_or word hide) last.0.marks k (hiders slot (set cs j (after_step Hiding false word c)))) (sym e)
      (hide_comes word last.0.marks (users slot cs) (hiders slot cs) (hiders slot (set cs j (after_step Hiding false word c))) (users_few j shows at holding) (own_word j shows at holding) clear
      (let r = hiders_now j shows at holding (after_step Hiding false word c) refl false true (waits_shown c.phase waits) refl in omega arith)))
      (sym idle) refl (λ e. cc) (λ e. absurd (let x : false ≡ true = e in cc)) (λ e. absurd (let x : Hiding ≡ Running = e in cc))
      (Hide j) (record { key = c.key; phase = c.phase; there = there j shows at holding; waits = waits; shown = hides ∙ clear }, refl)))
      (bool_cases (has_hide word))

  pub look_hidden_owes : c.phase ≡ Hiding → c.undo_due ≡ false → Shows (set words (active_index slot) word) m (set cs j (after_look_hidden word c))
  look_hidden_owes hiding settled =
      let idle : (has_reference c.phase || c.undo_due) ≡ false = ap (λ (p : Phase). has_reference p || c.undo_due) hiding ∙ settled in
      ⊎_elim
      (λ (hit : is_unused word ≡ true).
      let none = unused_shows word last.0.marks (users slot cs) (hiders slot cs) (users_few j shows at holding) (own_word j shows at holding) hit in
      subst (λ (x : CallerView). Shows (set words (active_index slot) word) m (set cs j x)) (sym (look_hidden_hits word c hit))
      (sees j shows at holding (after_step Hidden false word c) refl (sym (ap is_hiding hiding)) (sym idle) refl (λ e. cc) (λ e. absurd (let x : false ≡ true = e in cc)) (λ e. absurd (let x : Hidden ≡ Running = e in cc))
      (LookHidden j) (record { key = c.key; there = in_phase Hiding hiding; unused = none_counted j shows at holding none }, refl)))
      (λ (miss : is_unused word ≡ false). subst (λ (x : CallerView). Shows (set words (active_index slot) word) m (set cs j x)) (sym (look_hidden_misses word c miss))
      (sees j shows at holding (after_step c.phase c.undo_due word c) refl refl refl refl holding (λ e. absurd (let x : true ≡ false = sym e ∙ settled in cc)) (λ e. absurd (let x : Hiding ≡ Running = sym hiding ∙ e in cc)) (Undo j) (unmoved j shows at holding)))
      (bool_cases (is_unused word))

  -- a Hidden caller finds HIDE set
  pub show_finds : c.phase ≡ Hidden → has_hide word ≡ true
  show_finds hid = hide_set word last.0.marks (users slot cs) (hiders slot cs) (users_few j shows at holding) (own_word j shows at holding)
      (tally-one (is_hider slot) cs j c at (ap (λ (b : Bool). b && is_hiding c.phase) (in_its_slot j shows at holding c refl) ∙ ap is_hiding hid))

  pub show_owes : c.phase ≡ Hidden → c.undo_due ≡ false → Shows (set words (active_index slot) ((word + (2 ^ 64 - hide)) % 2 ^ 64)) m (set cs j (after_show word c))
  show_owes hid settled =
      let idle : (has_reference c.phase || c.undo_due) ≡ false = ap (λ (p : Phase). has_reference p || c.undo_due) hid ∙ settled in
      let new : ℕ = (word + (2 ^ 64 - hide)) % 2 ^ 64 in
      turns j shows at holding (after_show word c) refl ((word + (2 ^ 64 - hide)) % 2 ^ 64)
      (λ n e. subst (λ (k : ℕ). ShowsMarks ((word + (2 ^ 64 - hide)) % 2 ^ 64) last.0.marks k (hiders slot (set cs j (after_show word c)))) (sym e)
      (hide_goes word last.0.marks (users slot cs) (hiders slot cs) (hiders slot (set cs j (after_show word c))) (users_few j shows at holding) (own_word j shows at holding)
      (let r = hiders_now j shows at holding (after_show word c) refl true false (ap is_hiding hid) refl in omega arith)))
      (sym idle) refl (λ e. cc) (λ e. absurd (let x : false ≡ true = e in cc)) (λ e. absurd (let x : Still ≡ Running = e in cc))
      (Show j) (c.key, in_phase Hidden hid, refl)
