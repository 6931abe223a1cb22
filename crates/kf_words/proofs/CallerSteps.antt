-- A try, its undo, the end of a call, the break and the restore of a protection, and a look for the drain
-- keep the rule.
use Rattle.std.proofs.Common.{◌&&◌, ◌||◌, ◌≡◌, ◌≢◌, ℕ, ◌+◌, ◌-◌, ◌%◌, ◌^◌, Bool, true, false, not, List, set, if◌then◌else◌, refl, sym, ap, ◌∙◌, subst, ⊎_elim}
use Rattle.std.specs.Prelude.{slice_get, Some}
use mathlib.Core.Option.{some}
use lib.ListN.{get_elem?}
use Rattle.kf_core.specs.declared.caller.Phase.{Phase}
use Rattle.kf_core.specs.declared.caller.Phase.TheVariants.{Still, Turned, Running, Broken, Restored, Drained, Spent}
use Rattle.kf_core.specs.declared.event.Event.TheVariants.{Enter, Leave, Break, Restore, Look, Undo}
use Rattle.kf_core.specs.Bare.{BareWorld, IsLast, is_hidden, is_live}
use Rattle.kf_core.specs.Marks.{are_live, are_doomed}
use Rattle.kf_core.specs.Phases.{has_reference, is_waiting, is_hiding}
use Rattle.kf_core.specs.Steps.{with_phase}
use Rattle.kf_core.proofs.Keeping.{same_key}
use Rattle.kf_words.specs.declared.view.CallerView.{CallerView}
use Rattle.kf_words.specs.declared.view.MasterView.{MasterView}
use Rattle.kf_words.specs.Layout.{active_index, active_word, has_bias, has_hide, keeps_out, is_drained}
use Rattle.kf_words.specs.Rule.{users, hiders, last_key, bare_world, Shows}
use Rattle.kf_words.specs.Steps.{after_step, with_try, after_try, after_undo, after_leave, after_look, after_break, after_restore}
use Rattle.kf_words.proofs.Bits.{bool_cases, bias_shows, drained_shows, waiting_is, not_not}
use Rattle.kf_words.proofs.Answered.{try_enters, try_refused, look_hits, look_misses}
use Rattle.kf_words.proofs.HiddenBit.{hidden_bit}
use Rattle.kf_words.proofs.CallerPhases.{not_running, waits_shown, counts_shown}
use Rattle.kf_words.proofs.CallerChanges.{last as last_state, there, known, users_few, own_word, none_counted, adds, drops, sees, unmoved}

module _ (words : List ℕ) (m : MasterView) (cs : List CallerView) (j : ℕ) (c : CallerView) (shows : Shows words m cs) (at : get_elem? cs j ≡ some c) (holding : c.phase ≢ Spent) where
  abbrev slot : ℕ
  slot = c.key.slot

  abbrev word : ℕ
  word = active_word words slot

  abbrev world : BareWorld
  world = bare_world m cs

  abbrev last : IsLast world c.key.slot c.key.generation
  last = last_state j shows at holding

  pub try_owes : is_waiting c.phase ≡ true → c.undo_due ≡ false → Shows (set words (active_index slot) ((word + 1) % 2 ^ 64)) m (set cs j (after_try word c))
  try_owes waits settled =
      let p = waiting_is c.phase waits in
      let idle : (has_reference c.phase || c.undo_due) ≡ false = ap (λ (b : Bool). b || c.undo_due) p.1 ∙ settled in
      let shown : false ≡ is_hiding c.phase = sym (waits_shown c.phase waits) in
      let lives : are_live last.0.marks ≡ not (has_bias word) = sym (not_not (are_live last.0.marks)) ∙ ap not (sym (bias_shows word last.0.marks (users slot cs) (hiders slot cs) (users_few j shows at holding) (own_word j shows at holding))) in
      let key : last_key slot last.0 ≡ c.key = same_key (last_key slot last.0) c.key refl last.2 in
      let hides : is_hidden world c.key ≡ has_hide word = ap (is_hidden world) (sym key) ∙ hidden_bit words m cs shows slot last.0 last.1 in
      let lives' : is_live world c.key ≡ not (keeps_out word) = ap (λ (b : Bool). b && not (is_hidden world c.key)) (ap are_live (known j shows at holding) ∙ lives) ∙ ap (λ (b : Bool). not (has_bias word) && not b) hides ∙ neither (has_bias word) (has_hide word) in
      ⊎_elim
      (λ (biased : keeps_out word ≡ true). subst (λ (x : CallerView). Shows (set words (active_index slot) ((word + 1) % 2 ^ 64)) m (set cs j x)) (sym (try_refused word c biased))
      (adds j shows at holding (after_step Turned true word (with_try c)) refl shown idle refl refl (λ e. cc) (λ _. refl) (λ e. absurd (let x : Turned ≡ Running = e in cc)) (Enter j)
      (c.key, c.phase, there j shows at holding, waits, ap (with_phase world j c.key) (sym (ap (λ (b : Bool). if b then Running else Turned) (lives' ∙ ap not biased))))))
      (λ (free : keeps_out word ≡ false). subst (λ (x : CallerView). Shows (set words (active_index slot) ((word + 1) % 2 ^ 64)) m (set cs j x)) (sym (try_enters word c free))
      (adds j shows at holding (after_step Running false word (with_try c)) refl shown idle refl refl (λ e. cc) (λ e. absurd (let x : false ≡ true = e in cc)) (λ _. lives ∙ ap not (no_first (has_bias word) (has_hide word) free)) (Enter j)
      (c.key, c.phase, there j shows at holding, waits, ap (with_phase world j c.key) (sym (ap (λ (b : Bool). if b then Running else Turned) (lives' ∙ ap not free))))))
      (bool_cases (keeps_out word))
    where
      neither : (a b : Bool) → (not a && not b) ≡ not (a || b)
      neither true b = refl
      neither false b = refl

      no_first : (a b : Bool) → (a || b) ≡ false → a ≡ false
      no_first true b e = absurd (let x : true ≡ false = e in cc)
      no_first false b e = refl

  pub undo_owes : c.phase ≡ Turned → c.undo_due ≡ true → Shows (set words (active_index slot) ((word + (2 ^ 64 - 1)) % 2 ^ 64)) m (set cs j (after_undo c))
  undo_owes turned undo_due =
      drops j shows at holding (after_undo c) refl refl (ap (λ (p : Phase). has_reference p || c.undo_due) turned ∙ undo_due) (ap (λ (p : Phase). has_reference p || false) turned) refl holding
      (λ e. absurd (let x : false ≡ true = e in cc)) (λ e. absurd (let x : Turned ≡ Running = sym turned ∙ e in cc)) (Undo j) (unmoved j shows at holding)

  pub leave_owes : has_reference c.phase ≡ true → Shows (set words (active_index slot) ((word + (2 ^ 64 - 1)) % 2 ^ 64)) m (set cs j (after_leave word c))
  leave_owes counted =
      drops j shows at holding (after_leave word c) refl (sym (counts_shown c.phase counted)) (ap (λ (b : Bool). b || c.undo_due) counted) refl refl (λ e. cc) (λ e. absurd (let x : false ≡ true = e in cc)) (λ e. absurd (let x : Still ≡ Running = e in cc))
      (Leave j) (c.key, c.phase, there j shows at holding, counted, refl)

  pub break_owes : c.phase ≡ Running → c.undo_due ≡ false → Shows (set words (active_index slot) ((word + (2 ^ 64 - 1)) % 2 ^ 64)) m (set cs j (after_break word c))
  break_owes runs settled =
      drops j shows at holding (after_break word c) refl (sym (ap is_hiding runs)) (ap (λ (p : Phase). has_reference p || c.undo_due) runs) refl refl (λ e. cc) (λ e. absurd (let x : false ≡ true = e in cc)) (λ e. absurd (let x : Broken ≡ Running = e in cc))
      (Break j) (c.key, subst (λ (p : Phase). slice_get world.callers j ≡ Some (record { key = c.key; phase = p })) runs (there j shows at holding), refl)

  pub restore_owes : c.phase ≡ Broken → c.undo_due ≡ false → Shows (set words (active_index slot) ((word + 1) % 2 ^ 64)) m (set cs j (after_restore word c))
  restore_owes broke settled =
      adds j shows at holding (after_restore word c) refl (sym (ap is_hiding broke)) (ap (λ (p : Phase). has_reference p || c.undo_due) broke ∙ settled) refl refl (λ e. cc) (λ e. absurd (let x : false ≡ true = e in cc)) (λ e. absurd (let x : Restored ≡ Running = e in cc))
      (Restore j) (c.key, subst (λ (p : Phase). slice_get world.callers j ≡ Some (record { key = c.key; phase = p })) broke (there j shows at holding), refl)

  pub look_owes : is_waiting c.phase ≡ true → c.undo_due ≡ false → Shows (set words (active_index slot) word) m (set cs j (after_look word c))
  look_owes waits settled =
      let p = waiting_is c.phase waits in
      let idle : (has_reference c.phase || c.undo_due) ≡ false = ap (λ (b : Bool). b || c.undo_due) p.1 ∙ settled in
      ⊎_elim
      (λ (hit : is_drained word ≡ true).
      let is = drained_shows word last.0.marks (users slot cs) (hiders slot cs) (users_few j shows at holding) (own_word j shows at holding) hit in
      subst (λ (x : CallerView). Shows (set words (active_index slot) word) m (set cs j x)) (sym (look_hits word c hit))
      (sees j shows at holding (after_step Drained false word c) refl (sym (waits_shown c.phase waits)) (sym idle) refl (λ e. cc) (λ e. absurd (let x : false ≡ true = e in cc)) (λ e. absurd (let x : Drained ≡ Running = e in cc))
      (Look j) (record { key = c.key; phase = c.phase; there = there j shows at holding; waits = waits; doomed = ap are_doomed (known j shows at holding) ∙ is.1; unused = none_counted j shows at holding is.0 }, refl)))
      (λ (miss : is_drained word ≡ false). subst (λ (x : CallerView). Shows (set words (active_index slot) word) m (set cs j x)) (sym (look_misses word c miss))
      (sees j shows at holding (after_step c.phase c.undo_due word c) refl refl refl refl holding (λ e. absurd (let x : true ≡ false = sym e ∙ settled in cc)) (λ e. absurd (not_running c.phase waits e)) (Undo j) (unmoved j shows at holding)))
      (bool_cases (is_drained word))
