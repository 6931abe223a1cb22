-- The table allows each step of a caller.
use Rattle.std.proofs.Common.{◌≡◌, ◌≢◌, ℕ, ◌+◌, ◌-◌, ◌%◌, ◌^◌, ◌<◌, bit_or, length, true, false, List, [], set, get_or, refl, sym, ap, ◌∙◌, subst}
use mathlib.Core.Option.{some, none}
use lib.ListN.{get_elem?}
use Rattle.atomic_table.specs.Table.{State, Step, step, Allows, keeps}
use Rattle.kf_core.specs.declared.caller.Phase.{Phase}
use Rattle.kf_core.specs.declared.caller.Phase.TheVariants.{Turned, Running, Broken, Drained, Hiding, Hidden, Spent}
use Rattle.kf_core.specs.Phases.{may_release}
use Rattle.kf_words.specs.declared.view.CallerView.{CallerView}
use Rattle.kf_words.specs.declared.view.MasterView.{MasterView}
use Rattle.kf_words.specs.declared.view.View.{View}
use Rattle.kf_words.specs.declared.view.View.TheVariants as seat
use Rattle.kf_words.specs.Layout.{hide, active_index, hold_index, active_word, hold_word, has_hide}
use Rattle.kf_words.specs.Rule.{Shows, Shown, seats}
use Rattle.kf_words.specs.Steps.{Seated, caller_of, after_try, after_undo, after_leave, after_look, after_release, after_part, after_miss, after_break, after_restore, after_hide, after_look_hidden, after_show, CallerBecomes, ShowsKey}
use Rattle.kf_words.specs.Callers.{IsAtRest, HasReference, IsInPhase}
use Rattle.kf_words.proofs.Bits.{waiting_is, counted_is}
use Rattle.kf_words.proofs.Seating.{caller_seat, seats-set}
use Rattle.kf_words.proofs.CallerSteps.{try_owes, undo_owes, leave_owes, break_owes, restore_owes, look_owes}
use Rattle.kf_words.proofs.HidingSteps.{hide_owes, look_hidden_owes, show_owes, show_finds}
use Rattle.kf_words.proofs.HoldSteps.{release_owes, part_owes, miss_owes}

-- any step will do here, since no play of a caller reads it
abbrev pub no_step : Step (Unit {0})
no_step = step 0 0 0 0 none

-- what must be proved of a step of a caller with this view that changes word i by f, if the table has this
-- many slots
abbrev pub Owes : ℕ → CallerView → ℕ → (ℕ → ℕ) → (ℕ → CallerView → CallerView) → Type 0
Owes count c i f after =
    (words : List ℕ) (m : MasterView) (cs : List CallerView) (j : ℕ) → length m.slots ≡ count → Shows words m cs → get_elem? cs j ≡ some c → get_or words i 0 < 18446744073709551616
    → Shows (set words i (f (get_or words i 0))) m (set cs j (after (get_or words i 0) c))

pub allows : (count limit homes id : ℕ) (me : Seated) (i : ℕ) (f : ℕ → ℕ) (after : ℕ → CallerView → CallerView) → me ≡ (seat.Caller (caller_of me.0), []) → Owes count (caller_of me.0) i f after
    → Allows (Shown count limit) homes id me i f (CallerBecomes after no_step me)
allows count limit homes id me i f after is owes t h _ at small =
    let c = caller_of me.0 in
    let n : ℕ = get_or t.words i 0 in
    let m : MasterView = h.master in
    let cs : List CallerView = h.callers in
    let c' : CallerView = after n c in
    let at' : get_elem? (seats m cs) id ≡ some (seat.Caller c) = subst (λ (l : List View). get_elem? l id ≡ some (seat.Caller c)) h.views (at ∙ ap (λ (x : Seated). some x.0) is) in
    let p = caller_seat m cs id c at' in
    let views : set t.views id (seat.Caller c') ≡ seats m (set cs p.0 c') =
    ap (λ (l : List View). set l id (seat.Caller c')) h.views ∙ ap (λ (k : ℕ). set (seats m cs) k (seat.Caller c')) p.1 ∙ seats-set m cs p.0 c' in (
      seat.Caller c',
      keeps,
      tt,
      record { master = m; callers = set cs p.0 c'; views = views; all_slots = h.all_slots; most_holds = h.most_holds; shows = owes t.words m cs p.0 h.all_slots h.shows p.2 small },
      refl,
    )

-- the table allows each step on the active word
module _ (count limit homes id : ℕ) (me : Seated) (i : ℕ) (is : me ≡ (seat.Caller (caller_of me.0), [])) (its : active_index (caller_of me.0).key.slot ≡ i) where
  abbrev c : CallerView
  c = caller_of me.0

  abbrev OwesHere : (ℕ → ℕ) → (ℕ → CallerView → CallerView) → Type 0
  OwesHere f after =
      (words : List ℕ) (m : MasterView) (cs : List CallerView) (j : ℕ) → Shows words m cs → get_elem? cs j ≡ some c
      → Shows (set words (active_index c.key.slot) (f (active_word words c.key.slot))) m (set cs j (after (active_word words c.key.slot) c))

  here : (f : ℕ → ℕ) (after : ℕ → CallerView → CallerView) → OwesHere f after → Allows (Shown count limit) homes id me i f (CallerBecomes after no_step me)
  here f after owes = subst (λ (k : ℕ). Allows (Shown count limit) homes id me k f (CallerBecomes after no_step me)) its
      (allows count limit homes id me (active_index c.key.slot) f after is (λ words m cs j _ shows at _. owes words m cs j shows at))

  pub hide_allowed : IsAtRest c → Allows (Shown count limit) homes id me i (λ n. bit_or n hide) (CallerBecomes after_hide no_step me)
  hide_allowed waits = subst (λ (k : ℕ). Allows (Shown count limit) homes id me k (λ n. bit_or n hide) (CallerBecomes after_hide no_step me)) its
      (allows count limit homes id me (active_index c.key.slot) (λ n. bit_or n hide) after_hide is (λ words m cs j _ shows at small. hide_owes words m cs j c shows at (waiting_is c.phase waits.0).0 waits.0 waits.1 small))

  pub look_hidden_allowed : IsInPhase Hiding c → Allows (Shown count limit) homes id me i (λ n. n) (CallerBecomes after_look_hidden no_step me)
  look_hidden_allowed is_in = here (λ n. n) after_look_hidden (λ words m cs j shows at. look_hidden_owes words m cs j c shows at (λ e. let x : Hiding ≡ Spent = sym is_in.0 ∙ e in cc) is_in.0 is_in.1)

  show_moves : IsInPhase Hidden c → Allows (Shown count limit) homes id me i (λ n. (n + (2 ^ 64 - hide)) % 2 ^ 64) (CallerBecomes after_show no_step me)
  show_moves is_in = here (λ n. (n + (2 ^ 64 - hide)) % 2 ^ 64) after_show (λ words m cs j shows at. show_owes words m cs j c shows at (λ e. let x : Hidden ≡ Spent = sym is_in.0 ∙ e in cc) is_in.0 is_in.1)

  -- HIDE is set in the active word of a Hidden caller
  hidden_set : IsInPhase Hidden c → (t : State (Unit {0}) View) → Shown count limit t → get_elem? t.views id ≡ some me.0 → has_hide (get_or t.words i 0) ≡ true
  hidden_set is_in t h at =
      let at' : get_elem? (seats h.master h.callers) id ≡ some (seat.Caller c) = subst (λ (l : List View). get_elem? l id ≡ some (seat.Caller c)) h.views (at ∙ ap (λ (x : Seated). some x.0) is) in
      let p = caller_seat h.master h.callers id c at' in
      subst (λ (k : ℕ). has_hide (get_or t.words k 0) ≡ true) its (show_finds t.words h.master h.callers p.0 c h.shows p.2 (λ e. let x : Hidden ≡ Spent = sym is_in.0 ∙ e in cc) is_in.0)

  pub show_allowed : IsInPhase Hidden c → Allows (Shown count limit) homes id me i (λ n. (n + (2 ^ 64 - hide)) % 2 ^ 64) (ShowsKey no_step me)
  show_allowed is_in t h long at small = let r = show_moves is_in t h long at small in (r.0, r.1, r.2, r.3, (r.4, hidden_set is_in t h at))

  pub try_allowed : IsAtRest c → Allows (Shown count limit) homes id me i (λ n. (n + 1) % 2 ^ 64) (CallerBecomes after_try no_step me)
  try_allowed waits = here (λ n. (n + 1) % 2 ^ 64) after_try (λ words m cs j shows at. try_owes words m cs j c shows at (waiting_is c.phase waits.0).0 waits.0 waits.1)

  pub undo_allowed : c.phase ≡ Turned → c.undo_due ≡ true → Allows (Shown count limit) homes id me i (λ n. (n + (2 ^ 64 - 1)) % 2 ^ 64) (CallerBecomes (λ _. after_undo) no_step me)
  undo_allowed turned undo_due = here (λ n. (n + (2 ^ 64 - 1)) % 2 ^ 64) (λ _. after_undo) (λ words m cs j shows at. undo_owes words m cs j c shows at (λ e. let x : Turned ≡ Spent = sym turned ∙ e in cc) turned undo_due)

  pub leave_allowed : HasReference c → Allows (Shown count limit) homes id me i (λ n. (n + (2 ^ 64 - 1)) % 2 ^ 64) (CallerBecomes after_leave no_step me)
  leave_allowed counted = here (λ n. (n + (2 ^ 64 - 1)) % 2 ^ 64) after_leave (λ words m cs j shows at. leave_owes words m cs j c shows at (counted_is c.phase counted.0) counted.0)

  pub look_allowed : IsAtRest c → Allows (Shown count limit) homes id me i (λ n. n) (CallerBecomes after_look no_step me)
  look_allowed waits = here (λ n. n) after_look (λ words m cs j shows at. look_owes words m cs j c shows at (waiting_is c.phase waits.0).0 waits.0 waits.1)

  pub break_allowed : IsInPhase Running c → Allows (Shown count limit) homes id me i (λ n. (n + (2 ^ 64 - 1)) % 2 ^ 64) (CallerBecomes after_break no_step me)
  break_allowed is_in = here (λ n. (n + (2 ^ 64 - 1)) % 2 ^ 64) after_break (λ words m cs j shows at. break_owes words m cs j c shows at (λ e. let x : Running ≡ Spent = sym is_in.0 ∙ e in cc) is_in.0 is_in.1)

  pub restore_allowed : IsInPhase Broken c → Allows (Shown count limit) homes id me i (λ n. (n + 1) % 2 ^ 64) (CallerBecomes after_restore no_step me)
  restore_allowed is_in = here (λ n. (n + 1) % 2 ^ 64) after_restore (λ words m cs j shows at. restore_owes words m cs j c shows at (λ e. let x : Broken ≡ Spent = sym is_in.0 ∙ e in cc) is_in.0 is_in.1)

-- the table allows each step on the hold word
module _ (count limit homes id : ℕ) (me : Seated) (i : ℕ) (is : me ≡ (seat.Caller (caller_of me.0), [])) (its : hold_index (caller_of me.0).key.slot ≡ i) where
  abbrev me_c : CallerView
  me_c = caller_of me.0

  abbrev OwesThere : (ℕ → ℕ) → (ℕ → CallerView → CallerView) → Type 0
  OwesThere f after =
      (words : List ℕ) (m : MasterView) (cs : List CallerView) (j : ℕ) → Shows words m cs → get_elem? cs j ≡ some me_c → hold_word words me_c.key.slot < 18446744073709551616
      → Shows (set words (hold_index me_c.key.slot) (f (hold_word words me_c.key.slot))) m (set cs j (after (hold_word words me_c.key.slot) me_c))

  hold_step : (f : ℕ → ℕ) (after : ℕ → CallerView → CallerView) → OwesThere f after → Allows (Shown count limit) homes id me i f (CallerBecomes after no_step me)
  hold_step f after owes = subst (λ (k : ℕ). Allows (Shown count limit) homes id me k f (CallerBecomes after no_step me)) its
      (allows count limit homes id me (hold_index me_c.key.slot) f after is (λ words m cs j _ shows at small. owes words m cs j shows at small))

  pub release_allowed : may_release me_c.phase ≡ true → me_c.undo_due ≡ false → Allows (Shown count limit) homes id me i (λ n. (n + (2 ^ 64 - 1)) % 2 ^ 64) (CallerBecomes after_release no_step me)
  release_allowed idles settled = hold_step (λ n. (n + (2 ^ 64 - 1)) % 2 ^ 64) after_release (λ words m cs j shows at small. release_owes words m cs j me_c shows at (idle_is me_c.phase idles) idles settled small)
    where
      idle_is : (p : Phase) → may_release p ≡ true → p ≢ Spent
      idle_is p e x = let y : may_release Spent ≡ true = subst (λ (q : Phase). may_release q ≡ true) x e in cc

  pub part_allowed : IsInPhase Drained me_c → Allows (Shown count limit) homes id me i (λ n. n) (CallerBecomes after_part no_step me)
  part_allowed is_in = hold_step (λ n. n) after_part (λ words m cs j shows at small. part_owes words m cs j me_c shows at (λ e. let x : Drained ≡ Spent = sym is_in.0 ∙ e in cc) is_in.0 is_in.1)

  pub miss_allowed : IsAtRest me_c → Allows (Shown count limit) homes id me i (λ n. n) (CallerBecomes after_miss no_step me)
  miss_allowed waits = hold_step (λ n. n) after_miss (λ words m cs j shows at small. miss_owes words m cs j me_c shows at (waiting_is me_c.phase waits.0).0 waits.0 waits.1 (hold_index me_c.key.slot))
