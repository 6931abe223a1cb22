-- Each step of the table keeps the rule, and the world after it follows from the world before it as `Led`
-- says.
use Rattle.std.proofs.Common.{◌≡◌, inl, inr, ℕ, suc, ◌+◌, true, false, [], map, length, set, refl, sym, ap, ◌∙◌, subst, ⊎_elim}
use Rattle.std.specs.Prelude.{slice_index, Some, None}
use Rattle.std.proofs.lemmas.Option.{get_or_from_slice_get}
use mathlib.Core.Option.{none}
use Rattle.atomic_table.specs.Table.{step}
use Rattle.kf_core.specs.declared.key.Key.{Key}
use Rattle.kf_core.specs.declared.key.Node.TheVariants.{Dir}
use Rattle.kf_core.specs.declared.event.Event.TheVariants.{Born, Rise, Mark, Enter, Leave, Break, Restore, Look, Part, Hide, LookHidden, Show, Release, Undo}
use Rattle.kf_core.specs.declared.slot.NodeFlags.{NodeFlags}
use Rattle.kf_core.specs.declared.slot.SlotState.{SlotState}
use Rattle.kf_core.specs.Bare.{BareWorld}
use Rattle.kf_core.specs.Marks.{fresh_marks, are_doomed}
use Rattle.kf_core.specs.Steps as core
use Rattle.kf_words.specs.declared.view.CallerView.{CallerView}
use Rattle.kf_words.specs.declared.view.MasterView.{MasterView}
use Rattle.kf_words.specs.declared.view.View.TheVariants as seat
use Rattle.kf_words.specs.Layout.{bit, bias, doom, hide, linked, one_generation, active_index, hold_index, node_index, is_drained, has_hide, is_unused, has_linked}
use Rattle.kf_words.specs.Rule.{Shown, bare_world, caller, last_key}
use Rattle.kf_words.specs.Steps.{Seated, no_state, state_at, after_try, after_undo, after_leave, after_break, after_restore, after_look, after_part, after_hide, after_look_hidden, after_show, after_release, after_miss, with_load, with_pin, without_pin, after_store, with_birth, with_marks, activated_marks, doomed_marks, with_look, without_node, unread, CallerBecomes, On, MasterBecomes, LoadsHold, ShowsKey}
use Rattle.kf_words.specs.TableSteps.{Table, StepKind, tries, undoes, leaves, breaks, restores, looks, parts, hides, looks_hidden, shows, releases, sees_holds, counts_hold, shares, sleeps, awakes, loads_sleepers, loads_hold, pins_hold, unpins_hold, splits, stores_fresh, births, takes_bias, marks_node, looks_over, unlinks, notes, reports, answers, compares, plus, minus, same, with_hide, world, WordStep, sees_holds_at, counts_hold_at, hands_on, stores_node, reads_node}
use Rattle.kf_words.proofs.Bits.{bool_cases}
use Rattle.kf_words.proofs.CallerAllowed.{no_step, try_allowed, undo_allowed, leave_allowed, break_allowed, restore_allowed, look_allowed, release_allowed, part_allowed, miss_allowed, hide_allowed, look_hidden_allowed, show_allowed}
use Rattle.kf_words.proofs.NodeSteps.{noted}
use Rattle.kf_words.proofs.MasterAllowed.{active_slot, hold_slot, hold_allows, pin_owes, unpin_owes, birth_owes, unlink_owes, state_there, look_allowed as look_over_allowed, fresh_allowed, load_allowed, rise_allowed, mark_allowed}
use Rattle.kf_words.proofs.Events.{try_is_enter, undo_is_undo, look_is_look, part_is_part, leave_is_leave, break_is_break, restore_is_restore, release_is_release, hide_is_hide, look_hidden_is_look, show_is_show, miss_is_nothing, rise_is_rise, mark_is_mark, birth_is_born}
use Rattle.kf_words.proofs.Led.{Led}
use Rattle.kf_words.proofs.Led.{happens}
pub use Rattle.kf_words.proofs.Led.{TakenOut, Came, Passed, Alone, IsEvent, Led, with_spent}
pub use Rattle.kf_words.proofs.OneStep.{at_seat, in_world, world_is}
pub use Rattle.kf_words.proofs.Going.{at, met, split_pins, linked_pins, held_pins}
use Rattle.kf_words.proofs.Going.{come_goes, caller_goes, sleeper_goes, count_goes, share_goes, load_goes, count_at_goes, hand_goes, slot_view, master_goes, note_goes, last_marks, split_goes}
use Rattle.kf_words.proofs.OneStep.{Goes}

-- each step of the table
pub word_step : (slots limit : ℕ) (t : Table) (kind : StepKind) (t' : Table) → Shown slots limit t → WordStep t kind t' → Goes kind slots limit t t'
word_step slots limit t (tries j) t' h s =
    let c : CallerView = s.0 in
    caller_goes slots limit t t' h j c s.2.there (tries j) (active_index c.key.slot) (plus 1) after_try (CallerBecomes after_try no_step (seat.Caller c, []))
    (try_allowed slots limit (length t.homes) (suc j) (seat.Caller c, []) (active_index c.key.slot) refl refl s.1)
    (λ me' e. ap (λ (x : Seated). x.0) e) s.2.fits s.2.becomes
    (happens _ _ _ (Enter j) (try_is_enter slots limit t h j c (at slots limit t t' h j c s.2.there) s.1) (λ c e. let x : Enter j ≡ Enter c = e in let one : j ≡ c = cc in ap tries one))
word_step slots limit t (undoes j) t' h s =
    let c : CallerView = s.0 in
    caller_goes slots limit t t' h j c s.2.there (undoes j) (active_index c.key.slot) (minus 1) (λ _. after_undo) (CallerBecomes (λ _. after_undo) no_step (seat.Caller c, []))
    (undo_allowed slots limit (length t.homes) (suc j) (seat.Caller c, []) (active_index c.key.slot) refl refl s.1.0 s.1.1)
    (λ me' e. ap (λ (x : Seated). x.0) e) s.2.fits s.2.becomes
    (happens _ _ _ (Undo j) (undo_is_undo slots limit t h j c (at slots limit t t' h j c s.2.there) s.1.0 s.1.1) (λ c e. absurd (let x : Undo j ≡ Enter c = e in cc)))
word_step slots limit t (leaves j) t' h s =
    let c : CallerView = s.0 in
    caller_goes slots limit t t' h j c s.2.there (leaves j) (active_index c.key.slot) (minus 1) after_leave (CallerBecomes after_leave no_step (seat.Caller c, []))
    (leave_allowed slots limit (length t.homes) (suc j) (seat.Caller c, []) (active_index c.key.slot) refl refl s.1)
    (λ me' e. ap (λ (x : Seated). x.0) e) s.2.fits s.2.becomes
    (happens _ _ _ (Leave j) (leave_is_leave slots limit t h j c (at slots limit t t' h j c s.2.there) s.1 (slice_index t.words (active_index c.key.slot))) (λ c e. absurd (let x : Leave j ≡ Enter c = e in cc)))
word_step slots limit t (breaks j) t' h s =
    let c : CallerView = s.0 in
    caller_goes slots limit t t' h j c s.2.there (breaks j) (active_index c.key.slot) (minus 1) after_break (CallerBecomes after_break no_step (seat.Caller c, []))
    (break_allowed slots limit (length t.homes) (suc j) (seat.Caller c, []) (active_index c.key.slot) refl refl s.1)
    (λ me' e. ap (λ (x : Seated). x.0) e) s.2.fits s.2.becomes
    (happens _ _ _ (Break j) (break_is_break slots limit t h j c (at slots limit t t' h j c s.2.there) s.1 (slice_index t.words (active_index c.key.slot))) (λ c e. absurd (let x : Break j ≡ Enter c = e in cc)))
word_step slots limit t (restores j) t' h s =
    let c : CallerView = s.0 in
    caller_goes slots limit t t' h j c s.2.there (restores j) (active_index c.key.slot) (plus 1) after_restore (CallerBecomes after_restore no_step (seat.Caller c, []))
    (restore_allowed slots limit (length t.homes) (suc j) (seat.Caller c, []) (active_index c.key.slot) refl refl s.1)
    (λ me' e. ap (λ (x : Seated). x.0) e) s.2.fits s.2.becomes
    (happens _ _ _ (Restore j) (restore_is_restore slots limit t h j c (at slots limit t t' h j c s.2.there) s.1 (slice_index t.words (active_index c.key.slot))) (λ c e. absurd (let x : Restore j ≡ Enter c = e in cc)))
word_step slots limit t (looks j) t' h s =
    let c : CallerView = s.0 in
    let n : ℕ = slice_index t.words (active_index c.key.slot) in
    let its = at slots limit t t' h j c s.2.there in
    caller_goes slots limit t t' h j c s.2.there (looks j) (active_index c.key.slot) same after_look (CallerBecomes after_look no_step (seat.Caller c, []))
    (look_allowed slots limit (length t.homes) (suc j) (seat.Caller c, []) (active_index c.key.slot) refl refl s.1)
    (λ me' e. ap (λ (x : Seated). x.0) e) s.2.fits s.2.becomes
    (⊎_elim
    (λ (hit : is_drained n ≡ true). happens _ _ _ (Look j) (look_is_look slots limit t h j c its s.1 hit) (λ c e. absurd (let x : Look j ≡ Enter c = e in cc)))
    (λ (miss : is_drained n ≡ false). inl ((miss_is_nothing slots limit t h j c its n).0 miss))
    (bool_cases (is_drained n)))
word_step slots limit t (parts j) t' h s =
    let c : CallerView = s.0 in
    let n : ℕ = slice_index t.words (hold_index c.key.slot) in
    let its = at slots limit t t' h j c s.2.there in
    caller_goes slots limit t t' h j c s.2.there (parts j) (hold_index c.key.slot) same after_part (CallerBecomes after_part no_step (seat.Caller c, []))
    (part_allowed slots limit (length t.homes) (suc j) (seat.Caller c, []) (hold_index c.key.slot) refl refl s.1)
    (λ me' e. ap (λ (x : Seated). x.0) e) s.2.fits s.2.becomes
    (⊎_elim
    (λ (yes : has_linked n ≡ true). inl ((miss_is_nothing slots limit t h j c its n).1 yes))
    (λ (gone : has_linked n ≡ false). happens _ _ _ (Part j) (part_is_part slots limit t h j c its s.1 gone) (λ c e. absurd (let x : Part j ≡ Enter c = e in cc)))
    (bool_cases (has_linked n)))
word_step slots limit t (hides j) t' h s =
    let c : CallerView = s.0 in
    let n : ℕ = slice_index t.words (active_index c.key.slot) in
    let its = at slots limit t t' h j c s.2.there in
    caller_goes slots limit t t' h j c s.2.there (hides j) (active_index c.key.slot) with_hide after_hide (CallerBecomes after_hide no_step (seat.Caller c, []))
    (hide_allowed slots limit (length t.homes) (suc j) (seat.Caller c, []) (active_index c.key.slot) refl refl s.1)
    (λ me' e. ap (λ (x : Seated). x.0) e) s.2.fits s.2.becomes
    (⊎_elim
    (λ (already : has_hide n ≡ true). inl ((miss_is_nothing slots limit t h j c its n).2 already))
    (λ (clear : has_hide n ≡ false). happens _ _ _ (Hide j) (hide_is_hide slots limit t h j c its s.1 clear) (λ c e. absurd (let x : Hide j ≡ Enter c = e in cc)))
    (bool_cases (has_hide n)))
word_step slots limit t (looks_hidden j) t' h s =
    let c : CallerView = s.0 in
    let n : ℕ = slice_index t.words (active_index c.key.slot) in
    let its = at slots limit t t' h j c s.2.there in
    caller_goes slots limit t t' h j c s.2.there (looks_hidden j) (active_index c.key.slot) same after_look_hidden (CallerBecomes after_look_hidden no_step (seat.Caller c, []))
    (look_hidden_allowed slots limit (length t.homes) (suc j) (seat.Caller c, []) (active_index c.key.slot) refl refl s.1)
    (λ me' e. ap (λ (x : Seated). x.0) e) s.2.fits s.2.becomes
    (⊎_elim
    (λ (unused : is_unused n ≡ true). happens _ _ _ (LookHidden j) (look_hidden_is_look slots limit t h j c its s.1 unused) (λ c e. absurd (let x : LookHidden j ≡ Enter c = e in cc)))
    (λ (used : is_unused n ≡ false). inl ((miss_is_nothing slots limit t h j c its n).3 used))
    (bool_cases (is_unused n)))
word_step slots limit t (shows j) t' h s =
    let c : CallerView = s.0 in
    caller_goes slots limit t t' h j c s.2.there (shows j) (active_index c.key.slot) (minus hide) after_show (ShowsKey no_step (seat.Caller c, []))
    (show_allowed slots limit (length t.homes) (suc j) (seat.Caller c, []) (active_index c.key.slot) refl refl s.1)
    (λ me' e. ap (λ (x : Seated). x.0) e.0) s.2.fits s.2.becomes
    (happens _ _ _ (Show j) (show_is_show slots limit t h j c (at slots limit t t' h j c s.2.there) s.1 (slice_index t.words (active_index c.key.slot))) (λ c e. absurd (let x : Show j ≡ Enter c = e in cc)))
word_step slots limit t (releases j) t' h s =
    let c : CallerView = s.0 in
    caller_goes slots limit t t' h j c s.2.there (releases j) (hold_index c.key.slot) (minus 1) after_release (CallerBecomes after_release no_step (seat.Caller c, []))
    (release_allowed slots limit (length t.homes) (suc j) (seat.Caller c, []) (hold_index c.key.slot) refl refl s.1.0 s.1.1)
    (λ me' e. ap (λ (x : Seated). x.0) e) s.2.fits s.2.becomes
    (happens _ _ _ (Release j) (release_is_release slots limit t h j c (at slots limit t t' h j c s.2.there) s.1.0 (slice_index t.words (hold_index c.key.slot))) (λ c e. absurd (let x : Release j ≡ Enter c = e in cc)))
word_step slots limit t (sees_holds j) t' h s =
    let c : CallerView = s.0 in
    let n : ℕ = slice_index t.words (hold_index c.key.slot) in
    caller_goes slots limit t t' h j c s.2.there (sees_holds j) (hold_index c.key.slot) same after_miss (CallerBecomes after_miss no_step (seat.Caller c, []))
    (miss_allowed slots limit (length t.homes) (suc j) (seat.Caller c, []) (hold_index c.key.slot) refl refl s.1)
    (λ me' e. ap (λ (x : Seated). x.0) e) s.2.fits s.2.becomes
    (inl (miss_is_nothing slots limit t h j c (at slots limit t t' h j c s.2.there) n).4)
word_step slots limit t (counts_hold j) t' h s = count_goes slots limit t t' h j s.0 s.2.there s.1 s.2.fits s.2.becomes
word_step slots limit t (sees_holds_at slot j) t' h s = load_goes slots limit t t' h j s.0 s.2.there (sees_holds_at slot j) (hold_index slot) s.1.0 s.1.1 s.2.becomes
word_step slots limit t (counts_hold_at slot j) t' h s = count_at_goes slots limit t t' h j s.0 s.2.there slot s.1 s.2.fits s.2.becomes
word_step slots limit t (hands_on j) t' h s = hand_goes slots limit t t' h j s.0 s.4 s.1 s.3 s.5
word_step slots limit t (reads_node slot place j) t' h s = load_goes slots limit t t' h j s.0 s.2.there (reads_node slot place j) (node_index place slot) s.1.0 s.1.1 s.2.becomes
word_step slots limit t (stores_node slot place n) t' g s =
    let m : MasterView = s.0 in
    note_goes slots limit t t' g m s.2.there (stores_node slot place n) (node_index place slot) n
    (noted t.words m g.callers (met slots limit t t' g m s.2.there).shows slot place n s.1.1) s.2.becomes
word_step slots limit t (shares j) t' h s = share_goes slots limit t t' h j s.0 s.2 s.1.0.0 s.1.1 s.3
word_step slots limit t (sleeps slot j) t' h s = sleeper_goes slots limit t t' h j s.0 s.2.there (sleeps slot j) (plus 1) s.2.fits s.2.becomes
word_step slots limit t (awakes slot j) t' h s = sleeper_goes slots limit t t' h j s.0 s.2.there (awakes slot j) (minus 1) s.2.fits s.2.becomes
word_step slots limit t (loads_sleepers slot j) t' h s = sleeper_goes slots limit t t' h j s.0 s.2.there (loads_sleepers slot j) same s.2.fits s.2.becomes
word_step slots limit t (loads_hold slot) t' g s =
    let m : MasterView = s.0 in
    master_goes slots limit t t' g m s.2.there (loads_hold slot) slot (hold_index slot) same (with_load) (On hold_index LoadsHold (step 0 (hold_index slot) 0 0 none) (seat.Master m, []))
    (load_allowed slots limit (length t.homes) 0 (seat.Master m, []) slot (hold_index slot) refl refl s.1)
    (λ me' e. slot_view (with_load) m (slice_index t.words (hold_index slot)) (hold_index slot) slot me' (hold_slot slot (hold_index slot) refl) e.1.0) s.2.fits s.2.becomes
    (inl refl)
word_step slots limit t (pins_hold slot) t' g s =
    let m : MasterView = s.0 in
    let p = state_there m.slots slot s.1.0 in
    master_goes slots limit t t' g m s.2.there (pins_hold slot) slot (hold_index slot) (plus 1) (unread with_pin) (On hold_index (MasterBecomes (unread with_pin)) (step 0 (hold_index slot) 0 0 none) (seat.Master m, []))
    (hold_allows slots limit (length t.homes) 0 (seat.Master m, []) slot (hold_index slot) (plus 1) (unread with_pin) refl refl (pin_owes m slot p.0 p.1 s.1.1 s.1.2))
    (λ me' e. slot_view (unread with_pin) m (slice_index t.words (hold_index slot)) (hold_index slot) slot me' (hold_slot slot (hold_index slot) refl) e.1) s.2.fits s.2.becomes
    (inl refl)
word_step slots limit t (unpins_hold slot) t' g s =
    let m : MasterView = s.0 in
    let p = state_there m.slots slot s.1.0 in
    master_goes slots limit t t' g m s.2.there (unpins_hold slot) slot (hold_index slot) (minus 1) (unread without_pin) (On hold_index (MasterBecomes (unread without_pin)) (step 0 (hold_index slot) 0 0 none) (seat.Master m, []))
    (hold_allows slots limit (length t.homes) 0 (seat.Master m, []) slot (hold_index slot) (minus 1) (unread without_pin) refl refl (unpin_owes m slot p.0 p.1 s.1.1))
    (λ me' e. slot_view (unread without_pin) m (slice_index t.words (hold_index slot)) (hold_index slot) slot me' (hold_slot slot (hold_index slot) refl) e.1) s.2.fits s.2.becomes
    (inl refl)
word_step slots limit t (splits slot) t' g s =
    let m : MasterView = s.0 in
    let p = state_there m.slots slot s.2 in
    split_goes slots limit t t' g m s.1 slot p.0 p.1 s.3 s.4
word_step slots limit t (stores_fresh slot) t' g s =
    let m : MasterView = s.0 in
    master_goes slots limit t t' g m s.2.there (stores_fresh slot) slot (active_index slot) (λ _. bias) (unread after_store) (On active_index (MasterBecomes (unread after_store)) (step 0 (active_index slot) 0 0 none) (seat.Master m, []))
    (fresh_allowed slots limit (length t.homes) 0 (seat.Master m, []) slot (active_index slot) refl refl s.1.0 s.1.1)
    (λ me' e. slot_view (unread after_store) m (slice_index t.words (active_index slot)) (active_index slot) slot me' (active_slot slot (active_index slot) refl) e.1) s.2.fits s.2.becomes
    (inl refl)
word_step slots limit t (births slot) t' g s =
    let m : MasterView = s.0 in
    let p = state_there m.slots slot s.1.0 in
    let key : Key = record { slot = slot; generation = p.0.generation + 1 } in
    master_goes slots limit t t' g m s.2.there (births slot) slot (hold_index slot) (plus (one_generation + linked)) (unread with_birth) (On hold_index (MasterBecomes (unread with_birth)) (step 0 (hold_index slot) 0 0 none) (seat.Master m, []))
    (hold_allows slots limit (length t.homes) 0 (seat.Master m, []) slot (hold_index slot) (plus (one_generation + linked)) (unread with_birth) refl refl (birth_owes m slot p.0 p.1 s.1.1))
    (λ me' e. slot_view (unread with_birth) m (slice_index t.words (hold_index slot)) (hold_index slot) slot me' (hold_slot slot (hold_index slot) refl) e.1) s.2.fits s.2.becomes
    (happens _ _ _ (Born key key [] Dir) (birth_is_born slots limit t (met slots limit t t' g m s.2.there) slot p.0 key [] Dir s.1.1 p.1) (λ c e. absurd (let x : Born key key [] Dir ≡ Enter c = e in cc)))
word_step slots limit t (takes_bias slot) t' g s =
    let m : MasterView = s.0 in
    let key : Key = last_key slot s.1.0 in
    master_goes slots limit t t' g m s.2.there (takes_bias slot) slot (active_index slot) (minus bias) (unread (with_marks activated_marks)) (On active_index (MasterBecomes (unread (with_marks activated_marks))) (step 0 (active_index slot) 0 0 none) (seat.Master m, []))
    (rise_allowed slots limit (length t.homes) 0 (seat.Master m, []) slot (active_index slot) s.1.0 refl refl s.1.1 s.1.2)
    (λ me' e. slot_view (unread (with_marks activated_marks)) m (slice_index t.words (active_index slot)) (active_index slot) slot me' (active_slot slot (active_index slot) refl) e.1) s.2.fits s.2.becomes
    (happens _ _ _ (Rise key) (rise_is_rise slots limit t (met slots limit t t' g m s.2.there) key (last_marks slots limit t t' g m s.2.there slot s.1.0 (Some fresh_marks) s.1.1 s.1.2)) (λ c e. absurd (let x : Rise key ≡ Enter c = e in cc)))
word_step slots limit t (marks_node slot) t' g r =
    let x : NodeFlags = r.0 in
    let s = r.1 in
    let m : MasterView = s.0 in
    let state : SlotState = s.1.0.0 in
    let key : Key = last_key slot state in
    master_goes slots limit t t' g m s.2.there (marks_node slot) slot (active_index slot) (plus (bit x.activated bias + doom)) (unread (with_marks doomed_marks)) (On active_index (MasterBecomes (unread (with_marks doomed_marks))) (step 0 (active_index slot) 0 0 none) (seat.Master m, []))
    (mark_allowed slots limit (length t.homes) 0 (seat.Master m, []) slot (active_index slot) state x (bit x.activated bias + doom) refl refl s.1.0.1 s.1.0.2 s.1.1 refl)
    (λ me' e. slot_view (unread (with_marks doomed_marks)) m (slice_index t.words (active_index slot)) (active_index slot) slot me' (active_slot slot (active_index slot) refl) e.1) s.2.fits s.2.becomes
    (happens _ _ _ (Mark key) (mark_is_mark slots limit t (met slots limit t t' g m s.2.there) key x (last_marks slots limit t t' g m s.2.there slot state (Some x) s.1.0.1 s.1.0.2) s.1.1) (λ c e. absurd (let x : Mark key ≡ Enter c = e in cc)))
word_step slots limit t (looks_over slot) t' g s =
    let m : MasterView = s.0 in
    master_goes slots limit t t' g m s.2.there (looks_over slot) slot (active_index slot) same (with_look) (On active_index (MasterBecomes (with_look)) (step 0 (active_index slot) 0 0 none) (seat.Master m, []))
    (look_over_allowed slots limit (length t.homes) 0 (seat.Master m, []) slot (active_index slot) refl refl)
    (λ me' e. slot_view (with_look) m (slice_index t.words (active_index slot)) (active_index slot) slot me' (active_slot slot (active_index slot) refl) e.1) s.2.fits s.2.becomes
    (inl refl)
word_step slots limit t (unlinks slot) t' g s =
    let m : MasterView = s.0 in
    let x : NodeFlags = s.1.0.0 in
    let state : SlotState = s.1.0.1.0 in
    let its = s.1.0.1.1 in
    let had = s.1.0.1.2 in
    let looked = s.1.1 in
    let key : Key = last_key slot state in
    let k = met slots limit t t' g m s.2.there in
    let linked_is = last_marks slots limit t t' g m s.2.there slot state (Some x) its had in
    let doomed : x.doomed ≡ true = ap are_doomed (sym had) ∙ (k.shows.looked (record { slot = slot; word = looked.0 }) state looked.1 looked.2 its).0 in
    let out : bare_world (without_node slot m) g.callers ≡ core.with_marks (bare_world m g.callers) key None =
    ap (λ (y : SlotState). let w : BareWorld = record { slots = set m.slots slot (record { generation = y.generation; marks = None }); callers = map caller g.callers } in w)
    (get_or_from_slice_get m.slots slot state no_state its) in
    master_goes slots limit t t' g m s.2.there (unlinks slot) slot (hold_index slot) (minus linked) (unread without_node) (On hold_index (MasterBecomes (unread without_node)) (step 0 (hold_index slot) 0 0 none) (seat.Master m, []))
    (hold_allows slots limit (length t.homes) 0 (seat.Master m, []) slot (hold_index slot) (minus linked) (unread without_node) refl refl (unlink_owes m slot state x looked.0 its had looked.1 looked.2))
    (λ me' e. slot_view (unread without_node) m (slice_index t.words (hold_index slot)) (hold_index slot) slot me' (hold_slot slot (hold_index slot) refl) e.1) s.2.fits s.2.becomes
    (inr (inr (inl (record { slot = slot; kind_is = refl; key = key; had = x; linked = linked_is; doomed = doomed; is = out }))))
word_step slots limit t (notes note) t' g s = (subst (λ (x : Table). Shown slots limit x) (sym s.1) g, inl (ap world s.1))
word_step slots limit t compares t' g s = (subst (λ (x : Table). Shown slots limit x) (sym s.1) g, inl (ap world s.1))
word_step slots limit t answers t' g s = come_goes slots limit t t' g answers (last_key 0 (state_at s.0 0)) s.3 (inr refl)
word_step slots limit t (reports j) t' h s =
    let c : CallerView = s.0 in
    let holds : core.IsHeld (bare_world h.master h.callers) c.key = record { caller = j; phase = c.phase; there = in_world h.callers j c (at slots limit t t' h j c s.2); holds = s.1 } in
    come_goes slots limit t t' h (reports j) c.key s.3 (inl (inr holds))
