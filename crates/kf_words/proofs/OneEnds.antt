-- The same list of steps leads from the same table to the same table: a step is fixed by its kind and by what
-- it finds.
use Rattle.std.proofs.Common.{◌≡◌, ℕ, suc, ◌+◌, ◌<◌, [], ◌∷◌, ◌++◌, length, set, sym, ap, ◌∙◌, subst}
use Rattle.std.specs.Prelude.{slice_get, slice_index}
use Rattle.std.proofs.lemmas.Option.{same_Some}
use mathlib.Core.Option.{some, some-injective}
use lib.ListN.{get_elem?}
use Rattle.atomic_table.specs.Table.{stepped, keeps}
use Rattle.kf_core.specs.declared.key.Key.{Key}
use Rattle.kf_core.specs.declared.slot.NodeFlags.{NodeFlags}
use Rattle.kf_core.specs.declared.slot.SlotState.{SlotState}
use Rattle.kf_core.specs.declared.caller.Phase.TheVariants.{Running, Broken, Drained, Hiding, Hidden}
use Rattle.kf_core.specs.Marks.{fresh_marks}
use Rattle.kf_words.specs.declared.view.CallerView.{CallerView}
use Rattle.kf_words.specs.declared.view.MasterView.{MasterView}
use Rattle.kf_words.specs.declared.view.View.TheVariants as seat
use Rattle.kf_words.specs.TableSteps.{Table, StepKind, CallerPlays, MasterPlays, MasterSplits, CallerShares, WordStep, WordRun, tries, undoes, leaves, breaks, restores, looks, parts, hides, looks_hidden, shows, releases, sees_holds, counts_hold, shares, sleeps, awakes, loads_sleepers, loads_hold, pins_hold, unpins_hold, splits, stores_fresh, births, takes_bias, marks_node, looks_over, unlinks, notes, reports, answers, compares, CallerReports, MasterAnswers, plus, minus, same, with_hide, HasUndoDue, MayRelease, MayCount, IsAt, SeesRoom, HasPin, SeesFree, HasFresh, IsUndoomed, SeesDrained, CallerPlaysAt, CallerLoads, CallerHandsOn, sees_holds_at, counts_hold_at, hands_on, stores_node, reads_node, MayCountAt, MayNote}
use Rattle.kf_words.specs.Steps.{after_try, after_undo, after_leave, after_break, after_restore, after_look, after_part, after_hide, after_look_hidden, after_show, after_release, after_miss, after_count, after_share, new_hold, unmoved, with_load, with_pin, without_pin, after_store, with_birth, with_look, without_node, unread, with_marks, activated_marks, doomed_marks, after_split, hold_for, spent_hold, state_at, after_count_at, kept}
use Rattle.kf_words.specs.Rule.{last_key}
use Rattle.kf_words.specs.Layout.{bit, bias, doom, hide, linked, one_generation, active_index, hold_index, sleepers_index, node_index}
use Rattle.kf_words.specs.Callers.{IsAtRest, HasReference, IsInPhase}
use Rattle.kf_words.specs.Nodes.{HasMarks}
use Rattle.kf_words.specs.History.{OneEnd}

module _ (t u v : Table) where
  by_caller : (after : ℕ → CallerView → CallerView) (May : CallerView → Type 0) (index : ℕ → ℕ) (f : ℕ → ℕ) (j : ℕ) → CallerPlays after May index f t j u → CallerPlays after May index f t j v → u ≡ v
  by_caller after May index f j p q =
      let seats : seat.Caller p.0 ≡ seat.Caller q.0 = some-injective _ _ (sym p.2.there ∙ q.2.there) in
      let one : p.0 ≡ q.0 = cc in
      p.2.becomes
      ∙ ap (λ (c : CallerView). stepped t (index c.key.slot) (f (slice_index t.words (index c.key.slot))) (suc j) [] (seat.Caller (after (slice_index t.words (index c.key.slot)) c)) keeps) one
      ∙ sym q.2.becomes

  one_master : (m m' : MasterView) → get_elem? t.views 0 ≡ some (seat.Master m) → get_elem? t.views 0 ≡ some (seat.Master m') → m ≡ m'
  one_master m m' a b = let seats : seat.Master m ≡ seat.Master m' = some-injective _ _ (sym a ∙ b) in cc

  by_master : (after : ℕ → ℕ → MasterView → MasterView) (May : MasterView → Type 0) (index : ℕ → ℕ) (f : ℕ → ℕ) (slot : ℕ) → MasterPlays after May index f t slot u → MasterPlays after May index f t slot v → u ≡ v
  by_master after May index f slot p q =
      p.2.becomes
      ∙ ap (λ (m : MasterView). stepped t (index slot) (f (slice_index t.words (index slot))) 0 [] (seat.Master (after slot (slice_index t.words (index slot)) m)) keeps) (one_master p.0 q.0 p.2.there q.2.there)
      ∙ sym q.2.becomes

  by_split : (slot : ℕ) → MasterSplits t slot u → MasterSplits t slot v → u ≡ v
  by_split slot p q =
      p.4 ∙ ap (λ (m : MasterView). let x : Table = record { words = t.words; homes = t.homes; views = set t.views 0 (seat.Master (after_split m)) ++ seat.Caller (hold_for m m.pinning) ∷ [] } in x) (one_master p.0 q.0 p.1 q.1) ∙ sym q.4

  by_share : (j : ℕ) → CallerShares t j u → CallerShares t j v → u ≡ v
  by_share j p q =
      let seats : seat.Caller p.0 ≡ seat.Caller q.0 = some-injective _ _ (sym p.2 ∙ q.2) in
      let one : p.0 ≡ q.0 = cc in
      p.3 ∙ ap (λ (c : CallerView). let x : Table = record { words = t.words; homes = t.homes; views = set t.views (suc j) (seat.Caller (after_share c)) ++ seat.Caller (new_hold c.key) ∷ [] } in x) one ∙ sym q.3

  by_report : (j : ℕ) → CallerReports t j u → CallerReports t j v → u ≡ v
  by_report j p q =
      let seats : seat.Caller p.0 ≡ seat.Caller q.0 = some-injective _ _ (sym p.2 ∙ q.2) in
      let one : p.0 ≡ q.0 = cc in
      p.3 ∙ ap (λ (c : CallerView). let x : Table = record { words = t.words; homes = t.homes; views = t.views ++ seat.Caller (spent_hold c.key) ∷ [] } in x) one ∙ sym q.3

  by_answer : MasterAnswers t u → MasterAnswers t v → u ≡ v
  by_answer p q =
      p.3 ∙ ap (λ (m : MasterView). let x : Table = record { words = t.words; homes = t.homes; views = t.views ++ seat.Caller (spent_hold (last_key 0 (state_at m 0))) ∷ [] } in x) (one_master p.0 q.0 p.1 q.1) ∙ sym q.3

  by_caller_at : (slot : ℕ) (after : ℕ → CallerView → CallerView) (May : CallerView → Type 0) (f : ℕ → ℕ) (j : ℕ) → CallerPlaysAt slot after May f t j u → CallerPlaysAt slot after May f t j v → u ≡ v
  by_caller_at slot after May f j p q =
      let seats : seat.Caller p.0 ≡ seat.Caller q.0 = some-injective _ _ (sym p.2.there ∙ q.2.there) in
      let one : p.0 ≡ q.0 = cc in
      p.2.becomes
      ∙ ap (λ (c : CallerView). stepped t (hold_index slot) (f (slice_index t.words (hold_index slot))) (suc j) [] (seat.Caller (after (slice_index t.words (hold_index slot)) c)) keeps) one
      ∙ sym q.2.becomes

  by_load : (i j : ℕ) → CallerLoads i t j u → CallerLoads i t j v → u ≡ v
  by_load i j p q =
      let seats : seat.Caller p.0 ≡ seat.Caller q.0 = some-injective _ _ (sym p.2.there ∙ q.2.there) in
      let one : p.0 ≡ q.0 = cc in
      p.2.becomes
      ∙ ap (λ (c : CallerView). stepped t i (slice_index t.words i) (suc j) [] (seat.Caller (after_miss (slice_index t.words i) c)) keeps) one
      ∙ sym q.2.becomes

  by_hand : (j : ℕ) → CallerHandsOn t j u → CallerHandsOn t j v → u ≡ v
  by_hand j p q =
      let seats : seat.Caller p.0 ≡ seat.Caller q.0 = some-injective _ _ (sym p.4 ∙ q.4) in
      let one : p.0 ≡ q.0 = cc in
      let key : p.1 ≡ q.1 = same_Some p.1 q.1 (sym p.3 ∙ ap (λ (c : CallerView). c.pinning) one ∙ q.3) in
      p.5
      ∙ ap (λ (c : CallerView). let x : Table = record { words = t.words; homes = t.homes; views = set t.views (suc j) (seat.Caller (after_share c)) ++ seat.Caller (new_hold p.1) ∷ [] } in x) one
      ∙ ap (λ (k : Key). let x : Table = record { words = t.words; homes = t.homes; views = set t.views (suc j) (seat.Caller (after_share q.0)) ++ seat.Caller (new_hold k) ∷ [] } in x) key
      ∙ sym q.5

-- a slot has only one pair of marks
one_marks : (slot : ℕ) (m m' : MasterView) (x y : NodeFlags) → IsUndoomed slot x m → IsUndoomed slot y m' → m ≡ m' → x ≡ y
one_marks slot m m' x y a b is =
    let state : SlotState = a.0.0 in
    let state' : SlotState = b.0.0 in
    let one : state ≡ state' = same_Some state state' (sym a.0.1 ∙ ap (λ (z : MasterView). slice_get z.slots slot) is ∙ b.0.1) in
    same_Some x y (sym a.0.2 ∙ ap (λ (z : SlotState). z.marks) one ∙ b.0.2)

one_step : (t u v : Table) (kind : StepKind) → WordStep t kind u → WordStep t kind v → u ≡ v
one_step t u v (tries j) p q = by_caller t u v after_try IsAtRest active_index (plus 1) j p q
one_step t u v (undoes j) p q = by_caller t u v (λ _. after_undo) HasUndoDue active_index (minus 1) j p q
one_step t u v (leaves j) p q = by_caller t u v after_leave HasReference active_index (minus 1) j p q
one_step t u v (breaks j) p q = by_caller t u v after_break (IsInPhase Running) active_index (minus 1) j p q
one_step t u v (restores j) p q = by_caller t u v after_restore (IsInPhase Broken) active_index (plus 1) j p q
one_step t u v (looks j) p q = by_caller t u v after_look IsAtRest active_index same j p q
one_step t u v (parts j) p q = by_caller t u v after_part (IsInPhase Drained) hold_index same j p q
one_step t u v (hides j) p q = by_caller t u v after_hide IsAtRest active_index with_hide j p q
one_step t u v (looks_hidden j) p q = by_caller t u v after_look_hidden (IsInPhase Hiding) active_index same j p q
one_step t u v (shows j) p q = by_caller t u v after_show (IsInPhase Hidden) active_index (minus hide) j p q
one_step t u v (releases j) p q = by_caller t u v after_release MayRelease hold_index (minus 1) j p q
one_step t u v (sees_holds j) p q = by_caller t u v after_miss IsAtRest hold_index same j p q
one_step t u v (counts_hold j) p q = by_caller t u v after_count (MayCount t) hold_index (plus 1) j p q
one_step t u v (shares j) p q = by_share t u v j p q
one_step t u v (sleeps slot j) p q = by_caller t u v unmoved (IsAt slot) sleepers_index (plus 1) j p q
one_step t u v (awakes slot j) p q = by_caller t u v unmoved (IsAt slot) sleepers_index (minus 1) j p q
one_step t u v (loads_sleepers slot j) p q = by_caller t u v unmoved (IsAt slot) sleepers_index same j p q
one_step t u v (loads_hold slot) p q = by_master t u v with_load (λ m. slot < length m.slots) hold_index same slot p q
one_step t u v (pins_hold slot) p q = by_master t u v (unread with_pin) (SeesRoom slot) hold_index (plus 1) slot p q
one_step t u v (unpins_hold slot) p q = by_master t u v (unread without_pin) (HasPin slot) hold_index (minus 1) slot p q
one_step t u v (splits slot) p q = by_split t u v slot p q
one_step t u v (stores_fresh slot) p q = by_master t u v (unread after_store) (SeesFree slot) active_index (λ _. bias) slot p q
one_step t u v (births slot) p q = by_master t u v (unread with_birth) (HasFresh slot) hold_index (plus (one_generation + linked)) slot p q
one_step t u v (takes_bias slot) p q = by_master t u v (unread (with_marks activated_marks)) (λ m. HasMarks m slot fresh_marks) active_index (minus bias) slot p q
one_step t u v (looks_over slot) p q = by_master t u v with_look (λ m. slot < length m.slots) active_index same slot p q
one_step t u v (unlinks slot) p q = by_master t u v (unread without_node) (SeesDrained slot) hold_index (minus linked) slot p q
one_step t u v (notes note) p q = p.1 ∙ sym q.1
one_step t u v compares p q = p.1 ∙ sym q.1
one_step t u v answers p q = by_answer t u v p q
one_step t u v (reports j) p q = by_report t u v j p q
one_step t u v (sees_holds_at slot j) p q = by_caller_at t u v slot after_miss IsAtRest same j p q
one_step t u v (counts_hold_at slot j) p q = by_caller_at t u v slot (after_count_at slot) (MayCountAt t slot) (plus 1) j p q
one_step t u v (hands_on j) p q = by_hand t u v j p q
one_step t u v (stores_node slot place n) p q = by_master t u v kept (MayNote slot place) (node_index place) (λ _. n) slot p q
one_step t u v (reads_node slot place j) p q = by_load t u v (node_index place slot) j p q
one_step t u v (marks_node slot) p q =
    let master : p.1.0 ≡ q.1.0 = one_master t u v p.1.0 q.1.0 p.1.2.there q.1.2.there in
    let marks : p.0 ≡ q.0 = one_marks slot p.1.0 q.1.0 p.0 q.0 p.1.1 q.1.1 master in
    by_master t u v (unread (with_marks doomed_marks)) (IsUndoomed slot q.0) active_index (plus (bit q.0.activated bias + doom)) slot
    (subst (λ (x : NodeFlags). MasterPlays (unread (with_marks doomed_marks)) (IsUndoomed slot x) active_index (plus (bit x.activated bias + doom)) t slot u) marks p.1) q.1

pub one_end : OneEnd
one_end t u v [] p q = p ∙ sym q
one_end t u v (kind ∷ kinds) p q =
    let between : q.0 ≡ p.0 = one_step t q.0 p.0 kind q.1 p.1 in
    one_end p.0 u v kinds p.2 (subst (λ (x : Table). WordRun x kinds v) between q.2)
