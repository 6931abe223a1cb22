-- Each step of the Master is the next step of the one run. The step says so, and it also says what the
-- Master's view is after it.
use Rattle.std.proofs.Common.{◌≡◌, ℕ, ◌+◌, ◌<◌, false, List, [], ◌∷◌, ◌++◌, length, set, refl, sym, ap, ◌∙◌, subst}
use Rattle.std.specs.Prelude.{slice_index, Some, None}
use mathlib.Core.Option.{some, none}
use mathlib.Core.List.{IsPrefix}
use lib.ListN.{get_elem?}
use Rattle.atomic_table.specs.Table.{Allows, Splits, Joins, step, stepped, keeps}
use Rattle.kf_core.specs.declared.slot.NodeFlags.{NodeFlags}
use Rattle.kf_core.specs.Marks.{fresh_marks}
use Rattle.kf_words.specs.declared.note.Note.{Note}
use Rattle.kf_words.specs.declared.sight.Opening.{Opening}
use Rattle.kf_words.specs.declared.sight.Sight.{Sight}
use Rattle.kf_words.specs.declared.view.MasterView.{MasterView}
use Rattle.kf_words.specs.declared.view.View.{View}
use Rattle.kf_words.specs.declared.view.View.TheVariants as seat
use Rattle.kf_words.specs.Layout.{bit, bias, doom, linked, one_generation, active_index, hold_index, slot_of}
use Rattle.kf_words.specs.Rule.{Shown}
use Rattle.kf_words.specs.Steps.{Seated, Sighted, plain, master_of, with_load, with_pin, without_pin, after_store, with_birth, with_look, without_node, with_marks, activated_marks, doomed_marks, after_split, hold_for, unread, LoadsHold, MasterBecomes}
use Rattle.kf_words.specs.Nodes.{FoundRoom, FoundFree, HasMarks, HasLooked, master_sight}
use Rattle.kf_words.specs.TableSteps.{Table, StepKind, loads_hold, pins_hold, unpins_hold, splits, stores_fresh, births, takes_bias, marks_node, looks_over, unlinks, notes, answers, compares, plus, minus, same, Plays, WordStep}
use Rattle.kf_words.specs.History.{erased, Kept, after_giving, given, answered, hears}
use Rattle.kf_words.specs.Made.{WasMadeByMaster}
use Rattle.kf_words.specs.MadeByMaster.{MasterMakes, MakesNote, MakesCompare}
use Rattle.kf_words.proofs.Seating.{master_seat}
use Rattle.kf_words.proofs.Keeps.{view_there, between, now_seen, is_now, alone, all_notes, told_now, step_kept, split_kept, join_kept, from_there, led_here, shown_here}
use Rattle.kf_words.proofs.MasterAllowed.{active_slot, hold_slot, load_allowed}
use Rattle.atomic_table.proofs.Lists.{set_again}
use Rattle.kf_words.proofs.Noted.{put, same_word}
use Rattle.kf_words.proofs.Made.{IsQuiet}

module _ (o : Opening) (homes id : ℕ) (me : Sighted) (slot : ℕ) (is : plain me ≡ (seat.Master (master_of me.0.view), [])) where
  abbrev m : MasterView
  m = master_of me.0.view

  -- in each table that meets the rule, `told` is true of the word that the step finds and the Master's view
  -- after it
  abbrev Tells : ℕ → (ℕ → ℕ → MasterView → MasterView) → (ℕ → Seated → Type 0) → Type 0
  Tells i after told = (t : Table) → Shown o.slots o.holds t → length t.homes ≡ homes → get_elem? t.views id ≡ some me.0.view → slice_index t.words i < 18446744073709551616
      → told (slice_index t.words i) (seat.Master (after (slot_of i) (slice_index t.words i) m), me.1)

  -- a step on the slot's word of this index is the next step of the one run
  there_made : (index : ℕ → ℕ) → slot_of (index slot) ≡ slot → (kind : ℕ → StepKind) → IsQuiet kind → (f : ℕ → ℕ) (after : ℕ → ℕ → MasterView → MasterView) (told : ℕ → Seated → Type 0) → Tells (index slot) after told
      → ((t t' : Table) → Plays t 0 (index slot) f (seat.Master m) (seat.Master (after slot (slice_index t.words (index slot)) m)) t' → WordStep t (kind slot) t')
      → Allows (Kept o) homes id me (index slot) f (λ n me'. (index slot ≡ index (slot_of (index slot))) × (told n (plain me') × WasMadeByMaster (kind (slot_of (index slot))) (master_sight me.0) (master_sight me'.0)))
  there_made index back kind quiet f after told tells makes t h far at small =
      let e : Table = erased t in
      let i : ℕ = index slot in
      let n : ℕ = slice_index t.words i in
      let k : ℕ = slot_of i in
      let m' : MasterView = after k n m in
      let own : get_elem? e.views id ≡ some me.0.view = view_there t.views id me.0 at in
      let at' : get_elem? e.views id ≡ some (seat.Master m) = own ∙ ap (λ (x : Seated). some x.0) is in
      let p = master_seat h.shown.master m h.shown.callers id (subst (λ (l : List View). get_elem? l id ≡ some (seat.Master m)) h.shown.views at') in
      let there : get_elem? e.views 0 ≡ some (seat.Master m) = subst (λ (j : ℕ). get_elem? e.views j ≡ some (seat.Master m)) p.0 at' in
      let e' : Table = stepped e i (f n) 0 [] (seat.Master m') keeps in
      let fits : e' ≡ stepped e i (f n) 0 [] (seat.Master (after slot n m)) keeps = ap (λ (j : ℕ). stepped e i (f n) 0 [] (seat.Master (after j n m)) keeps) back in
      let step : WordStep e (kind k) e' = subst (λ (j : ℕ). WordStep e (kind j) e') (sym back) (makes e e' (record { there = there; fits = small; becomes = fits })) in
      let w : Sight = record { view = seat.Master m'; seen = now_seen o t h id me.0 at (kind k); shown = me.0.shown } in (
        w,
        keeps,
        tt,
        step_kept o t h id me.0 at i (f n) w (kind k)
            (subst (λ (j : ℕ). WordStep e (kind k) (stepped e i (f n) j [] (seat.Master m') keeps)) (sym p.0) step)
            (is_now o t h id me.0 at (kind k))
            (λ _. quiet k)
            refl,
        (
          ap index (sym back),
          (
            tells e h.shown far own small,
            record {
              between = between o t h id me.0 at;
              found = e;
              left = e';
              run = led_here o t h id me.0 at;
              shown = shown_here o t h id me.0 at;
              step = step;
              was = there;
              is = put e.views 0 (seat.Master m) (seat.Master m') there;
              alone = alone o t h id me.0 at p.0;
              seen = refl;
            },
          ),
        ),
      )

  pub master_made : (i : ℕ) (index : ℕ → ℕ) → index slot ≡ i → slot_of (index slot) ≡ slot → (kind : ℕ → StepKind) → IsQuiet kind → (f : ℕ → ℕ) (after : ℕ → ℕ → MasterView → MasterView)
      → ((t t' : Table) → Plays t 0 (index slot) f (seat.Master m) (seat.Master (after slot (slice_index t.words (index slot)) m)) t' → WordStep t (kind slot) t')
      → Allows (Kept o) homes id me i f (MasterMakes index kind (MasterBecomes after) (step 0 i 0 0 none) me)
  master_made i index its back kind quiet f after makes =
      subst (λ (k : ℕ). Allows (Kept o) homes id me k f (MasterMakes index kind (MasterBecomes after) (step 0 k 0 0 none) me)) its
      (there_made index back kind quiet f after (MasterBecomes after (step 0 (index slot) 0 0 none) (plain me)) (λ t h far at small. refl) makes)

  -- the steps on the hold word
  module _ (i : ℕ) (its : hold_index slot ≡ i) where
    abbrev on_hold_word : (kind : ℕ → StepKind) → IsQuiet kind → (f : ℕ → ℕ) (after : ℕ → ℕ → MasterView → MasterView)
        → ((t t' : Table) → Plays t 0 (hold_index slot) f (seat.Master m) (seat.Master (after slot (slice_index t.words (hold_index slot)) m)) t' → WordStep t (kind slot) t')
        → Allows (Kept o) homes id me i f (MasterMakes hold_index kind (MasterBecomes after) (step 0 i 0 0 none) me)
    on_hold_word = master_made i hold_index its (hold_slot slot (hold_index slot) refl)

    pub load_made : slot < length m.slots → Allows (Kept o) homes id me i same (MasterMakes hold_index loads_hold LoadsHold (step 0 i 0 0 none) me)
    load_made near =
        let told : ℕ → ℕ → Seated → Type 0 = λ k. LoadsHold (step 0 k 0 0 none) (plain me) in
        subst (λ (k : ℕ). Allows (Kept o) homes id me k same (MasterMakes hold_index loads_hold LoadsHold (step 0 k 0 0 none) me)) its
        (there_made hold_index (hold_slot slot (hold_index slot) refl) loads_hold (λ j. refl) same with_load (told (hold_index slot))
        (λ t h far at small. (refl, (load_allowed o.slots o.holds homes id (plain me) slot (hold_index slot) is refl near t h far at small).4.1.1))
        (λ t t' p. (m, near, p)))

    pub pin_made : slot < length m.slots → m.pinning ≡ None → FoundRoom m slot → Allows (Kept o) homes id me i (plus 1) (MasterMakes hold_index pins_hold (MasterBecomes (unread with_pin)) (step 0 i 0 0 none) me)
    pin_made near none_yet room = on_hold_word pins_hold (λ j. refl) (plus 1) (unread with_pin) (λ t t' p. (m, (near, none_yet, room), p))

    pub unpin_made : slot < length m.slots → m.pinning ≡ Some slot → Allows (Kept o) homes id me i (minus 1) (MasterMakes hold_index unpins_hold (MasterBecomes (unread without_pin)) (step 0 i 0 0 none) me)
    unpin_made near one = on_hold_word unpins_hold (λ j. refl) (minus 1) (unread without_pin) (λ t t' p. (m, (near, one), p))

    pub birth_made : slot < length m.slots → m.fresh ≡ Some slot → Allows (Kept o) homes id me i (plus (one_generation + linked)) (MasterMakes hold_index births (MasterBecomes (unread with_birth)) (step 0 i 0 0 none) me)
    birth_made near fresh = on_hold_word births (λ j. refl) (plus (one_generation + linked)) (unread with_birth) (λ t t' p. (m, (near, fresh), p))

    pub unlink_made : ((x : NodeFlags) × HasMarks m slot x) → HasLooked m slot → Allows (Kept o) homes id me i (minus linked) (MasterMakes hold_index unlinks (MasterBecomes (unread without_node)) (step 0 i 0 0 none) me)
    unlink_made marks looked = on_hold_word unlinks (λ j. refl) (minus linked) (unread without_node) (λ t t' p. (m, (marks, looked), p))

  -- the steps on the active word
  module _ (i : ℕ) (its : active_index slot ≡ i) where
    abbrev on_active_word : (kind : ℕ → StepKind) → IsQuiet kind → (f : ℕ → ℕ) (after : ℕ → ℕ → MasterView → MasterView)
        → ((t t' : Table) → Plays t 0 (active_index slot) f (seat.Master m) (seat.Master (after slot (slice_index t.words (active_index slot)) m)) t' → WordStep t (kind slot) t')
        → Allows (Kept o) homes id me i f (MasterMakes active_index kind (MasterBecomes after) (step 0 i 0 0 none) me)
    on_active_word = master_made i active_index its (active_slot slot (active_index slot) refl)

    pub store_made : slot < length m.slots → FoundFree m slot → Allows (Kept o) homes id me i (λ _. bias) (MasterMakes active_index stores_fresh (MasterBecomes (unread after_store)) (step 0 i 0 0 none) me)
    store_made near free = on_active_word stores_fresh (λ j. refl) (λ _. bias) (unread after_store) (λ t t' p. (m, (near, free), p))

    pub look_made : slot < length m.slots → Allows (Kept o) homes id me i same (MasterMakes active_index looks_over (MasterBecomes with_look) (step 0 i 0 0 none) me)
    look_made near = on_active_word looks_over (λ j. refl) same with_look (λ t t' p. (m, near, p))

    pub rise_made : HasMarks m slot fresh_marks → Allows (Kept o) homes id me i (minus bias) (MasterMakes active_index takes_bias (MasterBecomes (unread (with_marks activated_marks))) (step 0 i 0 0 none) me)
    rise_made marks = on_active_word takes_bias (λ j. refl) (minus bias) (unread (with_marks activated_marks)) (λ t t' p. (m, marks, p))

    pub mark_made : (x : NodeFlags) (k : ℕ) → HasMarks m slot x → x.doomed ≡ false → k ≡ bit x.activated bias + doom
        → Allows (Kept o) homes id me i (plus k) (MasterMakes active_index marks_node (MasterBecomes (unread (with_marks doomed_marks))) (step 0 i 0 0 none) me)
    mark_made x k marks undoomed bits = on_active_word marks_node (λ j. refl) (plus k) (unread (with_marks doomed_marks))
        (λ t t' p. (x, (m, (marks, undoomed), subst (λ (b : ℕ). Plays t 0 (active_index slot) (plus b) (seat.Master m) (seat.Master (with_marks doomed_marks slot m)) t') bits p)))

  -- the hold that the Master pinned gets its seat
  pub splits_made : slot < length m.slots → m.pinning ≡ Some slot → Splits (Kept o) id me.0 (after_giving me.0) (given me.0)
  splits_made near pins t h at =
      let e : Table = erased t in
      let own : get_elem? e.views id ≡ some me.0.view = view_there t.views id me.0 at in
      let at' : get_elem? e.views id ≡ some (seat.Master m) = own ∙ ap (λ (x : Seated). some x.0) is in
      let p = master_seat h.shown.master m h.shown.callers id (subst (λ (l : List View). get_elem? l id ≡ some (seat.Master m)) h.shown.views at') in
      let there : get_elem? e.views 0 ≡ some (seat.Master m) = subst (λ (j : ℕ). get_elem? e.views j ≡ some (seat.Master m)) p.0 at' in
      split_kept o t h id me.0 at (after_giving me.0) (given me.0) (splits slot) refl refl refl refl refl
      (m, there, near, pins, ap (λ (j : ℕ). let x : Table = record { words = t.words; homes = t.homes; views = set e.views j (seat.Master (after_split m)) ++ seat.Caller (hold_for m m.pinning) ∷ [] } in x) p.0)

  -- a step that changes no word and no view, and loads any word
  module _ (kind : StepKind) (stays : (e : Table) → get_elem? e.views 0 ≡ some (seat.Master m) → WordStep e kind e) (i : ℕ) where
    stay_made : Allows (Kept o) homes id me i same (λ n me'. (plain me' ≡ plain me) × WasMadeByMaster kind (master_sight me.0) (master_sight me'.0) × IsPrefix me.0.shown me'.0.seen.steps)
    stay_made t h far at small =
        let e : Table = erased t in
        let n : ℕ = slice_index t.words i in
        let own : get_elem? e.views id ≡ some me.0.view = view_there t.views id me.0 at in
        let at' : get_elem? e.views id ≡ some (seat.Master m) = own ∙ ap (λ (x : Seated). some x.0) is in
        let p = master_seat h.shown.master m h.shown.callers id (subst (λ (l : List View). get_elem? l id ≡ some (seat.Master m)) h.shown.views at') in
        let there : get_elem? e.views 0 ≡ some (seat.Master m) = subst (λ (j : ℕ). get_elem? e.views j ≡ some (seat.Master m)) p.0 at' in
        let unmoved : stepped e i n id [] me.0.view keeps ≡ e =
        ap (λ (l : List ℕ). let x : Table = record { words = l; homes = e.homes; views = set e.views id me.0.view } in x) (same_word e.words i)
        ∙ ap (λ (l : List View). let x : Table = record { words = e.words; homes = e.homes; views = l } in x) (set_again e.views id me.0.view own) in
        let w : Sight = record { view = me.0.view; seen = now_seen o t h id me.0 at kind; shown = me.0.shown } in (
          w,
          keeps,
          tt,
          step_kept o t h id me.0 at i n w kind (subst (λ (x : Table). WordStep e kind x) (sym unmoved) (stays e there)) (is_now o t h id me.0 at kind) (λ other. absurd (other p.0)) refl,
          (
            refl,
            record {
              between = between o t h id me.0 at;
              found = e;
              left = e;
              run = led_here o t h id me.0 at;
              shown = shown_here o t h id me.0 at;
              step = stays e there;
              was = there;
              is = there;
              alone = alone o t h id me.0 at p.0;
              seen = refl;
            },
            told_now o t h id me.0 at kind,
          ),
        )

  -- a note is added
  pub note_made : (note : Note) (i : ℕ) → Allows (Kept o) homes id me i same (MakesNote note (step 0 i 0 0 none) me)
  note_made note i t h far at small =
      let r = stay_made (notes note) (λ e there. ((m, there), refl)) i t h far at small in
      (r.0, r.1, r.2, r.3, (r.4.0, r.4.1))

  -- the Master compares what it was shown with the run so far
  pub compare_made : (i : ℕ) → Allows (Kept o) homes id me i same (MakesCompare (step 0 i 0 0 none) me)
  compare_made i = stay_made compares (λ e there. ((m, there), refl)) i

  -- a new seat has seen what the Master has seen
  pub answer_splits : 0 < length m.slots → Splits (Kept o) id me.0 me.0 (answered me.0)
  answer_splits some_slot t h at =
      let e : Table = erased t in
      let own : get_elem? e.views id ≡ some me.0.view = view_there t.views id me.0 at in
      let at' : get_elem? e.views id ≡ some (seat.Master m) = own ∙ ap (λ (x : Seated). some x.0) is in
      let p = master_seat h.shown.master m h.shown.callers id (subst (λ (l : List View). get_elem? l id ≡ some (seat.Master m)) h.shown.views at') in
      let there : get_elem? e.views 0 ≡ some (seat.Master m) = subst (λ (j : ℕ). get_elem? e.views j ≡ some (seat.Master m)) p.0 at' in
      split_kept o t h id me.0 at me.0 (answered me.0) answers refl refl refl refl refl
      (m, there, some_slot, ap (λ (l : List View). let x : Table = record { words = t.words; homes = t.homes; views = l ++ (answered me.0).view ∷ [] } in x) (set_again e.views id me.0.view own))

-- a seat is shown what another seat has seen
pub hear_joins : (o : Opening) (id : ℕ) (v : Sight) (other : ℕ) (w : Sight) → Joins (Kept o) id v other w (hears v w) w
hear_joins o id v other w t h at apart there =
    join_kept o t h id v at other w (hears v w) refl (h.seen id v at) (from_there o t h id v at other w (hears v w) apart there).1 (all_notes o t h id v at) there
