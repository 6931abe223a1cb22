-- A step of a caller changes the caller's view and one word of its slot, and keeps the rule.
use Rattle.std.proofs.Common.{◌&&◌, ◌||◌, ◌≡◌, ◌≢◌, ℕ, zero, suc, ◌+◌, ◌-◌, ◌%◌, ◌^◌, ◌<◌, ◌≤◌, eqb, length, Bool, true, false, not, List, [], ◌∷◌, map, set, if◌then◌else◌, refl, sym, ap, ◌∙◌, subst, ⊎_elim, arith, length-set, get_or-set_same, get_or-set_other, eq-eqb, ne_eqb}
use Rattle.std.specs.Prelude.{slice_get, Option, Some, None}
use Rattle.std.proofs.lemmas.Option.{slice_get_within}
use mathlib.Core.Logic.{dite}
use mathlib.Core.Option.{some}
use native.Mathlib.Decide.{ℕ_discrete}
use lib.ListN.{get_elem?}
use lib.Seq.{map-set}
use Rattle.kf_core.specs.declared.key.Key.{Key}
use Rattle.kf_core.specs.declared.caller.Caller.{Caller}
use Rattle.kf_core.specs.declared.slot.SlotState.{SlotState}
use Rattle.kf_core.specs.declared.caller.Phase.{Phase}
use Rattle.kf_core.specs.declared.caller.Phase.TheVariants.{Turned, Running, Spent}
use Rattle.kf_core.specs.declared.event.Event.{Event}
use Rattle.kf_core.specs.Bare.{BareWorld, IsLast, marks, marks_in}
use Rattle.kf_core.specs.Marks.{are_live}
use Rattle.kf_core.specs.Phases.{has_reference, is_hiding, is_spent}
use Rattle.kf_core.specs.Safe.{Safe}
use Rattle.kf_core.specs.Steps.{BareStep, with_phase, NoReference}
use Rattle.kf_core.proofs.Keeping.{step_keeps}
use Rattle.kf_core.proofs.Lists.{after_set}
use Rattle.kf_core.proofs.SlotStates.{live_or_doomed}
use Rattle.atomic_table.proofs.Lists.{at_set}
use Rattle.kf_words.specs.declared.view.CallerView.{CallerView}
use Rattle.kf_words.specs.declared.view.MasterView.{MasterView}
use Rattle.kf_words.specs.Layout.{bit, active_index, hold_index, active_word, hold_word, IsFree}
use Rattle.kf_words.specs.Rule.{tally, is_user, is_hider, is_holder, is_in, is_pinner, users, hiders, holders, pins_in, ShowsMarks, ShowsHolds, StillHolds, last_key, caller, bare_world, Shows}
use Rattle.kf_words.proofs.Bits.{one_more, one_less, counted_unspent, not_spent, held_not_free}
use Rattle.kf_words.proofs.Seating.{caller_at, at_caller, tally-set, tally≤, tally-one}

module _ {words : List ℕ} {m : MasterView} {cs : List CallerView} (j : ℕ) {c : CallerView} (shows : Shows words m cs) (at : get_elem? cs j ≡ some c) (holding : c.phase ≢ Spent) where
  abbrev slot : ℕ
  slot = c.key.slot

  abbrev word : ℕ
  word = active_word words slot

  abbrev hold : ℕ
  hold = hold_word words slot

  abbrev world : BareWorld
  world = bare_world m cs

  pub there : slice_get world.callers j ≡ Some (caller c)
  there = caller_at cs j c at

  -- the key of a caller that is not spent is the last key of its slot
  pub last : IsLast world c.key.slot c.key.generation
  last = shows.safe.held_last j c.key c.phase there holding

  pub near : slot < length m.slots
  near = slice_get_within m.slots slot last.0 last.1

  pub known : marks world c.key ≡ last.0.marks
  known = ap (λ o. marks_in o c.key.generation) last.1 ∙ ap (λ (b : Bool). if b then last.0.marks else None) (eq-eqb last.0.generation c.key.generation last.2)

  pub in_its_slot : (x : CallerView) → x.key ≡ c.key → (eqb x.key.slot slot) ≡ true
  in_its_slot x same = eq-eqb x.key.slot slot (ap (λ (y : Key). y.slot) same)

  -- the caller's hold is counted, so its slot is not free
  held : 1 ≤ holders slot cs
  held = let one = tally-one (is_holder slot) cs j c at (ap (λ (b : Bool). b && not (is_spent c.phase)) (in_its_slot c refl) ∙ ap not (not_spent c.phase holding)) in omega arith

  pub not_free : IsFree hold → ⊥
  not_free free = held_not_free m.limit hold last.0 (holders slot cs + pins_in m.pinning slot) shows.few (shows.holds slot last.0 last.1) (let h = held in omega arith) free

  pub users_few : users slot cs ≤ 65535
  users_few =
      let a = tally≤ (is_user slot) (is_holder slot) cs (λ i x e u. and_not_spent (eqb x.key.slot slot) (has_reference x.phase) x.undo_due x.phase u refl (shows.tries i x e)) in
      let b = (shows.holds slot last.0 last.1).1 in
      let d = shows.few in
      omega arith
    where
      and_not_spent : (s p t : Bool) (phase : Phase) → (s && (p || t)) ≡ true → has_reference phase ≡ p → (t ≡ true → phase ≡ Turned) → (s && not (is_spent phase)) ≡ true
      and_not_spent false p t phase u e tries = absurd (let x : false ≡ true = u in cc)
      and_not_spent true true t phase u e tries = ap not (counted_unspent phase e)
      and_not_spent true false true phase u e tries = ap (λ (q : Phase). not (is_spent q)) (tries refl)
      and_not_spent true false false phase u e tries = absurd (let x : false ≡ true = u in cc)

  pub own_word : ShowsMarks word last.0.marks (users slot cs) (hiders slot cs)
  own_word = shows.marks slot last.0 last.1

  pub none_counted : users slot cs ≡ 0 → NoReference world c.key
  none_counted empty i phase is = no (has_reference phase) (λ counted.
      let x = at_caller cs i (record { key = c.key; phase = phase }) is in
      let y : CallerView = x.0 in
      let key : y.key ≡ c.key = ap (λ (h : Caller). h.key) x.2 in
      let its : y.phase ≡ phase = ap (λ (h : Caller). h.phase) x.2 in
      let one = tally-one (is_user slot) cs i y x.1 (ap (λ (b : Bool). b && (has_reference y.phase || y.undo_due)) (in_its_slot y key) ∙ ap (λ (p : Phase). has_reference p || y.undo_due) its ∙ ap (λ (b : Bool). b || y.undo_due) counted) in
      omega arith)
    where
      no : (b : Bool) → (b ≡ true → ⊥) → b ≡ false
      no true h = absurd (h refl)
      no false h = refl

  -- a caller of another slot does not count here
  pub off : (k : ℕ) (x : CallerView) (b : Bool) → x.key.slot ≢ k → ((eqb x.key.slot k) && b) ≡ false
  off k x b ne = ap (λ (a : Bool). a && b) (ne_eqb x.key.slot k ne)

  -- a free slot is not the slot of this caller
  pub elsewhere : (k : ℕ) → IsFree (hold_word words k) → k ≡ slot → ⊥
  elsewhere k free its = not_free (subst (λ (x : ℕ). IsFree (hold_word words x)) its free)

  module _ (c' : CallerView) (same : c'.key ≡ c.key) where
    pub in_other : (p : ℕ → CallerView → Bool) (k : ℕ) → k ≢ slot → ((x : CallerView) → x.key.slot ≢ k → p k x ≡ false) → tally (p k) (set cs j c') ≡ tally (p k) cs
    in_other p k apart none_there =
        let r = tally-set (p k) cs j c c' at in
        let a : bit (p k c) 1 ≡ 0 = ap (λ (b : Bool). bit b 1) (none_there c (λ e. apart (sym e))) in
        let b : bit (p k c') 1 ≡ 0 = ap (λ (b : Bool). bit b 1) (none_there c' (λ e. apart (sym (sym (ap (λ (y : Key). y.slot) same) ∙ e)))) in
        omega arith

    pub in_this : (p : ℕ → CallerView → Bool) (b b' : Bool) → p slot c ≡ b → p slot c' ≡ b' → tally (p slot) (set cs j c') + bit b 1 ≡ tally (p slot) cs + bit b' 1
    in_this p b b' was now =
        let r = tally-set (p slot) cs j c c' at in
        let x : bit (p slot c) 1 ≡ bit b 1 = ap (λ (y : Bool). bit y 1) was in
        let y : bit (p slot c') 1 ≡ bit b' 1 = ap (λ (y : Bool). bit y 1) now in
        omega arith

    -- the number of seats that hold a slot changes only in the caller's slot, and only with the caller's
    -- phase
    seats_in_other : (k : ℕ) → k ≢ slot → tally (is_holder k) (set cs j c') ≡ tally (is_holder k) cs
    seats_in_other k ne = in_other is_holder k ne (λ x. off k x (not (is_spent x.phase)))

    seats_in_this : (b b' : Bool) → not (is_spent c.phase) ≡ b → not (is_spent c'.phase) ≡ b' → tally (is_holder slot) (set cs j c') + bit b 1 ≡ tally (is_holder slot) cs + bit b' 1
    seats_in_this b b' was now = in_this is_holder b b' (ap (λ (s : Bool). s && not (is_spent c.phase)) (in_its_slot c refl) ∙ was) (ap (λ (s : Bool). s && not (is_spent c'.phase)) (in_its_slot c' same) ∙ now)

    pub seats_stay : c'.phase ≢ Spent → (k : ℕ) → tally (is_holder k) (set cs j c') ≡ tally (is_holder k) cs
    seats_stay holds' k = dite (ℕ_discrete k slot)
        (λ e. subst (λ (x : ℕ). tally (is_holder x) (set cs j c') ≡ tally (is_holder x) cs) (sym e)
        (let r = seats_in_this true true (ap not (not_spent c.phase holding)) (ap not (not_spent c'.phase holds')) in omega arith))
        (λ ne. seats_in_other k ne)

    -- the holds that callers have counted stay the same, or there is one more in the slot of the key that
    -- this caller counted
    pinners_stay : c'.pinning ≡ c.pinning → (k : ℕ) → tally (is_pinner k) (set cs j c') ≡ tally (is_pinner k) cs
    pinners_stay pins k =
        let r = tally-set (is_pinner k) cs j c c' at in
        let e : bit (is_pinner k c') 1 ≡ bit (is_pinner k c) 1 = ap (λ (o : Option Key). bit (is_in k o) 1) pins in
        omega arith

    pub pinners_more : (key : Key) → c.pinning ≡ None → c'.pinning ≡ Some key → (k : ℕ) → tally (is_pinner k) (set cs j c') ≡ tally (is_pinner k) cs + bit (eqb key.slot k) 1
    pinners_more key none some_key k =
        let r = tally-set (is_pinner k) cs j c c' at in
        let a : bit (is_pinner k c) 1 ≡ 0 = ap (λ (o : Option Key). bit (is_in k o) 1) none in
        let b : bit (is_pinner k c') 1 ≡ bit (eqb key.slot k) 1 = ap (λ (o : Option Key). bit (is_in k o) 1) some_key in
        omega arith

    pub held_in_other : c'.pinning ≡ c.pinning → (k : ℕ) → k ≢ slot → holders k (set cs j c') ≡ holders k cs
    held_in_other pins k ne = let a = seats_in_other k ne in let b = pinners_stay pins k in omega arith

    pub held_in_this : c'.pinning ≡ c.pinning → (b b' : Bool) → not (is_spent c.phase) ≡ b → not (is_spent c'.phase) ≡ b' → holders slot (set cs j c') + bit b 1 ≡ holders slot cs + bit b' 1
    held_in_this pins b b' was now = let x = seats_in_this b b' was now in let y = pinners_stay pins slot in omega arith

    pub held_stay : c'.pinning ≡ c.pinning → c'.phase ≢ Spent → (k : ℕ) → holders k (set cs j c') ≡ holders k cs
    held_stay pins holds' k = let a = seats_stay holds' k in let b = pinners_stay pins k in omega arith

    -- the key of which the caller counted a hold is still the last of its slot
    pub pinned_stays : c'.pinning ≡ c.pinning → (key : Key) → c'.pinning ≡ Some key → IsLast world key.slot key.generation
    pinned_stays pins key p = shows.pinned j c key at (sym pins ∙ p)

    same_world : with_phase world j c.key c'.phase ≡ bare_world m (set cs j c')
    same_world =
        ap (λ (key : Key). with_phase world j key c'.phase) (sym same)
        ∙ ap (λ (l : List Caller). let w : BareWorld = record { slots = m.slots; callers = l } in w) (sym (map-set caller cs j c'))

    -- the rule holds after the words and the caller's view have changed, if these conditions are met
    pub moves : (words' : List ℕ) → length words' ≡ length words
        → ((k : ℕ) (state : SlotState) → slice_get m.slots k ≡ Some state → ShowsMarks (active_word words' k) state.marks (users k (set cs j c')) (hiders k (set cs j c')))
        → ((k : ℕ) (state : SlotState) → slice_get m.slots k ≡ Some state → ShowsHolds m.limit (hold_word words' k) state (holders k (set cs j c') + pins_in m.pinning k))
        → (c'.undo_due ≡ true → c'.phase ≡ Turned)
        → ((key : Key) → c'.pinning ≡ Some key → IsLast world key.slot key.generation)
        → ((k found : ℕ) → StillHolds m.limit found (hold_word words k) → StillHolds m.limit found (hold_word words' k))
        → ((k : ℕ) → k < length m.slots → IsFree (hold_word words k) → (active_word words' k ≡ active_word words k) × (hold_word words' k ≡ hold_word words k))
        → (c'.phase ≡ Running → are_live last.0.marks ≡ true)
        → (e : Event) → BareStep world e (with_phase world j c.key c'.phase) → Shows words' m (set cs j c')
    moves words' wide marks' holds' undo_due pinned' still apart runs e event = record {
      wide = wide ∙ shows.wide;
      few = shows.few;
      marks = marks';
      holds = holds';
      tries = λ i x e. ⊎_elim
          (λ (h : (i ≡ j) × (c' ≡ x)). subst (λ (y : CallerView). y.undo_due ≡ true → y.phase ≡ Turned) h.1 undo_due)
          (λ (h : (i ≢ j) × (get_elem? cs i ≡ some x)). shows.tries i x h.1)
          (at_set cs j i c' x e);
      pinned = λ i x key e. ⊎_elim
          (λ (h : (i ≡ j) × (c' ≡ x)). subst (λ (y : CallerView). y.pinning ≡ Some key → IsLast world key.slot key.generation) h.1 (pinned' key))
          (λ (h : (i ≢ j) × (get_elem? cs i ≡ some x)). shows.pinned i x key h.1)
          (at_set cs j i c' x e);
      loads = λ i load e. still load.slot load.word (shows.loads i load e);
      fresh = λ k e. let f = shows.fresh k e in let p = apart k f.0 f.2 in (f.0, p.0 ∙ f.1, subst IsFree (sym p.1) f.2);
      looked = λ load state e hit its. let d = shows.looked load state e hit its in let k : ℕ = load.slot in (
        d.0,
        λ i there'. ⊎_elim
            (λ (h : caller c' ≡ record { key = last_key k state; phase = Running }).
            let key : c.key ≡ last_key k state = sym same ∙ ap (λ (x : Caller). x.key) h in
            let lives = runs (ap (λ (x : Caller). x.phase) h) in
            let both : Some last.0 ≡ Some state = sym last.1 ∙ ap (λ (x : Key). slice_get m.slots x.slot) key ∙ its in
            let one : last.0 ≡ state = cc in
            live_or_doomed state.marks (subst (λ (x : SlotState). are_live x.marks ≡ true) one lives) d.0)
            (λ h. d.1 i h)
            (after_set (map caller cs) j i (caller c') (record { key = last_key k state; phase = Running }) (subst (λ (l : List Caller). slice_get l i ≡ Some (record { key = last_key k state; phase = Running })) (map-set caller cs j c') there')),
      );
      safe = subst Safe same_world (step_keeps world e (with_phase world j c.key c'.phase) shows.safe event);
    }

    -- a step on the slot's active word
    on_active_word : (new : ℕ) → ShowsMarks new last.0.marks (users slot (set cs j c')) (hiders slot (set cs j c')) → c'.pinning ≡ c.pinning → c'.phase ≢ Spent → (c'.undo_due ≡ true → c'.phase ≡ Turned) → (c'.phase ≡ Running → are_live last.0.marks ≡ true)
        → (e : Event) → BareStep world e (with_phase world j c.key c'.phase) → Shows (set words (active_index slot) new) m (set cs j c')
    on_active_word new is pins holds' undo_due runs = moves (set words (active_index slot) new) (length-set words (active_index slot) new)
        (λ k state its. dite (ℕ_discrete k slot)
        (λ e.
        let here : slice_get m.slots slot ≡ Some state = subst (λ (x : ℕ). slice_get m.slots x ≡ Some state) e its in
        let both : Some last.0 ≡ Some state = sym last.1 ∙ here in
        let one : last.0 ≡ state = cc in
        let n = near in let wide = shows.wide in
        subst (λ (x : ℕ). ShowsMarks (active_word (set words (active_index slot) new) x) state.marks (users x (set cs j c')) (hiders x (set cs j c'))) (sym e)
        (subst (λ (x : ℕ). ShowsMarks x state.marks (users slot (set cs j c')) (hiders slot (set cs j c'))) (sym (get_or-set_same words (active_index slot) new 0 (omega arith)))
        (subst (λ (x : SlotState). ShowsMarks new x.marks (users slot (set cs j c')) (hiders slot (set cs j c'))) one is)))
        (λ ne. subst (λ (n : ℕ). ShowsMarks n state.marks (users k (set cs j c')) (hiders k (set cs j c'))) (sym (get_or-set_other words (active_index slot) (active_index k) new 0 (λ e. ne (omega arith))))
        (subst (λ (n : ℕ). ShowsMarks (active_word words k) state.marks n (hiders k (set cs j c'))) (sym (in_other is_user k ne (λ x. off k x (has_reference x.phase || x.undo_due))))
        (subst (λ (n : ℕ). ShowsMarks (active_word words k) state.marks (users k cs) n) (sym (in_other is_hider k ne (λ x. off k x (is_hiding x.phase)))) (shows.marks k state its)))))
        (λ k state its.
        let n = near in
        subst (λ (x : ℕ). ShowsHolds m.limit x state (holders k (set cs j c') + pins_in m.pinning k)) (sym (get_or-set_other words (active_index slot) (hold_index k) new 0 (λ e. omega arith)))
        (subst (λ (x : ℕ). ShowsHolds m.limit (hold_word words k) state (x + pins_in m.pinning k)) (sym (held_stay pins holds' k)) (shows.holds k state its)))
        undo_due
        (pinned_stays pins)
        (λ k found s. let n = near in subst (λ (x : ℕ). StillHolds m.limit found x) (sym (get_or-set_other words (active_index slot) (hold_index k) new 0 (λ e. omega arith))) s)
        (λ k short free. let n = near in (get_or-set_other words (active_index slot) (active_index k) new 0 (λ e. elsewhere k free (omega arith)), get_or-set_other words (active_index slot) (hold_index k) new 0 (λ e. omega arith)))
        runs

    pub users_now : (b b' : Bool) → (has_reference c.phase || c.undo_due) ≡ b → (has_reference c'.phase || c'.undo_due) ≡ b' → users slot (set cs j c') + bit b 1 ≡ users slot cs + bit b' 1
    users_now b b' was now = in_this is_user b b' (ap (λ (s : Bool). s && (has_reference c.phase || c.undo_due)) (in_its_slot c refl) ∙ was) (ap (λ (s : Bool). s && (has_reference c'.phase || c'.undo_due)) (in_its_slot c' same) ∙ now)

    pub hiders_now : (b b' : Bool) → is_hiding c.phase ≡ b → is_hiding c'.phase ≡ b' → hiders slot (set cs j c') + bit b 1 ≡ hiders slot cs + bit b' 1
    hiders_now b b' was now = in_this is_hider b b' (ap (λ (s : Bool). s && is_hiding c.phase) (in_its_slot c refl) ∙ was) (ap (λ (s : Bool). s && is_hiding c'.phase) (in_its_slot c' same) ∙ now)

    -- the number of callers that hide stays if the step does not change whether this caller hides
    pub hiders_stay : is_hiding c'.phase ≡ is_hiding c.phase → hiders slot cs ≡ hiders slot (set cs j c')
    hiders_stay as_was = let r = hiders_now (is_hiding c.phase) (is_hiding c.phase) refl as_was in omega arith

    own_word_now : is_hiding c'.phase ≡ is_hiding c.phase → ShowsMarks word last.0.marks (users slot cs) (hiders slot (set cs j c'))
    own_word_now as_was = subst (λ (n : ℕ). ShowsMarks word last.0.marks (users slot cs) n) (hiders_stay as_was) (shows.marks slot last.0 last.1)

    pub adds : is_hiding c'.phase ≡ is_hiding c.phase → (has_reference c.phase || c.undo_due) ≡ false → (has_reference c'.phase || c'.undo_due) ≡ true → c'.pinning ≡ c.pinning → c'.phase ≢ Spent → (c'.undo_due ≡ true → c'.phase ≡ Turned) → (c'.phase ≡ Running → are_live last.0.marks ≡ true)
        → (e : Event) → BareStep world e (with_phase world j c.key c'.phase) → Shows (set words (active_index slot) ((word + 1) % 2 ^ 64)) m (set cs j c')
    adds hides was now = let u = users_now false true was now in
        on_active_word ((word + 1) % 2 ^ 64) (one_more word last.0.marks (users slot cs) (users slot (set cs j c')) (hiders slot (set cs j c')) users_few (omega arith) (own_word_now hides))

    pub drops : is_hiding c'.phase ≡ is_hiding c.phase → (has_reference c.phase || c.undo_due) ≡ true → (has_reference c'.phase || c'.undo_due) ≡ false → c'.pinning ≡ c.pinning → c'.phase ≢ Spent → (c'.undo_due ≡ true → c'.phase ≡ Turned) → (c'.phase ≡ Running → are_live last.0.marks ≡ true)
        → (e : Event) → BareStep world e (with_phase world j c.key c'.phase) → Shows (set words (active_index slot) ((word + (2 ^ 64 - 1)) % 2 ^ 64)) m (set cs j c')
    drops hides was now = let u = users_now true false was now in
        on_active_word ((word + (2 ^ 64 - 1)) % 2 ^ 64) (one_less word last.0.marks (users slot cs) (users slot (set cs j c')) (hiders slot (set cs j c')) users_few (omega arith) (own_word_now hides))

    pub sees : is_hiding c'.phase ≡ is_hiding c.phase → (has_reference c'.phase || c'.undo_due) ≡ (has_reference c.phase || c.undo_due) → c'.pinning ≡ c.pinning → c'.phase ≢ Spent → (c'.undo_due ≡ true → c'.phase ≡ Turned) → (c'.phase ≡ Running → are_live last.0.marks ≡ true)
        → (e : Event) → BareStep world e (with_phase world j c.key c'.phase) → Shows (set words (active_index slot) word) m (set cs j c')
    sees hides as_was = let u = users_now (has_reference c.phase || c.undo_due) (has_reference c.phase || c.undo_due) refl as_was in
        let even : users slot (set cs j c') ≡ users slot cs = omega arith in
        on_active_word word (subst (λ (n : ℕ). ShowsMarks word last.0.marks n (hiders slot (set cs j c'))) (sym even) (own_word_now hides))

    -- a step that changes HIDE
    pub turns : (new : ℕ) → ((n : ℕ) → n ≡ users slot cs → ShowsMarks new last.0.marks n (hiders slot (set cs j c'))) → (has_reference c'.phase || c'.undo_due) ≡ (has_reference c.phase || c.undo_due) → c'.pinning ≡ c.pinning → c'.phase ≢ Spent → (c'.undo_due ≡ true → c'.phase ≡ Turned) → (c'.phase ≡ Running → are_live last.0.marks ≡ true)
        → (e : Event) → BareStep world e (with_phase world j c.key c'.phase) → Shows (set words (active_index slot) new) m (set cs j c')
    turns new is as_was = let u = users_now (has_reference c.phase || c.undo_due) (has_reference c.phase || c.undo_due) refl as_was in
        on_active_word new (is (users slot (set cs j c')) (omega arith))

  -- the world stays if the caller's phase does
  pub unmoved : with_phase world j c.key c.phase ≡ world
  unmoved = ap (λ (l : List Caller). let w : BareWorld = record { slots = m.slots; callers = l } in w) (stays (map caller cs) j (caller c) there)
    where
      stays : (l : List Caller) (i : ℕ) (x : Caller) → slice_get l i ≡ Some x → set l i x ≡ l
      stays [] i x e = refl
      stays (y ∷ ys) zero x e = let is : Some y ≡ Some x = e in let same : x ≡ y = cc in ap (λ z. z ∷ ys) same
      stays (y ∷ ys) (suc i) x e = ap (λ l. y ∷ l) (stays ys i x e)
