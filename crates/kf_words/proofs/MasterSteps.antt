-- Each step of the Master keeps the rule.
use Rattle.std.proofs.Common.{◌&&◌, ◌||◌, ◌≡◌, ◌≢◌, ◌⊎◌, inl, inr, ℕ, zero, suc, ◌+◌, ◌-◌, ◌*◌, ◌%◌, ◌^◌, ◌<◌, ◌≤◌, Bool, true, false, not, eqb, List, [], ◌∷◌, map, length, set, refl, sym, ap, ◌∙◌, subst, ⊎_elim, arith, length-set, get_or-set_same, get_or-set_other, eq-eqb, ne_eqb}
use Rattle.std.specs.Prelude.{slice_get, Option, Some, None, is_some}
use Rattle.std.proofs.lemmas.Option.{slice_get_within, none-some}
use mathlib.Core.Logic.{dite}
use native.Mathlib.Decide.{ℕ_discrete}
use Rattle.kf_core.specs.declared.key.Key.{Key}
use Rattle.kf_core.specs.declared.caller.Caller.{Caller}
use Rattle.kf_core.specs.declared.slot.NodeFlags.{NodeFlags}
use Rattle.kf_core.specs.declared.slot.SlotState.{SlotState}
use Rattle.kf_core.specs.declared.caller.Phase.{Phase}
use Rattle.kf_core.specs.declared.caller.Phase.TheVariants.{Still, Turned, Running, Broken, Restored, Drained, Parted, Hiding, Hidden, Spent}
use Rattle.kf_core.specs.declared.event.Event.{Event}
use Rattle.kf_core.specs.declared.event.Event.TheVariants.{Rise, Mark}
use Rattle.kf_core.specs.Bare.{BareWorld, IsCaller, marks, marks_in}
use Rattle.kf_core.specs.Marks.{fresh_marks, live_marks, are_live, are_doomed}
use Rattle.kf_core.specs.Phases.{has_reference, is_hiding, is_spent}
use Rattle.kf_core.specs.Safe.{Safe, NoneRunning}
use Rattle.kf_core.specs.Steps as core
use Rattle.kf_core.proofs.Lists.{slice_get-set_same, slice_get-set_other}
use Rattle.kf_core.proofs.SlotStates.{shown}
use Rattle.kf_core.proofs.Keeping.{step_keeps, marks_keep, born_keeps}
use Rattle.kf_words.specs.declared.view.CallerView.{CallerView}
use Rattle.kf_words.specs.declared.view.MasterView.{MasterView}
use Rattle.kf_words.specs.declared.view.Load.{Load}
use Rattle.kf_words.specs.Layout.{bit, bias, doom, hide, linked, one_generation, line_words, active_index, hold_index, active_word, hold_word, is_drained, holds_in, HasRoom, IsFree}
use Rattle.kf_words.specs.Rule.{is_user, is_hider, is_holder, is_in, is_pinner, users, hiders, holders, pins_in, ShowsMarks, ShowsHolds, StillHolds, last_key, caller, bare_world, Shows}
use Rattle.kf_words.specs.Steps.{on_active, on_hold, activated_marks, doomed_marks}
use Rattle.kf_words.proofs.Bits.{counted_unspent, hiding_unspent, free_shows, count_shows, hold_less, hold_more}
use Rattle.kf_words.proofs.Seating.{at_caller, tally≤, tally-one}

module _ (words : List ℕ) (m : MasterView) (cs : List CallerView) (shows : Shows words m cs) where
  pub users≤holders : (slot : ℕ) → users slot cs ≤ holders slot cs
  users≤holders slot = let r = tally≤ (is_user slot) (is_holder slot) cs (λ i x e u. and_not_spent (eqb x.key.slot slot) (has_reference x.phase) x.undo_due x.phase u refl (shows.tries i x e)) in omega arith
    where
      and_not_spent : (s p t : Bool) (phase : Phase) → (s && (p || t)) ≡ true → has_reference phase ≡ p → (t ≡ true → phase ≡ Turned) → (s && not (is_spent phase)) ≡ true
      and_not_spent false p t phase u e tries = absurd (let x : false ≡ true = u in cc)
      and_not_spent true true t phase u e tries = ap not (counted_unspent phase e)
      and_not_spent true false true phase u e tries = ap (λ (q : Phase). not (is_spent q)) (tries refl)
      and_not_spent true false false phase u e tries = absurd (let x : false ≡ true = u in cc)

  pub hiders≤holders : (slot : ℕ) → hiders slot cs ≤ holders slot cs
  hiders≤holders slot = let r = tally≤ (is_hider slot) (is_holder slot) cs (λ i x e u. and_not_spent (eqb x.key.slot slot) x.phase u) in omega arith
    where
      and_not_spent : (s : Bool) (phase : Phase) → (s && is_hiding phase) ≡ true → (s && not (is_spent phase)) ≡ true
      and_not_spent false phase u = absurd (let x : false ≡ true = u in cc)
      and_not_spent true phase u = ap not (hiding_unspent phase u)

  module _ (slot : ℕ) (state : SlotState) (its : slice_get m.slots slot ≡ Some state) where
    pub near : slot < length m.slots
    near = slice_get_within m.slots slot state its

    abbrev hold : ℕ
    hold = hold_word words slot

    pub shown_holds : ShowsHolds m.limit (hold_word words slot) state (holders slot cs + pins_in m.pinning slot)
    shown_holds = shows.holds slot state its

    pub users_few : users slot cs ≤ 65535
    users_few = let a = users≤holders slot in let b = shown_holds.1 in let d = shows.few in omega arith

    -- the Master's next view: the new state of one slot, and what the Master remembers
    module _ (words' : List ℕ) (state' : SlotState) (p' f' : Option ℕ) (l' b' : List Load) (k' : Option Load) where
      abbrev next : MasterView
      next = record { limit = m.limit; slots = set m.slots slot state'; pinning = p'; fresh = f'; loads = l'; at_birth = b'; looked = k' }

      -- the rule holds after the step if these conditions are met. The slot keeps its generation, or nobody
      -- holds it
      changed : (state'.generation ≡ state.generation) ⊎ (holders slot cs ≡ 0)
          → length words' ≡ length words
          → ShowsMarks (active_word words' slot) state'.marks (users slot cs) (hiders slot cs)
          → ShowsHolds m.limit (hold_word words' slot) state' (holders slot cs + pins_in p' slot)
          → ((k : ℕ) → k ≢ slot → k < length m.slots → (active_word words' k ≡ active_word words k) × (hold_word words' k ≡ hold_word words k) × (pins_in p' k ≡ pins_in m.pinning k))
          → ((i : ℕ) (load : Load) → slice_get l' i ≡ Some load → StillHolds m.limit load.word (hold_word words' load.slot))
          → ((k : ℕ) → f' ≡ Some k → (k < length m.slots) × (active_word words' k ≡ bias) × IsFree (hold_word words' k))
          → ((load : Load) (x : SlotState) → k' ≡ Some load → is_drained load.word ≡ true → slice_get (set m.slots slot state') load.slot ≡ Some x → (are_doomed x.marks ≡ true) × NoneRunning (bare_world next cs) (last_key load.slot x))
          → Safe (bare_world next cs) → Shows words' next cs
      changed older wide marks' holds' others loads' fresh' looked' safe' = record {
        wide = wide ∙ shows.wide ∙ ap (λ (n : ℕ). n * line_words) (sym (length-set m.slots slot state'));
        few = shows.few;
        marks = λ k x at. dite (ℕ_discrete k slot)
            (λ e. subst (λ (i : ℕ). ShowsMarks (active_word words' i) x.marks (users i cs) (hiders i cs)) (sym e) (subst (λ (y : SlotState). ShowsMarks (active_word words' slot) y.marks (users slot cs) (hiders slot cs)) (here k x e at) marks'))
            (λ ne. let at' = there k x ne at in let o = others k ne (slice_get_within m.slots k x at') in
            subst (λ (n : ℕ). ShowsMarks n x.marks (users k cs) (hiders k cs)) (sym o.0) (shows.marks k x at'));
        holds = λ k x at. dite (ℕ_discrete k slot)
            (λ e. subst (λ (i : ℕ). ShowsHolds m.limit (hold_word words' i) x (holders i cs + pins_in p' i)) (sym e)
            (subst (λ (y : SlotState). ShowsHolds m.limit (hold_word words' slot) y (holders slot cs + pins_in p' slot)) (here k x e at) holds'))
            (λ ne. let at' = there k x ne at in let o = others k ne (slice_get_within m.slots k x at') in
            subst (λ (n : ℕ). ShowsHolds m.limit n x (holders k cs + pins_in p' k)) (sym o.1)
            (subst (λ (n : ℕ). ShowsHolds m.limit (hold_word words k) x (holders k cs + n)) (sym o.2) (shows.holds k x at')));
        tries = shows.tries;
        pinned = λ j c key at p.
            let l = shows.pinned j c key at p in
            dite (ℕ_discrete key.slot slot)
            (λ (e : key.slot ≡ slot).
            let one : state ≡ l.0 = here_was l.0 (subst (λ (i : ℕ). slice_get m.slots i ≡ Some l.0) e l.1) in
            ⊎_elim
            (λ (kept : state'.generation ≡ state.generation).
            (state', ap (λ (i : ℕ). slice_get (set m.slots slot state') i) e ∙ slice_get-set_same m.slots slot state' near, kept ∙ ap (λ (x : SlotState). x.generation) one ∙ l.2))
            (λ (nobody : holders slot cs ≡ 0).
            let counts = tally-one (is_pinner slot) cs j c at (ap (λ (o : Option Key). is_in slot o) p ∙ eq-eqb key.slot slot e) in
            absurd (omega arith))
            older)
            (λ ne. (l.0, slice_get-set_other m.slots slot key.slot state' ne ∙ l.1, l.2));
        loads = loads';
        fresh = λ k e. let f = fresh' k e in let l = length-set m.slots slot state' in (omega (arith, f.0), f.1, f.2);
        looked = looked';
        safe = safe';
      }
        where
          here : (k : ℕ) (x : SlotState) → k ≡ slot → slice_get (set m.slots slot state') k ≡ Some x → state' ≡ x
          here k x e at =
              let at' : slice_get (set m.slots slot state') slot ≡ Some x = subst (λ (i : ℕ). slice_get (set m.slots slot state') i ≡ Some x) e at in
              let both : Some state' ≡ Some x = sym (slice_get-set_same m.slots slot state' near) ∙ at' in cc

          here_was : (x : SlotState) → slice_get m.slots slot ≡ Some x → state ≡ x
          here_was x at = let both : Some state ≡ Some x = sym its ∙ at in cc

          there : (k : ℕ) (x : SlotState) → k ≢ slot → slice_get (set m.slots slot state') k ≡ Some x → slice_get m.slots k ≡ Some x
          there k x ne at = sym (slice_get-set_other m.slots slot k state' ne) ∙ at

    -- writing the state that a slot has changes no slot
    same_slots : set m.slots slot state ≡ m.slots
    same_slots = stays m.slots slot its
      where
        stays : (l : List SlotState) (i : ℕ) → slice_get l i ≡ Some state → set l i state ≡ l
        stays [] i e = refl
        stays (y ∷ ys) zero e = let is : Some y ≡ Some state = e in let same : state ≡ y = cc in ap (λ z. z ∷ ys) same
        stays (y ∷ ys) (suc i) e = ap (λ l. y ∷ l) (stays ys i e)

    same_world : bare_world (next words state m.pinning m.fresh m.loads m.at_birth m.looked) cs ≡ bare_world m cs
    same_world = ap (λ (ps : List SlotState). let w : BareWorld = record { slots = ps; callers = map caller cs } in w) same_slots

    other_hold : (k new : ℕ) → k ≢ slot → hold_word (set words (hold_index slot) new) k ≡ hold_word words k
    other_hold k new ne = get_or-set_other words (hold_index slot) (hold_index k) new 0 (λ e. ne (omega arith))

    this_hold : (new : ℕ) → hold_word (set words (hold_index slot) new) slot ≡ new
    this_hold new = let n = near in let wide = shows.wide in get_or-set_same words (hold_index slot) new 0 (omega arith)

    active_kept : (k new : ℕ) → k < length m.slots → active_word (set words (hold_index slot) new) k ≡ active_word words k
    active_kept k new short = get_or-set_other words (hold_index slot) (active_index k) new 0 (λ e. omega arith)

    hold_kept : (k new : ℕ) → hold_word (set words (active_index slot) new) k ≡ hold_word words k
    hold_kept k new = let n = near in get_or-set_other words (active_index slot) (hold_index k) new 0 (λ e. omega arith)

    no_pin : (k : ℕ) → k ≢ slot → pins_in (Some slot) k ≡ 0
    no_pin k ne = ap (λ (b : Bool). bit b 1) (ne_eqb slot k (λ e. ne (sym e)))

    one_pin : pins_in (Some slot) slot ≡ 1
    one_pin = ap (λ (b : Bool). bit b 1) (eq-eqb slot slot refl)

    nothing_fresh : (words' : List ℕ) (k : ℕ) → None ≡ Some k → (k < length m.slots) × (active_word words' k ≡ bias) × IsFree (hold_word words' k)
    nothing_fresh words' k e = absurd (none-some k e)

    no_look : (P : Load → SlotState → Type 0) (load : Load) (x : SlotState) → None ≡ Some load → is_drained load.word ≡ true → P load x
    no_look P load x e _ = absurd (none-some load e)

    nothing_loaded : (word : ℕ → ℕ) (i : ℕ) (load : Load) → slice_get [] i ≡ Some load → StillHolds m.limit load.word (word load.slot)
    nothing_loaded word i load e = absurd (none-some load e)

    -- one more hold is counted, which has no seat yet
    pub pin_counts : m.pinning ≡ None → HasRoom m.limit hold → hold < 18446744073709551616
        → Shows (set words (hold_index slot) ((hold + 1) % 2 ^ 64)) (record (on_hold m) { pinning = Some slot }) cs
    pin_counts no_pin_yet room small =
        let n : ℕ = holders slot cs + pins_in m.pinning slot in
        let none_yet : pins_in m.pinning slot ≡ 0 = ap (λ o. pins_in o slot) no_pin_yet in
        let one = one_pin in
        let count = count_shows m.limit hold state n shows.few shown_holds in
        let below : n < m.limit = (let r : holds_in hold < m.limit = room in omega arith) in
        let more : holders slot cs + pins_in (Some slot) slot ≡ n + 1 = omega arith in
        let new : ℕ = (hold + 1) % 2 ^ 64 in
        subst (λ (ps : List SlotState). Shows (set words (hold_index slot) new) (record (on_hold m) { pinning = Some slot; slots = ps }) cs) same_slots
        (changed (set words (hold_index slot) new) state (Some slot) None [] m.at_birth None (inl refl)
        (length-set words (hold_index slot) new)
        (subst (λ (x : ℕ). ShowsMarks x state.marks (users slot cs) (hiders slot cs)) (sym (active_kept slot new near)) (shows.marks slot state its))
        (subst (λ (x : ℕ). ShowsHolds m.limit x state (holders slot cs + pins_in (Some slot) slot)) (sym (this_hold new))
        (subst (λ (x : ℕ). ShowsHolds m.limit new state x) (sym more) (hold_more m.limit hold state n shows.few small below shown_holds)))
        (λ k ne short. (active_kept k new short, other_hold k new ne, no_pin k ne ∙ sym (ap (λ o. pins_in o k) no_pin_yet)))
        (nothing_loaded _) (nothing_fresh _) (no_look _)
        (subst Safe (sym same_world) shows.safe))

    -- a counted hold that has no seat yet is taken back
    pub pin_back : m.pinning ≡ Some slot → hold < 18446744073709551616
        → Shows (set words (hold_index slot) ((hold + (2 ^ 64 - 1)) % 2 ^ 64)) (record (on_hold m) { pinning = None }) cs
    pin_back has_pin small =
        let n : ℕ = holders slot cs + pins_in m.pinning slot in
        let had : pins_in m.pinning slot ≡ 1 = ap (λ o. pins_in o slot) has_pin ∙ one_pin in
        let new : ℕ = (hold + (2 ^ 64 - 1)) % 2 ^ 64 in
        subst (λ (ps : List SlotState). Shows (set words (hold_index slot) new) (record (on_hold m) { pinning = None; slots = ps }) cs) same_slots
        (changed (set words (hold_index slot) new) state None None [] m.at_birth None (inl refl)
        (length-set words (hold_index slot) new)
        (subst (λ (x : ℕ). ShowsMarks x state.marks (users slot cs) (hiders slot cs)) (sym (active_kept slot new near)) (shows.marks slot state its))
        (subst (λ (x : ℕ). ShowsHolds m.limit x state (holders slot cs + 0)) (sym (this_hold new))
        (hold_less m.limit hold state n (holders slot cs + 0) small (omega arith) shown_holds))
        (λ k ne short. (active_kept k new short, other_hold k new ne, sym (ap (λ o. pins_in o k) has_pin ∙ no_pin k ne)))
        (nothing_loaded _) (nothing_fresh _) (no_look _)
        (subst Safe (sym same_world) shows.safe))

    -- nobody holds a free slot
    pub unheld : IsFree hold → (holders slot cs ≡ 0) × (pins_in m.pinning slot ≡ 0) × (is_some state.marks ≡ false) × (state.generation < 4294967295) × (users slot cs ≡ 0) × (hiders slot cs ≡ 0)
    unheld free =
        let f = free_shows m.limit hold state (holders slot cs + pins_in m.pinning slot) shows.few shown_holds free in
        let none = f.0 in
        let u = users≤holders slot in
        let v = hiders≤holders slot in
        (omega arith, omega arith, f.1, f.2, omega arith, omega arith)

    pub unlinked_state : (o : Option NodeFlags) → is_some o ≡ false → o ≡ None
    unlinked_state None e = refl
    unlinked_state (Some x) e = absurd (let y : true ≡ false = e in cc)

    -- the active word of a free slot becomes BIAS
    pub freshen : IsFree hold → Shows (set words (active_index slot) bias) (record (on_active m) { fresh = Some slot }) cs
    freshen free =
        let u = unheld free in
        let gone : state.marks ≡ None = unlinked_state state.marks u.2 in
        let n = near in let wide = shows.wide in
        let stored : active_word (set words (active_index slot) bias) slot ≡ bias = get_or-set_same words (active_index slot) bias 0 (omega arith) in
        subst (λ (ps : List SlotState). Shows (set words (active_index slot) bias) (record (on_active m) { fresh = Some slot; slots = ps }) cs) same_slots
        (changed (set words (active_index slot) bias) state m.pinning (Some slot) m.loads m.at_birth None (inl refl)
        (length-set words (active_index slot) bias)
        (subst (λ (x : ℕ). ShowsMarks x state.marks (users slot cs) (hiders slot cs)) (sym stored)
        (subst (λ (o : Option NodeFlags). ShowsMarks bias o (users slot cs) (hiders slot cs)) (sym gone)
        (subst (λ (x : ℕ). ShowsMarks bias None x (hiders slot cs)) (sym u.4) (subst (λ (x : ℕ). ShowsMarks bias None 0 x) (sym u.5) (false, refl, (λ e. absurd (let x : false ≡ true = e in cc)), omega arith)))))
        (subst (λ (x : ℕ). ShowsHolds m.limit x state (holders slot cs + pins_in m.pinning slot)) (sym (hold_kept slot bias)) shown_holds)
        (λ k ne short. (get_or-set_other words (active_index slot) (active_index k) bias 0 (λ e. ne (omega arith)), hold_kept k bias, refl))
        (λ i load e. subst (λ (x : ℕ). StillHolds m.limit load.word x) (sym (hold_kept load.slot bias)) (shows.loads i load e))
        (λ k e. let is : Some slot ≡ Some k = e in let same : slot ≡ k = cc in
        subst (λ (x : ℕ). (x < length m.slots) × (active_word (set words (active_index slot) bias) x ≡ bias) × IsFree (hold_word (set words (active_index slot) bias) x)) same (near, stored, subst IsFree (sym (hold_kept slot bias)) free))
        (no_look _)
        (subst Safe (sym same_world) shows.safe))

    -- a caller on a slot without holders is spent
    spent_if : (p : Phase) → (is_spent p ≡ false → ⊥) → p ≡ Spent
    spent_if Spent h = refl
    spent_if Still h = absurd (h refl)
    spent_if Turned h = absurd (h refl)
    spent_if Running h = absurd (h refl)
    spent_if Broken h = absurd (h refl)
    spent_if Restored h = absurd (h refl)
    spent_if Drained h = absurd (h refl)
    spent_if Parted h = absurd (h refl)
    spent_if Hiding h = absurd (h refl)
    spent_if Hidden h = absurd (h refl)

    pub only_spent : (c : ℕ) (k : Key) (phase : Phase) → IsCaller (bare_world m cs) c k phase → k.slot ≡ slot → holders slot cs ≡ 0 → phase ≡ Spent
    only_spent c k phase there same nobody =
        let x = at_caller cs c (record { key = k; phase = phase }) there in
        let y : CallerView = x.0 in
        let its_slot : y.key.slot ≡ slot = ap (λ (h : Caller). h.key.slot) x.2 ∙ same in
        let its_phase : y.phase ≡ phase = ap (λ (h : Caller). h.phase) x.2 in
        spent_if phase (λ unspent.
        let one = tally-one (is_holder slot) cs c y x.1 (ap (λ (b : Bool). b && not (is_spent y.phase)) (eq-eqb y.key.slot slot its_slot) ∙ ap (λ (p : Phase). not (is_spent p)) its_phase ∙ ap not unspent) in
        omega arith)

    -- a node is born if the active word is fresh
    pub birth : m.fresh ≡ Some slot → hold < 18446744073709551616
        → Shows (set words (hold_index slot) ((hold + (one_generation + linked)) % 2 ^ 64))
        (record (on_hold m) { slots = set m.slots slot (record { generation = state.generation + 1; marks = Some fresh_marks }); at_birth = m.loads }) cs
    birth is_fresh small =
        let f = shows.fresh slot is_fresh in
        let u = unheld f.2 in
        let nobody = u.0 in let no_pins = u.1 in let gone = u.2 in let spare = u.3 in
        let new : ℕ = (hold + (one_generation + linked)) % 2 ^ 64 in
        let node : SlotState = record { generation = state.generation + 1; marks = Some fresh_marks } in
        let g : ℕ = state.generation in
        let plain : bit (is_some state.marks) linked ≡ 0 = ap (λ (b : Bool). bit b linked) gone in
        let was : hold ≡ g * 4294967296 + bit (is_some state.marks) linked + (holders slot cs + pins_in m.pinning slot) = shown_holds.0 in
        let now : (hold + 6442450944) % 18446744073709551616 ≡ (g + 1) * 4294967296 + 2147483648 + (holders slot cs + pins_in m.pinning slot) = omega arith in
        let key : Key = record { slot = slot; generation = g + 1 } in
        changed (set words (hold_index slot) new) node m.pinning None [] m.loads None (inr nobody)
        (length-set words (hold_index slot) new)
        (subst (λ (x : ℕ). ShowsMarks x (Some fresh_marks) (users slot cs) (hiders slot cs)) (sym (active_kept slot new near ∙ f.1))
        (subst (λ (x : ℕ). ShowsMarks bias (Some fresh_marks) x (hiders slot cs)) (sym u.4) (subst (λ (x : ℕ). ShowsMarks bias (Some fresh_marks) 0 x) (sym u.5) (false, refl, (λ _. refl), omega arith))))
        (subst (λ (x : ℕ). ShowsHolds m.limit x node (holders slot cs + pins_in m.pinning slot)) (sym (this_hold new)) (now, shown_holds.1))
        (λ k ne short. (active_kept k new short, other_hold k new ne, refl))
        (nothing_loaded _) (nothing_fresh _) (no_look _)
        (born_keeps (bare_world m cs) key shows.safe (record {
          last = g;
          unlinked = its ∙ ap (λ (o : Option NodeFlags). let x : SlotState = record { generation = g; marks = o } in Some x) (unlinked_state state.marks gone);
          next = refl;
          unheld = λ c k phase there same. only_spent c k phase there same nobody;
        }))

    -- a node whose active word was found drained leaves the tree
    pub unlink : (x : NodeFlags) (found : ℕ) → state.marks ≡ Some x → m.looked ≡ Some (record { slot = slot; word = found }) → is_drained found ≡ true → hold < 18446744073709551616
        → Shows (set words (hold_index slot) ((hold + (2 ^ 64 - linked)) % 2 ^ 64))
        (record (on_hold m) { slots = set m.slots slot (record { generation = state.generation; marks = None }) }) cs
    unlink x found there was_looked hit small =
        let d = shows.looked (record { slot = slot; word = found }) state was_looked hit its in
        let new : ℕ = (hold + (2 ^ 64 - linked)) % 2 ^ 64 in
        let node : SlotState = record { generation = state.generation; marks = None } in
        let g : ℕ = state.generation in
        let its_bit : bit (is_some state.marks) linked ≡ 2147483648 = ap (λ (o : Option NodeFlags). bit (is_some o) linked) there in
        let was : hold ≡ g * 4294967296 + bit (is_some state.marks) linked + (holders slot cs + pins_in m.pinning slot) = shown_holds.0 in
        let now : (hold + 18446744071562067968) % 18446744073709551616 ≡ g * 4294967296 + 0 + (holders slot cs + pins_in m.pinning slot) = omega arith in
        let s = shows.marks slot state its in
        let dead : are_live state.marks ≡ false = not_both state.marks d.0 in
        let key : Key = last_key slot state in
        let known : marks (bare_world m cs) key ≡ Some x = ap (λ o. marks_in o g) its ∙ shown g state.marks ∙ there in
        changed (set words (hold_index slot) new) node m.pinning None [] m.at_birth None (inl refl)
        (length-set words (hold_index slot) new)
        (s.0, active_kept slot new near ∙ s.1 ∙ ap (λ (b : Bool). users slot cs + bit (not b) bias + bit s.0 doom + hiders slot cs * hide) dead, (λ e. absurd (let y : false ≡ true = e in cc)), s.3)
        (subst (λ (y : ℕ). ShowsHolds m.limit y node (holders slot cs + pins_in m.pinning slot)) (sym (this_hold new)) (now, shown_holds.1))
        (λ k ne short. (active_kept k new short, other_hold k new ne, refl))
        (nothing_loaded _) (nothing_fresh _) (no_look _)
        (marks_keep (bare_world m cs) key x None shows.safe known (λ _. refl) (inl d.1))
      where
        not_both : (o : Option NodeFlags) → are_doomed o ≡ true → are_live o ≡ false
        not_both None e = refl
        not_both (Some y) e = off y.activated y.doomed e
          where
            off : (a b : Bool) → b ≡ true → (a && not b) ≡ false
            off true true e = refl
            off false true e = refl
            off true false e = absurd (cc)
            off false false e = refl

    -- the marks of the node change with its active word
    remark : (x : NodeFlags) (change : NodeFlags → NodeFlags) (new : ℕ) → state.marks ≡ Some x → ShowsMarks new (Some (change x)) (users slot cs) (hiders slot cs)
        → (e : Event) → core.BareStep (bare_world m cs) e (core.with_marks (bare_world m cs) (last_key slot state) (Some (change x)))
        → Shows (set words (active_index slot) new) (record (on_active m) { slots = set m.slots slot (record { generation = state.generation; marks = Some (change x) }) }) cs
    remark x change new there is e event =
        let node : SlotState = record { generation = state.generation; marks = Some (change x) } in
        let n = near in let wide = shows.wide in
        changed (set words (active_index slot) new) node m.pinning None m.loads m.at_birth None (inl refl)
        (length-set words (active_index slot) new)
        (subst (λ (y : ℕ). ShowsMarks y (Some (change x)) (users slot cs) (hiders slot cs)) (sym (get_or-set_same words (active_index slot) new 0 (omega arith))) is)
        (subst (λ (y : ℕ). ShowsHolds m.limit y node (holders slot cs + pins_in m.pinning slot)) (sym (hold_kept slot new))
        (shown_holds.0 ∙ ap (λ (o : Option NodeFlags). state.generation * one_generation + bit (is_some o) linked + (holders slot cs + pins_in m.pinning slot)) there, shown_holds.1))
        (λ k ne short. (get_or-set_other words (active_index slot) (active_index k) new 0 (λ e. ne (omega arith)), hold_kept k new, refl))
        (λ i load e. subst (λ (y : ℕ). StillHolds m.limit load.word y) (sym (hold_kept load.slot new)) (shows.loads i load e))
        (nothing_fresh _) (no_look _)
        (step_keeps (bare_world m cs) e (core.with_marks (bare_world m cs) (last_key slot state) (Some (change x))) shows.safe event)

    pub marks_known : (x : NodeFlags) → state.marks ≡ Some x → marks (bare_world m cs) (last_key slot state) ≡ Some x
    marks_known x there = ap (λ o. marks_in o state.generation) its ∙ shown state.generation state.marks ∙ there

    pub rise : state.marks ≡ Some fresh_marks → Shows (set words (active_index slot) ((active_word words slot + (2 ^ 64 - bias)) % 2 ^ 64)) (record (on_active m) { slots = set m.slots slot (record { generation = state.generation; marks = Some live_marks }) }) cs
    rise there =
        let n : ℕ = users slot cs in
        let word : ℕ = active_word words slot in
        let h : ℕ = hiders slot cs in
        let s : ShowsMarks word (Some fresh_marks) n h = subst (λ (o : Option NodeFlags). ShowsMarks word o n h) there (shows.marks slot state its) in
        let plain : bit s.0 doom ≡ 0 = ap (λ (b : Bool). bit b doom) (s.2 refl) in
        let few = users_few in
        let one = s.3 in
        let was : word ≡ n + 4294967296 + bit s.0 doom + h * hide = s.1 in
        let now : (word + 18446744069414584320) % 18446744073709551616 ≡ n + 0 + 0 + h * hide = omega arith in
        remark fresh_marks activated_marks _ there (false, now, (λ _. refl), s.3) (Rise (last_key slot state)) (marks_known fresh_marks there, refl)

    pub mark_node : (x : NodeFlags) (k : ℕ) → state.marks ≡ Some x → x.doomed ≡ false → k ≡ bit x.activated bias + doom
        → Shows (set words (active_index slot) ((active_word words slot + k) % 2 ^ 64)) (record (on_active m) { slots = set m.slots slot (record { generation = state.generation; marks = Some (doomed_marks x) }) }) cs
    mark_node x k there undoomed bits =
        let n : ℕ = users slot cs in
        let word : ℕ = active_word words slot in
        let h : ℕ = hiders slot cs in
        let s : ShowsMarks word (Some x) n h = subst (λ (o : Option NodeFlags). ShowsMarks word o n h) there (shows.marks slot state its) in
        remark x doomed_marks _ there (true, marked_word x.activated x.doomed s.0 n h word k undoomed (s.2 refl) users_few s.3 s.1 bits, (λ _. refl), s.3) (Mark (last_key slot state)) (x, marks_known x there, undoomed, refl)
      where
        marked_word : (a d d' : Bool) (n h word k : ℕ) → d ≡ false → d' ≡ d → n ≤ 65535 → h ≤ 1 → word ≡ n + bit (not (a && not d)) bias + bit d' doom + h * hide → k ≡ bit a bias + doom → (word + k) % 18446744073709551616 ≡ n + bit (not (a && false)) bias + doom + h * hide
        marked_word a true d' n h word k u e few one is bits = absurd (cc)
        marked_word a false true n h word k u e few one is bits = absurd (cc)
        marked_word true false false n h word k u e few one is bits = omega arith
        marked_word false false false n h word k u e few one is bits = omega arith
