-- What lasts: a slot's generation never goes back, and a drained key stays drained.
use Rattle.std.proofs.Common.{◌≡◌, ◌≢◌, inl, inr, ℕ, ◌+◌, ◌≤◌, List, refl, ap, arith, sym, ◌∙◌, subst, Bool, true, false, cond}
use Rattle.std.specs.Prelude.{slice_get, Option, None, Some, IsTrue, ◌&&◌, not}
use Rattle.std.proofs.lemmas.Option.{same_Some, slice_get_within}
use Rattle.std.proofs.lemmas.Bool.Decides.{eqb_tells}
use Rattle.kf_core.specs.declared.key.Key.{Key}
use Rattle.kf_core.specs.declared.caller.Phase.{Phase}
use Rattle.kf_core.specs.declared.caller.Phase.TheVariants.{Still, Turned, Running, Broken, Restored, Drained, Parted, Hiding, Hidden, Spent}
use Rattle.kf_core.specs.declared.caller.Caller.{Caller}
use Rattle.kf_core.specs.declared.slot.NodeFlags.{NodeFlags}
use Rattle.kf_core.specs.declared.slot.SlotState.{SlotState}
use Rattle.kf_core.specs.declared.event.Event.{Event}
use Rattle.kf_core.specs.declared.event.Event.TheVariants.{Born, Rise, Mark, Move, Pin, Enter, Leave, Break, Restore, Look, Unlink, Part, Hide, LookHidden, Show, Release, Undo}
use Rattle.kf_core.specs.Bare.{BareWorld, marks_in, marks, is_live, is_doomed, is_hidden, IsCaller}
use Rattle.kf_core.specs.Marks.{fresh_marks, live_marks, are_doomed}
use Rattle.kf_core.specs.Safe.{NoneRunning}
use Rattle.kf_core.specs.Steps.{with_phase, with_marks, with_caller, BareStep, MayBeBorn}
use Rattle.kf_core.proofs.Lists.{slice_get-set_same, slice_get-set_other, after_set, after_push}
use Rattle.kf_core.proofs.SlotStates.{live_or_doomed, doomed_not_live, in_place}
use Rattle.kf_core.proofs.Hiding.{live_has_marks}
use Rattle.kf_core.proofs.Keeping.{OneNew, each_new, caller, slot_state, same_key, linked_marks}

-- the slot of the key has reached the key's generation
pub record HasCome (w : BareWorld) (key : Key) : Type 0 where
  pub last : SlotState
  pub there : slice_get w.slots key.slot ≡ Some last
  pub come : key.generation ≤ last.generation

-- the key is doomed for good
pub record Lost (w : BareWorld) (key : Key) : Type 0 where
  pub doomed : IsTrue (is_doomed w key)
  pub come : HasCome w key

-- the key is doomed for good, and nobody is running on it
pub record Finished (w : BareWorld) (key : Key) : Type 0 where
  pub doomed : IsTrue (is_doomed w key)
  pub alone : NoneRunning w key
  pub come : HasCome w key

-- a slot that has reached a key still has after a write with a generation no smaller than before
pub written_come : (w : BareWorld) (key k : Key) (m : Option NodeFlags) (p : SlotState) → slice_get w.slots key.slot ≡ Some p → p.generation ≤ key.generation → HasCome w k → HasCome (with_marks w key m) k
written_come w key k m p is le h = elim (eqb_tells k.slot key.slot) [
  | inl s ↦ record {
    last = slot_state key.generation m;
    there = ap (λ x. slice_get (with_marks w key m).slots x) s.1 ∙ slice_get-set_same w.slots key.slot (slot_state key.generation m) (slice_get_within w.slots key.slot p is);
    come = (let e : h.last ≡ p = same_Some _ _ (sym h.there ∙ (ap (slice_get w.slots) s.1 ∙ is)) in
        let g : h.last.generation ≡ p.generation = ap (λ (x : SlotState). x.generation) e in
        let c : k.generation ≤ h.last.generation = h.come in
        omega arith);
  }
  | inr n ↦ record {
    last = h.last;
    there = slice_get-set_other w.slots key.slot k.slot (slot_state key.generation m) n.1 ∙ h.there;
    come = h.come;
  }
]

-- a slot that has reached a key still has after a linked node gets other marks
pub linked_come : (w : BareWorld) (key k : Key) (m : NodeFlags) (m' : Option NodeFlags) → marks w key ≡ Some m → HasCome w k → HasCome (with_marks w key m') k
linked_come w key k m m' e h = written_come w key k m' (slot_state key.generation (Some m)) (in_place (slice_get w.slots key.slot) key.generation m e) (omega arith) h

-- a slot that has reached a key still has after a birth
pub born_come : (w : BareWorld) (key k : Key) → MayBeBorn w key → HasCome w k → HasCome (with_marks w key (Some fresh_marks)) k
born_come w key k may h = written_come w key k (Some fresh_marks) (slot_state may.last None) may.unlinked (let e : key.generation ≡ may.last + 1 = may.next in omega arith) h

-- a generation never goes back
pub step_come : (w : BareWorld) (e : Event) (w' : BareWorld) (k : Key) → BareStep w e w' → HasCome w k → HasCome w' k
step_come w (Born key parent name node) w' k s h = subst (λ x. HasCome x k) (sym s.1) (born_come w key k s.0 h)
step_come w (Rise key) w' k s h = subst (λ x. HasCome x k) (sym s.1) (linked_come w key k fresh_marks (Some live_marks) s.0 h)
step_come w (Mark key) w' k s h = subst (λ x. HasCome x k) (sym s.3) (linked_come w key k s.0 (Some (record { activated = s.0.activated; doomed = true })) s.1 h)
step_come w (Move key dir name) w' k s h = subst (λ x. HasCome x k) (sym s) h
step_come w (Pin c key) w' k s h = subst (λ x. HasCome x k) (sym s.2) (record { last = h.last; there = h.there; come = h.come })
step_come w (Enter c) w' k s h = subst (λ x. HasCome x k) (sym s.4) (record { last = h.last; there = h.there; come = h.come })
step_come w (Leave c) w' k s h = subst (λ x. HasCome x k) (sym s.4) (record { last = h.last; there = h.there; come = h.come })
step_come w (Break c) w' k s h = subst (λ x. HasCome x k) (sym s.2) (record { last = h.last; there = h.there; come = h.come })
step_come w (Restore c) w' k s h = subst (λ x. HasCome x k) (sym s.2) (record { last = h.last; there = h.there; come = h.come })
step_come w (Look c) w' k s h = subst (λ x. HasCome x k) (sym s.1) (record { last = h.last; there = h.there; come = h.come })
step_come w (Unlink c) w' k s h = subst (λ x. HasCome x k) (sym s.3)
    (let m : (m : NodeFlags) × (marks w s.0 ≡ Some m) = linked_marks (marks w s.0) s.2 in linked_come w s.0 k m.0 None m.1 h)
step_come w (Part c) w' k s h = subst (λ x. HasCome x k) (sym s.1) (record { last = h.last; there = h.there; come = h.come })
step_come w (Hide c) w' k s h = subst (λ x. HasCome x k) (sym s.1) (record { last = h.last; there = h.there; come = h.come })
step_come w (LookHidden c) w' k s h = subst (λ x. HasCome x k) (sym s.1) (record { last = h.last; there = h.there; come = h.come })
step_come w (Show c) w' k s h = subst (λ x. HasCome x k) (sym s.2) (record { last = h.last; there = h.there; come = h.come })
step_come w (Release c) w' k s h = subst (λ x. HasCome x k) (sym s.4) (record { last = h.last; there = h.there; come = h.come })
step_come w (Undo c) w' k s h = subst (λ x. HasCome x k) (sym s) h

-- after a write to a slot, each key of it is doomed, except the written key if its new marks are not doomed
pub doomed_written : (w : BareWorld) (key k : Key) (m : Option NodeFlags) (p : SlotState) → slice_get w.slots key.slot ≡ Some p → k.slot ≡ key.slot → (key.generation ≡ k.generation → are_doomed m ≡ true) → is_doomed (with_marks w key m) k ≡ true
doomed_written w key k m p is s d =
    let there : slice_get (with_marks w key m).slots k.slot ≡ Some (slot_state key.generation m) = ap (λ x. slice_get (with_marks w key m).slots x) s ∙ slice_get-set_same w.slots key.slot (slot_state key.generation m) (slice_get_within w.slots key.slot p is) in
    ap (λ (o : Option SlotState). are_doomed (marks_in o k.generation)) there ∙ elim (eqb_tells key.generation k.generation) [
      | inl e ↦ ap (λ b. are_doomed (cond b m None)) e.0 ∙ d e.1
      | inr e ↦ ap (λ b. are_doomed (cond b m None)) e.0
    ]

pub doomed_elsewhere : (w : BareWorld) (key k : Key) (m : Option NodeFlags) → k.slot ≢ key.slot → is_doomed w k ≡ true → is_doomed (with_marks w key m) k ≡ true
doomed_elsewhere w key k m ne d = ap (λ (o : Option SlotState). are_doomed (marks_in o k.generation)) (slice_get-set_other w.slots key.slot k.slot (slot_state key.generation m) ne) ∙ d

pub linked_lost : (w : BareWorld) (key k : Key) (m : NodeFlags) (m' : Option NodeFlags) → marks w key ≡ Some m → (m.doomed ≡ true → are_doomed m' ≡ true) → Lost w k → Lost (with_marks w key m') k
linked_lost w key k m m' e dooms f = record {
  doomed = elim (eqb_tells k.slot key.slot) [
    | inl s ↦ doomed_written w key k m' (slot_state key.generation (Some m)) (in_place (slice_get w.slots key.slot) key.generation m e) s.1
        (λ g. dooms (let same : k ≡ key = same_key k key s.1 (sym g) in
        subst (λ (o : Option NodeFlags). are_doomed o ≡ true) e (subst (λ x. is_doomed w x ≡ true) same f.doomed)))
    | inr n ↦ doomed_elsewhere w key k m' n.1 f.doomed
  ];
  come = linked_come w key k m m' e f.come;
}

pub born_lost : (w : BareWorld) (key k : Key) → MayBeBorn w key → Lost w k → Lost (with_marks w key (Some fresh_marks)) k
born_lost w key k may f = record {
  doomed = elim (eqb_tells k.slot key.slot) [
    | inl s ↦ doomed_written w key k (Some fresh_marks) (slot_state may.last None) may.unlinked s.1
        (λ g. absurd (let e : f.come.last ≡ slot_state may.last None = same_Some _ _ (sym f.come.there ∙ (ap (slice_get w.slots) s.1 ∙ may.unlinked)) in
        let l : f.come.last.generation ≡ may.last = ap (λ (x : SlotState). x.generation) e in
        let c : k.generation ≤ f.come.last.generation = f.come.come in
        let n : key.generation ≡ may.last + 1 = may.next in
        omega arith))
    | inr n ↦ doomed_elsewhere w key k (Some fresh_marks) n.1 f.doomed
  ];
  come = born_come w key k may f.come;
}

-- a key that is doomed for good stays so when only callers change
caller_lost : (w : BareWorld) (cs : List Caller) (k : Key) → Lost w k → Lost (record { slots = w.slots; callers = cs }) k
caller_lost w cs k f = record { doomed = f.doomed; come = record { last = f.come.last; there = f.come.there; come = f.come.come } }

-- a key that is doomed for good stays so
pub step_lost : (w : BareWorld) (e : Event) (w' : BareWorld) (k : Key) → BareStep w e w' → Lost w k → Lost w' k
step_lost w (Born key parent name node) w' k s f = subst (λ x. Lost x k) (sym s.1) (born_lost w key k s.0 f)
step_lost w (Rise key) w' k s f = subst (λ x. Lost x k) (sym s.1) (linked_lost w key k fresh_marks (Some live_marks) s.0 (λ d. d) f)
step_lost w (Mark key) w' k s f = subst (λ x. Lost x k) (sym s.3) (linked_lost w key k s.0 (Some (record { activated = s.0.activated; doomed = true })) s.1 (λ _. refl) f)
step_lost w (Move key dir name) w' k s f = subst (λ x. Lost x k) (sym s) f
step_lost w (Pin c key) w' k s f = subst (λ x. Lost x k) (sym s.2) (caller_lost w (with_caller w key).callers k f)
step_lost w (Enter c) w' k s f = subst (λ x. Lost x k) (sym s.4) (caller_lost w _ k f)
step_lost w (Leave c) w' k s f = subst (λ x. Lost x k) (sym s.4) (caller_lost w _ k f)
step_lost w (Break c) w' k s f = subst (λ x. Lost x k) (sym s.2) (caller_lost w _ k f)
step_lost w (Restore c) w' k s f = subst (λ x. Lost x k) (sym s.2) (caller_lost w _ k f)
step_lost w (Look c) w' k s f = subst (λ x. Lost x k) (sym s.1) (caller_lost w _ k f)
step_lost w (Unlink c) w' k s f = subst (λ x. Lost x k) (sym s.3)
    (let m : (m : NodeFlags) × (marks w s.0 ≡ Some m) = linked_marks (marks w s.0) s.2 in linked_lost w s.0 k m.0 None m.1 (λ _. refl) f)
step_lost w (Part c) w' k s f = subst (λ x. Lost x k) (sym s.1) (caller_lost w _ k f)
step_lost w (Hide c) w' k s f = subst (λ x. Lost x k) (sym s.1) (caller_lost w _ k f)
step_lost w (LookHidden c) w' k s f = subst (λ x. Lost x k) (sym s.1) (caller_lost w _ k f)
step_lost w (Show c) w' k s f = subst (λ x. Lost x k) (sym s.2) (caller_lost w _ k f)
step_lost w (Release c) w' k s f = subst (λ x. Lost x k) (sym s.4) (caller_lost w _ k f)
step_lost w (Undo c) w' k s f = subst (λ x. Lost x k) (sym s) f

-- a key that is doomed for good is not live
pub lost_not_live : (w : BareWorld) (k : Key) → Lost w k → is_live w k ≡ false
lost_not_live w k f = ap (λ b. b && not (is_hidden w k)) (doomed_not_live (marks w k) f.doomed)

-- a finished key is doomed for good
lost : (w : BareWorld) (k : Key) → Finished w k → Lost w k
lost w k f = record { doomed = f.doomed; come = f.come }

pub linked_finished : (w : BareWorld) (key k : Key) (m : NodeFlags) (m' : Option NodeFlags) → marks w key ≡ Some m → (m.doomed ≡ true → are_doomed m' ≡ true) → Finished w k → Finished (with_marks w key m') k
linked_finished w key k m m' e dooms f =
    let d : Lost (with_marks w key m') k = linked_lost w key k m m' e dooms (lost w k f) in
    record { doomed = d.doomed; alone = f.alone; come = d.come }

pub born_finished : (w : BareWorld) (key k : Key) → MayBeBorn w key → Finished w k → Finished (with_marks w key (Some fresh_marks)) k
born_finished w key k may f =
    let d : Lost (with_marks w key (Some fresh_marks)) k = born_lost w key k may (lost w k f) in
    record { doomed = d.doomed; alone = f.alone; come = d.come }

-- a finished key stays so if one caller goes to another phase or is new, and runs only if the key is live
pub caller_finished : (w : BareWorld) (cs : List Caller) (key : Key) (phase : Phase) (k : Key) → OneNew w.callers key phase cs → (phase ≡ Running → is_live w key ≡ true) → Finished w k → Finished (record { slots = w.slots; callers = cs }) k
caller_finished w cs key phase k new runs f = record {
  doomed = f.doomed;
  alone = λ c h. each_new w.callers cs key phase new (λ k' p'. k' ≡ k → p' ≡ Running → ⊥)
      (λ ek ep. live_or_doomed (marks w k) (live_has_marks w k (subst (λ x. is_live w x ≡ true) ek (runs ep))) f.doomed)
      (λ d k' p' h' ek ep. f.alone d (subst (λ x. IsCaller w d x Running) ek (subst (λ x. IsCaller w d k' x) ep h')))
      c k Running h refl refl;
  come = record { last = f.come.last; there = f.come.there; come = f.come.come };
}

moved_finished : (w : BareWorld) (c : ℕ) (key : Key) (phase : Phase) (k : Key) → (phase ≡ Running → is_live w key ≡ true) → Finished w k → Finished (with_phase w c key phase) k
moved_finished w c key phase k runs f = caller_finished w (with_phase w c key phase).callers key phase k (λ d y h. after_set w.callers c d (caller key phase) y h) runs f

entered_runs : (b : Bool) → cond b Running Turned ≡ Running → b ≡ true
entered_runs true e = refl
entered_runs false e = cc

-- a finished key stays so
pub step_finished : (w : BareWorld) (e : Event) (w' : BareWorld) (k : Key) → BareStep w e w' → Finished w k → Finished w' k
step_finished w (Born key parent name node) w' k s f = subst (λ x. Finished x k) (sym s.1) (born_finished w key k s.0 f)
step_finished w (Rise key) w' k s f = subst (λ x. Finished x k) (sym s.1) (linked_finished w key k fresh_marks (Some live_marks) s.0 (λ d. d) f)
step_finished w (Mark key) w' k s f = subst (λ x. Finished x k) (sym s.3) (linked_finished w key k s.0 (Some (record { activated = s.0.activated; doomed = true })) s.1 (λ _. refl) f)
step_finished w (Move key dir name) w' k s f = subst (λ x. Finished x k) (sym s) f
step_finished w (Pin c key) w' k s f = subst (λ x. Finished x k) (sym s.2) (caller_finished w (with_caller w key).callers key Still k (λ d y h. after_push w.callers d (caller key Still) y h) (λ e. absurd (let x : Still ≡ Running = e in cc)) f)
step_finished w (Enter c) w' k s f = subst (λ x. Finished x k) (sym s.4) (moved_finished w c s.0 (cond (is_live w s.0) Running Turned) k (entered_runs (is_live w s.0)) f)
step_finished w (Leave c) w' k s f = subst (λ x. Finished x k) (sym s.4) (moved_finished w c s.0 Still k (λ e. absurd (let x : Still ≡ Running = e in cc)) f)
step_finished w (Break c) w' k s f = subst (λ x. Finished x k) (sym s.2) (moved_finished w c s.0 Broken k (λ e. absurd (let x : Broken ≡ Running = e in cc)) f)
step_finished w (Restore c) w' k s f = subst (λ x. Finished x k) (sym s.2) (moved_finished w c s.0 Restored k (λ e. absurd (let x : Restored ≡ Running = e in cc)) f)
step_finished w (Look c) w' k s f = subst (λ x. Finished x k) (sym s.1) (moved_finished w c s.0.key Drained k (λ e. absurd (let x : Drained ≡ Running = e in cc)) f)
step_finished w (Unlink c) w' k s f = subst (λ x. Finished x k) (sym s.3)
    (let m : (m : NodeFlags) × (marks w s.0 ≡ Some m) = linked_marks (marks w s.0) s.2 in linked_finished w s.0 k m.0 None m.1 (λ _. refl) f)
step_finished w (Part c) w' k s f = subst (λ x. Finished x k) (sym s.1) (moved_finished w c s.0.key Parted k (λ e. absurd (let x : Parted ≡ Running = e in cc)) f)
step_finished w (Hide c) w' k s f = subst (λ x. Finished x k) (sym s.1) (moved_finished w c s.0.key Hiding k (λ e. absurd (let x : Hiding ≡ Running = e in cc)) f)
step_finished w (LookHidden c) w' k s f = subst (λ x. Finished x k) (sym s.1) (moved_finished w c s.0.key Hidden k (λ e. absurd (let x : Hidden ≡ Running = e in cc)) f)
step_finished w (Show c) w' k s f = subst (λ x. Finished x k) (sym s.2) (moved_finished w c s.0 Still k (λ e. absurd (let x : Still ≡ Running = e in cc)) f)
step_finished w (Release c) w' k s f = subst (λ x. Finished x k) (sym s.4) (moved_finished w c s.0 Spent k (λ e. absurd (let x : Spent ≡ Running = e in cc)) f)
step_finished w (Undo c) w' k s f = subst (λ x. Finished x k) (sym s) f
