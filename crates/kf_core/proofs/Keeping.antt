-- Each step from a safe world leads to a safe world.
use Rattle.std.proofs.Common.{◌≡◌, ◌≢◌, ◌⊎◌, inl, inr, ℕ, List, refl, ap, slice_set, sym, ◌∙◌, subst, Bool, true, false, cond}
use Rattle.std.specs.Prelude.{slice_get, Option, None, Some, is_some, IsTrue, IsFalse}
use Rattle.std.proofs.lemmas.Option.{same_Some, slice_get_within}
use Rattle.std.proofs.lemmas.Bool.Decides.{eqb_tells}
use Rattle.kf_core.specs.declared.key.Key.{Key}
use Rattle.kf_core.specs.declared.caller.Phase.{Phase}
use Rattle.kf_core.specs.declared.caller.Phase.TheVariants.{Still, Turned, Running, Drained, Parted, Hiding, Hidden, Spent}
use Rattle.kf_core.specs.declared.caller.Caller.{Caller}
use Rattle.kf_core.specs.declared.slot.NodeFlags.{NodeFlags}
use Rattle.kf_core.specs.declared.slot.SlotState.{SlotState}
use Rattle.kf_core.specs.declared.event.Event.{Event}
use Rattle.kf_core.specs.declared.event.Event.TheVariants.{Born, Rise, Mark, Move, Pin, Enter, Leave, Break, Restore, Look, Unlink, Part, Hide, LookHidden, Show, Release, Undo}
use Rattle.kf_core.specs.Bare.{BareWorld, marks_in, marks, is_linked, is_live, is_doomed, is_hidden, IsCaller, IsLast}
use Rattle.kf_core.specs.Marks.{fresh_marks, live_marks, are_live, are_doomed}
use Rattle.kf_core.specs.Phases.{saw_drain, saw_unused, is_waiting, has_reference, is_hiding, may_release}
use Rattle.kf_core.specs.Safe.{Safe, NoneRunning}
use Rattle.kf_core.specs.Steps.{with_phase, with_marks, with_caller, BareStep, NoReference, MayBeBorn, IsHeld}
use Rattle.kf_core.proofs.Lists.{slice_get-set_same, slice_get-set_other, after_set, after_push}
use Rattle.kf_core.proofs.SlotStates.{live_or_doomed, live_linked, doomed_if_gone, in_place, shown}
use Rattle.kf_core.proofs.Hiding.{OneHides, hider_hidden, live_has_marks, live_is_shown, drain_unused, unused_why, not_both, one_after_set, one_after_push}

abbrev pub caller : Key → Phase → Caller
caller key phase = record { key = key; phase = phase }

-- a caller has one key and one phase
pub one_key : (w : BareWorld) (c : ℕ) (k l : Key) (p q : Phase) → IsCaller w c k p → IsCaller w c l q → (k ≡ l) × (p ≡ q)
one_key w c k l p q h g =
    let e : ◌≡◌ {A = Caller} (record { key = k; phase = p }) (record { key = l; phase = q }) = same_Some _ _ (sym h ∙ g) in
    (ap (λ (x : Caller). x.key) e, ap (λ (x : Caller). x.phase) e)

-- the relation holds for the key and the phase of each caller
abbrev pub Each : List Caller → (Key → Phase → Type 0) → Type 0
Each cs R = (c : ℕ) (key : Key) (phase : Phase) → slice_get cs c ≡ Some (record { key = key; phase = phase }) → R key phase

-- each caller of the new list has this key and this phase, or was at its place in the old list
abbrev pub OneNew : List Caller → Key → Phase → List Caller → Type 0
OneNew cs key phase cs' = (c : ℕ) (y : Caller) → slice_get cs' c ≡ Some y → (◌≡◌ {A = Caller} (record { key = key; phase = phase }) y) ⊎ (slice_get cs c ≡ Some y)

pub each_new : (cs cs' : List Caller) (key : Key) (phase : Phase) → OneNew cs key phase cs' → (R : Key → Phase → Type 0) → R key phase → Each cs R → Each cs' R
each_new cs cs' key phase new R r old c k p h = elim (new c (record { key = k; phase = p }) h) [
  | inl e ↦ subst (λ (y : Caller). R y.key y.phase) e r
  | inr e ↦ old c k p e
]

pub running_not_past : (p : Phase) → p ≡ Running → saw_unused p ≡ true → ⊥
running_not_past p e h = let x : saw_unused Running ≡ true = subst (λ q. saw_unused q ≡ true) e h in cc

-- a node is not live if somebody saw that it is not used
pub live_not_past : (w : BareWorld) (c : ℕ) (key : Key) (p : Phase) → Safe w → IsCaller w c key p → saw_unused p ≡ true → is_live w key ≡ true → ⊥
live_not_past w c key p safe there past live = elim (unused_why p past) [
  | inl drained ↦ live_or_doomed (marks w key) (live_has_marks w key live) (safe.drain_doomed c key p there drained)
  | inr hiding ↦ not_both (is_hidden w key) (hider_hidden w c key p there hiding) (live_is_shown w key live)
]

module _ (w : BareWorld) (cs : List Caller) (key : Key) (phase : Phase)
    (safe : Safe w) (new : OneNew w.callers key phase cs)
    (runs : phase ≡ Running → IsTrue (is_live w key))
    (doomed : IsTrue (saw_drain phase) → IsTrue (is_doomed w key))
    (alone : IsTrue (saw_unused phase) → NoneRunning w key)
    (gone : phase ≡ Parted → IsFalse (is_linked w key))
    (held : phase ≢ Spent → IsLast w key.slot key.generation)
    (one : OneHides cs) where
  -- the world stays safe if one caller goes to another phase or is new, and the rule allows its phase
  pub caller_keeps : Safe (record { slots = w.slots; callers = cs })
  caller_keeps = record {
    none_running = λ c k p h past d run.
        each_new w.callers cs key phase new (λ k p. IsTrue (saw_unused p) → Each cs (λ k' p'. k' ≡ k → p' ≡ Running → ⊥))
        (λ past. each_new w.callers cs key phase new (λ k' p'. k' ≡ key → p' ≡ Running → ⊥)
        (λ _ e. running_not_past phase e past)
        (λ d k' p' h' ek ep. alone past d (subst (λ x. IsCaller w d x Running) ek (subst (λ x. IsCaller w d k' x) ep h'))))
        (λ c k p h past. each_new w.callers cs key phase new (λ k' p'. k' ≡ k → p' ≡ Running → ⊥)
        (λ ek ep. live_not_past w c k p safe h past (subst (λ x. is_live w x ≡ true) ek (runs ep)))
        (λ d k' p' h' ek ep. safe.none_running c k p h past d (subst (λ x. IsCaller w d x Running) ek (subst (λ x. IsCaller w d k' x) ep h'))))
        c k p h past d k Running run refl refl;
    drain_doomed = each_new w.callers cs key phase new (λ k p. IsTrue (saw_drain p) → IsTrue (is_doomed w k)) doomed safe.drain_doomed;
    parted_gone = λ c k h. each_new w.callers cs key phase new (λ k p. p ≡ Parted → IsFalse (is_linked w k)) gone (λ c k p h e. safe.parted_gone c k (subst (λ x. IsCaller w c k x) e h)) c k Parted h refl;
    held_last = each_new w.callers cs key phase new (λ k p. p ≢ Spent → IsLast w k.slot k.generation) held safe.held_last;
    one_hides = one;
    running_linked = λ c k h. each_new w.callers cs key phase new (λ k p. p ≡ Running → IsTrue (is_linked w k)) (λ e. live_linked (marks w key) (live_has_marks w key (runs e))) (λ c k p h e. safe.running_linked c k (subst (λ x. IsCaller w c k x) e h)) c k Running h refl;
  }

-- what stays true of a caller's key when slots change
pub record Remains (w : BareWorld) (ps : List SlotState) (key : Key) (phase : Phase) : Type 0 where
  pub doomed : IsTrue (is_doomed w key) → IsTrue (is_doomed (record { slots = ps; callers = w.callers }) key)
  pub gone : IsFalse (is_linked w key) → IsFalse (is_linked (record { slots = ps; callers = w.callers }) key)
  pub last : IsLast w key.slot key.generation → IsLast (record { slots = ps; callers = w.callers }) key.slot key.generation
  pub linked : phase ≡ Running → IsTrue (is_linked w key) → IsTrue (is_linked (record { slots = ps; callers = w.callers }) key)

past_not_spent : (p : Phase) → saw_drain p ≡ true → p ≢ Spent
past_not_spent p h e = let x : saw_drain Spent ≡ true = subst (λ q. saw_drain q ≡ true) e h in cc

pub slots_keep : (w : BareWorld) (ps : List SlotState) → Safe w → Each w.callers (λ key phase. phase ≢ Spent → Remains w ps key phase) → Safe (record { slots = ps; callers = w.callers })
slots_keep w ps safe keeps = record {
  none_running = safe.none_running;
  drain_doomed = λ c k p h past. (keeps c k p h (past_not_spent p past)).doomed (safe.drain_doomed c k p h past);
  parted_gone = λ c k h. (keeps c k Parted h (λ e. cc)).gone (safe.parted_gone c k h);
  held_last = λ c k p h holds. (keeps c k p h holds).last (safe.held_last c k p h holds);
  running_linked = λ c k h. (keeps c k Running h (λ e. cc)).linked refl (safe.running_linked c k h);
  one_hides = safe.one_hides;
}

pub same_key : (a b : Key) → a.slot ≡ b.slot → a.generation ≡ b.generation → a ≡ b
same_key a b s g = ap (λ (x : ℕ). record { slot = x; generation = a.generation }) s ∙ ap (λ (x : ℕ). record { slot = b.slot; generation = x }) g

-- the state of a slot with this generation and these marks
abbrev pub slot_state : ℕ → Option NodeFlags → SlotState
slot_state g m = record { generation = g; marks = m }

-- a change of another slot leaves a key as it is
pub other_remains : (w : BareWorld) (slot : ℕ) (p : SlotState) (key : Key) (phase : Phase) → key.slot ≢ slot → Remains w (slice_set w.slots slot p) key phase
other_remains w slot p key phase ne =
    let e : slice_get w.slots key.slot ≡ slice_get (slice_set w.slots slot p) key.slot = sym (slice_get-set_other w.slots slot key.slot p ne) in
    record {
      doomed = λ h. subst (λ (o : Option SlotState). are_doomed (marks_in o key.generation) ≡ true) e h;
      gone = λ h. subst (λ (o : Option SlotState). is_some (marks_in o key.generation) ≡ false) e h;
      last = λ h. (h.0, sym e ∙ h.1, h.2);
      linked = λ _ h. subst (λ (o : Option SlotState). is_some (marks_in o key.generation) ≡ true) e h;
    }

-- what the slot of a linked node has after other marks are written
pub written : (w : BareWorld) (key : Key) (m : NodeFlags) (m' : Option NodeFlags) → marks w key ≡ Some m → slice_get (with_marks w key m').slots key.slot ≡ Some (record { generation = key.generation; marks = m' })
written w key m m' h = slice_get-set_same w.slots key.slot (record { generation = key.generation; marks = m' }) (slice_get_within w.slots key.slot _ (in_place (slice_get w.slots key.slot) key.generation m h))

pub marks_written : (w : BareWorld) (key : Key) (m : NodeFlags) (m' : Option NodeFlags) → marks w key ≡ Some m → marks (with_marks w key m') key ≡ m'
marks_written w key m m' h = ap (λ (o : Option SlotState). marks_in o key.generation) (written w key m m' h) ∙ shown key.generation m'

-- what is true of a caller's key stays true if the linked node gets other marks, but stays doomed if it was,
-- and linked if the caller is running on it
pub own_remains : (w : BareWorld) (key : Key) (phase : Phase) (m : NodeFlags) (m' : Option NodeFlags) → marks w key ≡ Some m → (m.doomed ≡ true → are_doomed m' ≡ true) → (phase ≡ Running → is_some m' ≡ true) → Remains w (with_marks w key m').slots key phase
own_remains w key phase m m' h dooms links =
    let e : marks (with_marks w key m') key ≡ m' = marks_written w key m m' h in
    record {
      doomed = λ d. subst (λ o. are_doomed o ≡ true) (sym e) (dooms (subst (λ o. are_doomed o ≡ true) h d));
      gone = λ g. absurd (let x : true ≡ false = subst (λ (o : Option NodeFlags). is_some o ≡ false) h g in cc);
      last = λ _. (record { generation = key.generation; marks = m' }, written w key m m' h, refl);
      linked = λ r _. subst (λ (o : Option NodeFlags). is_some o ≡ true) (sym e) (links r);
    }

-- a caller that holds the slot of a linked node holds that node
pub holds_linked : (w : BareWorld) (key k : Key) (m : NodeFlags) → marks w key ≡ Some m → IsLast w k.slot k.generation → k.slot ≡ key.slot → key ≡ k
holds_linked w key k m h last s =
    let there : slice_get w.slots k.slot ≡ Some (slot_state key.generation (Some m)) = subst (λ x. slice_get w.slots x ≡ Some (slot_state key.generation (Some m))) (sym s) (in_place (slice_get w.slots key.slot) key.generation m h) in
    let same : last.0 ≡ slot_state key.generation (Some m) = same_Some _ _ (sym last.1 ∙ there) in
    same_key key k (sym s) (sym (ap (λ (p : SlotState). p.generation) same) ∙ last.2)

-- the world stays safe if a linked node gets other marks, but stays doomed if it was, and linked if a caller
-- is running on it
pub marks_keep : (w : BareWorld) (key : Key) (m : NodeFlags) (m' : Option NodeFlags) → Safe w → marks w key ≡ Some m → (m.doomed ≡ true → are_doomed m' ≡ true) → (NoneRunning w key ⊎ (is_some m' ≡ true)) → Safe (with_marks w key m')
marks_keep w key m m' safe h dooms links = slots_keep w (with_marks w key m').slots safe (λ c k p is holds. elim (eqb_tells k.slot key.slot) [
  | inl s ↦ (let e : key ≡ k = holds_linked w key k m h (safe.held_last c k p is holds) s.1 in
      subst (λ x. Remains w (with_marks w key m').slots x p) e (own_remains w key p m m' h dooms
      (λ run. elim links [ inl none ↦ absurd (none c (subst (λ x. IsCaller w c x Running) (sym e) (subst (λ x. IsCaller w c k x) run is))) | inr some ↦ some ])))
  | inr n ↦ other_remains w key.slot (slot_state key.generation m') k p n.1
])

pub born_keeps : (w : BareWorld) (key : Key) → Safe w → MayBeBorn w key → Safe (with_marks w key (Some fresh_marks))
born_keeps w key safe may = slots_keep w (with_marks w key (Some fresh_marks)).slots safe (λ c k p is holds. elim (eqb_tells k.slot key.slot) [
  | inl s ↦ absurd (holds (may.unheld c k p is s.1))
  | inr n ↦ other_remains w key.slot (slot_state key.generation (Some fresh_marks)) k p n.1
])

-- what follows from a caller's phase
pub waiting_holds : (p : Phase) → is_waiting p ≡ true → p ≢ Spent
waiting_holds p h e = let x : is_waiting Spent ≡ true = subst (λ q. is_waiting q ≡ true) e h in cc

counted_holds : (p : Phase) → has_reference p ≡ true → p ≢ Spent
counted_holds p h e = let x : has_reference Spent ≡ true = subst (λ q. has_reference q ≡ true) e h in cc

entered_runs : (b : Bool) → cond b Running Turned ≡ Running → b ≡ true
entered_runs true e = refl
entered_runs false e = cc

entered_not_past : (b : Bool) → saw_unused (cond b Running Turned) ≡ true → ⊥
entered_not_past true e = cc
entered_not_past false e = cc

entered_not_hiding : (b : Bool) → is_hiding (cond b Running Turned) ≡ true → ⊥
entered_not_hiding true e = cc
entered_not_hiding false e = cc

-- the world stays safe if a caller goes to a phase in which it is not running and has not seen that nobody is
plainly : (w : BareWorld) (c : ℕ) (key : Key) (from to : Phase) → Safe w → IsCaller w c key from → from ≢ Spent → (to ≡ Running → ⊥) → saw_unused to ≡ false → (is_hiding to ≡ true → (is_hiding from ≡ true) ⊎ (is_hidden w key ≡ false)) → Safe (with_phase w c key to)
plainly w c key from to safe was held not_running not_past hiding = caller_keeps w (with_phase w c key to).callers key to safe
    (λ d y h. after_set w.callers c d (caller key to) y h)
    (λ e. absurd (not_running e))
    (λ past. absurd (let x : true ≡ false = sym (drain_unused to past) ∙ not_past in cc))
    (λ past. absurd (let x : true ≡ false = sym past ∙ not_past in cc))
    (λ e. absurd (let x : saw_unused Parted ≡ false = subst (λ q. saw_unused q ≡ false) e not_past in cc))
    (λ _. safe.held_last c key from was held)
    (one_after_set w c key from to safe.one_hides was hiding)

-- the world stays safe if a caller goes on to see the drain, or that the node has left the tree
past_now : (w : BareWorld) (c : ℕ) (key : Key) (from to : Phase) → Safe w → IsCaller w c key from → from ≢ Spent → (to ≡ Running → ⊥) → (IsTrue (saw_drain to) → IsTrue (is_doomed w key)) → NoneRunning w key → (to ≡ Parted → IsFalse (is_linked w key)) → (is_hiding to ≡ true → (is_hiding from ≡ true) ⊎ (is_hidden w key ≡ false)) → Safe (with_phase w c key to)
past_now w c key from to safe was held not_running doomed alone gone hiding = caller_keeps w (with_phase w c key to).callers key to safe
    (λ d y h. after_set w.callers c d (caller key to) y h)
    (λ e. absurd (not_running e))
    doomed
    (λ _. alone)
    gone
    (λ _. safe.held_last c key from was held)
    (one_after_set w c key from to safe.one_hides was hiding)

-- nobody has a reference, so nobody is running
pub none_running : (w : BareWorld) (key : Key) → NoReference w key → NoneRunning w key
none_running w key none c h = let x : has_reference Running ≡ false = none c Running h in cc

-- the world stays safe after a try that gives a reference only if the node is live
entered : (w : BareWorld) (c : ℕ) (key : Key) (from : Phase) (given : Bool) → (given ≡ true → is_live w key ≡ true) → Safe w → IsCaller w c key from → from ≢ Spent → Safe (with_phase w c key (cond given Running Turned))
entered w c key from given live safe was held = caller_keeps w (with_phase w c key (cond given Running Turned)).callers key (cond given Running Turned) safe
    (λ d y h. after_set w.callers c d (caller key (cond given Running Turned)) y h)
    (λ e. live (entered_runs given e))
    (λ past. absurd (entered_not_past given (drain_unused (cond given Running Turned) past)))
    (λ past. absurd (entered_not_past given past))
    (λ e. absurd (entered_not_past given (subst (λ q. saw_unused q ≡ true) (sym e) refl)))
    (λ _. safe.held_last c key from was held)
    (one_after_set w c key from (cond given Running Turned) safe.one_hides was (λ e. absurd (entered_not_hiding given e)))

-- a linked node is in its slot, with its generation
pub linked_last : (w : BareWorld) (key : Key) → (m : Option NodeFlags) → marks w key ≡ m → is_some m ≡ true → IsLast w key.slot key.generation
linked_last w key None e h = cc
linked_last w key (Some m) e h = (slot_state key.generation (Some m), in_place (slice_get w.slots key.slot) key.generation m e, refl)

-- a node with live marks is in its slot, too
pub live_last : (w : BareWorld) (key : Key) → IsTrue (are_live (marks w key)) → IsLast w key.slot key.generation
live_last w key live = linked_last w key (marks w key) refl (live_linked (marks w key) live)

pin_keeps : (w : BareWorld) (key : Key) → Safe w → (IsTrue (is_linked w key) ⊎ IsHeld w key) → Safe (with_caller w key)
pin_keeps w key safe may = caller_keeps w (with_caller w key).callers key Still safe
    (λ d y h. after_push w.callers d (caller key Still) y h)
    (λ e. absurd (let x : Still ≡ Running = e in cc))
    (λ e. absurd (let x : saw_drain Still ≡ true = e in cc))
    (λ e. absurd (let x : saw_unused Still ≡ true = e in cc))
    (λ e. absurd (let x : Still ≡ Parted = e in cc))
    (λ _. elim may [ inl linked ↦ linked_last w key (marks w key) refl linked | inr h ↦ safe.held_last h.caller key h.phase h.there h.holds ])
    (one_after_push w.callers (caller key Still) refl safe.one_hides)

idle_holds : (p : Phase) → may_release p ≡ true → p ≢ Spent
idle_holds p h e = let x : may_release Spent ≡ true = subst (λ q. may_release q ≡ true) e h in cc

-- a linked node has marks
pub linked_marks : (o : Option NodeFlags) → is_some o ≡ true → (m : NodeFlags) × (o ≡ Some m)
linked_marks None h = cc
linked_marks (Some m) h = (m, refl)

-- each step from a safe world leads to a safe world
pub step_keeps : (w : BareWorld) (e : Event) (w' : BareWorld) → Safe w → BareStep w e w' → Safe w'
step_keeps w (Born key parent name node) w' safe s = subst Safe (sym s.1) (born_keeps w key safe s.0)
step_keeps w (Rise key) w' safe s = subst Safe (sym s.1) (marks_keep w key fresh_marks (Some live_marks) safe s.0 (λ d. d) (inr refl))
step_keeps w (Mark key) w' safe s = subst Safe (sym s.3) (marks_keep w key s.0 (Some (record { activated = s.0.activated; doomed = true })) safe s.1 (λ _. refl) (inr refl))
step_keeps w (Move key dir name) w' safe s = subst Safe (sym s) safe
step_keeps w (Pin c key) w' safe s = subst Safe (sym s.2) (pin_keeps w key safe s.1)
step_keeps w (Enter c) w' safe s = subst Safe (sym s.4) (entered w c s.0 s.1 _ (λ live. live) safe s.2 (waiting_holds s.1 s.3))
step_keeps w (Leave c) w' safe s = subst Safe (sym s.4) (plainly w c s.0 s.1 Still safe s.2 (counted_holds s.1 s.3) (λ e. cc) refl (λ e. cc))
step_keeps w (Break c) w' safe s = subst Safe (sym s.2) (plainly w c s.0 _ _ safe s.1 (λ e. cc) (λ e. cc) refl (λ e. cc))
step_keeps w (Restore c) w' safe s = subst Safe (sym s.2) (plainly w c s.0 _ _ safe s.1 (λ e. cc) (λ e. cc) refl (λ e. cc))
step_keeps w (Look c) w' safe s = subst Safe (sym s.1) (past_now w c s.0.key s.0.phase Drained safe s.0.there (waiting_holds s.0.phase s.0.waits) (λ e. cc) (λ _. s.0.doomed) (none_running w s.0.key s.0.unused) (λ e. absurd (let x : Drained ≡ Parted = e in cc)) (λ e. cc))
step_keeps w (Unlink c) w' safe s =
    let m : (m : NodeFlags) × (marks w s.0 ≡ Some m) = linked_marks (marks w s.0) s.2 in
    subst Safe (sym s.3) (marks_keep w s.0 m.0 None safe m.1 (λ _. refl) (inl (safe.none_running c s.0 _ s.1 refl)))
step_keeps w (Part c) w' safe s = subst Safe (sym s.1) (past_now w c s.0.key _ _ safe s.0.there (λ e. cc) (λ e. cc) (λ _. doomed_if_gone (marks w s.0.key) s.0.gone) (safe.none_running c s.0.key _ s.0.there refl) (λ _. s.0.gone) (λ e. cc))
step_keeps w (Hide c) w' safe s = subst Safe (sym s.1) (plainly w c s.0.key s.0.phase Hiding safe s.0.there (waiting_holds s.0.phase s.0.waits) (λ e. cc) refl (λ _. inr s.0.shown))
step_keeps w (LookHidden c) w' safe s = subst Safe (sym s.1) (past_now w c s.0.key Hiding Hidden safe s.0.there (λ e. cc) (λ e. cc) (λ e. absurd (let x : false ≡ true = e in cc)) (none_running w s.0.key s.0.unused) (λ e. absurd (let x : Hidden ≡ Parted = e in cc)) (λ _. inl refl))
step_keeps w (Show c) w' safe s = subst Safe (sym s.2) (plainly w c s.0 Hidden Still safe s.1 (λ e. cc) (λ e. cc) refl (λ e. cc))
step_keeps w (Release c) w' safe s = subst Safe (sym s.4) (plainly w c s.0 s.1 Spent safe s.2 (idle_holds s.1 s.3) (λ e. cc) refl (λ e. cc))
step_keeps w (Undo c) w' safe s = subst Safe (sym s) safe
