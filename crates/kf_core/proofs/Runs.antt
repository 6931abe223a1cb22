-- What each step keeps is true at the end of every run.
use Rattle.std.proofs.Common.{◌≡◌, ◌≢◌, ◌⊎◌, inl, inr, ℕ, ◌+◌, ◌≤◌, ◌<◌, Bool, true, false, cond, slice_set, List, [], ◌∷◌, refl, ap, arith, sym, ◌∙◌, subst}
use Rattle.std.specs.Prelude.{slice_get, Option, None, Some, is_some, IsTrue, IsFalse}
use Rattle.std.proofs.lemmas.Bool.Decides.{eqb_tells}
use Rattle.std.proofs.lemmas.Option.{same_Some, none-some, slice_get_within}
use Rattle.kf_core.specs.declared.key.Key.{Key}
use Rattle.kf_core.specs.declared.key.Node.{Node}
use Rattle.kf_core.specs.declared.caller.Phase.{Phase}
use Rattle.kf_core.specs.declared.caller.Phase.TheVariants.{Still, Turned, Running, Broken, Restored, Drained, Parted, Spent, Hiding, Hidden}
use Rattle.kf_core.specs.Phases.{saw_drain}
use Rattle.kf_core.specs.declared.caller.Caller.{Caller}
use Rattle.kf_core.specs.declared.slot.SlotState.{SlotState}
use Rattle.kf_core.specs.declared.event.Event.{Event}
use Rattle.kf_core.specs.declared.event.Event.TheVariants.{Born, Rise, Mark, Move, Pin, Enter, Leave, Break, Restore, Look, Unlink, Part, Release, Undo, Hide, LookHidden, Show}
use Rattle.std.specs.Prelude.{replicate, map, zero, suc}
use Rattle.kf_core.specs.Bare.{opening as bare_opening}
use Rattle.kf_core.specs.Bare.{BareWorld, IsCaller, IsLast, is_linked, is_live, is_doomed, marks, marks_in}
use Rattle.kf_core.specs.Marks.{fresh_marks, live_marks}
use Rattle.kf_core.specs.Safe.{Safe, NoneRunning, NoneHolding}
use Rattle.kf_core.specs.Steps.{BareStep, BareRun, with_phase, with_marks, MayBeBorn}
use Rattle.kf_core.specs.Worlds.{World, bare_slot, bare, opening, Step, Run}
use Rattle.kf_core.proofs.Lists.{slice_get-set_same, slice_get-set_other, after_set, after_push}
use Rattle.kf_core.proofs.SlotStates.{shown, in_place}
use Rattle.kf_core.proofs.Keeping.{step_keeps, slot_state, linked_last}
use Rattle.kf_core.proofs.Passing.{HasCome, Finished, Lost, linked_come, doomed_written, lost_not_live, step_come, step_lost, step_finished}
use Rattle.kf_core.proofs.Hiding.{drain_unused}

-- what each step keeps, a run keeps
pub run_keeps : (P : BareWorld → Type 0) → ((w : BareWorld) (e : Event) (w' : BareWorld) → BareStep w e w' → P w → P w') → (events : List Event) (w w' : World) → Run w events w' → P (bare w) → P (bare w')
run_keeps P keeps [] w w' r p = subst (λ x. P (bare x)) (sym r) p
run_keeps P keeps (e ∷ es) w w' r p = run_keeps P keeps es r.0 w' r.2 (keeps (bare w) e (bare r.0) r.1.bare_step p)

-- the opening world is safe, since it has no callers
pub opening_safe : (slots start : ℕ) → Safe (bare (opening slots start))
opening_safe slots start = record {
  none_running = λ c key phase h. absurd (none-some _ h);
  drain_doomed = λ c key phase h. absurd (none-some _ h);
  parted_gone = λ c key h. absurd (none-some _ h);
  held_last = λ c key phase h. absurd (none-some _ h);
  running_linked = λ c key h. absurd (none-some _ h);
  one_hides = λ c key p h hiding. absurd (none-some _ h);
}

pub run_safe : (slots start : ℕ) (events : List Event) (w : World) → Run (opening slots start) events w → Safe (bare w)
run_safe slots start events w r = run_keeps Safe (λ w e w' s p. step_keeps w e w' p s) events (opening slots start) w r (opening_safe slots start)

-- the key of a drained caller is finished
pub drained_finished : (w : BareWorld) (c : ℕ) (key : Key) → Safe w → IsCaller w c key Drained → Finished w key
drained_finished w c key safe h =
    let last : IsLast w key.slot key.generation = safe.held_last c key Drained h (λ e. cc) in
    record {
      doomed = safe.drain_doomed c key Drained h refl;
      alone = safe.none_running c key Drained h refl;
      come = record { last = last.0; there = last.1; come = (let e : last.0.generation ≡ key.generation = last.2 in omega arith) };
    }

pub finished_for_good : (slots start : ℕ) (before later : List Event) (u v w : World) (c : ℕ) (key : Key) → Run (opening slots start) before u → Step u (Look c) v → IsCaller (bare v) c key Drained → Run v later w → NoneRunning (bare w) key
finished_for_good slots start before later u v w c key r s h l =
    let safe : Safe (bare v) = step_keeps (bare u) (Look c) (bare v) (run_safe slots start before u r) s.bare_step in
    (run_keeps (λ x. Finished x key) (λ x e y t f. step_finished x e y key t f) later v w l (drained_finished (bare v) c key safe h)).alone

-- a key that its slot has already reached cannot be born
not_again : (w : BareWorld) (key again : Key) → HasCome w key → MayBeBorn w again → key ≢ again
not_again w key again h may e =
    let same : h.last ≡ slot_state may.last None = same_Some _ _ (sym h.there ∙ (ap (λ (x : Key). slice_get w.slots x.slot) e ∙ may.unlinked)) in
    let l : h.last.generation ≡ may.last = ap (λ (x : SlotState). x.generation) same in
    let c : key.generation ≤ h.last.generation = h.come in
    let n : again.generation ≡ may.last + 1 = may.next in
    let g : key.generation ≡ again.generation = ap (λ (x : Key). x.generation) e in
    omega arith

-- the slot of a linked node has reached the node's generation
pub linked_has_come : (w : BareWorld) (key : Key) → IsTrue (is_linked w key) → HasCome w key
linked_has_come w key linked =
    let last : IsLast w key.slot key.generation = linked_last w key (marks w key) refl linked in
    record { last = last.0; there = last.1; come = (let e : last.0.generation ≡ key.generation = last.2 in omega arith) }

pub linked_once : (between : List Event) (u v w : World) (key again parent : Key) (name : List ℕ) (node : Node) → IsTrue (is_linked (bare u) key) → Run u between v → Step v (Born again parent name node) w → key ≢ again
linked_once between u v w key again parent name node linked r second =
    not_again (bare v) key again
    (run_keeps (λ x. HasCome x key) (λ x e y s h. step_come x e y key s h) between u v r (linked_has_come (bare u) key linked))
    second.bare_step.0

-- a node that was just born is linked
born_linked : (t u : BareWorld) (key : Key) → MayBeBorn t key → u ≡ with_marks t key (Some fresh_marks) → IsTrue (is_linked u key)
born_linked t u key may is =
    let there : slice_get (with_marks t key (Some fresh_marks)).slots key.slot ≡ Some (slot_state key.generation (Some fresh_marks)) =
    slice_get-set_same t.slots key.slot (slot_state key.generation (Some fresh_marks)) (slice_get_within t.slots key.slot _ may.unlinked) in
    ap (λ (x : BareWorld). is_linked x key) is ∙ ap (λ (o : Option SlotState). is_some (marks_in o key.generation)) there ∙ ap is_some (shown key.generation (Some fresh_marks))

pub never_twice : (between : List Event) (t u v w : World) (key again parent next_parent : Key) (name next_name : List ℕ) (node next_node : Node) → Step t (Born key parent name node) u → Run u between v → Step v (Born again next_parent next_name next_node) w → key ≢ again
never_twice between t u v w key again parent next_parent name next_name node next_node first r second =
    linked_once between u v w key again next_parent next_name next_node (born_linked (bare t) (bare u) key first.bare_step.0 first.bare_step.1) r second

-- slots without records are bare slots without marks
bare_empty : (n g : ℕ) → map bare_slot (replicate n (record { last = g; linked = None })) ≡ replicate n (record { generation = g; marks = None })
bare_empty zero g = refl
bare_empty (suc n) g = ap (λ (states : List SlotState). record { generation = g; marks = None } ∷ states) (bare_empty n g)

-- the bare world of the opening world is the opening bare world
pub opening_bare : (count start : ℕ) → bare (opening count start) ≡ bare_opening count start
opening_bare zero start = refl
opening_bare (suc n) start = ap (λ (states : List SlotState). record { slots = record { generation = start + 1; marks = Some live_marks } ∷ states; callers = [] }) (bare_empty n start)

-- what each step keeps, a run of bare worlds keeps
pub bare_run_keeps : (P : BareWorld → Type 0) → ((w : BareWorld) (e : Event) (w' : BareWorld) → BareStep w e w' → P w → P w') → (events : List Event) (w w' : BareWorld) → BareRun w events w' → P w → P w'
bare_run_keeps P keeps [] w w' r p = subst P (sym r) p
bare_run_keeps P keeps (e ∷ es) w w' r p = bare_run_keeps P keeps es r.0 w' r.2 (keeps w e r.0 r.1 p)

pub bare_safe : (events : List Event) (w w' : BareWorld) → Safe w → BareRun w events w' → Safe w'
bare_safe events w w' safe r = bare_run_keeps Safe (λ w e w' s p. step_keeps w e w' p s) events w w' r safe

unspent_seen : (p : Phase) → saw_drain p ≡ true → p ≢ Spent
unspent_seen p h e = let x : saw_drain Spent ≡ true = subst (λ (q : Phase). saw_drain q ≡ true) e h in cc

-- the key of a drained or parted caller is finished
pub seen_finished : (w : BareWorld) (c : ℕ) (key : Key) (phase : Phase) → Safe w → IsCaller w c key phase → IsTrue (saw_drain phase) → Finished w key
seen_finished w c key phase safe h past =
    let last : IsLast w key.slot key.generation = safe.held_last c key phase h (unspent_seen phase past) in
    record {
      doomed = safe.drain_doomed c key phase h past;
      alone = safe.none_running c key phase h (drain_unused phase past);
      come = record { last = last.0; there = last.1; come = (let e : last.0.generation ≡ key.generation = last.2 in omega arith) };
    }

pub bare_for_good : (later : List Event) (v w : BareWorld) (c : ℕ) (key : Key) (phase : Phase) → Safe v → IsCaller v c key phase → IsTrue (saw_drain phase) → BareRun v later w → NoneRunning w key
bare_for_good later v w c key phase safe h past r = (bare_run_keeps (λ x. Finished x key) (λ x e y t f. step_finished x e y key t f) later v w r (seen_finished v c key phase safe h past)).alone

spent_if : (p : Phase) → (p ≢ Spent → ⊥) → p ≡ Spent
spent_if Spent h = refl
spent_if Still h = absurd (h (λ e. cc))
spent_if Turned h = absurd (h (λ e. cc))
spent_if Running h = absurd (h (λ e. cc))
spent_if Broken h = absurd (h (λ e. cc))
spent_if Restored h = absurd (h (λ e. cc))
spent_if Drained h = absurd (h (λ e. cc))
spent_if Parted h = absurd (h (λ e. cc))
spent_if Hiding h = absurd (h (λ e. cc))
spent_if Hidden h = absurd (h (λ e. cc))

-- nobody holds a key that its slot has passed
pub passed_unheld : (w : BareWorld) (key : Key) → Safe w → HasCome w (record { slot = key.slot; generation = key.generation + 1 }) → NoneHolding w key
passed_unheld w key safe come c phase h = spent_if phase (λ holds.
    let last : IsLast w key.slot key.generation = safe.held_last c key phase h holds in
    let same : come.last ≡ last.0 = same_Some _ _ (sym come.there ∙ last.1) in
    let g : come.last.generation ≡ last.0.generation = ap (λ (x : SlotState). x.generation) same in
    let e : last.0.generation ≡ key.generation = last.2 in
    let n : key.generation + 1 ≤ come.last.generation = come.come in
    omega arith)

pub bare_passed : (later : List Event) (v w : BareWorld) (key : Key) (generation : ℕ) → Safe v → IsLast v key.slot generation → key.generation < generation → BareRun v later w → NoneHolding w key
bare_passed later v w key generation safe last more r =
    let next : Key = record { slot = key.slot; generation = key.generation + 1 } in
    passed_unheld w key (bare_safe later v w safe r)
    (bare_run_keeps (λ x. HasCome x next) (λ x e y t h. step_come x e y next t h) later v w r (record {
      last = last.0;
      there = last.1;
      come = (let e : last.0.generation ≡ generation = last.2 in omega arith);
    }))

-- a caller that is running after a step was running before it, or the step is its try on a live key
abbrev Starts : BareWorld → Event → BareWorld → Type 0
Starts w e w' = (c : ℕ) (key : Key) → IsCaller w' c key Running → IsCaller w c key Running ⊎ ((e ≡ Enter c) × IsTrue (is_live w key))

moves_no_runner : (w : BareWorld) (e : Event) (w' : BareWorld) (j : ℕ) (key : Key) (phase : Phase) → (phase ≡ Running → ⊥) → w' ≡ with_phase w j key phase → Starts w e w'
moves_no_runner w e w' j key phase idle is c k runs = elim (after_set w.callers j c (record { key = key; phase = phase }) (record { key = k; phase = Running }) (ap (λ (x : BareWorld). slice_get x.callers c) (sym is) ∙ runs)) [
  | inl new ↦ absurd (idle (ap (λ (x : Caller). x.phase) new))
  | inr old ↦ inl old
]

same_callers : (w : BareWorld) (e : Event) (w' : BareWorld) → w'.callers ≡ w.callers → Starts w e w'
same_callers w e w' same c k runs = inl (ap (λ (l : List Caller). slice_get l c) (sym same) ∙ runs)

tried_runs : (b : Bool) → cond b Running Turned ≡ Running → b ≡ true
tried_runs true e = refl
tried_runs false e = absurd (let x : Turned ≡ Running = e in cc)

try_starts : (w w' : BareWorld) (j : ℕ) (key : Key) (phase : Phase) → IsCaller w j key phase → w' ≡ with_phase w j key (cond (is_live w key) Running Turned) → Starts w (Enter j) w'
try_starts w w' j key phase there is c k runs =
    let now : Caller = record { key = key; phase = cond (is_live w key) Running Turned } in
    let after : slice_get (slice_set w.callers j now) c ≡ Some (record { key = k; phase = Running }) = ap (λ (x : BareWorld). slice_get x.callers c) (sym is) ∙ runs in
    elim (eqb_tells c j) [
      | inl e ↦
          (let one : Some now ≡ Some (record { key = k; phase = Running }) = sym (slice_get-set_same w.callers j now (slice_get_within w.callers j _ there)) ∙ ap (slice_get (slice_set w.callers j now)) (sym e.1) ∙ after in
          let same : ◌≡◌ {A = Caller} now (record { key = k; phase = Running }) = same_Some _ _ one in
          inr (ap Enter (sym e.1), ap (λ (x : Key). is_live w x) (sym (ap (λ (x : Caller). x.key) same)) ∙ tried_runs (is_live w key) (ap (λ (x : Caller). x.phase) same)))
      | inr n ↦ inl (sym (slice_get-set_other w.callers j c now n.1) ∙ after)
    ]

pub step_starts : (w : BareWorld) (e : Event) (w' : BareWorld) → BareStep w e w' → Starts w e w'
step_starts w (Born key parent name node) w' s = same_callers w (Born key parent name node) w' (ap (λ (x : BareWorld). x.callers) s.1)
step_starts w (Rise key) w' s = same_callers w (Rise key) w' (ap (λ (x : BareWorld). x.callers) s.1)
step_starts w (Mark key) w' s = same_callers w (Mark key) w' (ap (λ (x : BareWorld). x.callers) s.3)
step_starts w (Move key dir name) w' s = same_callers w (Move key dir name) w' (ap (λ (x : BareWorld). x.callers) s)
step_starts w (Pin j key) w' s = λ c k runs. elim (after_push w.callers c (record { key = key; phase = Still }) (record { key = k; phase = Running }) (ap (λ (x : BareWorld). slice_get x.callers c) (sym s.2) ∙ runs)) [
  | inl new ↦ absurd (let x : Still ≡ Running = ap (λ (x : Caller). x.phase) new in cc)
  | inr old ↦ inl old
]
step_starts w (Enter j) w' s = try_starts w w' j s.0 s.1 s.2 s.4
step_starts w (Leave j) w' s = moves_no_runner w (Leave j) w' j s.0 Still (λ e. let x : Still ≡ Running = e in cc) s.4
step_starts w (Break j) w' s = moves_no_runner w (Break j) w' j s.0 Broken (λ e. let x : Broken ≡ Running = e in cc) s.2
step_starts w (Restore j) w' s = moves_no_runner w (Restore j) w' j s.0 Restored (λ e. let x : Restored ≡ Running = e in cc) s.2
step_starts w (Look j) w' s = moves_no_runner w (Look j) w' j s.0.key Drained (λ e. let x : Drained ≡ Running = e in cc) s.1
step_starts w (Unlink j) w' s = same_callers w (Unlink j) w' (ap (λ (x : BareWorld). x.callers) s.3)
step_starts w (Part j) w' s = moves_no_runner w (Part j) w' j s.0.key Parted (λ e. let x : Parted ≡ Running = e in cc) s.1
step_starts w (Hide j) w' s = moves_no_runner w (Hide j) w' j s.0.key Hiding (λ e. let x : Hiding ≡ Running = e in cc) s.1
step_starts w (LookHidden j) w' s = moves_no_runner w (LookHidden j) w' j s.0.key Hidden (λ e. let x : Hidden ≡ Running = e in cc) s.1
step_starts w (Show j) w' s = moves_no_runner w (Show j) w' j s.0 Still (λ e. let x : Still ≡ Running = e in cc) s.2
step_starts w (Release j) w' s = moves_no_runner w (Release j) w' j s.0 Spent (λ e. let x : Spent ≡ Running = e in cc) s.4
step_starts w (Undo j) w' s = same_callers w (Undo j) w' (ap (λ (x : BareWorld). x.callers) s)

-- a key that is linked and doomed is never live again
pub doomed_for_good : (later : List Event) (v w : BareWorld) (key : Key) → IsTrue (is_linked v key) → IsTrue (is_doomed v key) → BareRun v later w → IsFalse (is_live w key)
doomed_for_good later v w key linked doomed r =
    lost_not_live w key (bare_run_keeps (λ x. Lost x key) (λ x e y t f. step_lost x e y key t f) later v w r (record { doomed = doomed; come = linked_has_come v key linked }))

-- a key that was just marked is doomed for good
marked_lost : (w w' : BareWorld) (key : Key) → BareStep w (Mark key) w' → Lost w' key
marked_lost w w' key s = subst (λ x. Lost x key) (sym s.3) (record {
  doomed = doomed_written w key key (Some (record { activated = s.0.activated; doomed = true })) (slot_state key.generation (Some s.0)) (in_place (slice_get w.slots key.slot) key.generation s.0 s.1) refl (λ _. refl);
  come = linked_come w key key s.0 (Some (record { activated = s.0.activated; doomed = true })) s.1 (linked_has_come w key (ap is_some s.1));
})

-- once a key is marked, it is never live again
pub marked_for_good : (later : List Event) (u v w : World) (key : Key) → Step u (Mark key) v → Run v later w → IsFalse (is_live (bare w) key)
marked_for_good later u v w key s r =
    lost_not_live (bare w) key (run_keeps (λ x. Lost x key) (λ x e y t f. step_lost x e y key t f) later v w r (marked_lost (bare u) (bare v) key s.bare_step))
