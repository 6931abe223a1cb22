-- Visits to a node by the caller of an open file: what they keep of the nodes and callers, and what they come
-- to for the one caller.
use Rattle.std.proofs.Common.{◌≡◌, inl, inr, ℕ, zero, suc, ◌<◌, refl, ap, arith, sym, ◌∙◌, subst, Bool, true, false, List, [], ◌∷◌, ◌++◌, length, slice_set}
use Rattle.std.specs.Prelude.{Option, None, Some, slice_get, is_some, IsTrue, IsFalse, Result, Ok, Err, IfOk, IfErr, OnErr, not, ◌&&◌, map}
use Rattle.std.specs.Option.{option_map}
use Rattle.std.proofs.lemmas.Option.{same_Some, slice_get_within}
use Rattle.kf_core.specs.declared.key.Key.{Key}
use Rattle.kf_core.specs.declared.key.Node.{Node}
use Rattle.kf_core.specs.declared.key.Node.TheVariants.{Dir, File, Link}
use Rattle.kf_core.specs.declared.slot.SlotState.{SlotState}
use Rattle.kf_core.specs.declared.caller.Caller.{Caller}
use Rattle.kf_core.specs.declared.caller.Phase.{Phase}
use Rattle.kf_core.specs.declared.caller.Phase.TheVariants.{Still, Turned}
use Rattle.kf_core.specs.declared.refusal.Refusal.{Refusal}
use Rattle.kf_core.specs.declared.event.Event.TheVariants.{Enter, Release, Pin}
use Rattle.kf_core.specs.Marks.{are_live}
use Rattle.kf_core.specs.Phases.{is_waiting}
use Rattle.kf_core.specs.Agrees.{AgreesHidden}
use Rattle.kf_core.specs.Bare.{BareWorld, IsCaller, is_hidden, is_live as is_live_there}
use Rattle.kf_core.specs.Steps.{with_phase, with_caller}
use Rattle.kf_world.specs.Bounded.{BoundedWorld, Happens, May, bounded, hold_count, holds}
use Rattle.kf_core.specs.Calls.{Visit, unvisited, tried}
use Rattle.kf_world.specs.WorldGuard.{VisitsAlone}
use Rattle.kf_core.proofs.Lists.{slice_get-set_same}
use Rattle.kf_world.proofs.WorldVisits.{may_enter}
use Rattle.kf_tree.specs.TreeLogs.{TreeLog}
use Rattle.kf_core.specs.declared.records.Record.{Record}
use Rattle.kf_core.specs.Tree.{record_at}
use Rattle.kf_core.proofs.FoundRecords.{found_in}
use Rattle.kf_table.specs.Live.{lives_in, live_in}
use Rattle.kf_pages.specs.declared.contents.Want.{Want}
use Rattle.kf_pages.specs.declared.ops.Fault.{Fault}
use Rattle.kf_pages.specs.declared.ops.FileError.{FileError}
use Rattle.kf_pages.specs.Files.{FileState, ShowResult, Reads, Writes, Opens}
use Rattle.kf_plain.specs.Nodes.{Nodes, nodes_of, last_of, AreTied, Waits, StillWaits, spent_on, with_spent}
use Rattle.kf_plain.specs.Removals.{PinsRefused, still_on, with_callers}
use Rattle.kf_plain.specs.Visits.{VisitsLive, file_cause}
use Rattle.kf_plain.proofs.Callers.{waits_inside, waiting_releases}
use Rattle.kf_plain.proofs.HiddenMarks.{told_by, told_pinned, told_released, told_held, told_spent, hiders_waiting}

-- a caller has only one key
one_key : (w : BareWorld) (id : ℕ) (k l : Key) (p q : Phase) → IsCaller w id k p → IsCaller w id l q → k ≡ l
one_key w id k l p q a b = ap (λ (c : Caller). c.key) (same_Some (let x : Caller = record { key = k; phase = p } in x) (let y : Caller = record { key = l; phase = q } in y) (sym a ∙ b))

-- ---- what a visit leaves as it was

-- the slots and the limit are as before, and the callers too, except that this one may wait in another phase
pub record Visited (w : BoundedWorld) (id : ℕ) (key : Key) (w' : BoundedWorld) : Type 0 where
  pub slots : w'.world.slots ≡ w.world.slots
  pub limit : w'.limit ≡ w.limit
  pub callers : StillWaits w.world.callers id key w'.world.callers

visited_by : (w : BoundedWorld) (id : ℕ) (key : Key) (phase : Phase) (w' : BoundedWorld) → IsTrue (is_waiting phase) → w' ≡ bounded (with_phase w.world id key phase) w.limit → Visited w id key w'
visited_by w id key phase w' waits e = record {
  slots = ap (λ (v : BoundedWorld). v.world.slots) e;
  limit = ap (λ (v : BoundedWorld). v.limit) e;
  callers = inr (phase, waits, ap (λ (v : BoundedWorld). v.world.callers) e);
}

module _ {Done : Type 0} (w : BoundedWorld) (id : ℕ) (key : Key) (w' : BoundedWorld) where
  pub visited : (idle : Type 0) (does : Done → Type 0) (v : Visit Done) → VisitsAlone w id key w' idle does v → Visited w id key w'
  visited idle does unvisited h = record { slots = ap (λ (v : BoundedWorld). v.world.slots) h.0; limit = ap (λ (v : BoundedWorld). v.limit) h.0; callers = inl (ap (λ (v : BoundedWorld). v.world.callers) h.0) }
  visited idle does (tried None) h = visited_by w id key Turned w' refl h.1
  visited idle does (tried (Some d)) h = visited_by w id key Still w' refl h.1

  -- for the one caller, whether the node is live in the tree decides whether a visit is let in
  pub to_live : (live : Bool) (idle idle' : Type 0) (does does' : Done → Type 0) (v : Visit Done) → is_live_there w.world key ≡ live → (idle → idle') → ((d : Done) → does d → does' d) → VisitsAlone w id key w' idle does v → VisitsLive live idle' does' v
  to_live live idle idle' does does' unvisited e i d h = i h.1
  to_live live idle idle' does does' (tried None) e i d h = (subst (λ b. IsFalse b) e h.0, i h.2)
  to_live live idle idle' does does' (tried (Some x)) e i d h = (subst (λ b. IsTrue b) e h.0, d x h.2)

  -- what holds if nothing was done, and holds after anything that may be done, holds after the visit
  pub either_way : (idle : Type 0) (does : Done → Type 0) (v : Visit Done) → ((d : Done) → does d → idle) → VisitsAlone w id key w' idle does v → idle
  either_way idle does unvisited d h = h.1
  either_way idle does (tried None) d h = h.2
  either_way idle does (tried (Some x)) d h = d x h.2

pub live_told : (log : TreeLog) (w : BareWorld) (key : Key) → AreTied log w → AgreesHidden log.tree w → is_live_there w key ≡ live_in log.tree key
live_told log w key tied told = ap (λ m. are_live m && not (is_hidden w key)) (tied.marks key) ∙ go (record_at log.tree key) refl
  where
    go : (o : Option Record) → record_at log.tree key ≡ o → (are_live (option_map (λ (r : Record). r.marks) o) && not (is_hidden w key)) ≡ lives_in o
    go None e = refl
    go (Some r) e = let there = found_in log.tree key r e in ap (λ b. are_live (Some r.marks) && not b) (ap (is_hidden w) (sym there.1) ∙ sym (told r there.0))

pub tied_slots : (log : TreeLog) (w w' : BareWorld) → AreTied log w → w'.slots ≡ w.slots → AreTied log w'
tied_slots log w w' t e = subst (λ ps. AreTied log (record { slots = ps; callers = w'.callers })) (sym e) (record { kept = t.kept; undoomed = t.undoomed; marks = t.marks; slots = t.slots })

-- tree and world stay tied after a pin, whether or not it succeeded
pub pinned_stays : (log : TreeLog) (w w' : BoundedWorld) (key : Key) (result : Result ℕ Refusal) → AreTied log w.world → AgreesHidden log.tree w.world →
    IfOk result (λ id. Happens w (Pin id key) w') → OnErr result (w' ≡ w) → AreTied log w'.world × AgreesHidden log.tree w'.world
pinned_stays log w w' key (Ok id) tied told pin same = (tied_slots log w.world w'.world tied (ap (λ (v : BareWorld). v.slots) pin.steps.2), told_pinned log.tree w w' told id key pin)
pinned_stays log w w' key (Err refusal) tied told pin same = subst (λ (v : BoundedWorld). AreTied log v.world × AgreesHidden log.tree v.world) (sym same) (tied, told)

-- tree and world stay tied after pins of some nodes, whether or not they succeeded
pub held_stays : (log : TreeLog) (w w' : BoundedWorld) (keys : List Key) (result : Result ℕ Refusal) → AreTied log w.world → AgreesHidden log.tree w.world →
    IfOk result (λ _. w' ≡ with_callers w (w.world.callers ++ map still_on keys)) → IfErr result (λ refusal. PinsRefused w keys refusal × ((spent : List Key) × (w' ≡ with_callers w (w.world.callers ++ map spent_on spent)))) →
    AreTied log w'.world × AgreesHidden log.tree w'.world
held_stays log w w' keys (Ok first) tied told held refused = (tied_slots log w.world w'.world tied (ap (λ (v : BoundedWorld). v.world.slots) held), told_held log.tree w w' told keys (ap (λ (v : BoundedWorld). v.world.callers) held))
held_stays log w w' keys (Err refusal) tied told held refused = (
  tied_slots log w.world w'.world tied (ap (λ (v : BoundedWorld). v.world.slots) refused.1.1),
  told_spent log.tree w w' told refused.1.0 (ap (λ (v : BoundedWorld). v.world.callers) refused.1.1),
)

-- the value that contracts see, if only the callers have changed
pub seen_callers : (n : Nodes) (log : TreeLog) (w w' : BoundedWorld) (callers : List Caller) → nodes_of log w ≡ n → w'.world.slots ≡ w.world.slots → w'.limit ≡ w.limit → w'.world.callers ≡ callers →
    nodes_of log w' ≡ record { log = n.log; last = n.last; limit = n.limit; callers = callers }
seen_callers n log w w' callers is s l cs =
    let made : List SlotState → ℕ → List Caller → Nodes = λ ps m xs. record { log = log; last = last_of ps; limit = m; callers = xs } in
    ap (λ ps. made ps w'.limit w'.world.callers) s ∙ ap (λ m. made w.world.slots m w'.world.callers) l ∙ ap (made w.world.slots w.limit) cs
    ∙ ap (λ (m : Nodes). let v : Nodes = record { log = m.log; last = m.last; limit = m.limit; callers = callers } in v) is

pub seen_same : (n : Nodes) (log : TreeLog) (w w' : BoundedWorld) → nodes_of log w ≡ n → w'.world.slots ≡ w.world.slots → w'.limit ≡ w.limit →
    nodes_of log w' ≡ record { log = n.log; last = n.last; limit = n.limit; callers = w'.world.callers }
seen_same n log w w' is s l = seen_callers n log w w' w'.world.callers is s l refl

pub seen_waits : (n : Nodes) (log : TreeLog) (w : BoundedWorld) (id : ℕ) (key : Key) (callers : List Caller) → nodes_of log w ≡ n → StillWaits w.world.callers id key callers → StillWaits n.callers id key callers
seen_waits n log w id key callers is h = subst (λ (m : Nodes). StillWaits m.callers id key callers) is h

pub can_try : (n : Nodes) (log : TreeLog) (w : BoundedWorld) (id : ℕ) (key : Key) → nodes_of log w ≡ n → Waits n.callers id key → May w (Enter id)
can_try n log w id key is h = let h' = waits_inside n log w id key is h in may_enter w id key h'.phase h'.there h'.waits

pub live_seen : (n : Nodes) (log : TreeLog) (w : BoundedWorld) (key : Key) → nodes_of log w ≡ n → AreTied log w.world → AgreesHidden log.tree w.world → is_live_there w.world key ≡ live_in n.log.tree key
live_seen n log w key is tied told = live_told log w.world key tied told ∙ ap (λ (m : Nodes). live_in m.log.tree key) is

-- ---- facts about files, restated with another fact about the visit

module _ (V V' : Visit ShowResult → Type 0) (to : (v : Visit ShowResult) → V v → V' v) (Answers : Result (List ℕ) FileError → Type 0) (state : FileState) (offset count : ℕ) (state' : FileState) where
  pub reads_by : Reads V Answers state offset count state' → Reads V' Answers state offset count state'
  reads_by r = record {
    denied = λ e. let d = r.denied e in (to unvisited d.0, d.1, d.2);
    buffered = λ text e p t. let d = r.buffered text e p t in (to unvisited d.0, d.1, d.2);
    shown = λ e o. let d = r.shown e o in (d.0, to (tried d.0) d.1, d.2, d.3);
  }

module _ (V : Visit ShowResult → Type 0) (Answers : Result (List ℕ) FileError → Type 0) (state : FileState) where
  -- whatever is read, V holds for some visit, even if none was made
  pub reads_visit : (offset count : ℕ) (state' : FileState) → Reads V Answers state offset count state' → (v : Visit ShowResult) × V v
  reads_visit offset count state' r = elim state.want.read as (λ b. state.want.read ≡ b → (v : Visit ShowResult) × V v) [
    | false ↦ λ e. (unvisited, (r.denied e).0)
    | true ↦ λ e. elim state.text as (λ t. state.text ≡ t → (v : Visit ShowResult) × V v) [
      | None ↦ λ t. (let s = r.shown e (inr t) in (tried s.0, s.1))
      | Some text ↦ λ t. at_offset e text t offset r
    ] refl
  ] refl
    where
      at_offset : state.want.read ≡ true → (text : List ℕ) → state.text ≡ Some text → (o : ℕ) → Reads V Answers state o count state' → (v : Visit ShowResult) × V v
      at_offset e text t zero r = let s = r.shown e (inl refl) in (tried s.0, s.1)
      at_offset e text t (suc o) r = (unvisited, (r.buffered text e (omega arith) t).0)

module _ (V V' : Visit (Result ℕ Fault) → Type 0) (to : (v : Visit (Result ℕ Fault)) → V v → V' v) (state : FileState) (told : Result ℕ FileError) where
  pub writes_by : Writes V state told → Writes V' state told
  writes_by r = record {
    denied = λ e. let d = r.denied e in (to unvisited d.0, d.1);
    stored = λ e. let d = r.stored e in (d.0, to (tried d.0) d.1, d.2);
  }

  pub writes_visit : Writes V state told → (v : Visit (Result ℕ Fault)) × V v
  writes_visit r = elim state.want.write as (λ b. state.want.write ≡ b → (v : Visit (Result ℕ Fault)) × V v) [
    | false ↦ λ e. (unvisited, (r.denied e).0)
    | true ↦ λ e. (let s = r.stored e in (tried s.0, s.1))
  ] refl

module _ (V : Visit (Unit {0}) → Type 0) (want : Want) (refused : Option Refusal) where
  pub opens_visit : (node : Node) → Opens V node want refused → (v : Visit (Unit {0})) × V v
  opens_visit Dir r = (unvisited, (r.dir refl).0)
  opens_visit (File mode tag) r = let s = r.file mode tag refl in (tried s.0, s.1)
  opens_visit (Link target) r = (unvisited, (r.link target refl).0)

  -- why an open was refused, if a try succeeds exactly when the node is live
  pub opens_cause : (live : Bool) → ((came : Option (Unit {0})) → V (tried came) → is_some came ≡ live) → (node : Node) → Opens V node want refused → refused ≡ file_cause node want live
  opens_cause live tells Dir r = (r.dir refl).1
  opens_cause live tells (File mode tag) r = let s = r.file mode tag refl in s.2 ∙ ap (λ b. file_cause (File mode tag) want b) (tells s.0 s.1)
  opens_cause live tells (Link target) r = (r.link target refl).1

pub told_live : (w : BoundedWorld) (id : ℕ) (key : Key) (w' : BoundedWorld) (idle : Type 0) (does : Unit {0} → Type 0) (came : Option (Unit {0})) → VisitsAlone w id key w' idle does (tried came) → is_some came ≡ is_live_there w.world key
told_live w id key w' idle does None h = sym h.0
told_live w id key w' idle does (Some d) h = sym h.0

-- ---- a new caller

pub last_there : {X : Type 0} (xs : List X) (y : X) → slice_get (xs ++ y ∷ []) (length xs) ≡ Some y
last_there [] y = refl
last_there (x ∷ xs) y = last_there xs y

pub last_set : {X : Type 0} (xs : List X) (y z : X) → slice_set (xs ++ y ∷ []) (length xs) z ≡ xs ++ z ∷ []
last_set [] y z = refl
last_set (x ∷ xs) y z = ap (λ ys. x ∷ ys) (last_set xs y z)

pub pinned_there : (w : BoundedWorld) (id : ℕ) (key : Key) (w' : BoundedWorld) → Happens w (Pin id key) w' → IsCaller w'.world id key Still
pinned_there w id key w' h = subst (λ v. IsCaller v id key Still) (sym h.steps.2) (subst (λ i. IsCaller (with_caller w.world key) i key Still) (sym h.steps.0) (last_there w.world.callers (record { key = key; phase = Still })))

-- ---- an open is a pin and a visit, followed by a release if the open is refused

pub visited_waits : (w : BoundedWorld) (id : ℕ) (key : Key) (w' : BoundedWorld) → Visited w id key w' → Waits w.world.callers id key → Waits w'.world.callers id key
visited_waits w id key w' v h = go v.callers
  where
    go : StillWaits w.world.callers id key w'.world.callers → Waits w'.world.callers id key
    go (inl e) = subst (λ cs. Waits cs id key) (sym e) h
    go (inr s) = record { phase = s.0; there = ap (λ cs. slice_get cs id) s.2 ∙ slice_get-set_same w.world.callers id _ (slice_get_within w.world.callers id _ h.there); waits = s.1 }

module _ (n : Nodes) (log : TreeLog) (w pinned w' : BoundedWorld) (id : ℕ) (key : Key) (is : nodes_of log w ≡ n) (tied : AreTied log w.world) (pin : Happens w (Pin id key) pinned) (visit : Visited pinned id key w') where
  pinned_callers : pinned.world.callers ≡ w.world.callers ++ record { key = key; phase = Still } ∷ []
  pinned_callers = ap (λ (v : BareWorld). v.callers) pin.steps.2

  pub pinned_slots : pinned.world.slots ≡ w.world.slots
  pinned_slots = ap (λ (v : BareWorld). v.slots) pin.steps.2

  pub tied_pinned : AreTied log pinned.world
  tied_pinned = tied_slots log w.world pinned.world tied pinned_slots

  pub tied_opened : AreTied log w'.world
  tied_opened = tied_slots log w.world w'.world tied (visit.slots ∙ pinned_slots)

  waits_pinned : Waits pinned.world.callers id key
  waits_pinned = record { phase = Still; there = pinned_there w id key pinned pin; waits = refl }

  pub told_opened : AgreesHidden log.tree w.world → AgreesHidden log.tree w'.world
  told_opened told = told_by log.tree pinned.world w'.world (hiders_waiting pinned.world.callers id key w'.world.callers waits_pinned visit.callers) (told_pinned log.tree w pinned told id key pin)

  -- the new caller is the last of the callers, and it waits
  new_phase : (phase : Phase) × IsTrue (is_waiting phase) × (w'.world.callers ≡ w.world.callers ++ record { key = key; phase = phase } ∷ [])
  new_phase = go visit.callers
    where
      go : StillWaits pinned.world.callers id key w'.world.callers → (phase : Phase) × IsTrue (is_waiting phase) × (w'.world.callers ≡ w.world.callers ++ record { key = key; phase = phase } ∷ [])
      go (inl e) = (Still, refl, e ∙ pinned_callers)
      go (inr s) = (
        s.0,
        s.1,
        s.2 ∙ ap (λ cs. slice_set cs id (record { key = key; phase = s.0 })) pinned_callers ∙ ap (λ i. slice_set (w.world.callers ++ record { key = key; phase = Still } ∷ []) i (record { key = key; phase = s.0 })) pin.steps.0
            ∙ last_set w.world.callers (record { key = key; phase = Still }) (record { key = key; phase = s.0 }),
      )

  pub opened_held : (phase : Phase) × IsTrue (is_waiting phase) × (nodes_of log w' ≡ record { log = n.log; last = n.last; limit = n.limit; callers = n.callers ++ record { key = key; phase = phase } ∷ [] })
  opened_held = (
    new_phase.0,
    new_phase.1,
    seen_callers n log w w' (n.callers ++ record { key = key; phase = new_phase.0 } ∷ []) is (visit.slots ∙ pinned_slots) (visit.limit ∙ pin.limit)
        (new_phase.2 ∙ ap (λ (m : Nodes). m.callers ++ record { key = key; phase = new_phase.0 } ∷ []) is),
  )

  pub opened_may_release : (id' : ℕ) → id' ≡ id → May w' (Release id')
  opened_may_release id' e = let h = visited_waits pinned id key w' visit waits_pinned in
      subst (λ i. May w' (Release i)) (sym e) (_, (key, h.phase, h.there, waiting_releases h.phase h.waits, refl))

  module _ (w'' : BoundedWorld) (id' : ℕ) (e : id' ≡ id) (release : Happens w' (Release id') w'') where
    spent_key : release.steps.0 ≡ key
    spent_key = let h = visited_waits pinned id key w' visit waits_pinned in (one_key w'.world id release.steps.0 key release.steps.1 h.phase (subst (λ i. IsCaller w'.world i release.steps.0 release.steps.1) e release.steps.2) h.there)

    pub tied_given_back : AreTied log w''.world
    tied_given_back = tied_slots log w'.world w''.world tied_opened (ap (λ (v : BareWorld). v.slots) release.steps.4)

    pub told_given_back : AgreesHidden log.tree w.world → AgreesHidden log.tree w''.world
    told_given_back told = told_released log.tree w' w'' (told_opened told) id' release

    spent_callers : w''.world.callers ≡ n.callers ++ spent_on key ∷ []
    spent_callers =
        ap (λ (v : BareWorld). v.callers) release.steps.4
        ∙ ap (λ (k : Key). slice_set w'.world.callers id' (spent_on k)) spent_key
        ∙ ap (λ i. slice_set w'.world.callers i (spent_on key)) (e ∙ pin.steps.0)
        ∙ ap (λ cs. slice_set cs (length w.world.callers) (spent_on key)) new_phase.2
        ∙ last_set w.world.callers (record { key = key; phase = new_phase.0 }) (spent_on key)
        ∙ ap (λ (m : Nodes). m.callers ++ spent_on key ∷ []) is

    pub given_back_seen : nodes_of log w'' ≡ with_spent n (key ∷ [])
    given_back_seen = seen_callers n log w w'' (n.callers ++ spent_on key ∷ []) is (ap (λ (v : BareWorld). v.slots) release.steps.4 ∙ visit.slots ∙ pinned_slots) (release.limit ∙ visit.limit ∙ pin.limit) spent_callers

pub live_pinned : (n : Nodes) (log : TreeLog) (w pinned : BoundedWorld) (id : ℕ) (key : Key) → nodes_of log w ≡ n → AreTied log w.world → AgreesHidden log.tree w.world → Happens w (Pin id key) pinned → is_live_there pinned.world key ≡ live_in n.log.tree key
live_pinned n log w pinned id key is tied told pin =
    live_told log pinned.world key (tied_slots log w.world pinned.world tied (ap (λ (v : BareWorld). v.slots) pin.steps.2)) (told_pinned log.tree w pinned told id key pin) ∙ ap (λ (m : Nodes). live_in m.log.tree key) is

pub room_seen : (n : Nodes) (log : TreeLog) (w : BoundedWorld) (key : Key) → nodes_of log w ≡ n → holds w.world key.slot < w.limit → hold_count n.callers key.slot < n.limit
room_seen n log w key is h = subst (λ (m : Nodes). hold_count m.callers key.slot < m.limit) is h
