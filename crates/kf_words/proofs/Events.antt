-- Each step of a seat is its event, or no event, in the world that the views describe.
use Rattle.std.proofs.Common.{◌≡◌, ◌≢◌, ◌∷◌, ◌++◌, inl, inr, length, ℕ, zero, suc, ◌+◌, Bool, true, false, not, List, [], map, set, if◌then◌else◌, refl, sym, ap, ◌∙◌, subst, ⊎_elim, eq-eqb}
use Rattle.std.specs.Prelude.{slice_get, Option, Some, None, is_some}
use Rattle.std.proofs.lemmas.Option.{none-some, same_Some, get_or_from_slice_get}
use Rattle.std.proofs.lemmas.List.{length-map}
use mathlib.Core.Option.{some}
use mathlib.Core.List.{map-append}
use lib.ListN.{get_elem?}
use lib.Seq.{map-set}
use Rattle.atomic_table.specs.Table.{State}
use Rattle.kf_core.specs.declared.key.Key.{Key}
use Rattle.kf_core.specs.declared.caller.Caller.{Caller}
use Rattle.kf_core.specs.declared.caller.Phase.{Phase}
use Rattle.kf_core.specs.declared.caller.Phase.TheVariants.{Still, Turned, Running, Broken, Restored, Drained, Parted, Hiding, Hidden, Spent}
use Rattle.kf_core.specs.declared.event.Event.{Event}
use Rattle.kf_core.specs.declared.event.Event.TheVariants.{Enter, Leave, Break, Restore, Look, Part, Hide, LookHidden, Show, Release, Pin}
use Rattle.kf_core.specs.declared.slot.NodeFlags.{NodeFlags}
use Rattle.kf_core.specs.declared.slot.SlotState.{SlotState}
use Rattle.kf_core.specs.Bare.{BareWorld, IsLast, marks, marks_in, is_hidden, is_live}
use Rattle.kf_core.specs.Marks.{fresh_marks, are_doomed}
use Rattle.kf_core.specs.Steps as core
use Rattle.kf_core.proofs.Keeping.{same_key}
use Rattle.kf_words.specs.declared.view.CallerView.{CallerView}
use Rattle.kf_words.specs.declared.view.MasterView.{MasterView}
use Rattle.kf_words.specs.declared.view.View.{View}
use Rattle.kf_words.specs.Layout.{active_word, hold_word, keeps_out, is_drained, has_hide, is_unused, has_linked}
use Rattle.kf_words.specs.Rule.{Shown, caller, bare_world, last_key}
use Rattle.kf_words.specs.Steps.{after_step, with_try, no_state, state_at, remarked, new_hold, spent_hold, hold_for, after_split, activated_marks, doomed_marks, after_count, after_share, after_count_at}
use Rattle.kf_words.specs.Nodes.{marks_of}
use Rattle.kf_words.specs.Events.{Moves, TryIsEnter, UndoIsUndo, LookIsLook, PartIsPart, LeaveIsLeave, BreakIsBreak, RestoreIsRestore, ReleaseIsRelease, HideIsHide, LookHiddenIsLook, ShowIsShow, MissIsNothing, RiseIsRise, MarkIsMark, BirthIsBorn, UnlinkIsUnlink, SplitIsPin, HeldSplitIsPin, ShareIsPin, RestIsNothing, Passes, ReportPasses, AnswerPasses, CountAtIsPin}
use Rattle.kf_words.proofs.Bits.{bool_cases, waiting_is, not_not}
use Rattle.kf_words.proofs.Answered.{try_enters, try_refused, look_hits, look_misses, part_gone, part_linked, hide_sets, hide_found, look_hidden_hits, look_hidden_misses}
use Rattle.kf_words.proofs.Keys.{linked_state}
use Rattle.kf_words.proofs.Coming.{passes, spent_world}
use Rattle.kf_words.proofs.Seating.{caller_at}
use Rattle.kf_words.proofs.PinSteps.{linked_key}
use Rattle.kf_words.proofs.Sharing.{is_pinned}
use Rattle.kf_words.proofs.Tells.{lets_in_the_live, tells_the_hidden, drained_is_unused, unused_is_unused, free_is_unheld, tells_the_linked}

seated_at : (cs : List CallerView) (j : ℕ) (c : CallerView) → slice_get cs j ≡ Some c → get_elem? cs j ≡ some c
seated_at [] j c e = absurd (none-some c e)
seated_at (x ∷ xs) zero c e = ap some (same_Some x c e)
seated_at (x ∷ xs) (suc j) c e = seated_at xs j c e

caller_there : (cs : List CallerView) (j : ℕ) (c : CallerView) → slice_get cs j ≡ Some c → slice_get (map caller cs) j ≡ Some (caller c)
caller_there [] j c e = absurd (none-some c e)
caller_there (x ∷ xs) zero c e = ap (λ (y : CallerView). Some (caller y)) (same_Some x c e)
caller_there (x ∷ xs) (suc j) c e = caller_there xs j c e

-- caller j has this view
module _ (m : MasterView) (cs : List CallerView) (j : ℕ) (c : CallerView) (at : slice_get cs j ≡ Some c) where
  there : slice_get (bare_world m cs).callers j ≡ Some (caller c)
  there = caller_there cs j c at

  -- the caller's new view, with the same key, changes the world exactly as its new phase does
  becomes : (c' : CallerView) → caller c' ≡ record { key = c.key; phase = c'.phase } → core.with_phase (bare_world m cs) j c.key c'.phase ≡ bare_world m (set cs j c')
  becomes c' is =
      ap (λ (x : Caller). let w : BareWorld = record { slots = m.slots; callers = set (map caller cs) j x } in w) (sym is)
      ∙ ap (λ (l : List Caller). let w : BareWorld = record { slots = m.slots; callers = l } in w) (sym (map-set caller cs j c'))

  moved : (event : Event) (phase : Phase) (due : Bool) (found : ℕ) → core.BareStep (bare_world m cs) event (core.with_phase (bare_world m cs) j c.key phase) → Moves m cs j (after_step phase due found c) event
  moved event phase due found = subst (λ (w : BareWorld). core.BareStep (bare_world m cs) event w) (becomes (after_step phase due found c) refl)

  tried : (event : Event) (phase : Phase) (due : Bool) (found : ℕ) → core.BareStep (bare_world m cs) event (core.with_phase (bare_world m cs) j c.key phase) → Moves m cs j (after_step phase due found (with_try c)) event
  tried event phase due found = subst (λ (w : BareWorld). core.BareStep (bare_world m cs) event w) (becomes (after_step phase due found (with_try c)) refl)

  -- the world stays if the phase does
  stays : (due : Bool) (found : ℕ) → bare_world m (set cs j (after_step c.phase due found c)) ≡ bare_world m cs
  stays due found = sym (becomes (after_step c.phase due found c) refl) ∙ ap (λ (l : List Caller). let w : BareWorld = record { slots = m.slots; callers = l } in w) (same (map caller cs) j (caller c) there)
    where
      same : (l : List Caller) (i : ℕ) (x : Caller) → slice_get l i ≡ Some x → set l i x ≡ l
      same [] i x e = refl
      same (y ∷ ys) zero x e = ap (λ z. z ∷ ys) (sym (same_Some y x e))
      same (y ∷ ys) (suc i) x e = ap (λ l. y ∷ l) (same ys i x e)

  in_phase : (phase : Phase) → c.phase ≡ phase → slice_get (bare_world m cs).callers j ≡ Some (record { key = c.key; phase = phase })
  in_phase phase is = subst (λ (p : Phase). slice_get (bare_world m cs).callers j ≡ Some (record { key = c.key; phase = p })) is there

-- a caller that is not spent holds the last key of its slot
module _ (slots limit : ℕ) (t : State (Unit {0}) View) (shown : Shown slots limit t) (j : ℕ) (c : CallerView) (at : slice_get shown.callers j ≡ Some c) (holding : c.phase ≢ Spent) where
  abbrev world : BareWorld
  world = bare_world shown.master shown.callers

  last : IsLast world c.key.slot c.key.generation
  last = shown.shows.safe.held_last j c.key c.phase (there shown.master shown.callers j c at) holding

  known : marks world c.key ≡ last.0.marks
  known = ap (λ o. marks_in o c.key.generation) last.1 ∙ ap (λ (b : Bool). if b then last.0.marks else None) (eq-eqb last.0.generation c.key.generation last.2)

  its_key : last_key c.key.slot last.0 ≡ c.key
  its_key = same_key (last_key c.key.slot last.0) c.key refl last.2

  live_is : is_live world c.key ≡ not (keeps_out (active_word t.words c.key.slot))
  live_is = ap (is_live world) (sym its_key) ∙ sym (not_not (is_live world (last_key c.key.slot last.0))) ∙ ap not (sym (lets_in_the_live slots limit t shown c.key.slot last.0 last.1))

  hidden_is : is_hidden world c.key ≡ has_hide (active_word t.words c.key.slot)
  hidden_is = ap (is_hidden world) (sym its_key) ∙ sym (tells_the_hidden slots limit t shown c.key.slot last.0 last.1).1

  unused_is : is_unused (active_word t.words c.key.slot) ≡ true → core.NoReference world c.key
  unused_is hit = subst (core.NoReference world) its_key (unused_is_unused slots limit t shown c.key.slot last.0 last.1 hit)

  doomed_unused : is_drained (active_word t.words c.key.slot) ≡ true → (are_doomed (marks world c.key) ≡ true) × core.NoReference world c.key
  doomed_unused hit =
      let d = drained_is_unused slots limit t shown c.key.slot last.0 last.1 hit in
      (ap are_doomed known ∙ d.0, subst (core.NoReference world) (same_key (last_key c.key.slot last.0) c.key refl last.2) d.1)

  unlinked : has_linked (hold_word t.words c.key.slot) ≡ false → is_some (marks world c.key) ≡ false
  unlinked none = ap is_some known ∙ sym (tells_the_linked slots limit t shown c.key.slot last.0 last.1) ∙ none

pub try_is_enter : TryIsEnter
try_is_enter slots limit t shown j c at rests =
    let m : MasterView = shown.master in
    let cs : List CallerView = shown.callers in
    let word : ℕ = active_word t.words c.key.slot in
    let lives = live_is slots limit t shown j c at (waiting_is c.phase rests.0).0 in
    ⊎_elim
    (λ (biased : keeps_out word ≡ true). subst (λ (x : CallerView). Moves m cs j x (Enter j)) (sym (try_refused word c biased))
    (tried m cs j c at (Enter j) Turned true word
    (c.key, c.phase, there m cs j c at, rests.0, ap (core.with_phase (bare_world m cs) j c.key) (sym (ap (λ (b : Bool). if b then Running else Turned) (lives ∙ ap not biased))))))
    (λ (free : keeps_out word ≡ false). subst (λ (x : CallerView). Moves m cs j x (Enter j)) (sym (try_enters word c free))
    (tried m cs j c at (Enter j) Running false word
    (c.key, c.phase, there m cs j c at, rests.0, ap (core.with_phase (bare_world m cs) j c.key) (sym (ap (λ (b : Bool). if b then Running else Turned) (lives ∙ ap not free))))))
    (bool_cases (keeps_out word))

pub undo_is_undo : UndoIsUndo
undo_is_undo slots limit t shown j c at turned due = stays shown.master shown.callers j c at false c.found

pub look_is_look : LookIsLook
look_is_look slots limit t shown j c at rests hit =
    let m : MasterView = shown.master in
    let cs : List CallerView = shown.callers in
    let word : ℕ = active_word t.words c.key.slot in
    let d = doomed_unused slots limit t shown j c at (waiting_is c.phase rests.0).0 hit in
    subst (λ (x : CallerView). Moves m cs j x (Look j)) (sym (look_hits word c hit))
    (moved m cs j c at (Look j) Drained false word
    (record { key = c.key; phase = c.phase; there = there m cs j c at; waits = rests.0; doomed = d.0; unused = d.1 }, refl))

pub hide_is_hide : HideIsHide
hide_is_hide slots limit t shown j c at rests clear =
    let m : MasterView = shown.master in
    let cs : List CallerView = shown.callers in
    let word : ℕ = active_word t.words c.key.slot in
    subst (λ (x : CallerView). Moves m cs j x (Hide j)) (sym (hide_sets word c clear))
    (moved m cs j c at (Hide j) Hiding false word
    (record { key = c.key; phase = c.phase; there = there m cs j c at; waits = rests.0; shown = hidden_is slots limit t shown j c at (waiting_is c.phase rests.0).0 ∙ clear }, refl))

pub look_hidden_is_look : LookHiddenIsLook
look_hidden_is_look slots limit t shown j c at hiding hit =
    let m : MasterView = shown.master in
    let cs : List CallerView = shown.callers in
    let word : ℕ = active_word t.words c.key.slot in
    subst (λ (x : CallerView). Moves m cs j x (LookHidden j)) (sym (look_hidden_hits word c hit))
    (moved m cs j c at (LookHidden j) Hidden false word
    (record { key = c.key; there = in_phase m cs j c at Hiding hiding.0; unused = unused_is slots limit t shown j c at (λ e. let x : Hiding ≡ Spent = sym hiding.0 ∙ e in cc) hit }, refl))

pub show_is_show : ShowIsShow
show_is_show slots limit t shown j c at hid found =
    moved shown.master shown.callers j c at (Show j) Still false found (c.key, in_phase shown.master shown.callers j c at Hidden hid.0, refl)

pub part_is_part : PartIsPart
part_is_part slots limit t shown j c at drains none =
    let m : MasterView = shown.master in
    let cs : List CallerView = shown.callers in
    let hold : ℕ = hold_word t.words c.key.slot in
    subst (λ (x : CallerView). Moves m cs j x (Part j)) (sym (part_gone hold c none))
    (moved m cs j c at (Part j) Parted false hold
    (record { key = c.key; there = in_phase m cs j c at Drained drains.0; gone = unlinked slots limit t shown j c at (λ e. let x : Drained ≡ Spent = sym drains.0 ∙ e in cc) none }, refl))

pub leave_is_leave : LeaveIsLeave
leave_is_leave slots limit t shown j c at counted found =
    moved shown.master shown.callers j c at (Leave j) Still false found (c.key, c.phase, there shown.master shown.callers j c at, counted.0, refl)

pub break_is_break : BreakIsBreak
break_is_break slots limit t shown j c at runs found =
    moved shown.master shown.callers j c at (Break j) Broken false found (c.key, in_phase shown.master shown.callers j c at Running runs.0, refl)

pub restore_is_restore : RestoreIsRestore
restore_is_restore slots limit t shown j c at broke found =
    moved shown.master shown.callers j c at (Restore j) Restored false found (c.key, in_phase shown.master shown.callers j c at Broken broke.0, refl)

pub release_is_release : ReleaseIsRelease
release_is_release slots limit t shown j c at idles found =
    moved shown.master shown.callers j c at (Release j) Spent false found (c.key, c.phase, there shown.master shown.callers j c at, idles, refl)

pub miss_is_nothing : MissIsNothing
miss_is_nothing slots limit t shown j c at found =
    let m : MasterView = shown.master in
    let cs : List CallerView = shown.callers in (
      λ miss. ap (λ (x : CallerView). bare_world m (set cs j x)) (look_misses found c miss) ∙ stays m cs j c at c.undo_due found,
      λ linked. ap (λ (x : CallerView). bare_world m (set cs j x)) (part_linked found c linked) ∙ stays m cs j c at c.undo_due found,
      λ set_already. ap (λ (x : CallerView). bare_world m (set cs j x)) (hide_found found c set_already) ∙ stays m cs j c at c.undo_due found,
      λ used. ap (λ (x : CallerView). bare_world m (set cs j x)) (look_hidden_misses found c used) ∙ stays m cs j c at c.undo_due found,
      stays m cs j c at c.undo_due found,
      ap (λ (l : List Caller). let w : BareWorld = record { slots = m.slots; callers = l } in w) (map-set caller cs j (after_count found c) ∙ sym (map-set caller cs j (after_step c.phase c.undo_due found c)))
          ∙ stays m cs j c at c.undo_due found,
      λ slot. ap (λ (l : List Caller). let w : BareWorld = record { slots = m.slots; callers = l } in w) (map-set caller cs j (after_count_at slot found c) ∙ sym (map-set caller cs j (after_step c.phase c.undo_due found c)))
          ∙ stays m cs j c at c.undo_due found,
    )

-- writing an equal state to a slot gives the same world
remade : (m : MasterView) (cs : List CallerView) (slot : ℕ) (state state' : SlotState) → state ≡ state'
    → (let w : BareWorld = record { slots = set m.slots slot state; callers = map caller cs } in w) ≡ record { slots = set m.slots slot state'; callers = map caller cs }
remade m cs slot state state' is = ap (λ (x : SlotState). let w : BareWorld = record { slots = set m.slots slot x; callers = map caller cs } in w) is

-- the state of the slot of a linked key
state_is : (m : MasterView) (key : Key) (x : NodeFlags) → marks_of m key ≡ Some x → state_at m key.slot ≡ record { generation = key.generation; marks = Some x }
state_is m key x there =
    let s = linked_state m key (ap is_some there) in
    let same : s.0 ≡ x = same_Some s.0 x (sym (ap (λ o. marks_in o key.generation) s.1 ∙ ap (λ (b : Bool). if b then Some s.0 else None) (eq-eqb key.generation key.generation refl)) ∙ there) in
    get_or_from_slice_get m.slots key.slot _ no_state s.1 ∙ ap (λ (y : NodeFlags). let z : SlotState = record { generation = key.generation; marks = Some y } in z) same

pub rise_is_rise : RiseIsRise
rise_is_rise slots limit t shown key there =
    (there, remade shown.master shown.callers key.slot _ _ (ap (remarked activated_marks) (state_is shown.master key fresh_marks there)))

pub mark_is_mark : MarkIsMark
mark_is_mark slots limit t shown key x there undoomed =
    (x, there, undoomed, remade shown.master shown.callers key.slot _ _ (ap (remarked doomed_marks) (state_is shown.master key x there)))

pub birth_is_born : BirthIsBorn
birth_is_born slots limit t shown slot state parent name node is_fresh its =
    let m : MasterView = shown.master in
    let f = shown.shows.fresh slot is_fresh in
    let u = free_is_unheld slots limit t shown slot state its f.2 in (
      record {
        last = state.generation;
        unlinked = its ∙ ap (λ (o : Option NodeFlags). let x : SlotState = record { generation = state.generation; marks = o } in Some x) u.0;
        next = refl;
        unheld = u.1;
      },
      remade m shown.callers slot _ _ (ap (λ (x : SlotState). let y : SlotState = record { generation = x.generation + 1; marks = Some fresh_marks } in y) (get_or_from_slice_get m.slots slot state no_state its)),
    )

pub unlink_is_unlink : UnlinkIsUnlink
unlink_is_unlink slots limit t shown j c at drains linked =
    let m : MasterView = shown.master in
    let s = linked_state m c.key linked in (
      c.key,
      in_phase m shown.callers j c at Drained drains,
      linked,
      remade m shown.callers c.key.slot _ _ (ap (λ (x : SlotState). let y : SlotState = record { generation = x.generation; marks = None } in y) (get_or_from_slice_get m.slots c.key.slot _ no_state s.1)),
    )

pub split_is_pin : SplitIsPin
split_is_pin slots limit t shown slot state pins its may =
    let m : MasterView = shown.master in
    let cs : List CallerView = shown.callers in
    let who : hold_for m m.pinning ≡ new_hold (last_key slot state) =
    ap (hold_for m) pins ∙ ap (λ (y : SlotState). new_hold (last_key slot y)) (get_or_from_slice_get m.slots slot state no_state its) in (
      sym (length-map cs caller),
      may,
      ap (λ (x : CallerView). bare_world (after_split m) (cs ++ x ∷ [])) who
          ∙ ap (λ (l : List Caller). let w : BareWorld = record { slots = m.slots; callers = l } in w) (map-append caller cs (new_hold (last_key slot state) ∷ [])),
    )

pub held_split_is_pin : HeldSplitIsPin
held_split_is_pin slots limit t shown j c at holds pins =
    let m : MasterView = shown.master in
    let cs : List CallerView = shown.callers in
    let l = last slots limit t shown j c at holds in
    let key : last_key c.key.slot l.0 ≡ c.key = its_key slots limit t shown j c at holds in
    let held : core.IsHeld (bare_world m cs) c.key = record { caller = j; phase = c.phase; there = there m cs j c at; holds = holds } in
    subst (λ (k : Key). core.BareStep (bare_world m cs) (Pin (length cs) k) (bare_world (after_split m) (cs ++ hold_for m m.pinning ∷ []))) key
    (split_is_pin slots limit t shown c.key.slot l.0 pins l.1 (inr (subst (λ (k : Key). core.IsHeld (bare_world m cs) k) (sym key) held)))

pub share_is_pin : ShareIsPin
share_is_pin slots limit t shown j c at holding =
    let m : MasterView = shown.master in
    let cs : List CallerView = shown.callers in
    subst (λ (n : ℕ). core.BareStep (bare_world m cs) (Pin n c.key) (bare_world m (set cs j (after_share c) ++ new_hold c.key ∷ [])))
    (length-map cs caller) (is_pinned m cs j c (seated_at cs j c at) c.key (inr (record { caller = j; phase = c.phase; there = there m cs j c at; holds = holding })))

pub count_at_is_pin : CountAtIsPin
count_at_is_pin slots limit t shown j c at slot node =
    (sym (length-map shown.callers caller), inl (linked_key t.words shown.master shown.callers shown.shows slot node), refl)

pub rest_is_nothing : RestIsNothing
rest_is_nothing slots limit t shown slot found = (refl, refl, refl, refl, refl)

passes_as : (m : MasterView) (cs : List CallerView) (key : Key) → core.MayPin (bare_world m cs) key → Passes m cs key
passes_as m cs key may =
    subst (λ (n : ℕ). core.BareRun (bare_world m cs) (Pin n key ∷ Release n ∷ []) (bare_world m (cs ++ spent_hold key ∷ [])))
    (length-map cs caller) (passes (bare_world m cs) key may (bare_world m (cs ++ spent_hold key ∷ [])) (spent_world m cs key))

pub report_passes : ReportPasses
report_passes slots limit t shown j c at holding =
    let m : MasterView = shown.master in
    let cs : List CallerView = shown.callers in
    passes_as m cs c.key (inr (record { caller = j; phase = c.phase; there = caller_at cs j c (seated_at cs j c at); holds = holding }))

pub answer_passes : AnswerPasses
answer_passes slots limit t shown key may = passes_as shown.master shown.callers key may
