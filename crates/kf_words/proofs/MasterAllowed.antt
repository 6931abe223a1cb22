-- The table allows each step of the Master.
use Rattle.std.proofs.Common.{◌≡◌, ℕ, zero, suc, ◌+◌, ◌-◌, ◌*◌, ◌/◌, ◌%◌, ◌^◌, ◌<◌, ◌≤◌, Bool, true, false, List, [], ◌∷◌, ◌++◌, length, set, get_or, refl, sym, ap, ◌∙◌, subst, arith, length-set}
use Rattle.std.specs.Prelude.{slice_get, Option, Some, None, is_some}
use Rattle.std.specs.Option.{option_map}
use Rattle.std.proofs.lemmas.Option.{get_or_from_slice_get}
use Rattle.std.proofs.lemmas.List.{set-get_or}
use mathlib.Core.Option.{some, none}
use lib.ListN.{get_elem?}
use Rattle.atomic_table.specs.Table.{State, step, Allows, Splits, keeps}
use Rattle.kf_core.specs.declared.slot.NodeFlags.{NodeFlags}
use Rattle.kf_core.specs.declared.slot.SlotState.{SlotState}
use Rattle.kf_core.specs.Marks.{fresh_marks}
use Rattle.kf_words.specs.declared.view.CallerView.{CallerView}
use Rattle.kf_words.specs.declared.view.MasterView.{MasterView}
use Rattle.kf_words.specs.declared.view.Load.{Load}
use Rattle.kf_words.specs.declared.view.View.{View}
use Rattle.kf_words.specs.declared.view.View.TheVariants as seat
use Rattle.kf_words.specs.Layout.{bit, bias, doom, linked, one_generation, active_index, hold_index, slot_of, active_word, hold_word, is_drained, has_linked, HasRoom, IsFree}
use Rattle.kf_words.specs.Rule.{holders, pins_in, last_key, Shows, Shown, seats}
use Rattle.kf_words.specs.Steps.{Seated, master_of, no_state, state_at, on_active, on_hold, remarked, with_marks, activated_marks, doomed_marks, with_load, with_pin, without_pin, with_birth, without_node, unread, after_split, new_hold, hold_for, after_store, with_look, On, MasterBecomes, LoadsHold, TellsSlot}
use Rattle.kf_words.specs.Nodes.{Found, FoundRoom, FoundFree}
use Rattle.kf_words.proofs.Bits.{linked_shows}
use Rattle.kf_words.proofs.Seating.{master_seat, seats-push}
use Rattle.kf_words.proofs.MasterSteps.{pin_counts, pin_back, freshen, birth, unlink, rise, mark_node}
use Rattle.kf_words.proofs.MasterViews.{give, load_kept, look_kept}

-- what must be proved of a step of the Master that changes word i by f, if the table has this many slots
abbrev pub Owes : ℕ → MasterView → ℕ → (ℕ → ℕ) → (ℕ → MasterView → MasterView) → Type 0
Owes count m i f after =
    (words : List ℕ) (cs : List CallerView) → length m.slots ≡ count → Shows words m cs → get_or words i 0 < 18446744073709551616
    → (length (after (get_or words i 0) m).slots ≡ count) × ((after (get_or words i 0) m).limit ≡ m.limit) × Shows (set words i (f (get_or words i 0))) (after (get_or words i 0) m) cs

pub allows : (count limit homes id : ℕ) (me : Seated) (i : ℕ) (f : ℕ → ℕ) (after : ℕ → ℕ → MasterView → MasterView) → me ≡ (seat.Master (master_of me.0), []) → Owes count (master_of me.0) i f (after (slot_of i))
    → Allows (Shown count limit) homes id me i f (MasterBecomes after (step 0 i 0 0 none) me)
allows count limit homes id me i f after is owes t h _ at small =
    let m : MasterView = master_of me.0 in
    let cs : List CallerView = h.callers in
    let n : ℕ = get_or t.words i 0 in
    let m' : MasterView = after (slot_of i) n m in
    let at' : get_elem? (seats h.master cs) id ≡ some (seat.Master m) = subst (λ (l : List View). get_elem? l id ≡ some (seat.Master m)) h.views (at ∙ ap (λ (x : Seated). some x.0) is) in
    let p = master_seat h.master m cs id at' in
    let views : set t.views id (seat.Master m') ≡ seats m' cs =
    ap (λ (l : List View). set l id (seat.Master m')) h.views ∙ ap (λ (k : ℕ). set (seats h.master cs) k (seat.Master m')) p.0 in
    let owed = owes t.words cs (ap (λ (x : MasterView). length x.slots) (sym p.1) ∙ h.all_slots) (subst (λ (x : MasterView). Shows t.words x cs) p.1 h.shows) small in (
      seat.Master m',
      keeps,
      tt,
      record { master = m'; callers = cs; views = views; all_slots = owed.0; most_holds = owed.1 ∙ ap (λ (x : MasterView). x.limit) (sym p.1) ∙ h.most_holds; shows = owed.2 },
      refl,
    )

-- any true statement may be added to what is said of a step
pub on_word : (holds : State (Unit {0}) View → Type 0) (homes id : ℕ) (me : Seated) (i : ℕ) (f : ℕ → ℕ) (told : ℕ → Seated → Type 0) (Is : Type 0) → Is
    → Allows holds homes id me i f told → Allows holds homes id me i f (λ n me'. Is × told n me')
on_word holds homes id me i f told Is is allowed t h far at small = let r = allowed t h far at small in (r.0, r.1, r.2, r.3, (is, r.4))

-- the slot of an active word, and of a hold word
pub active_slot : (slot i : ℕ) → active_index slot ≡ i → slot_of i ≡ slot
active_slot slot i its = omega arith

pub hold_slot : (slot i : ℕ) → hold_index slot ≡ i → slot_of i ≡ slot
hold_slot slot i its = omega arith

pub active_here : (slot i : ℕ) → active_index slot ≡ i → i ≡ active_index (slot_of i)
active_here slot i its = omega arith

pub hold_here : (slot i : ℕ) → hold_index slot ≡ i → i ≡ hold_index (slot_of i)
hold_here slot i its = omega arith

-- what must be proved of a step of the Master on word i, if the slot of the word is given
pub OwesSlot : MasterView → ℕ → ℕ → (ℕ → ℕ) → (ℕ → ℕ → MasterView → MasterView) → Type 0
OwesSlot m slot i f after =
    (words : List ℕ) (cs : List CallerView) → Shows words m cs → get_or words i 0 < 18446744073709551616
    → (length (after slot (get_or words i 0) m).slots ≡ length m.slots) × ((after slot (get_or words i 0) m).limit ≡ m.limit) × Shows (set words i (f (get_or words i 0))) (after slot (get_or words i 0) m) cs

slot_allows : (count limit homes id : ℕ) (me : Seated) (slot i : ℕ) (f : ℕ → ℕ) (after : ℕ → ℕ → MasterView → MasterView) → me ≡ (seat.Master (master_of me.0), []) → slot_of i ≡ slot → OwesSlot (master_of me.0) slot i f after
    → Allows (Shown count limit) homes id me i f (MasterBecomes after (step 0 i 0 0 none) me)
unfolding OwesSlot
slot_allows count limit homes id me slot i f after is back owes =
    allows count limit homes id me i f after is (λ words cs wide shows small.
    let m : MasterView = master_of me.0 in
    let owed = owes words cs shows small in
    subst (λ (x : ℕ). (length (after x (get_or words i 0) m).slots ≡ count) × ((after x (get_or words i 0) m).limit ≡ m.limit) × Shows (set words i (f (get_or words i 0))) (after x (get_or words i 0) m) cs) (sym back)
    (owed.0 ∙ wide, owed.1, owed.2))

-- a step on the active word of a slot, and one on its hold word
pub active_allows : (count limit homes id : ℕ) (me : Seated) (slot i : ℕ) (f : ℕ → ℕ) (after : ℕ → ℕ → MasterView → MasterView) → me ≡ (seat.Master (master_of me.0), []) → active_index slot ≡ i → OwesSlot (master_of me.0) slot (active_index slot) f after
    → Allows (Shown count limit) homes id me i f (On active_index (MasterBecomes after) (step 0 i 0 0 none) me)
active_allows count limit homes id me slot i f after is its owes =
    on_word (Shown count limit) homes id me i f (MasterBecomes after (step 0 i 0 0 none) me) (i ≡ active_index (slot_of i)) (active_here slot i its)
    (slot_allows count limit homes id me slot i f after is (active_slot slot i its) (subst (λ (k : ℕ). OwesSlot (master_of me.0) slot k f after) its owes))

pub hold_allows : (count limit homes id : ℕ) (me : Seated) (slot i : ℕ) (f : ℕ → ℕ) (after : ℕ → ℕ → MasterView → MasterView) → me ≡ (seat.Master (master_of me.0), []) → hold_index slot ≡ i → OwesSlot (master_of me.0) slot (hold_index slot) f after
    → Allows (Shown count limit) homes id me i f (On hold_index (MasterBecomes after) (step 0 i 0 0 none) me)
hold_allows count limit homes id me slot i f after is its owes =
    on_word (Shown count limit) homes id me i f (MasterBecomes after (step 0 i 0 0 none) me) (i ≡ hold_index (slot_of i)) (hold_here slot i its)
    (slot_allows count limit homes id me slot i f after is (hold_slot slot i its) (subst (λ (k : ℕ). OwesSlot (master_of me.0) slot k f after) its owes))

-- what is said of the step, in terms of its slot
pub told : (me me' : Seated) (slot i found : ℕ) (after : ℕ → ℕ → MasterView → MasterView) → me ≡ (seat.Master (master_of me.0), []) → slot_of i ≡ slot
    → me' ≡ (seat.Master (after (slot_of i) found (master_of me.0)), me.1) → me' ≡ (seat.Master (after slot found (master_of me.0)), [])
told me me' slot i found after is back now =
    now ∙ ap (λ (x : ℕ). let y : Seated = (seat.Master (after x found (master_of me.0)), me.1) in y) back
    ∙ ap (λ (l : List (ℕ × Unit {0})). let y : Seated = (seat.Master (after slot found (master_of me.0)), l) in y) (ap (λ (x : Seated). x.1) is)

pub load_owes : (m : MasterView) (slot : ℕ) → OwesSlot m slot (hold_index slot) (λ n. n) with_load
unfolding OwesSlot
load_owes m slot words cs shows small = (refl, refl, subst (λ (l : List ℕ). Shows l (with_load slot (hold_word words slot) m) cs) (sym (set-get_or words (hold_index slot) 0)) (load_kept words m cs shows slot))

pub pin_owes : (m : MasterView) (slot : ℕ) (state : SlotState) → slice_get m.slots slot ≡ Some state → m.pinning ≡ None → FoundRoom m slot → OwesSlot m slot (hold_index slot) (λ n. (n + 1) % 2 ^ 64) (unread with_pin)
unfolding OwesSlot
pin_owes m slot state its no_pin found words cs shows small =
    let room = (shows.loads found.0 found.1 found.2).1 found.4 in
    (refl, refl, pin_counts words m cs shows slot state its no_pin (subst (λ (k : ℕ). HasRoom m.limit (hold_word words k)) found.3 room) small)

pub unpin_owes : (m : MasterView) (slot : ℕ) (state : SlotState) → slice_get m.slots slot ≡ Some state → m.pinning ≡ Some slot → OwesSlot m slot (hold_index slot) (λ n. (n + (2 ^ 64 - 1)) % 2 ^ 64) (unread without_pin)
unfolding OwesSlot
unpin_owes m slot state its has_pin words cs shows small = (refl, refl, pin_back words m cs shows slot state its has_pin small)

pub unlink_owes : (m : MasterView) (slot : ℕ) (state : SlotState) (x : NodeFlags) (found : ℕ) → slice_get m.slots slot ≡ Some state → state.marks ≡ Some x → m.looked ≡ Some (record { slot = slot; word = found }) → is_drained found ≡ true → OwesSlot m slot (hold_index slot) (λ n. (n + (2 ^ 64 - linked)) % 2 ^ 64) (unread without_node)
unfolding OwesSlot
unlink_owes m slot state x found its there was hit words cs shows small = (
  length-set m.slots slot _,
  refl,
  subst (λ (p : SlotState). Shows (set words (hold_index slot) ((hold_word words slot + (2 ^ 64 - linked)) % 2 ^ 64)) (record (on_hold m) { slots = set m.slots slot (record { generation = p.generation; marks = None }) }) cs)
      (sym (get_or_from_slice_get m.slots slot state no_state its)) (unlink words m cs shows slot state its x found there was hit small),
)

pub birth_owes : (m : MasterView) (slot : ℕ) (state : SlotState) → slice_get m.slots slot ≡ Some state → m.fresh ≡ Some slot → OwesSlot m slot (hold_index slot) (λ n. (n + (one_generation + linked)) % 2 ^ 64) (unread with_birth)
unfolding OwesSlot
birth_owes m slot state its is_fresh words cs shows small = (
  length-set m.slots slot _,
  refl,
  subst (λ (p : SlotState). Shows (set words (hold_index slot) ((hold_word words slot + (one_generation + linked)) % 2 ^ 64)) (record (on_hold m) { slots = set m.slots slot (record { generation = p.generation + 1; marks = Some fresh_marks }); at_birth = m.loads }) cs)
      (sym (get_or_from_slice_get m.slots slot state no_state its)) (birth words m cs shows slot state its is_fresh small),
)

pub splits : (count limit id : ℕ) (v : View) (slot : ℕ) (state : SlotState) → v ≡ seat.Master (master_of v) → slice_get (master_of v).slots slot ≡ Some state → (master_of v).pinning ≡ Some slot
    → Splits (Shown count limit) id v (seat.Master (after_split (master_of v))) (seat.Caller (hold_for (master_of v) (master_of v).pinning))
splits count limit id v slot state is its pins t h at =
    let m : MasterView = master_of v in
    let cs : List CallerView = h.callers in
    let at' : get_elem? (seats h.master cs) id ≡ some (seat.Master m) = subst (λ (l : List View). get_elem? l id ≡ some (seat.Master m)) h.views (at ∙ ap some is) in
    let p = master_seat h.master m cs id at' in
    let shows : Shows t.words m cs = subst (λ (y : MasterView). Shows t.words y cs) p.1 h.shows in
    let c : CallerView = new_hold (last_key slot state) in
    let who : hold_for m m.pinning ≡ c = ap (hold_for m) pins ∙ ap (λ (y : SlotState). new_hold (last_key slot y)) (get_or_from_slice_get m.slots slot state no_state its) in
    let views : set t.views id (seat.Master (after_split m)) ++ seat.Caller (hold_for m m.pinning) ∷ [] ≡ seats (after_split m) (cs ++ c ∷ []) =
    ap (λ (l : List View). set l id (seat.Master (after_split m)) ++ seat.Caller (hold_for m m.pinning) ∷ []) h.views
    ∙ ap (λ (k : ℕ). set (seats h.master cs) k (seat.Master (after_split m)) ++ seat.Caller (hold_for m m.pinning) ∷ []) p.0
    ∙ ap (λ (y : CallerView). seats (after_split m) cs ++ seat.Caller y ∷ []) who ∙ seats-push (after_split m) cs c in
    record {
      master = after_split m;
      callers = cs ++ c ∷ [];
      views = views;
      all_slots = ap (λ (y : MasterView). length y.slots) (sym p.1) ∙ h.all_slots;
      most_holds = ap (λ (y : MasterView). y.limit) (sym p.1) ∙ h.most_holds;
      shows = give t.words m cs shows slot state its pins;
    }

-- a slot of the table has a state
pub state_there : (l : List SlotState) (slot : ℕ) → slot < length l → (state : SlotState) × (slice_get l slot ≡ Some state)
state_there [] slot h = absurd (omega arith)
state_there (x ∷ xs) zero h = (x, refl)
state_there (x ∷ xs) (suc slot) h = state_there xs slot (omega arith)

pub keeps_master : (me' : Seated) (m : MasterView) → me' ≡ (seat.Master m, []) → me' ≡ (seat.Master (master_of me'.0), [])
keeps_master me' m e = e ∙ ap (λ (x : MasterView). let y : Seated = (seat.Master x, []) in y) (sym (ap (λ (x : Seated). master_of x.0) e))

pub at_end : {A : Type 0} (l : List A) (x : A) → slice_get (l ++ x ∷ []) (length l) ≡ Some x
at_end [] x = refl
at_end (y ∷ ys) x = at_end ys x

-- the load that was just made found such a word
pub found_by : (Such : ℕ → Type 0) (m m' : MasterView) (slot found : ℕ) → m' ≡ with_load slot found m → Such found → Found Such m' slot
found_by Such m m' slot found is such =
    let load : Load = record { slot = slot; word = found } in
    subst (λ (w : MasterView). Found Such w slot) (sym is) (length m.loads, load, at_end m.loads load, refl, such)

look_owes : (m : MasterView) (slot : ℕ) → OwesSlot m slot (active_index slot) (λ n. n) with_look
unfolding OwesSlot
look_owes m slot words cs shows small = (refl, refl, subst (λ (l : List ℕ). Shows l (with_look slot (active_word words slot) m) cs) (sym (set-get_or words (active_index slot) 0)) (look_kept words m cs shows slot))

pub look_allowed : (count limit homes id : ℕ) (me : Seated) (slot i : ℕ) → me ≡ (seat.Master (master_of me.0), []) → active_index slot ≡ i → Allows (Shown count limit) homes id me i (λ n. n) (On active_index (MasterBecomes with_look) (step 0 i 0 0 none) me)
look_allowed count limit homes id me slot i is its = active_allows count limit homes id me slot i (λ n. n) with_look is its (look_owes (master_of me.0) slot)

fresh_owes : (m : MasterView) (slot : ℕ) → slot < length m.slots → FoundFree m slot → OwesSlot m slot (active_index slot) (λ _. bias) (unread after_store)
unfolding OwesSlot
fresh_owes m slot near found words cs shows small =
    let p = state_there m.slots slot near in
    (refl, refl, freshen words m cs shows slot p.0 p.1 (subst (λ (k : ℕ). IsFree (hold_word words k)) found.3 ((shows.loads found.0 found.1 found.2).0 found.4)))

pub fresh_allowed : (count limit homes id : ℕ) (me : Seated) (slot i : ℕ) → me ≡ (seat.Master (master_of me.0), []) → active_index slot ≡ i → slot < length (master_of me.0).slots → FoundFree (master_of me.0) slot
    → Allows (Shown count limit) homes id me i (λ _. bias) (On active_index (MasterBecomes (unread after_store)) (step 0 i 0 0 none) me)
fresh_allowed count limit homes id me slot i is its near found = active_allows count limit homes id me slot i (λ _. bias) (unread after_store) is its (fresh_owes (master_of me.0) slot near found)

pub generation_of : (b : Bool) (g n : ℕ) → n ≤ 65535 → (g * 4294967296 + bit b linked + n) / 4294967296 ≡ g
generation_of true g n h = omega arith
generation_of false g n h = omega arith

pub load_allowed : (count limit homes id : ℕ) (me : Seated) (slot i : ℕ) → me ≡ (seat.Master (master_of me.0), []) → hold_index slot ≡ i → slot < length (master_of me.0).slots
    → Allows (Shown count limit) homes id me i (λ n. n) (On hold_index LoadsHold (step 0 i 0 0 none) me)
load_allowed count limit homes id me slot i is its near t h far at small =
    let m : MasterView = master_of me.0 in
    let r = hold_allows count limit homes id me slot i (λ n. n) with_load is its (load_owes m slot) t h far at small in
    let cs : List CallerView = h.callers in
    let at' : get_elem? (seats h.master cs) id ≡ some (seat.Master m) = subst (λ (l : List View). get_elem? l id ≡ some (seat.Master m)) h.views (at ∙ ap (λ (x : Seated). some x.0) is) in
    let p = master_seat h.master m cs id at' in
    let shows : Shows t.words m cs = subst (λ (x : MasterView). Shows t.words x cs) p.1 h.shows in
    let x = state_there m.slots slot near in
    let s = shows.holds slot x.0 x.1 in
    let few : holders slot cs + pins_in m.pinning slot ≤ 65535 = (let a = s.1 in let b = shows.few in omega arith) in
    let known : state_at m slot ≡ x.0 = get_or_from_slice_get m.slots slot x.0 no_state x.1 in
    let generation : get_or t.words i 0 / one_generation ≡ (state_at m slot).generation =
    ap (λ (k : ℕ). get_or t.words k 0 / one_generation) (sym its) ∙ ap (λ (n : ℕ). n / one_generation) s.0
    ∙ generation_of (is_some x.0.marks) x.0.generation (holders slot cs + pins_in m.pinning slot) few
    ∙ sym (ap (λ (y : SlotState). y.generation) known) in
    let node : has_linked (get_or t.words i 0) ≡ is_some (state_at m slot).marks =
    ap (λ (k : ℕ). has_linked (get_or t.words k 0)) (sym its) ∙ linked_shows m.limit (hold_word t.words slot) x.0 (holders slot cs + pins_in m.pinning slot) shows.few s
    ∙ sym (ap (λ (y : SlotState). is_some y.marks) known) in
    (r.0, r.1, r.2, r.3, (r.4.0, (r.4.1, subst (λ (k : ℕ). TellsSlot m k (get_or t.words i 0)) (sym (hold_slot slot i its)) (generation, node))))

-- the state that the step writes, if the old state is known
remarked_is : (m : MasterView) (slot : ℕ) (state : SlotState) (x : NodeFlags) (change : NodeFlags → NodeFlags) → slice_get m.slots slot ≡ Some state → state.marks ≡ Some x
    → remarked change (state_at m slot) ≡ record { generation = state.generation; marks = Some (change x) }
remarked_is m slot state x change its there =
    ap (remarked change) (get_or_from_slice_get m.slots slot state no_state its)
    ∙ ap (λ (o : Option NodeFlags). let p : SlotState = record { generation = state.generation; marks = option_map change o } in p) there

rise_owes : (m : MasterView) (slot : ℕ) (state : SlotState) → slice_get m.slots slot ≡ Some state → state.marks ≡ Some fresh_marks → OwesSlot m slot (active_index slot) (λ n. (n + (2 ^ 64 - bias)) % 2 ^ 64) (unread (with_marks activated_marks))
unfolding OwesSlot
rise_owes m slot state its there words cs shows small = (
  length-set m.slots slot _,
  refl,
  subst (λ (p : SlotState). Shows (set words (active_index slot) ((active_word words slot + (2 ^ 64 - bias)) % 2 ^ 64)) (record (on_active m) { slots = set m.slots slot p }) cs)
      (sym (remarked_is m slot state fresh_marks activated_marks its there)) (rise words m cs shows slot state its there),
)

pub rise_allowed : (count limit homes id : ℕ) (me : Seated) (slot i : ℕ) (state : SlotState) → me ≡ (seat.Master (master_of me.0), []) → active_index slot ≡ i → slice_get (master_of me.0).slots slot ≡ Some state → state.marks ≡ Some fresh_marks
    → Allows (Shown count limit) homes id me i (λ n. (n + (2 ^ 64 - bias)) % 2 ^ 64) (On active_index (MasterBecomes (unread (with_marks activated_marks))) (step 0 i 0 0 none) me)
rise_allowed count limit homes id me slot i state is at its there =
    active_allows count limit homes id me slot i (λ n. (n + (2 ^ 64 - bias)) % 2 ^ 64) (unread (with_marks activated_marks)) is at (rise_owes (master_of me.0) slot state its there)

mark_owes : (m : MasterView) (slot : ℕ) (state : SlotState) (x : NodeFlags) (k : ℕ) → slice_get m.slots slot ≡ Some state → state.marks ≡ Some x → x.doomed ≡ false → k ≡ bit x.activated bias + doom
    → OwesSlot m slot (active_index slot) (λ n. (n + k) % 2 ^ 64) (unread (with_marks doomed_marks))
unfolding OwesSlot
mark_owes m slot state x k its there undoomed bits words cs shows small = (
  length-set m.slots slot _,
  refl,
  subst (λ (p : SlotState). Shows (set words (active_index slot) ((active_word words slot + k) % 2 ^ 64)) (record (on_active m) { slots = set m.slots slot p }) cs)
      (sym (remarked_is m slot state x doomed_marks its there)) (mark_node words m cs shows slot state its x k there undoomed bits),
)

pub mark_allowed : (count limit homes id : ℕ) (me : Seated) (slot i : ℕ) (state : SlotState) (x : NodeFlags) (k : ℕ) → me ≡ (seat.Master (master_of me.0), []) → active_index slot ≡ i → slice_get (master_of me.0).slots slot ≡ Some state → state.marks ≡ Some x → x.doomed ≡ false → k ≡ bit x.activated bias + doom
    → Allows (Shown count limit) homes id me i (λ n. (n + k) % 2 ^ 64) (On active_index (MasterBecomes (unread (with_marks doomed_marks))) (step 0 i 0 0 none) me)
mark_allowed count limit homes id me slot i state x k is at its there undoomed bits =
    active_allows count limit homes id me slot i (λ n. (n + k) % 2 ^ 64) (unread (with_marks doomed_marks)) is at (mark_owes (master_of me.0) slot state x k its there undoomed bits)
