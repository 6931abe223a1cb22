-- What the Master knows about a slot and its keys, and how a search goes on load by load.
use Rattle.std.proofs.Common.{◌≡◌, ℕ, zero, suc, ◌+◌, get_or, slice_set, ◌<◌, ◌≤◌, ◌/◌, true, false, List, [], ◌∷◌, ◌++◌, length, refl, sym, ap, ◌∙◌, arith, subst}
use Rattle.std.specs.Prelude.{slice_get, Option, Some, None, is_some}
use Rattle.std.specs.Option.{option_map}
use Rattle.std.proofs.lemmas.Option.{slice_get_within, get_or_from_slice_get, none-some, same_Some}
use Rattle.kf_core.specs.declared.key.Key.{Key}
use Rattle.kf_core.specs.declared.slot.NodeFlags.{NodeFlags}
use Rattle.kf_core.specs.declared.slot.SlotState.{SlotState}
use Rattle.kf_core.specs.Marks.{fresh_marks}
use Rattle.kf_core.proofs.SlotStates.{in_place}
use Rattle.kf_core.proofs.Keeping.{linked_marks, same_key}
use Rattle.kf_words.specs.declared.view.Load.{Load}
use Rattle.kf_words.specs.declared.view.MasterView.{MasterView}
use Rattle.kf_words.specs.Layout.{IsFree}
use Rattle.kf_words.specs.Rule.{last_key}
use Rattle.kf_words.specs.Steps.{with_load, after_store, with_birth, without_node, state_at, no_state, remarked, TellsSlot}
use Rattle.kf_words.specs.Nodes.{FoundRoom, KeepsRooms, with_loads, IsLastKey, IsVacant, HasNext, marks_of, slots_with}
use Rattle.kf_words.proofs.Bits.{free_unlinked}
use Rattle.kf_words.proofs.MasterAllowed.{state_there}

pub with_loads_more : (loads : List Load) (x : Load) (m : MasterView) → with_loads (loads ++ x ∷ []) m ≡ with_load x.slot x.word (with_loads loads m)
with_loads_more [] x m = refl
with_loads_more (l ∷ ls) x m = with_loads_more ls x (with_load l.slot l.word m)

still_there : {X : Type 0} (xs ys : List X) (i : ℕ) (x : X) → slice_get xs i ≡ Some x → slice_get (xs ++ ys) i ≡ Some x
still_there [] ys i x h = absurd (none-some x h)
still_there (y ∷ xs) ys zero x h = h
still_there (y ∷ xs) ys (suc i) x h = still_there xs ys i x h

-- after one more load, the slots that were found to have room still are
pub rooms_kept : (m m' : MasterView) (slot found : ℕ) → m' ≡ with_load slot found m → KeepsRooms m m'
rooms_kept m m' slot found is s f =
    subst (λ (w : MasterView). FoundRoom w s) (sym is) (f.0, f.1, still_there m.loads (record { slot = slot; word = found } ∷ []) f.0 f.1 f.2, f.3, f.4)

pub with_loads_slots : (loads : List Load) (m : MasterView) → (with_loads loads m).slots ≡ m.slots
with_loads_slots [] m = refl
with_loads_slots (l ∷ ls) m = with_loads_slots ls (with_load l.slot l.word m)

pub get_there : {X : Type 0} (xs : List X) (i : ℕ) (d : X) → i < length xs → slice_get xs i ≡ Some (get_or xs i d)
get_there [] i d h = absurd (omega arith)
get_there (x ∷ xs) zero d h = refl
get_there (x ∷ xs) (suc i) d h = get_there xs i d (omega arith)

pub with_loads_limit : (loads : List Load) (m : MasterView) → (with_loads loads m).limit ≡ m.limit
with_loads_limit [] m = refl
with_loads_limit (l ∷ ls) m = with_loads_limit ls (with_load l.slot l.word m)

pub with_loads_pinning : (loads : List Load) (m : MasterView) → (with_loads loads m).pinning ≡ m.pinning
with_loads_pinning [] m = refl
with_loads_pinning (l ∷ ls) m = with_loads_pinning ls (with_load l.slot l.word m)

pub not_below : (a b : ℕ) → (a < b → ⊥) → b ≤ a
not_below a zero h = omega arith
not_below zero (suc b) h = absurd (h (omega arith))
not_below (suc a) (suc b) h = let r = not_below a b (λ l. h (omega arith)) in omega arith

-- a linked key is the last of its slot
pub linked_state : (m : MasterView) (key : Key) → is_some (marks_of m key) ≡ true → (x : NodeFlags) × (slice_get m.slots key.slot ≡ Some (record { generation = key.generation; marks = Some x }))
linked_state m key there = let x = linked_marks (marks_of m key) there in (x.0, in_place (slice_get m.slots key.slot) key.generation x.0 x.1)

pub last_of_linked : (m : MasterView) (key : Key) → is_some (marks_of m key) ≡ true → IsLastKey m key
last_of_linked m key there = let x = linked_state m key there in ap (option_map (λ (s : SlotState). s.generation)) x.1

last_state : (o : Option SlotState) (g : ℕ) → option_map (λ (s : SlotState). s.generation) o ≡ Some g → (s : SlotState) × (o ≡ Some s) × (s.generation ≡ g)
last_state None g e = absurd (none-some g e)
last_state (Some s) g e = (s, refl, same_Some s.generation g e)

pub last_within : (m m' : MasterView) (key : Key) → IsLastKey m key → m'.slots ≡ m.slots → key.slot < length m'.slots
last_within m m' key last same =
    let x = last_state (slice_get m.slots key.slot) key.generation last in
    slice_get_within m'.slots key.slot x.0 (ap (λ (l : List SlotState). slice_get l key.slot) same ∙ x.1)

pub last_is : (m m' : MasterView) (key : Key) → IsLastKey m key → m'.slots ≡ m.slots → last_key key.slot (state_at m' key.slot) ≡ key
last_is m m' key last same =
    let x = last_state (slice_get m.slots key.slot) key.generation last in
    let its = ap (λ (l : List SlotState). slice_get l key.slot) same ∙ x.1 in
    ap (last_key key.slot) (get_or_from_slice_get m'.slots key.slot x.0 no_state its) ∙ same_key (last_key key.slot x.0) key refl x.2

unlinked : (o : Option NodeFlags) → is_some o ≡ false → o ≡ None
unlinked None e = refl
unlinked (Some x) e = absurd (let y : true ≡ false = e in cc)

-- a slot that a load found free has a next generation
pub next_there : (m : MasterView) (slot found : ℕ) → slot < length m.slots → TellsSlot m slot found → IsFree found → HasNext m slot
next_there m slot found near tells free =
    let p = state_there m.slots slot near in
    let its : state_at m slot ≡ p.0 = get_or_from_slice_get m.slots slot p.0 no_state p.1 in
    let generation : found / 4294967296 ≡ p.0.generation = tells.0 ∙ ap (λ (s : SlotState). s.generation) its in
    let gone : p.0.marks ≡ None = unlinked p.0.marks (sym (ap (λ (s : SlotState). is_some s.marks) its) ∙ sym tells.1 ∙ free_unlinked found free) in
    let left = free.1 in
    (p.0.generation, p.1 ∙ ap (λ (o : Option NodeFlags). let s : SlotState = record { generation = p.0.generation; marks = o } in Some s) gone, omega arith)

-- the slots after the last node of a slot has left the tree
pub slots_unlinked : (m m' : MasterView) (key : Key) → IsLastKey m key → m'.slots ≡ m.slots → (without_node key.slot m').slots ≡ slots_with m.slots key None
slots_unlinked m m' key last same =
    ap (λ (l : List SlotState). slice_set l key.slot (record { generation = (state_at m' key.slot).generation; marks = None })) same
    ∙ ap (λ (g : ℕ). slice_set m.slots key.slot (record { generation = g; marks = None })) (ap (λ (k : Key). k.generation) (last_is m m' key last same))

-- the slots after a node with these marks gets other marks
pub slots_remarked : (m : MasterView) (key : Key) (change : NodeFlags → NodeFlags) (x : NodeFlags) → marks_of m key ≡ Some x → slice_set m.slots key.slot (remarked change (state_at m key.slot)) ≡ slots_with m.slots key (Some (change x))
slots_remarked m key change x had =
    let its : slice_get m.slots key.slot ≡ Some (record { generation = key.generation; marks = Some x }) = in_place (slice_get m.slots key.slot) key.generation x had in
    ap (λ (s : SlotState). slice_set m.slots key.slot (remarked change s)) (get_or_from_slice_get m.slots key.slot (record { generation = key.generation; marks = Some x }) no_state its)

-- the slots after a node is born
pub slots_born : (m : MasterView) (key : Key) → IsVacant m key → (with_birth key.slot (after_store key.slot m)).slots ≡ slots_with m.slots key (Some fresh_marks)
slots_born m key vacant =
    let was : SlotState = record { generation = vacant.last; marks = None } in
    ap (λ (s : SlotState). slice_set m.slots key.slot (record { generation = s.generation + 1; marks = Some fresh_marks })) (get_or_from_slice_get m.slots key.slot was no_state vacant.vacant)
    ∙ ap (λ (g : ℕ). slots_with m.slots (record { slot = key.slot; generation = g }) (Some fresh_marks)) (sym vacant.next)
