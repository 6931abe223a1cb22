-- In every run the tree and the list of slots agree on every key.
use Rattle.std.proofs.Common.{◌≡◌, inl, inr, ℕ, zero, suc, List, [], ◌∷◌, map, refl, ap, sym, ◌∙◌, subst, Bool, true, false, cond, slice_set}
use Rattle.std.specs.Prelude.{slice_get, Option, Some, None, nat_eq, ◌&&◌, replicate}
use Rattle.std.specs.Option.{option_map, option_and_then}
use Rattle.std.proofs.lemmas.Option.{same_Some, none-some, slice_get-map}
use Rattle.std.proofs.lemmas.Bool.{eq-eqb}
use Rattle.kf_core.specs.declared.key.Key.{Key}
use Rattle.kf_core.specs.declared.slot.NodeFlags.{NodeFlags}
use Rattle.kf_core.specs.declared.slot.SlotState.{SlotState}
use Rattle.kf_core.specs.declared.records.Record.{Record}
use Rattle.kf_core.specs.declared.event.Event.{Event}
use Rattle.kf_core.specs.declared.event.Event.TheVariants.{Born, Rise, Mark, Move, Pin, Enter, Leave, Break, Restore, Look, Unlink, Part, Hide, LookHidden, Show, Release, Undo}
use Rattle.kf_core.specs.Keys.{same_key as is_same_key}
use Rattle.kf_core.specs.Agrees.{Agrees}
use Rattle.kf_core.specs.Bare.{BareWorld, marks, marks_in}
use Rattle.kf_core.specs.Marks.{fresh_marks, live_marks}
use Rattle.kf_core.specs.Tree.{Tree, is_linked, with_key}
use Rattle.kf_core.specs.Commands.{change, activated_record, doomed_record, hidden_record, moved_record, new_record}
use Rattle.kf_core.specs.Steps.{with_marks}
use Rattle.kf_core.specs.Worlds.{World, Slot, bare_slot, bare, tree, opening, Step, Run}
use Rattle.kf_core.proofs.Lists.{after_set, after_write}
use Rattle.kf_core.proofs.Keeping.{slot_state, linked_marks}
use Rattle.kf_core.proofs.SlotStates.{in_place}

-- each record has the key of its slot, with the slot's last generation
abbrev pub IsKeyed : List SlotState → Tree → Type 0
IsKeyed states t = (slot : ℕ) (s : SlotState) (r : Record) → slice_get states slot ≡ Some s → slice_get t slot ≡ Some (Some r) → r.key ≡ record { slot = slot; generation = s.generation }

-- after a change of records that keeps their keys, the record at a place has the key that was there before
changed_at : (t : Tree) (chosen : Record → Bool) (f : Record → Record) (slot : ℕ) (r : Record) → ((x : Record) → (f x).key ≡ x.key) → slice_get (change chosen f t) slot ≡ Some (Some r) → (x : Record) × (slice_get t slot ≡ Some (Some x)) × (r.key ≡ x.key)
changed_at [] chosen f slot r keeps h = absurd (none-some _ h)
changed_at (None ∷ t) chosen f zero r keeps h = absurd (none-some r (same_Some _ _ h))
changed_at (Some x ∷ t) chosen f zero r keeps h = (
  x,
  refl,
  elim (chosen x) as (λ b. cond b (f x) x ≡ r → r.key ≡ x.key) [
    | true ↦ λ e. ap (λ (y : Record). y.key) (sym e) ∙ keeps x
    | false ↦ λ e. ap (λ (y : Record). y.key) (sym e)
  ] (same_Some _ _ (same_Some _ _ h)),
)
changed_at (y ∷ t) chosen f (suc slot) r keeps h = changed_at t chosen f slot r keeps h

change_keyed : (states : List SlotState) (t : Tree) (chosen : Record → Bool) (f : Record → Record) → ((x : Record) → (f x).key ≡ x.key) → IsKeyed states t → IsKeyed states (change chosen f t)
change_keyed states t chosen f keeps keyed slot s r is there = let x = changed_at t chosen f slot r keeps there in x.2 ∙ keyed slot s x.0 is x.1

-- records have the keys of their slots after a linked node gets other marks
marks_keyed : (w : BareWorld) (t : Tree) (key : Key) (m : NodeFlags) (m' : Option NodeFlags) → marks w key ≡ Some m → IsKeyed w.slots t → IsKeyed (with_marks w key m').slots t
marks_keyed w t key m m' linked keyed slot s r is there = elim (after_write w.slots key.slot slot (slot_state key.generation m') s is) [
  | inl p ↦ keyed slot (slot_state key.generation (Some m)) r (subst (λ x. slice_get w.slots x ≡ Some (slot_state key.generation (Some m))) p.0 (in_place (slice_get w.slots key.slot) key.generation m linked)) there
      ∙ ap (λ (x : SlotState). record { slot = slot; generation = x.generation }) p.1
  | inr p ↦ keyed slot s r p.1 there
]

-- records have the keys of their slots after a birth
born_keyed : (w : BareWorld) (t : Tree) (key : Key) (m : Option NodeFlags) (new : Record) → new.key ≡ key → IsKeyed w.slots t → IsKeyed (with_marks w key m).slots (slice_set t key.slot (Some new))
born_keyed w t key m new e keyed slot s r is there = elim (after_write w.slots key.slot slot (slot_state key.generation m) s is) [
  | inl p ↦ elim (after_write t key.slot slot (Some new) (Some r) there) [
    | inl q ↦ ap (λ (x : Record). x.key) (sym (same_Some new r q.1)) ∙ (e ∙ (ap (λ x. record { slot = x; generation = key.generation }) p.0 ∙ ap (λ (x : SlotState). record { slot = slot; generation = x.generation }) p.1))
    | inr q ↦ absurd (q.0 p.0)
  ]
  | inr p ↦ elim (after_write t key.slot slot (Some new) (Some r) there) [
    | inl q ↦ absurd (p.0 q.0)
    | inr q ↦ keyed slot s r p.1 q.1
  ]
]

-- records have the keys of their slots after a slot is emptied
empty_keyed : (states : List SlotState) (t : Tree) (slot' : ℕ) → IsKeyed states t → IsKeyed states (slice_set t slot' None)
empty_keyed states t slot' keyed slot s r is there = elim (after_set t slot' slot None (Some r) there) [
  | inl e ↦ absurd (none-some r e)
  | inr h ↦ keyed slot s r is h
]

taken_keyed : (states : List SlotState) (t : Tree) (key : Key) (b : Bool) → IsKeyed states t → IsKeyed states (cond b (slice_set t key.slot None) t)
taken_keyed states t key true keyed = empty_keyed states t key.slot keyed
taken_keyed states t key false keyed = keyed

shown_keyed : (w : World) (b : BareWorld) (t : Tree) → bare w ≡ b → tree w ≡ t → IsKeyed b.slots t → IsKeyed (bare w).slots (tree w)
shown_keyed w b t eb et k = subst (λ (x : BareWorld). IsKeyed x.slots (tree w)) (sym eb) (subst (IsKeyed b.slots) (sym et) k)

-- each record of the world has the key of its slot
abbrev pub Keyed : World → Type 0
Keyed w = IsKeyed (bare w).slots (tree w)

-- each step keeps the keys of records
step_keyed : (w : World) (e : Event) (w' : World) → Step w e w' → Keyed w → Keyed w'
step_keyed w (Born key parent name node) w' s k = shown_keyed w' _ _ s.bare_step.1 s.tree_step (born_keyed (bare w) (tree w) key (Some fresh_marks) (new_record key parent name node false) refl k)
step_keyed w (Rise key) w' s k = shown_keyed w' _ _ s.bare_step.1 s.tree_step (change_keyed _ (tree w) _ activated_record (λ _. refl) (marks_keyed (bare w) (tree w) key fresh_marks (Some live_marks) s.bare_step.0 k))
step_keyed w (Mark key) w' s k = shown_keyed w' _ _ s.bare_step.3 s.tree_step (change_keyed _ (tree w) _ doomed_record (λ _. refl) (marks_keyed (bare w) (tree w) key s.bare_step.0 _ s.bare_step.1 k))
step_keyed w (Move key dir name) w' s k = shown_keyed w' _ _ s.bare_step s.tree_step.1 (change_keyed _ (tree w) _ (moved_record dir name) (λ _. refl) k)
step_keyed w (Pin c key) w' s k = shown_keyed w' _ _ s.bare_step.2 s.tree_step k
step_keyed w (Enter c) w' s k = shown_keyed w' _ _ s.bare_step.4 s.tree_step k
step_keyed w (Leave c) w' s k = shown_keyed w' _ _ s.bare_step.4 s.tree_step k
step_keyed w (Break c) w' s k = shown_keyed w' _ _ s.bare_step.2 s.tree_step k
step_keyed w (Restore c) w' s k = shown_keyed w' _ _ s.bare_step.2 s.tree_step k
step_keyed w (Look c) w' s k = shown_keyed w' _ _ s.bare_step.1 s.tree_step k
step_keyed w (Unlink c) w' s k =
    let m = linked_marks (marks (bare w) s.bare_step.0) s.bare_step.2 in
    shown_keyed w' _ _ s.bare_step.3 s.tree_step.4 (taken_keyed _ (tree w) s.tree_step.0 (is_linked (tree w) s.tree_step.0) (marks_keyed (bare w) (tree w) s.bare_step.0 m.0 None m.1 k))
step_keyed w (Part c) w' s k = shown_keyed w' _ _ s.bare_step.1 s.tree_step k
step_keyed w (Hide c) w' s k = shown_keyed w' _ _ s.bare_step.1 s.tree_step.3 (change_keyed _ (tree w) _ (hidden_record true) (λ _. refl) k)
step_keyed w (LookHidden c) w' s k = shown_keyed w' _ _ s.bare_step.1 s.tree_step k
step_keyed w (Show c) w' s k = shown_keyed w' _ _ s.bare_step.2 s.tree_step.3 (change_keyed _ (tree w) _ (hidden_record false) (λ _. refl) k)
step_keyed w (Release c) w' s k = shown_keyed w' _ _ s.bare_step.4 s.tree_step k
step_keyed w (Undo c) w' s k = shown_keyed w' _ _ s.bare_step s.tree_step k

run_keyed : (events : List Event) (w w' : World) → Run w events w' → Keyed w → Keyed w'
run_keyed [] w w' r k = subst Keyed (sym r) k
run_keyed (e ∷ es) w w' r k = run_keyed es r.0 w' r.2 (step_keyed w e r.0 r.1 k)

pub no_record : (n start slot : ℕ) (r : Record) → slice_get (map (λ (s : Slot). s.linked) (replicate n (record { last = start; linked = None }))) slot ≡ Some (Some r) → ⊥
no_record zero start slot r h = none-some _ h
no_record (suc n) start zero r h = none-some r (same_Some _ _ h)
no_record (suc n) start (suc slot) r h = no_record n start slot r h

opening_keyed : (count start : ℕ) → Keyed (opening count start)
opening_keyed zero start slot s r is there = absurd (none-some _ is)
opening_keyed (suc n) start zero s r is there = ap (λ (x : Record). x.key) (sym (same_Some _ _ (same_Some _ _ there))) ∙ ap (λ (x : SlotState). record { slot = 0; generation = x.generation }) (same_Some _ _ is)
opening_keyed (suc n) start (suc slot) s r is there = absurd (no_record n start slot r there)

-- a key has the same marks in the tree and in the list of slots
told_same : (key : Key) (last : ℕ) (linked : Option Record) → ((r : Record) → linked ≡ Some r → r.key ≡ record { slot = key.slot; generation = last }) →
    option_map (λ (r : Record). r.marks) (with_key key linked) ≡ cond (nat_eq last key.generation) (option_map (λ (r : Record). r.marks) linked) None
told_same key last None keyed = elim (nat_eq last key.generation) as (λ b. ◌≡◌ {A = Option NodeFlags} None (cond b None None)) [ true ↦ refl | false ↦ refl ]
told_same key last (Some r) keyed =
    let e : is_same_key r.key key ≡ nat_eq last key.generation = ap (λ (k : Key). is_same_key k key) (keyed r refl) ∙ ap (λ b. b && nat_eq last key.generation) (eq-eqb key.slot key.slot refl) in
    ap (λ b. option_map (λ (x : Record). x.marks) (cond b (Some r) None)) e
    ∙ elim (nat_eq last key.generation) as (λ b. ◌≡◌ {A = Option NodeFlags} (option_map (λ (x : Record). x.marks) (cond b (Some r) None)) (cond b (Some r.marks) None)) [ true ↦ refl | false ↦ refl ]

both_tell : (key : Key) (o : Option Slot) → ((x : Slot) (r : Record) → o ≡ Some x → x.linked ≡ Some r → r.key ≡ record { slot = key.slot; generation = x.last }) →
    option_map (λ (r : Record). r.marks) (option_and_then (with_key key) (option_map (λ (x : Slot). x.linked) o)) ≡ marks_in (option_map bare_slot o) key.generation
both_tell key None keyed = refl
both_tell key (Some x) keyed = told_same key x.last x.linked (λ r linked. keyed x r refl linked)

keyed_agrees : (w : World) → Keyed w → Agrees (tree w) (bare w)
keyed_agrees w keyed key =
    ap (λ (o : Option (Option Record)). option_map (λ (r : Record). r.marks) (option_and_then (with_key key) o)) (slice_get-map (λ (x : Slot). x.linked) w.slots key.slot)
    ∙ (both_tell key (slice_get w.slots key.slot) (λ x r is linked. keyed key.slot (bare_slot x) r (slice_get-map bare_slot w.slots key.slot ∙ ap (option_map bare_slot) is) (slice_get-map (λ (y : Slot). y.linked) w.slots key.slot ∙ (ap (option_map (λ (y : Slot). y.linked)) is ∙ ap Some linked)))
    ∙ ap (λ (o : Option SlotState). marks_in o key.generation) (sym (slice_get-map bare_slot w.slots key.slot)))

-- in every run the tree and the list of slots agree on every key
pub run_agrees : (count start : ℕ) (events : List Event) (w : World) → Run (opening count start) events w → Agrees (tree w) (bare w)
run_agrees count start events w r = keyed_agrees w (run_keyed events (opening count start) w r (opening_keyed count start))
