-- How the node of a slot is found in a tree, and the room that loads found for the slot's holds.
use Rattle.std.proofs.Common.{◌≡◌, inl, inr, ℕ, zero, suc, ◌<◌, refl, ap, sym, ◌∙◌, arith, Bool, true, false, List, length, [], ◌∷◌, ◌++◌, All}
use Rattle.std.specs.Prelude.{Contains, Option, None, Some, is_some, slice_get, if◌then◌else◌}
use Rattle.std.specs.Option.{option_map, option_and_then}
use Rattle.std.proofs.lemmas.Option.{none-some, slice_get_within}
use Rattle.std.proofs.lemmas.List.Elements.{All-push, All-contains, Contains-append_cases}
use Rattle.kf_core.specs.declared.key.Key.{Key}
use Rattle.kf_core.specs.declared.records.Record.{Record}
use Rattle.kf_core.specs.declared.refusal.Refusal.{Refusal}
use Rattle.kf_core.specs.declared.refusal.Refusal.TheVariants.{TooManyHolds}
use Rattle.kf_core.specs.Keys.{same_key}
use Rattle.kf_core.specs.declared.slot.SlotState.{SlotState}
use Rattle.kf_core.specs.Tree.{Tree, with_key, is_linked, parent_of, ancestor}
use Rattle.kf_core.specs.Lawful.{Lawful}
use Rattle.kf_core.specs.PostOrder.{IsPostOrder}
use Rattle.kf_core.proofs.FoundRecords.{in_found, linked_here, met_linked, subtree_to}
use Rattle.kf_core.proofs.Climbs.{same_key_is, same_key_self, meets_here}
use Rattle.kf_tree.specs.Subtrees.{key_in}
use Rattle.kf_words.specs.declared.view.MasterView.{MasterView}
use Rattle.kf_words.specs.Nodes.{FoundRoom, FoundFull, KeepsRooms, IsLastKey}
use Rattle.kf_shared.specs.Removal.{FoundRoomBelow, HoldsBelowRefused, HoldsInRefused}

-- a linked key is the key in its slot
pub linked_in_slot : (t : Tree) (key : Key) → is_linked t key ≡ true → key_in t key.slot ≡ Some key
linked_in_slot t key linked = go (slice_get t key.slot) linked
  where
    found : (b : Bool) (r : Record) → same_key r.key key ≡ b → is_some (if b then Some r else None) ≡ true → r.key ≡ key
    found true r same h = same_key_is r.key key same
    found false r same h = absurd (cc h)

    go : (o : Option (Option Record)) → is_some (option_and_then (with_key key) o) ≡ true → option_map (λ r. r.key) (option_and_then (λ r. r) o) ≡ Some key
    go None h = absurd (cc h)
    go (Some None) h = absurd (cc h)
    go (Some (Some r)) h = ap Some (found (same_key r.key key) r refl h)

-- the slot of a key that is found is a slot of the tree
pub found_within : (t : Tree) (slot : ℕ) (key : Key) → key_in t slot ≡ Some key → slot < length t
found_within t slot key h = go (slice_get t slot) refl h
  where
    go : (o : Option (Option Record)) → slice_get t slot ≡ o → option_map (λ r. r.key) (option_and_then (λ r. r) o) ≡ Some key → slot < length t
    go None is h = absurd (none-some key h)
    go (Some r) is h = slice_get_within t slot r is

-- the slot of a linked key is one of the slots
pub linked_within : (t : Tree) (key : Key) → is_linked t key ≡ true → key.slot < length t
linked_within t key linked = found_within t key.slot key (linked_in_slot t key linked)

-- one more node of a tour has room
pub rooms_more : (m m' : MasterView) (keys : List Key) (key : Key) → All (λ k. FoundRoom m k.slot) keys → KeepsRooms m m' → FoundRoom m' key.slot → All (λ k. FoundRoom m' k.slot) (keys ++ key ∷ [])
rooms_more m m' keys key before keeps here = All-push (λ k. FoundRoom m' k.slot) keys key (λ i d h. keeps _ (before i d h)) here

-- if each node that a tour passed before its top has room, so does each node below the top
pub all_rooms : (t : Tree) (top key : Key) (m : MasterView) (keys : List Key) → key ≡ top → IsPostOrder t top (keys ++ key ∷ []) → All (λ k. FoundRoom m k.slot) keys → FoundRoomBelow t top m
all_rooms t top key m keys ends order rooms k b = elim (Contains-append_cases keys (key ∷ []) k ((order.members k).1 (b.linked, b.below))) [
  | inl among ↦ All-contains (λ x. FoundRoom m x.slot) keys k rooms among
  | inr last ↦ absurd (b.other (sym (only last) ∙ ends))
]
  where
    only : Contains (key ∷ []) k → key ≡ k
    only (zero, h, e) = e
    only (suc n, h, e) = absurd (omega (arith, h))

-- nothing is below a key that is not linked
pub none_below : (t : Tree) (root top : Key) (m : MasterView) → Lawful t root → is_linked t top ≡ false → FoundRoomBelow t top m
none_below t root top m l absent key b =
    (let r = linked_here t key b.linked in
    let up = subtree_to t root l top key b.below in
    let x = met_linked t root l up.0 r.0 top r.1 (ap (ancestor t up.0) r.2 ∙ up.1) in
    let there : is_linked t top ≡ true = ap (is_linked t) (sym x.2) ∙ ap is_some (in_found t x.0 x.1) in
    absurd (let no : false ≡ true = sym absent ∙ there in cc))

-- if the top has room, holds of the whole subtree are refused for the cause that refused those below the top
pub in_refused : (t : Tree) (top : Key) (m m' : MasterView) (refusal : Refusal) → FoundRoom m top.slot → KeepsRooms m m' → HoldsBelowRefused t top m' refusal → HoldsInRefused t top m' refusal
in_refused t top m m' refusal here keeps h = elim h [
  | inl f ↦ inl (f.0, (f.1.0, f.1.2, f.1.3))
  | inr e ↦ inr (e.0, (keeps top.slot here, e.1))
]

-- if the top is full, holds of the subtree are refused as too many
pub top_full : (t : Tree) (top : Key) (m : MasterView) → FoundFull m top.slot → HoldsInRefused t top m TooManyHolds
top_full t top m full = inl (refl, (top, meets_here (parent_of t) (length t) top top (same_key_self top), full))

-- a key that is the last of its slot has one of the table's slots
pub last_within : (m : MasterView) (key : Key) → IsLastKey m key → key.slot < length m.slots
last_within m key last = go (slice_get m.slots key.slot) refl last
  where
    go : (o : Option SlotState) → slice_get m.slots key.slot ≡ o → option_map (λ (s : SlotState). s.generation) o ≡ Some key.generation → key.slot < length m.slots
    go None is h = absurd (none-some key.generation h)
    go (Some s) is h = slice_get_within m.slots key.slot s is

pub still_last : (m m' : MasterView) (key : Key) → m'.slots ≡ m.slots → IsLastKey m key → IsLastKey m' key
still_last m m' key same last = ap (λ (l : List SlotState). option_map (λ (s : SlotState). s.generation) (slice_get l key.slot)) same ∙ last
