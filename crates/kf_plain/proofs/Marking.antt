-- The marks of several nodes are changed one after another: no node is changed twice, and nothing else
-- changes.
use Rattle.std.proofs.Common.{◌≡◌, ◌≢◌, inl, inr, ℕ, zero, suc, ◌<◌, refl, ap, arith, sym, ◌∙◌, Bool, true, false, List, [], ◌∷◌, length, take, slice_set}
use Rattle.std.specs.Prelude.{Option, Some, slice_get, slice_index_or, ◌||◌, AllPairs}
use Rattle.std.specs.Option.{option_map}
use Rattle.std.proofs.lemmas.Option.{same_Some, slice_get-map}
use Rattle.std.proofs.lemmas.List.{map-set}
use Rattle.kf_core.specs.declared.key.Key.{Key}
use Rattle.kf_core.specs.declared.slot.NodeFlags.{NodeFlags}
use Rattle.kf_core.specs.declared.slot.SlotState.{SlotState}
use Rattle.kf_core.specs.Bare.{BareWorld, marks}
use Rattle.kf_world.specs.Bounded.{BoundedWorld}
use Rattle.kf_core.specs.Steps.{with_marks}
use Rattle.kf_tree.specs.SlotMarks.{contains_key, Changed}
use Rattle.kf_tree.proofs.MarkChanges.{IsMarking}
use Rattle.kf_tree.proofs.SlotWrites.{linked_slot}
use Rattle.kf_plain.specs.Nodes.{OnlyMarks, last_of}
use Rattle.kf_core.proofs.Climbs.{keys_tell}

-- a key that is at none of the first places is not among the first keys
pub not_among : (keys : List Key) (i : ℕ) (k d : Key) → ((j : ℕ) → j < i → j < length keys → slice_index_or keys j d ≢ k) → contains_key (take i keys) k ≡ false
not_among [] zero k d h = refl
not_among [] (suc i) k d h = refl
not_among (x ∷ xs) zero k d h = refl
not_among (x ∷ xs) (suc i) k d h = elim (keys_tell x k) [
  | inl e ↦ absurd (h 0 (omega arith) (omega arith) e.1)
  | inr n ↦ ap (λ b. b || contains_key (take i xs) k) n.0 ∙ not_among xs i k d (λ j l w. h (suc j) (omega (arith, l)) (omega (arith, w)))
]

-- if no key comes twice, the key at a place is not among those before it
pub not_before : (keys : List Key) (i : ℕ) (d : Key) → AllPairs (λ a b. a ≢ b) keys → i < length keys → contains_key (take i keys) (slice_index_or keys i d) ≡ false
not_before keys i d differ h = not_among keys i (slice_index_or keys i d) d (λ j l w. differ j i d l h)

-- if no key comes twice, the key at a place keeps its marks until the changes reach it
pub still_marked : (f : Bool → NodeFlags → NodeFlags) → IsMarking f → (keys : List Key) (i : ℕ) (d : Key) (old now : BareWorld) (m : NodeFlags) → AllPairs (λ a b. a ≢ b) keys → i < length keys →
    Changed f (take i keys) old.slots now.slots → marks old (slice_index_or keys i d) ≡ Some m → marks now (slice_index_or keys i d) ≡ Some m
still_marked f marking keys i d old now m differ h changed was =
    changed (slice_index_or keys i d) ∙ ap (λ b. option_map (f b) (marks old (slice_index_or keys i d))) (not_before keys i d differ h)
    ∙ ap (option_map (f false)) was ∙ ap (λ x. Some x) (marking.none m)

set_same : {X : Type 0} (xs : List X) (i : ℕ) (v : X) → slice_get xs i ≡ Some v → slice_set xs i v ≡ xs
set_same [] i v h = refl
set_same (x ∷ xs) zero v h = ap (λ y. y ∷ xs) (sym (same_Some x v h))
set_same (x ∷ xs) (suc i) v h = ap (λ ys. x ∷ ys) (set_same xs i v h)

-- new marks for a linked node do not change the last generations
pub last_marked : (w : BareWorld) (key : Key) (m : NodeFlags) (n : Option NodeFlags) → marks w key ≡ Some m → last_of (with_marks w key n).slots ≡ last_of w.slots
last_marked w key m n h =
    map-set (λ (s : SlotState). s.generation) w.slots key.slot _
    ∙ set_same (last_of w.slots) key.slot key.generation
    (slice_get-map (λ (s : SlotState). s.generation) w.slots key.slot ∙ ap (option_map (λ (s : SlotState). s.generation)) (linked_slot w.slots key m h))

pub only_same : (w : BoundedWorld) → OnlyMarks w w
only_same w = record { last = refl; limit = refl; callers = refl }

pub only_after : (a b c : BoundedWorld) → OnlyMarks a b → OnlyMarks b c → OnlyMarks a c
only_after a b c x y = record { last = y.last ∙ x.last; limit = y.limit ∙ x.limit; callers = y.callers ∙ x.callers }

pub only_marked : (a b : BoundedWorld) (key : Key) (m : NodeFlags) (n : Option NodeFlags) → marks a.world key ≡ Some m → b.world ≡ with_marks a.world key n → b.limit ≡ a.limit → OnlyMarks a b
only_marked a b key m n h e l = record {
  last = ap (λ (w : BareWorld). last_of w.slots) e ∙ last_marked a.world key m n h;
  limit = l;
  callers = ap (λ (w : BareWorld). w.callers) e;
}

-- a node has only one set of marks, so dooming it has one result
pub same_mark : (w : BareWorld) (key : Key) (m n : NodeFlags) → marks w key ≡ Some m → marks w key ≡ Some n →
    with_marks w key (Some (let d : NodeFlags = record { activated = m.activated; doomed = true } in d)) ≡ with_marks w key (Some (let d : NodeFlags = record { activated = n.activated; doomed = true } in d))
same_mark w key m n h g = ap (λ (x : NodeFlags). with_marks w key (Some (let d : NodeFlags = record { activated = x.activated; doomed = true } in d))) (same_Some m n (sym h ∙ g))
