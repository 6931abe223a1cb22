-- For the slot of each linked record, the Master has the record's node, and each command keeps it so.
use Rattle.std.proofs.Common.{◌≡◌, ◌≢◌, inl, inr, ℕ, ◌<◌, refl, ap, sym, ◌∙◌, subst, Bool, true, false, cond, List, length, slice_set}
use Rattle.std.specs.Prelude.{Option, None, Some, slice_get, map, ◌&&◌, not, if◌then◌else◌}
use Rattle.std.specs.Option.{option_map}
use Rattle.std.proofs.lemmas.Option.{same_Some, none-some}
use Rattle.kf_core.specs.declared.key.Key.{Key}
use Rattle.kf_core.specs.declared.key.Node.{Node}
use Rattle.kf_core.specs.declared.records.Record.{Record}
use Rattle.kf_core.specs.declared.command.Command.TheVariants.{Create, Activate, Doom, Unlink, Rename}
use Rattle.kf_core.specs.Keys.{same_key}
use Rattle.kf_core.specs.Tree.{Tree, record_at, is_linked, in_subtree, IsIn}
use Rattle.kf_core.specs.Commands.{after, change, activated_record, doomed_record, hidden_record, moved_record, new_record}
use Rattle.kf_core.proofs.Climbs.{keys_tell}
use Rattle.kf_core.proofs.Lists.{slice_get-set_same, slice_get-set_other}
use Rattle.kf_core.proofs.Mapped.{find_mapped}
use Rattle.kf_core.proofs.FoundRecords.{in_found, found_in, find_at, find_cleared, find_filled, linked_here}
use Rattle.std.proofs.lemmas.Option.{slice_get_within}
use Rattle.kf_shared.specs.Agreement.{HasNodes}

-- a change that leaves the keys and nodes of records keeps it so
nodes_mapped : (nodes : List Node) (t : Tree) (g : Record → Record) → ((r : Record) → (g r).key ≡ r.key) → ((r : Record) → (g r).node ≡ r.node) → HasNodes nodes t → HasNodes nodes (map (option_map g) t)
nodes_mapped nodes t g same_keys same_nodes h k r e = go (record_at t k) refl (sym (find_mapped t g same_keys k) ∙ e)
  where
    go : (o : Option Record) → record_at t k ≡ o → option_map g o ≡ Some r → slice_get nodes k.slot ≡ Some r.node
    go None f i = absurd (none-some r i)
    go (Some x) f i = h k x f ∙ ap (λ n. Some n) (sym (same_nodes x) ∙ ap (λ (y : Record). y.node) (same_Some (g x) r i))

-- the same for a change of some records
nodes_changed : (nodes : List Node) (t : Tree) (chosen : Record → Bool) (f : Record → Record) → ((r : Record) → (f r).key ≡ r.key) → ((r : Record) → (f r).node ≡ r.node) → HasNodes nodes t →
    HasNodes nodes (map (option_map (λ r. if chosen r then f r else r)) t)
nodes_changed nodes t chosen f same_keys same_nodes = nodes_mapped nodes t (λ r. cond (chosen r) (f r) r)
    (λ r. elim (chosen r) as (λ b. (cond b (f r) r).key ≡ r.key) [ true ↦ same_keys r | false ↦ refl ])
    (λ r. elim (chosen r) as (λ b. (cond b (f r) r).node ≡ r.node) [ true ↦ same_nodes r | false ↦ refl ])

pub nodes_activated : (nodes : List Node) (t : Tree) (key : Key) → HasNodes nodes t → HasNodes nodes (after t (Activate key))
nodes_activated nodes t key = nodes_changed nodes t (λ r. in_subtree t key r.key && not r.marks.doomed) activated_record (λ r. refl) (λ r. refl)

pub nodes_doomed : (nodes : List Node) (t : Tree) (key : Key) → HasNodes nodes t → HasNodes nodes (after t (Doom key))
nodes_doomed nodes t key = nodes_changed nodes t (λ r. in_subtree t key r.key) doomed_record (λ r. refl) (λ r. refl)

pub nodes_renamed : (nodes : List Node) (t : Tree) (key dir : Key) (name : List ℕ) → HasNodes nodes t → HasNodes nodes (after t (Rename key dir name))
nodes_renamed nodes t key dir name = nodes_changed nodes t (λ r. same_key r.key key) (moved_record dir name) (λ r. refl) (λ r. refl)

pub nodes_hidden : (nodes : List Node) (t : Tree) (key : Key) (b : Bool) → HasNodes nodes t → HasNodes nodes (change (λ r. same_key r.key key) (hidden_record b) t)
nodes_hidden nodes t key b = nodes_changed nodes t (λ r. same_key r.key key) (hidden_record b) (λ r. refl) (λ r. refl)

pub nodes_unlinked : (nodes : List Node) (t : Tree) (key : Key) → is_linked t key ≡ true → HasNodes nodes t → HasNodes nodes (after t (Unlink key))
nodes_unlinked nodes t key linked h =
    (let r = linked_here t key linked in
    subst (HasNodes nodes) (ap (λ (x : Key). slice_set t x.slot None) r.2 ∙ sym (ap (λ b. cond b (slice_set t key.slot None) t) linked)) (cleared r.0 r.1))
  where
    cleared : (x : Record) → IsIn t x → HasNodes nodes (slice_set t x.key.slot None)
    cleared x i k r e = elim (keys_tell x.key k) [
      | inl s ↦ absurd (none-some r (sym (find_at (slice_set t x.key.slot None) x.key None (slice_get-set_same t x.key.slot None (slice_get_within t x.key.slot (Some x) i))) ∙ subst (λ y. record_at (slice_set t x.key.slot None) y ≡ Some r) (sym s.1) e))
      | inr n ↦ h k r (sym (find_cleared t x k i (λ s. n.1 (sym s))) ∙ e)
    ]

-- a new record in a vacant slot keeps it so, if its node is stored for the slot
pub nodes_created : (nodes : List Node) (t : Tree) (key parent : Key) (name : List ℕ) (node : Node) (is_live : Bool) → slice_get t key.slot ≡ Some None → length nodes ≡ length t → HasNodes nodes t →
    HasNodes (slice_set nodes key.slot node) (after t (Create key parent name node is_live))
nodes_created nodes t key parent name node is_live v wide h k r e = elim (keys_tell key k) [
  | inl s ↦ subst (λ (y : Key). slice_get (slice_set nodes key.slot node) y.slot ≡ Some r.node) s.1
      (slice_get-set_same nodes key.slot node (subst (λ n. key.slot < n) (sym wide) (slice_get_within t key.slot None v))
      ∙ ap (λ (x : Record). Some x.node) (same_Some made r (sym (in_found (slice_set t key.slot (Some made)) made (slice_get-set_same t key.slot (Some made) (slice_get_within t key.slot None v)))
      ∙ subst (λ y. record_at (slice_set t key.slot (Some made)) y ≡ Some r) (sym s.1) e)))
  | inr n ↦ (let was : record_at t k ≡ Some r = sym (find_filled t made k v (λ s. n.1 (sym s))) ∙ e in
      slice_get-set_other nodes key.slot k.slot node (elsewhere was) ∙ h k r was)
]
  where
    made : Record
    made = new_record key parent name node is_live

    elsewhere : record_at t k ≡ Some r → k.slot ≢ key.slot
    elsewhere was s = (let f = found_in t k r was in
        none-some r (same_Some None (Some r) (sym v ∙ ap (slice_get t) (sym s ∙ ap (λ (y : Key). y.slot) (sym f.1)) ∙ f.0)))
