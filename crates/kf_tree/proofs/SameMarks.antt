-- Each tree command, and the slot writes that go with it, keep the marks of tree and slots the same.
use Rattle.std.proofs.Common.{◌≡◌, inl, inr, ℕ, zero, suc, ◌<◌, refl, ap, arith, sym, ◌∙◌, subst, Bool, true, false, cond, List, [], ◌∷◌, length, slice_set}
use Rattle.std.specs.Prelude.{Option, None, Some, slice_get, is_some, Contains, slice_index_or, ◌&&◌, ◌||◌, not}
use Rattle.std.specs.Option.{option_map}
use Rattle.std.proofs.lemmas.Option.{none-some, slice_get_within}
use Rattle.kf_core.specs.declared.key.Key.{Key}
use Rattle.kf_core.specs.declared.key.Node.{Node}
use Rattle.kf_core.specs.declared.slot.NodeFlags.{NodeFlags}
use Rattle.kf_core.specs.declared.slot.SlotState.{SlotState}
use Rattle.kf_core.specs.declared.records.Record.{Record}
use Rattle.kf_core.specs.declared.command.Command.TheVariants.{Create, Activate, Doom, Unlink, Rename}
use Rattle.kf_core.specs.Marks.{fresh_marks, live_marks}
use Rattle.kf_core.specs.Keys.{same_key}
use Rattle.kf_core.specs.Tree.{Tree, record_at, marks_of, is_linked, in_subtree, IsIn}
use Rattle.kf_core.specs.Lawful.{Lawful}
use Rattle.kf_core.specs.PostOrder.{IsPostOrder}
use Rattle.kf_core.specs.Commands.{after, change, activated_record, doomed_record, hidden_record, new_record}
use Rattle.kf_core.proofs.Climbs.{keys_tell, same_key_self}
use Rattle.kf_core.proofs.Lists.{slice_get-set_same}
use Rattle.kf_core.proofs.Mapped.{find_mapped}
use Rattle.kf_core.proofs.FoundRecords.{in_found, found_in, find_at, find_cleared, find_filled, linked_here}
use Rattle.kf_tree.specs.SlotMarks.{marks_at, SameMarks, contains_key, doomed_if, risen_if, Changed}
use Rattle.kf_tree.proofs.SlotWrites.{IsEmpty, written, marks_written, alone_linked, alone_vacant, nobody_vacant}

-- the marks of a tree after one write
pub marks_filled : (t : Tree) (r : Record) (k : Key) → slice_get t r.key.slot ≡ Some None → marks_of (slice_set t r.key.slot (Some r)) k ≡ cond (same_key r.key k) (Some r.marks) (marks_of t k)
marks_filled t r k v = elim (keys_tell r.key k) [
  | inl e ↦ subst (λ x. marks_of (slice_set t r.key.slot (Some r)) x ≡ cond (same_key r.key x) (Some r.marks) (marks_of t x)) e.1
      (ap (option_map (λ (x : Record). x.marks)) (in_found _ r (slice_get-set_same t r.key.slot (Some r) (slice_get_within t r.key.slot None v))) ∙ sym (ap (λ b. cond b (Some r.marks) (marks_of t r.key)) (same_key_self r.key)))
  | inr n ↦ ap (option_map (λ (x : Record). x.marks)) (find_filled t r k v (λ e. n.1 (sym e))) ∙ sym (ap (λ b. cond b (Some r.marks) (marks_of t k)) n.0)
]

pub marks_cleared : (t : Tree) (r : Record) (k : Key) → IsIn t r → marks_of (slice_set t r.key.slot None) k ≡ cond (same_key r.key k) None (marks_of t k)
marks_cleared t r k h = elim (keys_tell r.key k) [
  | inl e ↦ subst (λ x. marks_of (slice_set t r.key.slot None) x ≡ cond (same_key r.key x) None (marks_of t x)) e.1
      (ap (option_map (λ (x : Record). x.marks)) (find_at (slice_set t r.key.slot None) r.key None (slice_get-set_same t r.key.slot None (slice_get_within t r.key.slot (Some r) h))) ∙ sym (ap (λ b. cond b None (marks_of t r.key)) (same_key_self r.key)))
  | inr n ↦ ap (option_map (λ (x : Record). x.marks)) (find_cleared t r k h (λ e. n.1 (sym e))) ∙ sym (ap (λ b. cond b None (marks_of t k)) n.0)
]

-- a slot that is vacant in the words is vacant in the tree
pub vacant_in_tree : (slots : List SlotState) (t : Tree) (root key : Key) → SameMarks slots t → Lawful t root → length slots ≡ length t → IsEmpty slots key → slice_get t key.slot ≡ Some None
vacant_in_tree slots t root key same l wide v = go (slice_get t key.slot) refl
  where
    go : (o : Option (Option Record)) → slice_get t key.slot ≡ o → slice_get t key.slot ≡ Some None
    go None e = absurd (let within = slice_get_within slots key.slot _ v.vacant in none_at t key.slot (subst (λ n. key.slot < n) wide within) e)
      where
        none_at : (t : Tree) (i : ℕ) → i < length t → slice_get t i ≡ None → ⊥
        none_at [] i h e = absurd (omega arith)
        none_at (x ∷ xs) zero h e = none-some x (sym e)
        none_at (x ∷ xs) (suc i) h e = none_at xs i (omega arith) e
    go (Some None) e = e
    go (Some (Some r)) e = absurd (let slot = l.in_place key.slot r e in
        let is_in : IsIn t r = ap (slice_get t) slot ∙ e in
        none-some r.marks (sym (nobody_vacant slots key.slot v.last r.key v.vacant slot) ∙ same r.key ∙ ap (option_map (λ (x : Record). x.marks)) (in_found t r is_in)))

-- Create is a birth, followed by a rise if the node is live
pub same_born : (slots : List SlotState) (t : Tree) (root key parent : Key) (name : List ℕ) (node : Node) → SameMarks slots t → Lawful t root → length slots ≡ length t → IsEmpty slots key →
    SameMarks (written slots key (Some fresh_marks)) (after t (Create key parent name node false))
same_born slots t root key parent name node same l wide v k =
    marks_written slots key k (Some fresh_marks) (alone_vacant slots key v) ∙ ap (cond (same_key key k) (Some fresh_marks)) (same k)
    ∙ sym (marks_filled t (new_record key parent name node false) k (vacant_in_tree slots t root key same l wide v))

pub same_born_live : (slots : List SlotState) (t : Tree) (root key parent : Key) (name : List ℕ) (node : Node) → SameMarks slots t → Lawful t root → length slots ≡ length t → IsEmpty slots key →
    SameMarks (written (written slots key (Some fresh_marks)) key (Some live_marks)) (after t (Create key parent name node true))
same_born_live slots t root key parent name node same l wide v k =
    marks_written (written slots key (Some fresh_marks)) key k (Some live_marks) (alone_linked (written slots key (Some fresh_marks)) key fresh_marks born)
    ∙ ap (cond (same_key key k) (Some live_marks)) (marks_written slots key k (Some fresh_marks) (alone_vacant slots key v) ∙ ap (cond (same_key key k) (Some fresh_marks)) (same k))
    ∙ twice (same_key key k) (marks_of t k)
    ∙ sym (marks_filled t (new_record key parent name node true) k (vacant_in_tree slots t root key same l wide v))
  where
    twice : (b : Bool) (m : Option NodeFlags) → cond b (Some live_marks) (cond b (Some fresh_marks) m) ≡ cond b (Some live_marks) m
    twice true m = refl
    twice false m = refl

    born : marks_at (written slots key (Some fresh_marks)) key ≡ Some fresh_marks
    born = marks_written slots key key (Some fresh_marks) (alone_vacant slots key v) ∙ ap (λ b. cond b (Some fresh_marks) (marks_at slots key)) (same_key_self key)

-- Unlink is one write, too
pub same_unlinked : (slots : List SlotState) (t : Tree) (key : Key) → SameMarks slots t → is_linked t key ≡ true → SameMarks (written slots key None) (after t (Unlink key))
same_unlinked slots t key same linked k =
    (let r = linked_here t key linked in
    let there : marks_at slots key ≡ Some r.0.marks = same key ∙ ap (option_map (λ (x : Record). x.marks)) (subst (λ x. record_at t x ≡ Some r.0) r.2 (in_found t r.0 r.1)) in
    let gone : after t (Unlink key) ≡ slice_set t key.slot None = ap (λ b. cond b (slice_set t key.slot None) t) linked in
    marks_written slots key k None (alone_linked slots key r.0.marks there) ∙ ap (cond (same_key key k) None) (same k)
    ∙ sym (ap (λ x. marks_of x k) gone ∙ subst (λ x. marks_of (slice_set t x.slot None) k ≡ cond (same_key x k) None (marks_of t k)) r.2 (marks_cleared t r.0 k r.1)))

abbrev moved_to : Key → Key → List ℕ → Record → Record
moved_to key dir name r = cond (same_key r.key key) (record r { parent = Some dir; name = name }) r

abbrev doomed_below : Tree → Key → Record → Record
doomed_below t top r = cond (in_subtree t top r.key) (doomed_record r) r

abbrev risen_below : Tree → Key → Record → Record
risen_below t top r = cond (in_subtree t top r.key && not r.marks.doomed) (activated_record r) r

-- Rename writes no slot
pub same_renamed : (slots : List SlotState) (t : Tree) (key dir : Key) (name : List ℕ) → SameMarks slots t → SameMarks slots (after t (Rename key dir name))
same_renamed slots t key dir name same k =
    same k ∙ sym (ap (option_map (λ (x : Record). x.marks)) (find_mapped t (moved_to key dir name) same_keys k) ∙ kept (record_at t k))
  where
    same_keys : (r : Record) → (moved_to key dir name r).key ≡ r.key
    same_keys r = elim (same_key r.key key) as (λ b. (cond b (record r { parent = Some dir; name = name }) r).key ≡ r.key) [ true ↦ refl | false ↦ refl ]

    same_marks : (r : Record) → (moved_to key dir name r).marks ≡ r.marks
    same_marks r = elim (same_key r.key key) as (λ b. (cond b (record r { parent = Some dir; name = name }) r).marks ≡ r.marks) [ true ↦ refl | false ↦ refl ]

    kept : (o : Option Record) → option_map (λ (x : Record). x.marks) (option_map (moved_to key dir name) o) ≡ option_map (λ (x : Record). x.marks) o
    kept None = refl
    kept (Some r) = ap (λ m. Some m) (same_marks r)

abbrev hidden_at : Key → Bool → Record → Record
hidden_at key b r = cond (same_key r.key key) (hidden_record b r) r

-- Hide and Show change none of these marks
pub same_hidden : (slots : List SlotState) (t : Tree) (key : Key) (b : Bool) → SameMarks slots t → SameMarks slots (change (λ r. same_key r.key key) (hidden_record b) t)
same_hidden slots t key b same k =
    same k ∙ sym (ap (option_map (λ (x : Record). x.marks)) (find_mapped t (hidden_at key b) same_keys k) ∙ kept (record_at t k))
  where
    same_keys : (r : Record) → (hidden_at key b r).key ≡ r.key
    same_keys r = elim (same_key r.key key) as (λ c. (cond c (hidden_record b r) r).key ≡ r.key) [ true ↦ refl | false ↦ refl ]

    same_marks : (r : Record) → (hidden_at key b r).marks ≡ r.marks
    same_marks r = elim (same_key r.key key) as (λ c. (cond c (hidden_record b r) r).marks ≡ r.marks) [ true ↦ refl | false ↦ refl ]

    kept : (o : Option Record) → option_map (λ (x : Record). x.marks) (option_map (hidden_at key b) o) ≡ option_map (λ (x : Record). x.marks) o
    kept None = refl
    kept (Some r) = ap (λ m. Some m) (same_marks r)

-- `contains_key` is true of a key if and only if the list has the key
pub listed : (keys : List Key) (k : Key) → contains_key keys k ≡ true → Contains keys k
listed [] k h = absurd (cc)
listed (x ∷ xs) k h = elim (keys_tell x k) [
  | inl e ↦ (0, omega arith, e.1)
  | inr n ↦ (let rest = listed xs k (sym (ap (λ b. b || contains_key xs k) n.0) ∙ h) in (suc rest.0, (let l = rest.1 in omega (arith, l)), rest.2))
]

listed_at : (keys : List Key) (k : Key) (i : ℕ) → i < length keys → slice_index_or keys i k ≡ k → contains_key keys k ≡ true
listed_at [] k i l e = absurd (omega (arith, l))
listed_at (x ∷ xs) k zero l e = ap (λ b. b || contains_key xs k) (subst (λ y. same_key x y ≡ true) e (same_key_self x))
listed_at (x ∷ xs) k (suc i) l e = later (same_key x k) (contains_key xs k) (listed_at xs k i (omega (arith, l)) e)
  where
    later : (b : Bool) (c : Bool) → c ≡ true → (b || c) ≡ true
    later true c e = refl
    later false c e = e

pub is_listed : (keys : List Key) (k : Key) → Contains keys k → contains_key keys k ≡ true
is_listed keys k h = listed_at keys k h.0 h.1 h.2

-- a post-order has the keys of the subtree, and no others
pub listed_below : (t : Tree) (top : Key) (keys : List Key) (r : Record) → IsPostOrder t top keys → IsIn t r → contains_key keys r.key ≡ in_subtree t top r.key
listed_below t top keys r p h = elim (in_subtree t top r.key) as (λ b. in_subtree t top r.key ≡ b → contains_key keys r.key ≡ b) [
  | true ↦ λ e. is_listed keys r.key ((p.members r.key).1 (ap is_some (in_found t r h), e))
  | false ↦ λ e. elim (contains_key keys r.key) as (λ b. contains_key keys r.key ≡ b → b ≡ false) [
    | true ↦ λ y. (let yes = ((p.members r.key).0 (listed keys r.key y)).1 in sym yes ∙ e)
    | false ↦ λ n. refl
  ] refl
] refl

module _ (t : Tree) (top : Key) (keys : List Key) (slots new : List SlotState) (same : SameMarks slots t) (p : IsPostOrder t top keys) where
  -- Doom is one mark for each node of the subtree that is not doomed yet
  pub same_doomed : Changed doomed_if keys slots new → SameMarks new (after t (Doom top))
  same_doomed changed k = changed k ∙ ap (option_map (doomed_if (contains_key keys k))) (same k) ∙ (go (record_at t k) refl ∙ sym (ap (option_map (λ (x : Record). x.marks)) (find_mapped t (doomed_below t top) same_keys k)))
    where
      same_keys : (r : Record) → (doomed_below t top r).key ≡ r.key
      same_keys r = elim (in_subtree t top r.key) as (λ b. (cond b (doomed_record r) r).key ≡ r.key) [ true ↦ refl | false ↦ refl ]

      its_marks : (r : Record) (b : Bool) → doomed_if b r.marks ≡ (cond b (doomed_record r) r).marks
      its_marks r true = refl
      its_marks r false = refl

      go : (o : Option Record) → record_at t k ≡ o → option_map (doomed_if (contains_key keys k)) (option_map (λ (x : Record). x.marks) o) ≡ option_map (λ (x : Record). x.marks) (option_map (doomed_below t top) o)
      go None e = refl
      go (Some r) e = (let f = found_in t k r e in
          ap (λ b. Some (doomed_if b r.marks)) (subst (λ x. contains_key keys x ≡ in_subtree t top r.key) f.1 (listed_below t top keys r p f.0)) ∙ ap (λ m. Some m) (its_marks r (in_subtree t top r.key)))

  -- Activate is one rise for each node of the subtree that is neither activated nor doomed
  pub same_risen : Changed risen_if keys slots new → SameMarks new (after t (Activate top))
  same_risen changed k = changed k ∙ ap (option_map (risen_if (contains_key keys k))) (same k) ∙ (go (record_at t k) refl ∙ sym (ap (option_map (λ (x : Record). x.marks)) (find_mapped t (risen_below t top) same_keys k)))
    where
      same_keys : (r : Record) → (risen_below t top r).key ≡ r.key
      same_keys r = elim (in_subtree t top r.key && not r.marks.doomed) as (λ b. (cond b (activated_record r) r).key ≡ r.key) [ true ↦ refl | false ↦ refl ]

      its_marks : (r : Record) (b : Bool) → risen_if b r.marks ≡ (cond (b && not r.marks.doomed) (activated_record r) r).marks
      its_marks r b = elim (b && not r.marks.doomed) as (λ c. record { activated = c || r.marks.activated; doomed = r.marks.doomed } ≡ (cond c (activated_record r) r).marks) [ true ↦ refl | false ↦ refl ]

      go : (o : Option Record) → record_at t k ≡ o → option_map (risen_if (contains_key keys k)) (option_map (λ (x : Record). x.marks) o) ≡ option_map (λ (x : Record). x.marks) (option_map (risen_below t top) o)
      go None e = refl
      go (Some r) e = (let f = found_in t k r e in
          ap (λ b. Some (risen_if b r.marks)) (subst (λ x. contains_key keys x ≡ in_subtree t top r.key) f.1 (listed_below t top keys r p f.0)) ∙ ap (λ m. Some m) (its_marks r (in_subtree t top r.key)))
