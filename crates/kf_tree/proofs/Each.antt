-- A change to each record of a subtree, made key by key, is one change to all of them.
use Rattle.std.proofs.Common.{◌≡◌, ◌≢◌, ◌⊎◌, inl, inr, ℕ, zero, suc, ◌<◌, refl, ap, arith, sym, ◌∙◌, subst, true, false, cond, List, [], ◌∷◌, length}
use Rattle.std.specs.Prelude.{Option, None, Some, slice_get, is_some, map, Contains, slice_index_or, ◌&&◌, not}
use Rattle.std.specs.Option.{option_map}
use Rattle.std.proofs.lemmas.Option.{same_Some, none-some, slice_get-map}
use Rattle.std.proofs.lemmas.Bool.Decides.{eqb_tells}
use Rattle.kf_core.specs.declared.key.Key.{Key}
use Rattle.kf_core.specs.declared.records.Record.{Record}
use Rattle.kf_core.specs.declared.command.Command.TheVariants.{Activate, Doom, Rename}
use Rattle.kf_core.specs.Keys.{same_key}
use Rattle.kf_core.specs.Tree.{Tree, record_at, in_subtree, IsIn}
use Rattle.kf_core.specs.Lawful.{Lawful}
use Rattle.kf_core.specs.Commands.{after, change, activated_record, doomed_record, moved_record}
use Rattle.kf_core.specs.PostOrder.{IsPostOrder}
use Rattle.kf_table.specs.Changes.{with_changed_slot, activated_unless_doomed}
use Rattle.kf_tree.specs.Subtrees.{with_changed_slots}
use Rattle.kf_table.proofs.Altered.{on, altered_at, altered_other}
use Rattle.kf_core.proofs.Climbs.{keys_tell, same_key_self}
use Rattle.kf_core.proofs.Lists.{slice_get-set_other}
use Rattle.kf_core.proofs.FoundRecords.{linked_here, found_in, in_found}

pub list_same : {X : Type 0} (xs ys : List X) → ((j : ℕ) → slice_get xs j ≡ slice_get ys j) → xs ≡ ys
list_same [] [] h = refl
list_same [] (y ∷ ys) h = absurd (none-some y (h 0))
list_same (x ∷ xs) [] h = absurd (none-some x (sym (h 0)))
list_same (x ∷ xs) (y ∷ ys) h = (let tail = list_same xs ys (λ j. h (suc j)) in ap (λ z. z ∷ xs) (same_Some x y (h 0)) ∙ ap (λ zs. y ∷ zs) tail)

-- some key of the list has this slot, or no key of the list has it
slot_listed : (keys : List Key) (j : ℕ) → ((k : Key) × Contains keys k × (k.slot ≡ j)) ⊎ ((k : Key) → Contains keys k → k.slot ≢ j)
slot_listed [] j = inr (λ k h e. omega (arith, h.1))
slot_listed (x ∷ xs) j = elim (eqb_tells x.slot j) [
  | inl e ↦ inl (x, (0, omega arith, refl), e.1)
  | inr n ↦ elim (slot_listed xs j) [
    | inl f ↦ inl (f.0, (suc f.1.0, (let h = f.1.1 in omega (arith, h)), f.1.2), f.2)
    | inr g ↦ inr (λ k h e. go k h.0 h.1 h.2 e n.1 g)
  ]
]
  where
    go : (k : Key) (i : ℕ) → i < length (x ∷ xs) → slice_index_or (x ∷ xs) i k ≡ k → k.slot ≡ j → x.slot ≢ j → ((k : Key) → Contains xs k → k.slot ≢ j) → ⊥
    go k zero h e s n g = n (ap (λ (y : Key). y.slot) e ∙ s)
    go k (suc i) h e s n g = g k (i, omega arith, e) s

module _ (f : Record → Record) (twice : (r : Record) → f (f r) ≡ f r) where
  on_twice : (o : Option (Option Record)) → on f (on f o) ≡ on f o
  on_twice None = refl
  on_twice (Some None) = refl
  on_twice (Some (Some r)) = ap (λ x. Some (Some x)) (twice r)

  untouched : (keys : List Key) (t : Tree) (j : ℕ) → ((k : Key) → Contains keys k → k.slot ≢ j) → slice_get (with_changed_slots f t keys) j ≡ slice_get t j
  untouched [] t j h = refl
  untouched (x ∷ xs) t j h =
      untouched xs (with_changed_slot f t x.slot) j (λ k i. h k (suc i.0, (let l = i.1 in omega (arith, l)), i.2)) ∙ altered_other f t x.slot j (h x (0, omega arith, refl))

  touched : (keys : List Key) (t : Tree) (j : ℕ) (k : Key) → Contains keys k → k.slot ≡ j → slice_get (with_changed_slots f t keys) j ≡ on f (slice_get t j)
  touched [] t j k h e = absurd (omega (arith, h.1))
  touched (x ∷ xs) t j k h e = elim (slot_listed xs j) [
    | inl l ↦ touched xs (with_changed_slot f t x.slot) j l.0 l.1 l.2 ∙ elim (eqb_tells x.slot j) [
      | inl y ↦ ap (on f) (altered_at f t x.slot j y.1) ∙ on_twice (slice_get t j)
      | inr n ↦ ap (on f) (altered_other f t x.slot j n.1)
    ]
    | inr g ↦ untouched xs (with_changed_slot f t x.slot) j g ∙ altered_at f t x.slot j (here h.0 h.1 h.2 g)
  ]
    where
      here : (i : ℕ) → i < length (x ∷ xs) → slice_index_or (x ∷ xs) i k ≡ k → ((k : Key) → Contains xs k → k.slot ≢ j) → x.slot ≡ j
      here zero l y g = ap (λ (z : Key). z.slot) y ∙ e
      here (suc i) l y g = absurd (g k (i, omega arith, y) e)

  abbrev chosen : Tree → Key → Record → Record
  chosen t top r = cond (in_subtree t top r.key) (f r) r

  -- a change made key by key over the subtree is the change made all at once
  pub each_is : (t : Tree) (root top : Key) (keys : List Key) → Lawful t root → IsPostOrder t top keys → with_changed_slots f t keys ≡ map (option_map (chosen t top)) t
  each_is t root top keys l p = list_same _ _ (λ j. go j (slice_get t j) refl ∙ sym (slice_get-map (option_map (chosen t top)) t j))
    where
      nobody : (j : ℕ) → ((r : Record) → slice_get t j ≡ Some (Some r) → ⊥) → (k : Key) → Contains keys k → k.slot ≢ j
      nobody j h k i e = (let r = linked_here t k ((p.members k).0 i).0 in
          h r.0 (ap (slice_get t) (sym (ap (λ (x : Key). x.slot) r.2 ∙ e)) ∙ r.1))

      some : (j : ℕ) (r : Record) → slice_get t j ≡ Some (Some r) → slice_get (with_changed_slots f t keys) j ≡ Some (Some (chosen t top r))
      some j r h = elim (in_subtree t top r.key) as (λ b. in_subtree t top r.key ≡ b → slice_get (with_changed_slots f t keys) j ≡ Some (Some (cond b (f r) r))) [
        | true ↦ λ e. touched keys t j r.key ((p.members r.key).1 (ap is_some (in_found t r is_in), e)) at ∙ ap (on f) h
        | false ↦ λ e. untouched keys t j (λ k i g. (let s = linked_here t k ((p.members k).0 i).0 in
            let same : s.0 ≡ r = same_Some s.0 r (same_Some (Some s.0) (Some r) (sym s.1 ∙ ap (slice_get t) (ap (λ (x : Key). x.slot) s.2 ∙ g) ∙ h)) in
            let key : k ≡ r.key = sym s.2 ∙ ap (λ (x : Record). x.key) same in
            let yes : in_subtree t top r.key ≡ true = ((p.members r.key).0 (subst (Contains keys) key i)).1 in
            let no : false ≡ true = sym e ∙ yes in cc)) ∙ h
      ] refl
        where
          at : r.key.slot ≡ j
          at = l.in_place j r h

          is_in : IsIn t r
          is_in = ap (slice_get t) at ∙ h

      go : (j : ℕ) (o : Option (Option Record)) → slice_get t j ≡ o → slice_get (with_changed_slots f t keys) j ≡ option_map (option_map (chosen t top)) (slice_get t j)
      go j None h = untouched keys t j (nobody j (λ r g. none-some (Some r) (sym h ∙ g))) ∙ h ∙ ap (λ o. option_map (option_map (chosen t top)) o) (sym h)
      go j (Some None) h = untouched keys t j (nobody j (λ r g. none-some r (same_Some None (Some r) (sym h ∙ g)))) ∙ h ∙ ap (λ o. option_map (option_map (chosen t top)) o) (sym h)
      go j (Some (Some r)) h = some j r h ∙ ap (λ o. option_map (option_map (chosen t top)) o) (sym h)

pub each_doomed : (t : Tree) (root top : Key) (keys : List Key) → Lawful t root → IsPostOrder t top keys → with_changed_slots doomed_record t keys ≡ after t (Doom top)
each_doomed t root top keys l p = each_is doomed_record (λ r. refl) t root top keys l p

risen_twice : (r : Record) → activated_unless_doomed (activated_unless_doomed r) ≡ activated_unless_doomed r
risen_twice r = elim (r.marks.doomed) as (λ b. r.marks.doomed ≡ b → activated_unless_doomed (cond b r (activated_record r)) ≡ cond b r (activated_record r)) [
  | true ↦ λ e. ap (λ b. cond b r (activated_record r)) e
  | false ↦ λ e. ap (λ b. cond b (activated_record r) (activated_record (activated_record r))) e
] refl

pub each_risen : (t : Tree) (root top : Key) (keys : List Key) → Lawful t root → IsPostOrder t top keys → with_changed_slots activated_unless_doomed t keys ≡ after t (Activate top)
each_risen t root top keys l p = each_is activated_unless_doomed risen_twice t root top keys l p ∙ list_same _ _ (λ j.
    slice_get-map (option_map (chosen activated_unless_doomed risen_twice t top)) t j ∙ go (slice_get t j) ∙ sym (slice_get-map (option_map (λ (r : Record). cond (in_subtree t top r.key && not r.marks.doomed) (activated_record r) r)) t j))
  where
    same : (r : Record) → cond (in_subtree t top r.key) (activated_unless_doomed r) r ≡ cond (in_subtree t top r.key && not r.marks.doomed) (activated_record r) r
    same r = elim (in_subtree t top r.key) as (λ b. cond b (activated_unless_doomed r) r ≡ cond (b && not r.marks.doomed) (activated_record r) r) [
      | true ↦ elim (r.marks.doomed) as (λ b. cond b r (activated_record r) ≡ cond (not b) (activated_record r) r) [ true ↦ refl | false ↦ refl ]
      | false ↦ refl
    ]

    go : (o : Option (Option Record)) → option_map (option_map (λ (r : Record). cond (in_subtree t top r.key) (activated_unless_doomed r) r)) o ≡ option_map (option_map (λ (r : Record). cond (in_subtree t top r.key && not r.marks.doomed) (activated_record r) r)) o
    go None = refl
    go (Some None) = refl
    go (Some (Some r)) = ap (λ x. Some (Some x)) (same r)

-- changing one record by its slot is the same as changing it by its key
pub slot_changed : (g : Record → Record) (t : Tree) (root key : Key) (r : Record) → Lawful t root → record_at t key ≡ Some r → with_changed_slot g t key.slot ≡ change (λ s. same_key s.key key) g t
slot_changed g t root key r l known = list_same _ _ (λ j. elim (eqb_tells key.slot j) [
  | inl e ↦ (let at : slice_get t j ≡ Some (Some r) = ap (slice_get t) (sym e.1 ∙ ap (λ (k : Key). k.slot) (sym f.1)) ∙ f.0 in
      altered_same_slot j e.1 ∙ ap (option_map (option_map g)) at ∙ ap (λ b. Some (Some (cond b (g r) r))) (sym this) ∙ ap (option_map (option_map pick)) (sym at) ∙ sym (slice_get-map (option_map pick) t j))
  | inr n ↦ slice_get-set_other t key.slot j _ (λ e. n.1 (sym e)) ∙ go j n.1 (slice_get t j) refl ∙ sym (slice_get-map (option_map pick) t j)
])
  where
    pick : Record → Record
    pick s = cond (same_key s.key key) (g s) s

    f : (IsIn t r) × (r.key ≡ key)
    f = found_in t key r known

    this : same_key r.key key ≡ true
    this = ap (λ k. same_key k key) f.1 ∙ same_key_self key

    altered_same_slot : (j : ℕ) → key.slot ≡ j → slice_get (with_changed_slot g t key.slot) j ≡ option_map (option_map g) (slice_get t j)
    altered_same_slot j e = altered_at g t key.slot j e

    go : (j : ℕ) → key.slot ≢ j → (o : Option (Option Record)) → slice_get t j ≡ o → slice_get t j ≡ option_map (option_map pick) (slice_get t j)
    go j n None h = h ∙ ap (option_map (option_map pick)) (sym h)
    go j n (Some None) h = h ∙ ap (option_map (option_map pick)) (sym h)
    go j n (Some (Some s)) h = h ∙ elim (keys_tell s.key key) [
      | inl e ↦ absurd (n (ap (λ (k : Key). k.slot) (sym e.1) ∙ l.in_place j s h))
      | inr d ↦ ap (λ b. Some (Some (cond b (g s) s))) (sym d.0)
    ] ∙ ap (option_map (option_map pick)) (sym h)

pub slot_moved : (t : Tree) (root key dir : Key) (name : List ℕ) (r : Record) → Lawful t root → record_at t key ≡ Some r → with_changed_slot (moved_record dir name) t key.slot ≡ after t (Rename key dir name)
slot_moved t root key dir name r l known = slot_changed (moved_record dir name) t root key r l known
