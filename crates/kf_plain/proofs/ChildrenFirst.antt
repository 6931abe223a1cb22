-- In post-order each node comes after its children.
use Rattle.std.proofs.Common.{◌≡◌, inl, inr, ℕ, suc, ◌<◌, refl, ap, arith, sym, ◌∙◌, subst, true, false, cond, List, length, take}
use Rattle.std.specs.Prelude.{Some, is_some, slice_index_or, Contains}
use Rattle.std.proofs.lemmas.Bool.{cases_order}
use Rattle.std.proofs.lemmas.List.{get_or_default, get_or-take, length-take-le}
use Rattle.kf_core.specs.declared.key.Key.{Key}
use Rattle.kf_core.specs.declared.records.Record.{Record}
use Rattle.kf_core.specs.declared.command.Command.TheVariants.{Doom}
use Rattle.kf_core.specs.Tree.{Tree, parent_of, ancestor, in_subtree, IsIn}
use Rattle.kf_core.specs.Lawful.{Lawful}
use Rattle.kf_core.specs.PostOrder.{AreApart, IsPostOrder}
use Rattle.kf_core.specs.Commands.{after, doomed_record}
use Rattle.kf_tree.specs.SlotMarks.{contains_key}
use Rattle.kf_tree.proofs.SameMarks.{is_listed}
use Rattle.kf_plain.specs.Removals.{AreChildrenFirst}
use Rattle.kf_core.proofs.Climbs.{after_step, no_return}
use Rattle.kf_core.proofs.Different.{no_apart}
use Rattle.kf_core.proofs.Mapped.{mapped_from}
use Rattle.kf_core.proofs.FoundRecords.{parent_known, in_found, root_parent, root_met, subtree_to, subtree_from}

module _ (t : Tree) (root : Key) (l : Lawful t root) (top : Key) (keys : List Key) (p : IsPostOrder t top keys) where
  listed_place : (i : ℕ) (d : Key) → i < length keys → Contains keys (slice_index_or keys i d)
  listed_place i d h = (i, h, get_or_default keys i (slice_index_or keys i d) d h)

  -- no way up leads from a node's parent back to the node
  no_cycle : (r : Record) (x : Key) (n : ℕ) → IsIn t r → r.parent ≡ Some x → ancestor t n x ≡ Some r.key → ⊥
  no_cycle r x n h up back =
      (let met = root_met t root l r h in
      no_return (parent_of t) root (root_parent t root l) met.0 n r.key met.1 (after_step (parent_of t) n r.key x (parent_known t r h ∙ up) ∙ back))

  -- what is above a node's parent is above the node, too
  also_below : (r : Record) (x above : Key) → IsIn t r → r.parent ≡ Some x → in_subtree t above x ≡ true → in_subtree t above r.key ≡ true
  also_below r x above h up below =
      (let way = subtree_to t root l above x below in
      subtree_from t root l r (suc way.0) above h (after_step (parent_of t) way.0 r.key x (parent_known t r h ∙ up) ∙ way.1))

  pub children_first : AreChildrenFirst t keys
  children_first i d r within h up =
      (let x = slice_index_or keys i d in
      let below = also_below r x top h up ((p.members x).0 (listed_place i d within)).1 in
      let found : Contains keys r.key = (p.members r.key).1 (ap is_some (in_found t r h), below) in
      let j = found.0 in
      let inside = found.1 in
      let here : slice_index_or keys j d ≡ r.key = get_or_default keys j d r.key inside ∙ found.2 in
      elim (cases_order j i) [
        | inl e ↦ absurd (no_cycle r x 0 h up (ap Some (sym (ap (λ n. slice_index_or keys n d) e) ∙ here)))
        | inr o ↦ elim o [
          | inl before ↦ (let short = length-take-le i keys (omega (arith, within)) in
              is_listed (take i keys) r.key (j, omega (arith, before, short), get_or-take i keys j r.key before ∙ found.2))
          | inr later ↦ elim (p.ordered i j d later inside) [
            | inl above ↦ (let way = subtree_to t root l (slice_index_or keys j d) x above.0 in absurd (no_cycle r x way.0 h up (way.1 ∙ ap Some here)))
            | inr apart ↦ (let a = subst (AreApart t x) here apart in
                absurd (no_apart t root l r.key (record {
                  first = a.first;
                  second = a.second;
                  first_in = a.first_in;
                  second_in = a.second_in;
                  siblings = a.siblings;
                  order = a.order;
                  over_a = also_below r x a.first.key h up a.over_a;
                  over_b = a.over_b;
                })))
          ]
        ]
      ])

abbrev doomed_below : Tree → Key → Record → Record
doomed_below t top r = cond (in_subtree t top r.key) (doomed_record r) r

-- the same holds in the tree in which the subtree is doomed
pub children_first_doomed : (t : Tree) (root : Key) → Lawful t root → (top : Key) (keys : List Key) → IsPostOrder t top keys → AreChildrenFirst (after t (Doom top)) keys
children_first_doomed t root l top keys p i d r within h up =
    (let was = mapped_from t (doomed_below t top) same_keys r h in
    ap (λ (x : Record). contains_key (take i keys) x.key) was.2 ∙ ap (contains_key (take i keys)) (same_keys was.0)
    ∙ children_first t root l top keys p i d was.0 within was.1 (sym (same_parents was.0) ∙ ap (λ (x : Record). x.parent) (sym was.2) ∙ up))
  where
    same_keys : (s : Record) → (doomed_below t top s).key ≡ s.key
    same_keys s = elim (in_subtree t top s.key) as (λ b. (cond b (doomed_record s) s).key ≡ s.key) [ true ↦ refl | false ↦ refl ]

    same_parents : (s : Record) → (doomed_below t top s).parent ≡ s.parent
    same_parents s = elim (in_subtree t top s.key) as (λ b. (cond b (doomed_record s) s).parent ≡ s.parent) [ true ↦ refl | false ↦ refl ]
