-- The records of a tree: what a key finds, and how far the way to the root can be.
use Rattle.std.proofs.Common.{◌≡◌, ◌≢◌, inl, inr, ℕ, zero, suc, ◌+◌, ◌<◌, refl, ap, arith, sym, ◌∙◌, true, false, length, slice_set}
use Rattle.std.specs.Prelude.{Option, None, Some, slice_get, count_by, is_some}
use Rattle.std.specs.Option.{option_and_then}
use Rattle.std.proofs.lemmas.Option.{same_Some, none-some, slice_get_within}
use Rattle.std.proofs.lemmas.List.Sums.{count_by-le-length}
use Rattle.std.proofs.lemmas.Bool.Decides.{eqb_tells}
use Rattle.kf_core.specs.declared.key.Key.{Key}
use Rattle.kf_core.specs.declared.records.Record.{Record}
use Rattle.kf_core.specs.Tree.{Tree, with_key, record_at, parent_of, climb, ancestor, in_subtree, IsIn}
use Rattle.kf_core.specs.Lawful.{root_record, Lawful}
use Rattle.kf_core.proofs.Climbs.{keys_tell, same_key_self, first_step, after_step, climb_rest, climb_cut, climb_same, no_return, meets_to, meets_from}
use Rattle.kf_core.proofs.Lists.{slice_get-set_same, slice_get-set_other, count_cleared, count_some}

pub in_found : (t : Tree) (r : Record) → IsIn t r → record_at t r.key ≡ Some r
in_found t r h = rw h (rw (same_key_self r.key) refl)

pub found_in : (t : Tree) (k : Key) (r : Record) → record_at t k ≡ Some r → (IsIn t r) × (r.key ≡ k)
found_in t k r h = elim (slice_get t k.slot) as (λ o. slice_get t k.slot ≡ o → option_and_then (with_key k) o ≡ Some r → (IsIn t r) × (r.key ≡ k)) [
  | None ↦ λ e g. absurd (none-some r g)
  | Some place ↦ λ e g. elim place as (λ p. slice_get t k.slot ≡ Some p → with_key k p ≡ Some r → (IsIn t r) × (r.key ≡ k)) [
    | None ↦ λ e g. absurd (none-some r g)
    | Some s ↦ λ e g. elim (keys_tell s.key k) [
      | inl y ↦ (let same : s ≡ r = same_Some s r (let g' : Some s ≡ Some r = rw y.0 at g in g') in
          let key : r.key ≡ k = ap (λ (x : Record). x.key) (sym same) ∙ y.1 in
          (ap (λ (x : Key). slice_get t x.slot) key ∙ e ∙ ap (λ x. Some (Some x)) same, key))
      | inr n ↦ absurd (none-some r (let g' : None ≡ Some r = rw n.0 at g in g'))
    ]
  ] e g
] refl h

pub parent_known : (t : Tree) (r : Record) → IsIn t r → parent_of t r.key ≡ r.parent
parent_known t r h = ap (λ o. option_and_then (λ (s : Record). s.parent) o) (in_found t r h)

pub known_parent : (t : Tree) (k p : Key) → parent_of t k ≡ Some p → (r : Record) × (IsIn t r) × (r.key ≡ k) × (r.parent ≡ Some p)
known_parent t k p h = elim (record_at t k) as (λ o. record_at t k ≡ o → option_and_then (λ (s : Record). s.parent) o ≡ Some p → (r : Record) × (IsIn t r) × (r.key ≡ k) × (r.parent ≡ Some p)) [
  | None ↦ λ e g. absurd (none-some p g)
  | Some r ↦ λ e g. (let f = found_in t k r e in (r, f.0, f.1, g))
] refl h

pub find_at : (t : Tree) (k : Key) (place : Option Record) → slice_get t k.slot ≡ Some place → record_at t k ≡ with_key k place
find_at t k place h = ap (λ o. option_and_then (λ p. with_key k p) o) h

pub with_other : (k : Key) (r : Record) → k ≢ r.key → with_key k (Some r) ≡ None
with_other k r n = elim (keys_tell r.key k) [ inl e ↦ absurd (n (sym e.1)) | inr e ↦ rw e.0 refl ]

-- a write to a slot changes nothing for a key that is neither in the old nor in the new content of the slot
pub find_kept : (t : Tree) (slot : ℕ) (old new : Option Record) (k : Key) → slice_get t slot ≡ Some old → with_key k old ≡ None → with_key k new ≡ None → record_at (slice_set t slot new) k ≡ record_at t k
find_kept t slot old new k h o n = elim (eqb_tells k.slot slot) [
  | inl e ↦ (let was : slice_get t k.slot ≡ Some old = ap (λ i. slice_get t i) e.1 ∙ h in
      let is : slice_get (slice_set t slot new) k.slot ≡ Some new = ap (λ i. slice_get (slice_set t slot new) i) e.1 ∙ slice_get-set_same t slot new (slice_get_within t slot old h) in
      find_at (slice_set t slot new) k new is ∙ n ∙ sym (find_at t k old was ∙ o))
  | inr e ↦ ap (λ x. option_and_then (λ p. with_key k p) x) (slice_get-set_other t slot k.slot new e.1)
]

pub find_cleared : (t : Tree) (r : Record) (k : Key) → IsIn t r → k ≢ r.key → record_at (slice_set t r.key.slot None) k ≡ record_at t k
find_cleared t r k h n = find_kept t r.key.slot (Some r) None k h (with_other k r n) refl

pub find_filled : (t : Tree) (r : Record) (k : Key) → slice_get t r.key.slot ≡ Some None → k ≢ r.key → record_at (slice_set t r.key.slot (Some r)) k ≡ record_at t k
find_filled t r k h n = find_kept t r.key.slot None (Some r) k h refl (with_other k r n)

-- a way to a key from which no step leads up is shorter than there are records
pub way_short : (t : Tree) (n : ℕ) (k top : Key) (r : Record) → record_at t top ≡ Some r → parent_of t top ≡ None → ancestor t n k ≡ Some top → n < count_by is_some t
way_short t zero k top r f e h = (let g = found_in t top r f in count_some t r.key.slot r g.0)
way_short t (suc n) k top r f e h =
    (let s = first_step (parent_of t) n k top h in
    let g = known_parent t k s.0 s.1 in
    let t' : Tree = slice_set t g.0.key.slot None in
    let kept : (m : Key) → m ≢ k → record_at t' m ≡ record_at t m = λ m d. find_cleared t g.0 m g.1 (λ e. d (e ∙ g.2)) in
    let other : top ≢ k = λ e'. none-some s.0 (sym e ∙ ap (λ x. parent_of t x) e' ∙ s.1) in
    let same : ancestor t n s.0 ≡ ancestor t' n s.0 = climb_same (parent_of t) (parent_of t') n s.0 (λ i m l c.
    ap (λ o. option_and_then (λ (x : Record). x.parent) o) (sym (kept m (λ e'. no_return (parent_of t) top e (suc n) i k h (after_step (parent_of t) i k s.0 s.1 ∙ c ∙ ap Some e'))))) in
    let shorter = way_short t' n s.0 top r (kept top other ∙ f) (ap (λ o. option_and_then (λ (x : Record). x.parent) o) (kept top other) ∙ e) (sym same ∙ s.2) in
    let cleared = count_cleared t g.0.key.slot g.0 g.1 in
    omega (arith, shorter, cleared))

module _ (t : Tree) (root : Key) (l : Lawful t root) where
  pub root_found : record_at t root ≡ Some (root_record root)
  root_found = in_found t (root_record root) l.rooted

  pub root_parent : parent_of t root ≡ None
  root_parent = ap (λ o. option_and_then (λ (x : Record). x.parent) o) root_found

  pub way_shorter : (n : ℕ) (k : Key) → ancestor t n k ≡ Some root → n < length t
  way_shorter n k h = (let s = way_short t n k root _ root_found root_parent h in let c = count_by-le-length is_some t in omega (arith, s, c))

  -- each key that is met on the way up from a record has a record
  pub met_linked : (n : ℕ) (r : Record) (m : Key) → IsIn t r → ancestor t n r.key ≡ Some m → (s : Record) × (IsIn t s) × (s.key ≡ m)
  met_linked zero r m h c = (r, h, same_Some r.key m c)
  met_linked (suc n) r m h c =
      (let s = first_step (parent_of t) n r.key m c in
      let p = l.in_directory r s.0 h (sym (parent_known t r h) ∙ s.1) in
      let d = found_in t s.0 p.dir p.known in
      met_linked n p.dir m d.0 (ap (ancestor t n) d.1 ∙ s.2))

  -- the root is met from each record
  pub root_met : (r : Record) → IsIn t r → (n : ℕ) × (ancestor t n r.key ≡ Some root)
  root_met r h = (let w = l.reaches r h in (w.0, w.2))

  pub subtree_to : (top k : Key) → in_subtree t top k ≡ true → (n : ℕ) × (ancestor t n k ≡ Some top)
  subtree_to top k h = (let m = meets_to (parent_of t) (length t) top k h in (m.0, m.2))

  pub subtree_from : (r : Record) (n : ℕ) (top : Key) → IsIn t r → ancestor t n r.key ≡ Some top → in_subtree t top r.key ≡ true
  subtree_from r n top h c =
      (let s = met_linked n r top h c in
      let w = root_met s.0 s.1 in
      let whole : ancestor t (n + w.0) r.key ≡ Some root = climb_rest (parent_of t) n w.0 r.key top c ∙ ap (ancestor t w.0) (sym s.2) ∙ w.1 in
      meets_from (parent_of t) (length t) n top r.key (let x = way_shorter (n + w.0) r.key whole in omega arith) c)

  -- the way up from a record is the same in another tree if all keys that it meets have the same parent there
  pub way_kept : (t' : Tree) (n : ℕ) (r : Record) → IsIn t r → ((s : Record) (i : ℕ) → i < n → IsIn t s → ancestor t i r.key ≡ Some s.key → parent_of t s.key ≡ parent_of t' s.key) → ancestor t n r.key ≡ ancestor t' n r.key
  way_kept t' n r h same = climb_same (parent_of t) (parent_of t') n r.key (λ i m l c.
      (let s = met_linked i r m h c in
      ap (parent_of t) (sym s.2) ∙ same s.0 i l s.1 (c ∙ ap Some (sym s.2)) ∙ ap (parent_of t') s.2))

pub same_find : (t t' : Tree) (k : Key) → record_at t k ≡ record_at t' k → parent_of t k ≡ parent_of t' k
same_find t t' k e = ap (λ o. option_and_then (λ (x : Record). x.parent) o) e

-- a record is determined by its key
pub same_record : (t : Tree) (r s : Record) → IsIn t r → IsIn t s → r.key ≡ s.key → r ≡ s
same_record t r s h g e = same_Some r s (same_Some (Some r) (Some s) (sym h ∙ ap (λ (k : Key). slice_get t k.slot) e ∙ g))

-- what is met after a step is the parent of a record
pub met_parent : (t : Tree) (n : ℕ) (k p : Key) → ancestor t (suc n) k ≡ Some p → (s : Record) × (IsIn t s) × (ancestor t n k ≡ Some s.key) × (s.parent ≡ Some p)
met_parent t n k p h =
    (let e : suc n ≡ n + 1 = omega arith in
    let c = climb_cut (parent_of t) n 1 k p (ap (λ j. climb (parent_of t) j k) (sym e) ∙ h) in
    let f = first_step (parent_of t) 0 c.0 p c.2 in
    let g = known_parent t c.0 f.0 f.1 in
    (g.0, g.1, c.1 ∙ ap Some (sym g.2), g.3 ∙ f.2))

pub linked_here : (t : Tree) (k : Key) → is_some (record_at t k) ≡ true → (r : Record) × (IsIn t r) × (r.key ≡ k)
linked_here t k h = elim (record_at t k) as (λ o. record_at t k ≡ o → is_some o ≡ true → (r : Record) × (IsIn t r) × (r.key ≡ k)) [
  | None ↦ λ e g. absurd (let x : false ≡ true = g in cc)
  | Some r ↦ λ e g. (let f = found_in t k r e in (r, f.0, f.1))
] refl h
