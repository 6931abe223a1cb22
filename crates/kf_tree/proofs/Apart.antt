-- Which keys are apart from a node, and before it, as a walk goes down to a child, on to a sibling, or up.
use Rattle.std.proofs.Common.{◌≡◌, ◌⊎◌, inl, inr, ℕ, zero, suc, ◌+◌, ◌-◌, ◌≤◌, refl, ap, arith, sym, ◌∙◌, true, false}
use Rattle.std.specs.Prelude.{None, Some, ◌↔◌}
use Rattle.std.proofs.lemmas.Option.{same_Some}
use Rattle.kf_core.specs.declared.key.Key.{Key}
use Rattle.kf_core.specs.declared.records.Record.{Record}
use Rattle.kf_core.specs.Tree.{Tree, parent_of, ancestor, in_subtree, IsIn}
use Rattle.kf_core.specs.Lawful.{Lawful}
use Rattle.kf_core.specs.PostOrder.{AreApart, StandsBefore}
use Rattle.kf_core.proofs.Climbs.{first_step, after_step, climb_rest, climb_cut}
use Rattle.kf_core.proofs.FoundRecords.{found_in, parent_known, met_parent, met_linked, subtree_to, subtree_from, same_record}
use Rattle.kf_table.specs.Next.{before, IsNext}
use Rattle.kf_tree.proofs.Next.{before_less, less_before, before_not_self, before_trans, before_ties}
use Rattle.kf_tree.proofs.PostOrder.{child_below, lt_or_le}

module _ (t : Tree) (root : Key) (l : Lawful t root) where
  pub dir_of : (r : Record) (d : Key) → IsIn t r → r.parent ≡ Some d → (x : Record) × (IsIn t x) × (x.key ≡ d)
  dir_of r d i p = (let h = l.in_directory r d i p in let f = found_in t d h.dir h.known in (h.dir, f.0, f.1))

  pub sub_self : (r : Record) → IsIn t r → in_subtree t r.key r.key ≡ true
  sub_self r i = subtree_from t root l r 0 r.key i refl

  pub sub_parent : (r : Record) (d : Key) → IsIn t r → r.parent ≡ Some d → in_subtree t d r.key ≡ true
  sub_parent r d i p = subtree_from t root l r 1 d i (after_step (parent_of t) 0 r.key d (parent_known t r i ∙ p))

  pub sub_trans : (a b : Key) (r : Record) → IsIn t r → in_subtree t a b ≡ true → in_subtree t b r.key ≡ true → in_subtree t a r.key ≡ true
  sub_trans a b r i h g = (let x = subtree_to t root l b r.key g in let y = subtree_to t root l a b h in
      subtree_from t root l r (x.0 + y.0) a i (climb_rest (parent_of t) x.0 y.0 r.key b x.1 ∙ y.1))

  -- a key that has the record in its subtree is the record's own key, or has the record's directory in its
  -- subtree
  pub sub_up : (a : Key) (r : Record) (d : Key) → IsIn t r → r.parent ≡ Some d → in_subtree t a r.key ≡ true → (r.key ≡ a) ⊎ (in_subtree t a d ≡ true)
  sub_up a r d i p h = (let s = subtree_to t root l a r.key h in up s.0 s.1)
    where
      up : (n : ℕ) → ancestor t n r.key ≡ Some a → (r.key ≡ a) ⊎ (in_subtree t a d ≡ true)
      up zero e = inl (same_Some r.key a e)
      up (suc n) e = (let f = first_step (parent_of t) n r.key a e in
          let x = dir_of r d i p in
          let same : f.0 ≡ d = same_Some f.0 d (sym f.1 ∙ parent_known t r i ∙ p) in
          inr (sym (ap (in_subtree t a) x.2) ∙ subtree_from t root l x.0 n a x.1 (ap (ancestor t n) (x.2 ∙ sym same) ∙ f.2)))

  -- a record in the subtree of a directory is the directory itself, or is in the subtree of one of its
  -- children
  pub sub_down : (d : Key) (r : Record) → IsIn t r → in_subtree t d r.key ≡ true → (r.key ≡ d) ⊎ ((c : Record) × (IsIn t c) × (c.parent ≡ Some d) × (in_subtree t c.key r.key ≡ true))
  sub_down d r i h = (let s = subtree_to t root l d r.key h in down s.0 s.1)
    where
      down : (n : ℕ) → ancestor t n r.key ≡ Some d → (r.key ≡ d) ⊎ ((c : Record) × (IsIn t c) × (c.parent ≡ Some d) × (in_subtree t c.key r.key ≡ true))
      down zero e = inl (same_Some r.key d e)
      down (suc n) e = (let m = met_parent t n r.key d e in inr (m.0, m.1, m.3, subtree_from t root l r n m.0.key i m.2))

  -- if a record is in the subtrees of two keys, one of these keys is in the subtree of the other
  pub sub_along : (a b : Key) (r : Record) → IsIn t r → in_subtree t a r.key ≡ true → in_subtree t b r.key ≡ true → (in_subtree t a b ≡ true) ⊎ (in_subtree t b a ≡ true)
  sub_along a b r i h g = (let x = subtree_to t root l a r.key h in let y = subtree_to t root l b r.key g in
      elim (lt_or_le x.0 y.0) [
        | inl s ↦ inr (shorter a b x.0 y.0 (omega (arith, s)) x.1 y.1)
        | inr s ↦ inl (shorter b a y.0 x.0 s y.1 x.1)
      ])
    where
      shorter : (a b : Key) (n m : ℕ) → n ≤ m → ancestor t n r.key ≡ Some a → ancestor t m r.key ≡ Some b → in_subtree t b a ≡ true
      shorter a b n m s x y =
          (let e : m ≡ n + (m - n) = omega arith in
          let c = climb_cut (parent_of t) n (m - n) r.key b (ap (λ j. ancestor t j r.key) (sym e) ∙ y) in
          let same : c.0 ≡ a = same_Some c.0 a (sym c.1 ∙ x) in
          let w = met_linked t root l n r a i x in
          sym (ap (in_subtree t b) w.2) ∙ subtree_from t root l w.0 (m - n) b w.1 (ap (ancestor t (m - n)) (w.2 ∙ sym same) ∙ c.2))

  -- if a record is in the subtree of its sibling, the two are the same
  pub one_sibling : (r s : Record) (d : Key) → IsIn t r → IsIn t s → r.parent ≡ Some d → s.parent ≡ Some d → in_subtree t r.key s.key ≡ true → s.key ≡ r.key
  one_sibling r s d i j p q h = elim (sub_up r.key s d j q h) [ inl e ↦ e | inr b ↦ absurd (child_below t root l d r i p b) ]

  not_itself : (r s : Record) → IsIn t r → IsIn t s → r.key ≡ s.key → before r.name s.name ≡ true → ⊥
  not_itself r s i j e b = (let same : r.name ≡ s.name = ap (λ (x : Record). x.name) (same_record t r s i j e) in
      let x : true ≡ false = sym b ∙ ap (λ n. before n s.name) same ∙ before_not_self s.name in cc)

  -- the two siblings that keep a pair of keys apart are in one directory
  pub apart_dir : (a b : Key) (p : AreApart t a b) → (d : Key) × (p.first.parent ≡ Some d) × (p.second.parent ≡ Some d)
  apart_dir a b p = elim p.first.parent as (λ o. p.first.parent ≡ o → (d : Key) × (p.first.parent ≡ Some d) × (p.second.parent ≡ Some d)) [
    | None ↦ λ e. absurd (not_itself p.first p.second p.first_in p.second_in
        (l.one_root p.first p.first_in e ∙ sym (l.one_root p.second p.second_in (sym p.siblings ∙ e))) (less_before p.first.name p.second.name p.order))
    | Some d ↦ λ e. (d, e, sym p.siblings ∙ e)
  ] refl

  -- no record is apart from itself
  pub not_apart : (r : Record) → IsIn t r → AreApart t r.key r.key → ⊥
  not_apart r i p = (let d = apart_dir r.key r.key p in
      let order = less_before p.first.name p.second.name p.order in
      elim (sub_along p.first.key p.second.key r i p.over_a p.over_b) [
        | inl h ↦ not_itself p.first p.second p.first_in p.second_in (sym (one_sibling p.first p.second d.0 p.first_in p.second_in d.1 d.2 h)) order
        | inr h ↦ not_itself p.first p.second p.first_in p.second_in (one_sibling p.second p.first d.0 p.second_in p.first_in d.2 d.1 h) order
      ])

  -- what is apart from a key is also apart from every key in the subtree of the same second sibling
  under : (k a b : Key) (p : AreApart t k a) → in_subtree t p.second.key b ≡ true → AreApart t k b
  under k a b p h = record { first = p.first; second = p.second; first_in = p.first_in; second_in = p.second_in; siblings = p.siblings; order = p.order; over_a = p.over_a; over_b = h }

  -- a record is not apart from a key that has the record in its subtree
  pub apart_above : (top : Key) (r : Record) → IsIn t r → in_subtree t top r.key ≡ true → AreApart t r.key top → ⊥
  apart_above top r i h p = not_apart r i (under r.key top r.key p (sub_trans p.second.key top r i p.over_b h))

  apart_by : (k b : Key) (f s : Record) (d : Key) → IsIn t f → IsIn t s → f.parent ≡ Some d → s.parent ≡ Some d → before f.name s.name ≡ true → in_subtree t f.key k ≡ true → in_subtree t s.key b ≡ true → AreApart t k b
  apart_by k b f s d i j p q o h g = record { first = f; second = s; first_in = i; second_in = j; siblings = p ∙ sym q; order = before_less f.name s.name o; over_a = h; over_b = g }

  -- a step down to the first child: the keys that are apart from it, and before it, are the same as for the
  -- directory
  pub apart_child : (k dir : Key) (c : Record) → IsNext t dir None c → AreApart t k c.key ↔ AreApart t k dir
  apart_child k dir c n = (
    (λ p. elim (sub_up p.second.key c dir n.is_in n.parent p.over_b) [
      | inl e ↦ (let same = same_record t c p.second n.is_in p.second_in e in
          let b = less_before p.first.name p.second.name p.order in
          let least = n.least p.first p.first_in (p.siblings ∙ ap (λ (x : Record). x.parent) (sym same) ∙ n.parent) refl in
          let x : true ≡ false = sym b ∙ ap (λ (x : Record). before p.first.name x.name) (sym same) ∙ least in absurd cc)
      | inr h ↦ under k c.key dir p h
    ]),
    (λ p. under k dir c.key p (sub_trans p.second.key dir c n.is_in p.over_b (sub_parent c dir n.is_in n.parent))),
  )

  -- what is in the subtree of a sibling whose name is not later is apart from the record, and before it, or
  -- is in the record's own subtree
  apart_beside : (k : Key) (c r : Record) (d : Key) → IsIn t c → IsIn t r → c.parent ≡ Some d → r.parent ≡ Some d → before r.name c.name ≡ false → in_subtree t c.key k ≡ true → AreApart t k r.key ⊎ (in_subtree t r.key k ≡ true)
  apart_beside k c r d i j p q n h = elim (before c.name r.name) as (λ v. before c.name r.name ≡ v → AreApart t k r.key ⊎ (in_subtree t r.key k ≡ true)) [
    | true ↦ λ e. inl (apart_by k r.key c r d i j p q e h (sub_self r j))
    | false ↦ λ e. inr (ap (λ x. in_subtree t x k) (l.siblings r c j i (q ∙ sym p) (before_ties r.name c.name n e)) ∙ h)
  ] refl

  -- a step on to the next sibling: the subtree that is left behind joins the keys that are apart and before
  pub apart_sibling : (k d : Key) (r s : Record) → IsIn t r → r.parent ≡ Some d → IsNext t d (Some r.name) s → AreApart t k s.key ↔ (AreApart t k r.key ⊎ (in_subtree t r.key k ≡ true))
  apart_sibling k d r s i q n = (
    (λ p. elim (sub_up p.second.key s d n.is_in n.parent p.over_b) [
      | inl e ↦ (let same = same_record t s p.second n.is_in p.second_in e in
          let b : before p.first.name s.name ≡ true = ap (λ (x : Record). before p.first.name x.name) same ∙ less_before p.first.name p.second.name p.order in
          let fp : p.first.parent ≡ Some d = p.siblings ∙ ap (λ (x : Record). x.parent) (sym same) ∙ n.parent in
          elim (before r.name p.first.name) as (λ v. before r.name p.first.name ≡ v → AreApart t k r.key ⊎ (in_subtree t r.key k ≡ true)) [
            | true ↦ λ a. (let x : true ≡ false = sym b ∙ n.least p.first p.first_in fp a in absurd cc)
            | false ↦ λ a. apart_beside k p.first r d p.first_in i fp q a p.over_a
          ] refl)
      | inr h ↦ inl (under k s.key r.key p (sub_trans p.second.key d r i h (sub_parent r d i q)))
    ]),
    (λ x. elim x [
      | inl p ↦ elim (sub_up p.second.key r d i q p.over_b) [
        | inl e ↦ (let same = same_record t r p.second i p.second_in e in
            let b : before p.first.name r.name ≡ true = ap (λ (x : Record). before p.first.name x.name) same ∙ less_before p.first.name p.second.name p.order in
            apart_by k s.key p.first s d p.first_in n.is_in (p.siblings ∙ ap (λ (x : Record). x.parent) (sym same) ∙ q) n.parent (before_trans p.first.name r.name s.name b n.is_above) p.over_a (sub_self s n.is_in))
        | inr h ↦ under k r.key s.key p (sub_trans p.second.key d s n.is_in h (sub_parent s d n.is_in n.parent))
      ]
      | inr h ↦ apart_by k s.key r s d i n.is_in q n.parent n.is_above h (sub_self s n.is_in)
    ]),
  )

  -- a step up from the last sibling: what comes before the directory in post-order is what was apart from the
  -- sibling, and before it, and the sibling's subtree
  pub before_parent : (k r : Record) (d : Key) → IsIn t k → IsIn t r → r.parent ≡ Some d → ((s : Record) → IsIn t s → s.parent ≡ Some d → before r.name s.name ≡ false) →
      StandsBefore t k.key d ↔ (AreApart t k.key r.key ⊎ (in_subtree t r.key k.key ≡ true))
  before_parent k r d j i q none = (
    (λ x. elim x [
      | inl h ↦ elim (sub_down d k j h.0) [
        | inl e ↦ absurd (h.1 e)
        | inr c ↦ apart_beside k.key c.0 r d c.1 i c.2 q (none c.0 c.1 c.2) c.3
      ]
      | inr p ↦ inl (under k.key d r.key p (sub_trans p.second.key d r i p.over_b (sub_parent r d i q)))
    ]),
    (λ x. elim x [
      | inl p ↦ elim (sub_up p.second.key r d i q p.over_b) [
        | inl e ↦ (let same = same_record t r p.second i p.second_in e in
            below p.first p.first_in (p.siblings ∙ ap (λ (x : Record). x.parent) (sym same) ∙ q) p.over_a)
        | inr h ↦ inr (under k.key r.key d p h)
      ]
      | inr h ↦ below r i q h
    ]),
  )
    where
      below : (c : Record) → IsIn t c → c.parent ≡ Some d → in_subtree t c.key k.key ≡ true → StandsBefore t k.key d
      below c m p h = inl (sub_trans d c.key k j (sub_parent c d m p) h, λ e. child_below t root l d c m p (ap (in_subtree t c.key) (sym e) ∙ h))
