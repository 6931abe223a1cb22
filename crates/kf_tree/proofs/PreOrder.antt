-- The walk over a tree in pre-order.
use Rattle.std.proofs.Common.{◌≡◌, ◌≢◌, ◌⊎◌, inl, inr, ℕ, zero, suc, ◌<◌, refl, ap, arith, sym, ◌∙◌, subst, true, false, List, [], ◌∷◌, ◌++◌, lit<}
use Rattle.std.specs.Prelude.{Option, None, Some, is_some, IfNone, IsTrue, ◌↔◌, Contains, AllPairs, count_by}
use Rattle.std.proofs.lemmas.Option.{same_Some, none-some}
use Rattle.std.proofs.lemmas.List.Elements.{Contains-append_left, Contains-append_right, Contains-append_cases}
use Rattle.kf_core.specs.declared.key.Key.{Key}
use Rattle.kf_core.specs.declared.records.Record.{Record}
use Rattle.kf_core.specs.Tree.{Tree, is_linked, parent_of, record_at, ancestor, in_subtree, IsIn}
use Rattle.kf_core.specs.Lawful.{Lawful}
use Rattle.kf_core.specs.PostOrder.{AreApart}
use Rattle.kf_core.proofs.Climbs.{keys_tell, first_step}
use Rattle.kf_core.proofs.FoundRecords.{in_found, found_in, linked_here, parent_known, root_parent, root_met, root_found, subtree_to, subtree_from}
use Rattle.kf_table.specs.Next.{IsNext, AreNext, NoneAbove}
use Rattle.kf_tree.specs.Subtrees.{is_over_key}
use Rattle.kf_tree.specs.Canonical.{Precedes, IsPreOrder}
use Rattle.kf_tree.specs.Orders.{IsNextInPreOrder, IsLastInPreOrder}
use Rattle.kf_tree.proofs.Over.{fewer_over}
use Rattle.kf_tree.proofs.PostOrder.{pairs_append, child_below}
use Rattle.kf_tree.proofs.Apart.{dir_of, sub_self, sub_parent, sub_trans, sub_up, sub_down, not_apart, apart_above, apart_child, apart_sibling, before_parent}
use Rattle.kf_tree.proofs.Tours.{first_listed, none_listed, is_left, count_left}

-- what has been visited when a walk goes up from a record: the keys over it, the keys apart from it and
-- before it, and all keys below it
abbrev Visited : Tree → Key → Key → Type 0
Visited t c k = (in_subtree t k c ≡ true) ⊎ (AreApart t k c ⊎ (in_subtree t c k ≡ true))

-- the way up from a key has come to the current one; when the walk leaves that one, it has visited the key
-- and what precedes the key, and nothing else
pub record IsOnWayUp (t : Tree) (key current : Key) : Type 0 where
  pub linked : IsTrue (is_linked t current)
  pub visited : (k : Record) → IsIn t k → Visited t current k.key ↔ ((k.key ≡ key) ⊎ Precedes t k.key key)

module _ (t : Tree) (root : Key) (l : Lawful t root) where
  by_record : (P : Key → Type 0) → ((r : Record) → IsIn t r → P r.key) → (k : Key) → IsTrue (is_linked t k) → P k
  by_record P f k h = (let r = linked_here t k h in subst P r.2 (f r.0 r.1))

  pub next_by_child : (key : Key) (c : Record) → IsTrue (is_linked t key) → IsNext t key None c → IsNextInPreOrder t key c.key
  next_by_child key c linked n = record {
    linked = ap is_some (in_found t c n.is_in);
    follows = by_record (λ k. Precedes t k c.key ↔ ((k ≡ key) ⊎ Precedes t k key)) go;
  }
    where
      go : (k : Record) → IsIn t k → Precedes t k.key c.key ↔ ((k.key ≡ key) ⊎ Precedes t k.key key)
      go k j = (let a = apart_child t root l k.key key c n in (
        (λ x. elim x [
          | inl h ↦ elim (sub_up t root l k.key c key n.is_in n.parent h.0) [
            | inl e ↦ absurd (h.1 (sym e))
            | inr s ↦ elim (keys_tell k.key key) [ inl e ↦ inl e.1 | inr e ↦ inr (inl (s, e.1)) ]
          ]
          | inr p ↦ inr (inr (a.0 p))
        ]),
        (λ x. elim x [
          | inl e ↦ inl (ap (λ z. in_subtree t z c.key) e ∙ sub_parent t root l c key n.is_in n.parent, λ s. child_below t root l key c n.is_in n.parent (let here = linked_here t key linked in ap (λ z. in_subtree t z key) (sym s ∙ e) ∙ subst (λ z. in_subtree t z z ≡ true) here.2 (sub_self t root l here.0 here.1)))
          | inr y ↦ elim y [
            | inl h ↦ inl (sub_trans t root l k.key key c n.is_in h.0 (sub_parent t root l c key n.is_in n.parent), λ s. child_below t root l key c n.is_in n.parent (ap (λ z. in_subtree t z key) (sym s) ∙ h.0))
            | inr p ↦ inr (a.1 p)
          ]
        ]),
      ))

  pub up_none : (key : Key) → IsTrue (is_linked t key) → NoneAbove t key None → IsOnWayUp t key key
  up_none key linked none = record { linked = linked; visited = go }
    where
      go : (k : Record) → IsIn t k → Visited t key k.key ↔ ((k.key ≡ key) ⊎ Precedes t k.key key)
      go k j = (
        (λ x. elim x [
          | inl h ↦ elim (keys_tell k.key key) [ inl e ↦ inl e.1 | inr e ↦ inr (inl (h, e.1)) ]
          | inr y ↦ elim y [
            | inl p ↦ inr (inr p)
            | inr h ↦ elim (sub_down t root l key k j h) [
              | inl e ↦ inl e
              | inr c ↦ absurd (let x : true ≡ false = none c.0 c.1 c.2 in cc)
            ]
          ]
        ]),
        (λ x. elim x [
          | inl e ↦ inr (inr (ap (in_subtree t key) e ∙ self))
          | inr y ↦ elim y [ inl h ↦ inl h.0 | inr p ↦ inr (inl p) ]
        ]),
      )
        where
          self : in_subtree t key key ≡ true
          self = (let here = linked_here t key linked in subst (λ z. in_subtree t z z ≡ true) here.2 (sub_self t root l here.0 here.1))

  -- a key that has the directory of a record in its subtree has the record in it too
  over_dir : (k : Key) (r : Record) (d : Key) → IsIn t r → r.parent ≡ Some d → in_subtree t k d ≡ true → in_subtree t k r.key ≡ true
  over_dir k r d i p h = sub_trans t root l k d r i h (sub_parent t root l r d i p)

  pub up_to : (key : Key) (r : Record) (d : Key) → IsIn t r → r.parent ≡ Some d → NoneAbove t d (Some r.name) → IsOnWayUp t key r.key → IsOnWayUp t key d
  up_to key r d i p none w =
      (let x = dir_of t root l r d i p in record {
        linked = ap (is_linked t) (sym x.2) ∙ ap is_some (in_found t x.0 x.1);
        visited = λ k j. (let v = w.visited k j in let g = go k j in ((λ y. v.0 (g.0 y)), (λ y. g.1 (v.1 y))));
      })
    where
      self : in_subtree t d d ≡ true
      self = (let x = dir_of t root l r d i p in subst (λ z. in_subtree t z z ≡ true) x.2 (sub_self t root l x.0 x.1))

      go : (k : Record) → IsIn t k → Visited t d k.key ↔ Visited t r.key k.key
      go k j = (let b = before_parent t root l k r d j i p none in (
        (λ x. elim x [
          | inl h ↦ inl (over_dir k.key r d i p h)
          | inr y ↦ elim y [
            | inl q ↦ inr (b.0 (inr q))
            | inr h ↦ elim (keys_tell k.key d) [
              | inl e ↦ inl (over_dir k.key r d i p (ap (λ z. in_subtree t z d) e.1 ∙ self))
              | inr e ↦ inr (b.0 (inl (h, e.1)))
            ]
          ]
        ]),
        (λ x. elim x [
          | inl h ↦ elim (sub_up t root l k.key r d i p h) [
            | inl e ↦ inr (inr (sub_trans t root l d r.key k j (sub_parent t root l r d i p) (ap (in_subtree t r.key) (sym e) ∙ sub_self t root l r i)))
            | inr s ↦ inl s
          ]
          | inr y ↦ elim (b.1 y) [ inl h ↦ inr (inr h.0) | inr q ↦ inr (inl q) ]
        ]),
      ))

  pub aside : (key : Key) (r s : Record) (d : Key) → IsIn t r → r.parent ≡ Some d → IsNext t d (Some r.name) s → IsOnWayUp t key r.key → IsNextInPreOrder t key s.key
  aside key r s d i p n w = record {
    linked = ap is_some (in_found t s n.is_in);
    follows = by_record (λ k. Precedes t k s.key ↔ ((k ≡ key) ⊎ Precedes t k key)) (λ k j. (let v = w.visited k j in let g = go k j in ((λ y. v.0 (g.0 y)), (λ y. g.1 (v.1 y)))));
  }
    where
      go : (k : Record) → IsIn t k → Precedes t k.key s.key ↔ Visited t r.key k.key
      go k j = (let a = apart_sibling t root l k.key d r s i p n in (
        (λ x. elim x [
          | inl h ↦ elim (sub_up t root l k.key s d n.is_in n.parent h.0) [
            | inl e ↦ absurd (h.1 (sym e))
            | inr o ↦ inl (over_dir k.key r d i p o)
          ]
          | inr q ↦ inr (a.0 q)
        ]),
        (λ x. elim x [
          | inl h ↦ elim (sub_up t root l k.key r d i p h) [
            | inl e ↦ inr (a.1 (inr (ap (in_subtree t r.key) (sym e) ∙ sub_self t root l r i)))
            | inr o ↦ inl (over_dir k.key s d n.is_in n.parent o, λ e. child_below t root l d s n.is_in n.parent (ap (λ z. in_subtree t z d) (sym e) ∙ o))
          ]
          | inr y ↦ inr (a.1 y)
        ]),
      ))

  root_over : (k : Record) → IsIn t k → in_subtree t root k.key ≡ true
  root_over k j = (let w = root_met t root l k j in subtree_from t root l k w.0 root j w.1)

  pub up_end : (key : Key) (r : Record) → IsIn t r → r.parent ≡ None → IsOnWayUp t key r.key → IsLastInPreOrder t key
  up_end key r i p w = by_record (λ k. (k ≡ key) ⊎ Precedes t k key) (λ k j. (w.visited k j).0 (inr (inr (ap (λ z. in_subtree t z k.key) (l.one_root r i p) ∙ root_over k j))))

  -- ---- the list of keys

  only : (a b : Key) → Contains (a ∷ []) b → a ≡ b
  only a b (zero, h, e) = e
  only a b (suc k, h, e) = absurd (omega arith)

  pub not_ahead : (k : Key) → IsTrue (is_linked t k) → Precedes t k k → ⊥
  not_ahead k h x = (let r = linked_here t k h in elim x [
    | inl s ↦ s.1 refl
    | inr p ↦ not_apart t root l r.0 r.1 (subst (λ k. AreApart t k k) (sym r.2) p)
  ])

-- the keys before the current one, in pre-order
pub record IsAheadOf (t : Tree) (current : Key) (keys : List Key) : Type 0 where
  pub linked : IsTrue (is_linked t current)
  pub members : (key : Key) → Contains keys key ↔ (IsTrue (is_linked t key) × Precedes t key current)
  pub ordered : AllPairs (Precedes t) keys

module _ (t : Tree) (root : Key) (l : Lawful t root) where
  pub first_ahead : IsAheadOf t root []
  first_ahead = record {
    linked = ap is_some (root_found t root l);
    members = λ key. (
      (λ h. absurd (omega (arith, h.1))),
      (λ h. (let r = linked_here t key h.0 in absurd (none r.0 r.1 (subst (λ k. Precedes t k root) (sym r.2) h.1)))),
    );
    ordered = λ i j d h g. absurd (omega arith);
  }
    where
      none : (k : Record) → IsIn t k → Precedes t k.key root → ⊥
      none k j x = elim x [
        | inl h ↦ (let s = subtree_to t root l k.key root h.0 in over s.0 s.1 h.1)
        | inr p ↦ apart_above t root l root k j (root_over t root l k j) p
      ]
        where
          over : (n : ℕ) → ancestor t n root ≡ Some k.key → k.key ≢ root → ⊥
          over zero e n = n (sym (same_Some root k.key e))
          over (suc n) e m = (let f = first_step (parent_of t) n root k.key e in none-some f.0 (sym (root_parent t root l) ∙ f.1))

  ahead_pairs : (current : Key) (keys : List Key) → AllPairs (Precedes t) keys → ((key : Key) → Contains keys key → Precedes t key current) → AllPairs (Precedes t) (keys ++ current ∷ [])
  ahead_pairs current keys ordered h = pairs_append (Precedes t) keys (current ∷ []) ordered (λ i j d a b. absurd (let b' : j < 1 = b in omega arith))
      (λ a b ha hb. subst (Precedes t a) (only t root l current b hb) (h a ha))

  pub next_ahead : (current next : Key) (keys new : List Key) → IsNextInPreOrder t current next → IsAheadOf t current keys → new ≡ keys ++ current ∷ [] → IsAheadOf t next new
  next_ahead current next keys new n u e = subst (IsAheadOf t next) (sym e) record {
    linked = n.linked;
    members = λ key. (
      (λ h. elim (Contains-append_cases keys (current ∷ []) key h) [
        | inl a ↦ (let m = (u.members key).0 a in (m.0, (n.follows key m.0).1 (inr m.1)))
        | inr b ↦ (let same = only t root l current key b in
            let linked : is_linked t key ≡ true = ap (is_linked t) (sym same) ∙ u.linked in
            (linked, (n.follows key linked).1 (inl (sym same))))
      ]),
      (λ h. elim ((n.follows key h.0).0 h.1) [
        | inl same ↦ Contains-append_right keys (current ∷ []) key (0, lit< tt, sym same)
        | inr s ↦ Contains-append_left keys (current ∷ []) key ((u.members key).1 (h.0, s))
      ]),
    );
    ordered = ahead_pairs current keys u.ordered (λ key a. ((u.members key).0 a).1);
  }

  pub all_ahead : (current : Key) (keys new : List Key) → IsLastInPreOrder t current → IsAheadOf t current keys → new ≡ keys ++ current ∷ [] → IsPreOrder t new
  all_ahead current keys new last u e = subst (IsPreOrder t) (sym e) record {
    members = λ key. (
      (λ h. elim (Contains-append_cases keys (current ∷ []) key h) [
        | inl a ↦ ((u.members key).0 a).0
        | inr b ↦ ap (is_linked t) (sym (only t root l current key b)) ∙ u.linked
      ]),
      (λ h. elim (last key h) [
        | inl same ↦ Contains-append_right keys (current ∷ []) key (0, lit< tt, sym same)
        | inr s ↦ Contains-append_left keys (current ∷ []) key ((u.members key).1 (h, s))
      ]),
    );
    ordered = ahead_pairs current keys u.ordered (λ key a. ((u.members key).0 a).1);
  }

  pub fewer_ahead : (current : Key) (keys new : List Key) → IsAheadOf t current keys → new ≡ keys ++ current ∷ [] → count_by (is_left new) t < count_by (is_left keys) t
  fewer_ahead current keys new u e = count_left t current keys new u.linked (λ c. not_ahead t root l current u.linked ((u.members current).0 c).1) e

  -- the next key, from what the code finds
  pub child_next : (key : Key) (entry : List ℕ × Key) (later : List (List ℕ × Key)) → IsTrue (is_linked t key) → AreNext t key None (entry ∷ later) → IsNextInPreOrder t key entry.1
  child_next key entry later linked listed = (let n = first_listed t key None entry later listed in subst (IsNextInPreOrder t key) n.2 (next_by_child t root l key n.0 linked n.1))

  -- what holds for the record that a key finds holds for the key
  found_as : (P : Key → Type 0) (current : Key) (r : Record) → Some r ≡ record_at t current → (IsIn t r → P r.key) → P current
  found_as P current r known f = (let i = found_in t current r (sym known) in subst P i.1 (f i.0))

  pub aside_next : (key current : Key) (r : Record) (d : Key) (bytes : List ℕ) (entry : List ℕ × Key) (later : List (List ℕ × Key)) → Some r ≡ record_at t current → r.parent ≡ Some d → bytes ≡ r.name →
      AreNext t d (Some bytes) (entry ∷ later) → IsOnWayUp t key current → IsNextInPreOrder t key entry.1
  aside_next key current r d bytes entry later known p same listed w =
      (let n = first_listed t d (Some bytes) entry later listed in
      let i = found_in t current r (sym known) in
      subst (IsNextInPreOrder t key) n.2 (aside t root l key r n.0 d i.0 p (subst (λ x. IsNext t d (Some x) n.0) same n.1) (subst (IsOnWayUp t key) (sym i.1) w)))

  pub up_next : (key current : Key) (r : Record) (d : Key) (bytes : List ℕ) → Some r ≡ record_at t current → r.parent ≡ Some d → bytes ≡ r.name →
      AreNext t d (Some bytes) [] → IsOnWayUp t key current → IsOnWayUp t key d
  up_next key current r d bytes known p same listed w =
      (let i = found_in t current r (sym known) in
      up_to t root l key r d i.0 p (subst (λ x. NoneAbove t d (Some x)) same (none_listed t d (Some bytes) listed)) (subst (IsOnWayUp t key) (sym i.1) w))

  pub up_smaller : (current : Key) (r : Record) (d : Key) → Some r ≡ record_at t current → r.parent ≡ Some d → count_by (is_over_key t d) t < count_by (is_over_key t current) t
  up_smaller current r d known p = (let i = found_in t current r (sym known) in fewer_over t root l current d (ap (parent_of t) (sym i.1) ∙ parent_known t r i.0 ∙ p))

  pub up_last : (key current : Key) (r : Record) → Some r ≡ record_at t current → r.parent ≡ None → IsOnWayUp t key current → IsLastInPreOrder t key
  up_last key current r known p w = (let i = found_in t current r (sym known) in up_end t root l key r i.0 p (subst (IsOnWayUp t key) (sym i.1) w))

  pub if_none : {X : Type 0} (P : Type 0) (o : Option X) → P → IfNone o P
  if_none P None p = p
  if_none P (Some k) p = tt
