-- A walk over a subtree from node to node.
use Rattle.std.proofs.Common.{◌≡◌, ◌≢◌, ◌⊎◌, inl, inr, ℕ, zero, suc, ◌-◌, ◌<◌, refl, ap, arith, sym, ◌∙◌, subst, true, false, List, [], ◌∷◌, ◌++◌, length, length-append, lit<}
use Rattle.std.specs.Prelude.{Bool, not, ◌||◌, Option, None, Some, is_some, IsTrue, ◌↔◌, Contains, AllPairs, count_by}
use Rattle.std.proofs.lemmas.List.Sums.{count_by-le-length}
use Rattle.kf_core.specs.declared.key.Key.{Key}
use Rattle.kf_core.specs.declared.records.Record.{Record}
use Rattle.kf_core.specs.Tree.{Tree, is_linked, parent_of, record_at, in_subtree, IsIn}
use Rattle.kf_core.specs.Lawful.{Lawful}
use Rattle.kf_core.specs.PostOrder.{AreApart, StandsBefore}
use Rattle.kf_core.proofs.Climbs.{keys_tell, same_key_self}
use Rattle.kf_core.proofs.FoundRecords.{in_found, found_in, linked_here, parent_known}
use Rattle.kf_table.specs.Next.{IsNext, AreNext, NoneAbove}
use Rattle.kf_tree.specs.Subtrees.{is_over_key}
use Rattle.kf_core.specs.Keys.{same_key}
use Rattle.kf_core.specs.PostOrder.{IsPostOrder}
use Rattle.kf_tree.specs.Ends.{EndsWith}
use Rattle.kf_core.proofs.Lists.{count_less}
use Rattle.kf_tree.proofs.PostOrder.{pairs_append}
use Rattle.std.proofs.lemmas.List.Elements.{Contains-append_left, Contains-append_right, Contains-append_cases}
use Rattle.std.specs.List.{list_any}
use Rattle.std.proofs.lemmas.List.Folds.{list_any-append}
use Rattle.kf_tree.specs.Orders.{IsFirstBelow, IsNextInPostOrder}
use Rattle.kf_tree.specs.Tours.{IsUpTo}
use Rattle.kf_tree.proofs.Over.{fewer_over}
use Rattle.kf_tree.proofs.Distinct.{distinct_from, few_keys}
use Rattle.kf_tree.proofs.Apart.{dir_of, sub_self, sub_parent, sub_trans, sub_up, sub_down, not_apart, apart_above, apart_child, apart_sibling, before_parent}

-- the way down from the top by first children has come to the current key
pub record IsOnWayDown (t : Tree) (top current : Key) : Type 0 where
  pub linked : IsTrue (is_linked t current)
  pub below : IsTrue (in_subtree t top current)
  pub left : (key : Key) → AreApart t key current ↔ AreApart t key top

-- the first entry of a list of next children is the next child
pub first_listed : (t : Tree) (dir : Key) (bound : Option (List ℕ)) (entry : List ℕ × Key) (later : List (List ℕ × Key)) → AreNext t dir bound (entry ∷ later) → (c : Record) × IsNext t dir bound c × (c.key ≡ entry.1)
unfolding AreNext
first_listed t dir bound entry later left = (left.0.0, left.0.1, left.0.3)

pub none_listed : (t : Tree) (dir : Key) (bound : Option (List ℕ)) → AreNext t dir bound [] → NoneAbove t dir bound
unfolding AreNext
none_listed t dir bound left = left

abbrev pub is_pushed : List Key → Key → Bool
is_pushed keys key = list_any (same_key key) keys

-- whether the slot has a record whose key is not in the list
abbrev pub is_left : List Key → Option Record → Bool
is_left keys None = false
is_left keys (Some r) = not (is_pushed keys r.key)

pushed_in : (keys : List Key) (key : Key) → is_pushed keys key ≡ true → Contains keys key
pushed_in [] key h = absurd (let x : false ≡ true = h in cc)
pushed_in (k ∷ keys) key h = elim (keys_tell key k) [
  | inl e ↦ Contains-append_left (k ∷ []) keys key (0, lit< tt, sym e.1)
  | inr e ↦ Contains-append_right (k ∷ []) keys key (pushed_in keys key (rw e.0 at h))
]

-- one more key in a list that lacked it leaves fewer records
pub count_left : (t : Tree) (current : Key) (keys new : List Key) → IsTrue (is_linked t current) → (Contains keys current → ⊥) → new ≡ keys ++ current ∷ [] → count_by (is_left new) t < count_by (is_left keys) t
count_left t current keys new linked lacked e = (let r = linked_here t current linked in
    subst (λ xs. count_by (is_left xs) t < count_by (is_left keys) t) (sym e)
    (count_less (is_left keys) (is_left (keys ++ current ∷ [])) weaker t r.0.key.slot (Some r.0) r.1 (here r.0 r.2) (gone r.0 r.2)))
  where
    appended : (k : Key) → is_pushed (keys ++ current ∷ []) k ≡ (is_pushed keys k || is_pushed (current ∷ []) k)
    appended k = list_any-append (same_key k) keys (current ∷ [])

    weaker : (o : Option Record) → is_left (keys ++ current ∷ []) o ≡ true → is_left keys o ≡ true
    weaker None h = h
    weaker (Some r) h = less (is_pushed keys r.key) (is_pushed (current ∷ []) r.key) (ap not (sym (appended r.key)) ∙ h)
      where
        less : (a b : Bool) → not (a || b) ≡ true → not a ≡ true
        less true b h = h
        less false b h = refl

    here : (r : Record) → r.key ≡ current → is_left keys (Some r) ≡ true
    here r e = elim (is_pushed keys r.key) as (λ v. is_pushed keys r.key ≡ v → not v ≡ true) [
      | true ↦ λ h. absurd (lacked (pushed_in keys current (ap (is_pushed keys) (sym e) ∙ h)))
      | false ↦ λ h. refl
    ] refl

    gone : (r : Record) → r.key ≡ current → is_left (keys ++ current ∷ []) (Some r) ≡ false
    gone r e = (let same : is_pushed (current ∷ []) r.key ≡ true = ap (is_pushed (current ∷ [])) e ∙ itself in
        ap not (appended r.key ∙ ap (λ b. is_pushed keys r.key || b) same ∙ or_true (is_pushed keys r.key)))
      where
        itself : is_pushed (current ∷ []) current ≡ true
        itself = rw (same_key_self current) refl

        or_true : (a : Bool) → (a || true) ≡ true
        or_true true = refl
        or_true false = refl

module _ (t : Tree) (root : Key) (l : Lawful t root) where
  pub down_none : (top : Key) → IsTrue (is_linked t top) → IsOnWayDown t top top
  down_none top h = (let r = linked_here t top h in record {
    linked = h;
    below = subst (λ k. in_subtree t k k ≡ true) r.2 (sub_self t root l r.0 r.1);
    left = λ key. ((λ p. p), (λ p. p));
  })

  down_to : (top current : Key) (c : Record) → IsNext t current None c → IsOnWayDown t top current → IsOnWayDown t top c.key
  down_to top current c n w = record {
    linked = ap is_some (in_found t c n.is_in);
    below = sub_trans t root l top current c n.is_in w.below (sub_parent t root l c current n.is_in n.parent);
    left = λ key. (let a = apart_child t root l key current c n in let b = w.left key in ((λ p. b.0 (a.0 p)), (λ p. a.1 (b.1 p))));
  }

  pub down_more : (top current : Key) (entry : List ℕ × Key) (later : List (List ℕ × Key)) → AreNext t current None (entry ∷ later) → IsOnWayDown t top current → IsOnWayDown t top entry.1
  down_more top current entry later left w = (let n = first_listed t current None entry later left in subst (IsOnWayDown t top) n.2 (down_to top current n.0 n.1 w))

  pub down_smaller : (current : Key) (entry : List ℕ × Key) (later : List (List ℕ × Key)) → AreNext t current None (entry ∷ later) →
      length t - count_by (is_over_key t entry.1) t < length t - count_by (is_over_key t current) t
  down_smaller current entry later left =
      (let n = first_listed t current None entry later left in
      let child = entry.1 in
      let fewer = fewer_over t root l child current (sym (ap (parent_of t) n.2) ∙ parent_known t n.0 n.1.is_in ∙ n.1.parent) in
      let few = count_by-le-length (is_over_key t child) t in
      omega (arith, fewer, few))

  pub down_end : (top current : Key) → AreNext t current None [] → IsOnWayDown t top current → IsFirstBelow t top current
  down_end top current left w = record {
    linked = w.linked;
    below = w.below;
    childless = λ c i p. (let x : true ≡ false = none_listed t current None left c i p in cc);
    left = w.left;
  }

  behind : (k a : Key) → (AreApart t k a ⊎ (in_subtree t a k ≡ true)) → (k ≡ a) ⊎ StandsBefore t k a
  behind k a x = elim x [
    | inl p ↦ inr (inr p)
    | inr h ↦ elim (keys_tell k a) [ inl e ↦ inl e.1 | inr e ↦ inr (inl (h, e.1)) ]
  ]

  left_behind : (k : Key) (r : Record) → IsIn t r → ((k ≡ r.key) ⊎ StandsBefore t k r.key) → AreApart t k r.key ⊎ (in_subtree t r.key k ≡ true)
  left_behind k r i x = elim x [
    | inl e ↦ inr (ap (in_subtree t r.key) e ∙ sub_self t root l r i)
    | inr s ↦ elim s [ inl h ↦ inr h.0 | inr p ↦ inl p ]
  ]

  -- the first leaf of the next sibling comes next in post-order
  pub next_by_sibling : (top next : Key) (r s : Record) (d : Key) → IsIn t r → r.parent ≡ Some d → r.key ≢ top → in_subtree t top r.key ≡ true → IsNext t d (Some r.name) s → IsFirstBelow t s.key next → IsNextInPostOrder t top r.key next
  next_by_sibling top next r s d i p other b n f =
      (let nr = linked_here t next f.linked in
      let above_dir : in_subtree t top d ≡ true = elim (sub_up t root l top r d i p b) [ inl e ↦ absurd (other e) | inr h ↦ h ] in
      let to_s = sub_trans t root l top d s n.is_in above_dir (sub_parent t root l s d n.is_in n.parent) in
      record {
        linked = f.linked;
        below = ap (in_subtree t top) (sym nr.2) ∙ sub_trans t root l top s.key nr.0 nr.1 to_s (ap (in_subtree t s.key) nr.2 ∙ f.below);
        follows = λ k h. (let kr = linked_here t k h in
            subst (λ k. StandsBefore t k next ↔ ((k ≡ r.key) ⊎ StandsBefore t k r.key)) kr.2 (go kr.0 kr.1));
      })
    where
      go : (k : Record) → IsIn t k → StandsBefore t k.key next ↔ ((k.key ≡ r.key) ⊎ StandsBefore t k.key r.key)
      go k j = (let a = apart_sibling t root l k.key d r s i p n in (
        (λ x. elim x [
          | inl h ↦ elim (sub_down t root l next k j h.0) [ inl e ↦ absurd (h.1 e) | inr c ↦ absurd (f.childless c.0 c.1 c.2) ]
          | inr q ↦ behind k.key r.key (a.0 ((f.left k.key).0 q))
        ]),
        (λ x. inr ((f.left k.key).1 (a.1 (left_behind k.key r i x)))),
      ))

  -- after the last sibling comes its directory
  pub next_by_parent : (top : Key) (r : Record) (d : Key) → IsIn t r → r.parent ≡ Some d → r.key ≢ top → in_subtree t top r.key ≡ true → NoneAbove t d (Some r.name) → IsNextInPostOrder t top r.key d
  next_by_parent top r d i p other b none =
      (let x = dir_of t root l r d i p in
      record {
        linked = ap (is_linked t) (sym x.2) ∙ ap is_some (in_found t x.0 x.1);
        below = elim (sub_up t root l top r d i p b) [ inl e ↦ absurd (other e) | inr h ↦ h ];
        follows = λ k h. (let kr = linked_here t k h in
            subst (λ k. StandsBefore t k d ↔ ((k ≡ r.key) ⊎ StandsBefore t k r.key)) kr.2 (go kr.0 kr.1));
      })
    where
      go : (k : Record) → IsIn t k → StandsBefore t k.key d ↔ ((k.key ≡ r.key) ⊎ StandsBefore t k.key r.key)
      go k j = (let a = before_parent t root l k r d j i p none in ((λ x. behind k.key r.key (a.0 x)), (λ x. a.1 (left_behind k.key r i x))))

  not_before_itself : (k : Key) → IsTrue (is_linked t k) → StandsBefore t k k → ⊥
  not_before_itself k h x = (let r = linked_here t k h in elim x [
    | inl s ↦ s.1 refl
    | inr p ↦ not_apart t root l r.0 r.1 (subst (λ k. AreApart t k k) (sym r.2) p)
  ])

  -- the list has exactly the keys that come before the current one
  pub first_up_to : (top current : Key) → IsFirstBelow t top current → IsUpTo t top current []
  first_up_to top current f = record {
    linked = f.linked;
    below = f.below;
    members = λ key. (
      (λ h. absurd (omega (arith, h.1))),
      (λ h. (let kr = linked_here t key h.0 in absurd (none kr.0 kr.1 (ap (in_subtree t top) kr.2 ∙ h.1) (subst (λ k. StandsBefore t k current) (sym kr.2) h.2)))),
    );
    ordered = λ i j d h g. absurd (omega arith);
  }
    where
      none : (k : Record) → IsIn t k → in_subtree t top k.key ≡ true → StandsBefore t k.key current → ⊥
      none k j b x = elim x [
        | inl h ↦ elim (sub_down t root l current k j h.0) [ inl e ↦ h.1 e | inr c ↦ f.childless c.0 c.1 c.2 ]
        | inr q ↦ apart_above t root l top k j b ((f.left k.key).0 q)
      ]

  only : (a b : Key) → Contains (a ∷ []) b → a ≡ b
  only a b (zero, h, e) = e
  only a b (suc k, h, e) = absurd (omega arith)

  pushed_pairs : (current : Key) (keys : List Key) → AllPairs (StandsBefore t) keys → ((key : Key) → Contains keys key → StandsBefore t key current) → AllPairs (StandsBefore t) (keys ++ current ∷ [])
  pushed_pairs current keys ordered h = pairs_append (StandsBefore t) keys (current ∷ []) ordered (λ i j d a b. absurd (let b' : j < 1 = b in omega arith))
      (λ a b ha hb. subst (StandsBefore t a) (only current b hb) (h a ha))

  pub next_up_to : (top current next : Key) (keys new : List Key) → IsNextInPostOrder t top current next → IsUpTo t top current keys → new ≡ keys ++ current ∷ [] → IsUpTo t top next new
  next_up_to top current next keys new n u e = subst (IsUpTo t top next) (sym e) record {
    linked = n.linked;
    below = n.below;
    members = λ key. (
      (λ h. elim (Contains-append_cases keys (current ∷ []) key h) [
        | inl a ↦ (let m = (u.members key).0 a in (m.0, m.1, (n.follows key m.0).1 (inr m.2)))
        | inr b ↦ (let same = only current key b in
            let linked : is_linked t key ≡ true = ap (is_linked t) (sym same) ∙ u.linked in
            (linked, ap (in_subtree t top) (sym same) ∙ u.below, (n.follows key linked).1 (inl (sym same))))
      ]),
      (λ h. elim ((n.follows key h.0).0 h.2) [
        | inl same ↦ Contains-append_right keys (current ∷ []) key (0, lit< tt, sym same)
        | inr s ↦ Contains-append_left keys (current ∷ []) key ((u.members key).1 (h.0, h.1, s))
      ]),
    );
    ordered = pushed_pairs current keys u.ordered (λ key a. ((u.members key).0 a).2);
  }

  pub ended : (top current : Key) (keys new : List Key) → current ≡ top → IsUpTo t top current keys → new ≡ keys ++ current ∷ [] → IsPostOrder t top new × EndsWith new top
  ended top current keys new at u e = (
    subst (IsPostOrder t top) (sym e) record {
      members = λ key. (
        (λ h. elim (Contains-append_cases keys (current ∷ []) key h) [
          | inl a ↦ (let m = (u.members key).0 a in (m.0, m.1))
          | inr b ↦ (let same = only current key b in (ap (is_linked t) (sym same) ∙ u.linked, ap (in_subtree t top) (sym same) ∙ u.below))
        ]),
        (λ h. elim (keys_tell key current) [
          | inl same ↦ Contains-append_right keys (current ∷ []) key (0, lit< tt, sym same.1)
          | inr other ↦ Contains-append_left keys (current ∷ []) key ((u.members key).1 (h.0, h.1, inl (ap (λ k. in_subtree t k key) at ∙ h.1, other.1)))
        ]),
      );
      ordered = pushed_pairs current keys u.ordered (λ key a. ((u.members key).0 a).2);
    },
    (keys, e ∙ ap (λ k. keys ++ k ∷ []) at),
  )

  -- the keys so far and the current key are linked and none comes twice, so the keys so far are fewer than
  -- the slots
  pub fewer_passed : (top current : Key) (keys : List Key) → IsUpTo t top current keys → length keys < length t
  fewer_passed top current keys u =
      (let linked : (k : Key) → Contains (keys ++ current ∷ []) k → IsTrue (is_linked t k) = λ k c. elim (Contains-append_cases keys (current ∷ []) k c) [
        | inl a ↦ ((u.members k).0 a).0
        | inr b ↦ ap (is_linked t) (sym (only current k b)) ∙ u.linked
      ] in
      let ordered = pushed_pairs current keys u.ordered (λ key a. ((u.members key).0 a).2) in
      let distinct = distinct_from (StandsBefore t) (keys ++ current ∷ []) (λ k c. not_before_itself k (linked k c)) ordered in
      let few = few_keys (keys ++ current ∷ []) t l.in_place distinct linked in
      let most = count_by-le-length is_some t in
      let long = length-append keys (current ∷ []) in
      omega (arith, few, most, long))

  -- one more pushed key leaves fewer records
  pub fewer_left : (top current : Key) (keys new : List Key) → IsUpTo t top current keys → new ≡ keys ++ current ∷ [] → count_by (is_left new) t < count_by (is_left keys) t
  fewer_left top current keys new u e = count_left t current keys new u.linked (λ c. not_before_itself current u.linked ((u.members current).0 c).2) e

  -- the next key, from what the code finds
  pub linked_sibling : (d : Key) (bound : Option (List ℕ)) (entry : List ℕ × Key) (later : List (List ℕ × Key)) → AreNext t d bound (entry ∷ later) → IsTrue (is_linked t entry.1)
  linked_sibling d bound entry later listed = (let n = first_listed t d bound entry later listed in ap (is_linked t) (sym n.2) ∙ ap is_some (in_found t n.0 n.1.is_in))

  pub on_to_sibling : (top key next : Key) (r : Record) (d : Key) (bytes : List ℕ) (entry : List ℕ × Key) (later : List (List ℕ × Key)) → Some r ≡ record_at t key → r.parent ≡ Some d → key ≢ top → in_subtree t top key ≡ true → bytes ≡ r.name →
      AreNext t d (Some bytes) (entry ∷ later) → IsFirstBelow t entry.1 next → IsNextInPostOrder t top key next
  on_to_sibling top key next r d bytes entry later known p other b same listed f =
      (let n = first_listed t d (Some bytes) entry later listed in
      let i = found_in t key r (sym known) in
      subst (λ k. IsNextInPostOrder t top k next) i.1
      (next_by_sibling top next r n.0 d i.0 p (λ x. other (sym i.1 ∙ x)) (ap (in_subtree t top) i.1 ∙ b) (subst (λ x. IsNext t d (Some x) n.0) same n.1) (subst (λ k. IsFirstBelow t k next) (sym n.2) f)))

  pub up_to_parent : (top key : Key) (r : Record) (d : Key) (bytes : List ℕ) → Some r ≡ record_at t key → r.parent ≡ Some d → key ≢ top → in_subtree t top key ≡ true → bytes ≡ r.name →
      AreNext t d (Some bytes) [] → IsNextInPostOrder t top key d
  up_to_parent top key r d bytes known p other b same listed =
      (let i = found_in t key r (sym known) in
      subst (λ k. IsNextInPostOrder t top k d) i.1
      (next_by_parent top r d i.0 p (λ x. other (sym i.1 ∙ x)) (ap (in_subtree t top) i.1 ∙ b) (subst (λ x. NoneAbove t d (Some x)) same (none_listed t d (Some bytes) listed))))
