-- How long each canonical list of a tree is.
use Rattle.std.proofs.Common.{◌≡◌, ◌≢◌, inl, inr, ℕ, zero, suc, ◌+◌, ◌-◌, ◌≤◌, refl, ap, arith, sym, ◌∙◌, subst, Bool, true, false, cond, List, [], ◌∷◌, ◌++◌, length, length-append, slice_set, get_or}
use Rattle.std.specs.Prelude.{Option, None, Some, is_some, not, ◌&&◌, ◌↔◌, IsTrue, Contains, slice_get, count_by}
use Rattle.std.specs.List.{sum_by}
use Rattle.std.specs.Option.{option_map_or}
use Rattle.std.proofs.lemmas.Option.{none-some, same_Some, slice_get_within, get_or_from_slice_get}
use Rattle.std.proofs.lemmas.List.Sums.{sum_by-cons, sum_by-set, count_by-le-length}
use Rattle.kf_core.specs.Limits.{most_slots}
use Rattle.kf_core.specs.declared.key.Key.{Key}
use Rattle.kf_core.specs.declared.records.Record.{Record}
use Rattle.kf_core.specs.declared.command.Command.{Command}
use Rattle.kf_core.specs.declared.command.Command.TheVariants.{Create, Doom, Hide}
use Rattle.kf_core.specs.Tree.{Tree, record_at, is_linked, IsIn}
use Rattle.kf_core.specs.Lawful.{root_record, Lawful}
use Rattle.kf_core.proofs.FoundRecords.{in_found, find_at, find_cleared, linked_here}
use Rattle.kf_core.proofs.Lists.{slice_get-set_same, after_write, count_cleared, count_some}
use Rattle.kf_tree.specs.Causes.{doomed_in, hidden_in}
use Rattle.kf_tree.specs.Canonical.{Precedes, IsPreOrder, IsCanonical, collected, creation, create_of, is_doomed_top, doom_of, hide_of, is_doomed_inside, doomed_inside_count}
use Rattle.kf_tree.specs.Subtrees.{linked_count, is_doomed_record, doomed_count, is_hidden_record, hidden_count, owed_count}
use Rattle.kf_tree.specs.Sound.{IsSound}
use Rattle.kf_tree.specs.TreeLogs.{TreeLog}
use Rattle.kf_tree.proofs.PreOrder.{not_ahead}
use Rattle.kf_tree.proofs.Distinct.{Distinct, distinct_from, InPlace, left, left_in_place}

-- ---- sums over lists

module _ {X : Type 0} where
  same_sum : (f g : X → ℕ) (xs : List X) → ((i : ℕ) (x : X) → slice_get xs i ≡ Some x → f x ≡ g x) → sum_by f xs ≡ sum_by g xs
  same_sum f g [] h = refl
  same_sum f g (x ∷ xs) h =
      (let a = sum_by-cons f x xs in
      let b = sum_by-cons g x xs in
      let here = h zero x refl in
      let rest = same_sum f g xs (λ i y e. h (suc i) y e) in
      omega (arith, a, b, here, rest))

  added : (f g h : X → ℕ) → ((x : X) → f x + g x ≡ h x) → (xs : List X) → sum_by f xs + sum_by g xs ≡ sum_by h xs
  added f g h one [] = refl
  added f g h one (x ∷ xs) =
      (let a = sum_by-cons f x xs in
      let b = sum_by-cons g x xs in
      let c = sum_by-cons h x xs in
      let here = one x in
      let rest = added f g h one xs in
      omega (arith, a, b, c, here, rest))

  at_contains : (xs : List X) (i : ℕ) (x : X) → slice_get xs i ≡ Some x → Contains xs x
  at_contains [] i x h = absurd (none-some x h)
  at_contains (y ∷ ys) zero x h = (0, omega arith, same_Some y x h)
  at_contains (y ∷ ys) (suc i) x h = (let r = at_contains ys i x h in (suc r.0, omega (arith, r.1), r.2))

collected_length : (f : Key → List Command) (keys : List Key) → length (collected f keys) ≡ sum_by (λ k. length (f k)) keys
collected_length f [] = refl
collected_length f (k ∷ ks) =
    (let a = length-append (f k) (collected f ks) in
    let rest = collected_length f ks in
    let c = sum_by-cons (λ x. length (f x)) k ks in
    omega (arith, a, rest, c))

behind : (k q : Key) (ks : List Key) → Contains (k ∷ ks) q → q ≢ k → Contains ks q
behind k q ks (zero, h, e) n = absurd (n (sym e))
behind k q ks (suc m, h, e) n = (m, omega arith, e)

-- ---- the tree without one of its records

module _ (t : Tree) (in_place : InPlace t) (r : Record) (is_in : IsIn t r) where
  gone : record_at (left t in_place r is_in) r.key ≡ None
  gone = find_at (left t in_place r is_in) r.key None (slice_get-set_same t r.key.slot None (slice_get_within t r.key.slot (Some r) is_in))

  left_members : (k : Key) (ks : List Key) → r.key ≡ k → (Contains ks k → ⊥) → ((q : Key) → Contains (k ∷ ks) q ↔ IsTrue (is_linked t q)) → (q : Key) → Contains ks q ↔ IsTrue (is_linked (left t in_place r is_in) q)
  left_members k ks same once members q = (
    (λ c. ap is_some (find_cleared t r q is_in (λ e. once (subst (Contains ks) (e ∙ same) c))) ∙ (members q).0 (suc c.0, omega (arith, c.1), c.2)),
    (λ h. (let other : q ≢ r.key = λ e. (let no : false ≡ true = sym (ap is_some (ap (record_at (left t in_place r is_in)) e ∙ gone)) ∙ h in cc) in
        behind k q ks ((members q).1 (sym (ap is_some (find_cleared t r q is_in other)) ∙ h)) (λ e. other (e ∙ sym same)))),
  )

-- a sum over the keys of all records is the same sum over the slots
module _ (f : Option Record → ℕ) (none : f None ≡ 0) where
  no_records : (t : Tree) → ((slot : ℕ) (r : Record) → slice_get t slot ≡ Some (Some r) → ⊥) → sum_by f t ≡ 0
  no_records [] h = refl
  no_records (None ∷ t) h = (let a = sum_by-cons f None t in let rest = no_records t (λ slot r e. h (suc slot) r e) in omega (arith, a, none, rest))
  no_records (Some r ∷ t) h = absurd (h zero r refl)

  over_slots : (keys : List Key) (t : Tree) → InPlace t → Distinct keys → ((k : Key) → Contains keys k ↔ IsTrue (is_linked t k)) → sum_by (λ k. f (record_at t k)) keys ≡ sum_by f t
  over_slots [] t in_place distinct members = sym (no_records t (λ slot r e.
      (let c = (members r.key).1 (ap is_some (in_found t r (ap (slice_get t) (in_place slot r e) ∙ e))) in omega (arith, c.1))))
  over_slots (k ∷ ks) t in_place distinct members =
      (let here = linked_here t k ((members k).0 (0, omega arith, refl)) in
      let r : Record = here.0 in
      let is_in : IsIn t r = here.1 in
      let same : r.key ≡ k = here.2 in
      let less : Tree = slice_set t r.key.slot None in
      let rest = over_slots ks less (left_in_place t in_place r is_in) distinct.1 (left_members t in_place r is_in k ks same distinct.0 members) in
      let a = sum_by-cons (λ q. f (record_at t q)) k ks in
      let others = same_sum (λ q. f (record_at t q)) (λ q. f (record_at less q)) ks
      (λ i q e. ap f (sym (find_cleared t r q is_in (λ x. distinct.0 (subst (Contains ks) (x ∙ same) (at_contains ks i q e)))))) in
      let first : f (record_at t k) ≡ f (Some r) = ap f (ap (record_at t) (sym same) ∙ in_found t r is_in) in
      let w = sum_by-set f t r.key.slot None None (slice_get_within t r.key.slot (Some r) is_in) in
      let was : f (get_or t r.key.slot None) ≡ f (Some r) = ap f (get_or_from_slice_get t r.key.slot (Some r) None is_in) in
      omega (arith, a, rest, others, first, w, was, none))

one_if : (b : Bool) (c : Command) → length (cond b (c ∷ []) []) ≡ cond {A = ℕ} b 1 0
one_if true c = refl
one_if false c = refl

-- ---- the list of a lawful tree

module _ (t : Tree) (root : Key) (l : Lawful t root) (keys : List Key) (order : IsPreOrder t keys) where
  each_once : (f : Option Record → ℕ) → f None ≡ 0 → sum_by (λ k. f (record_at t k)) keys ≡ sum_by f t
  each_once f none = over_slots f none keys t l.in_place (distinct_from (Precedes t) keys (λ k c. not_ahead t root l k ((order.members k).0 c)) order.ordered) order.members

  abbrev rootless : Tree
  rootless = slice_set t root.slot None

  one_each : (i : ℕ) (o : Option Record) → slice_get rootless i ≡ Some o → length (creation o) ≡ cond {A = ℕ} (is_some o) 1 0
  one_each i None e = refl
  one_each i (Some r) e = elim (after_write t root.slot i None (Some r) e) [
    | inl p ↦ absurd (none-some r p.1)
    | inr p ↦ elim r.parent as (λ o. r.parent ≡ o → length (option_map_or (λ parent. Create r.key parent r.name r.node r.marks.activated ∷ []) o []) ≡ 1) [
      | None ↦ λ q. (let at = l.in_place i r p.1 in absurd (p.0 (ap (λ (k : Key). k.slot) (sym (l.one_root r (ap (slice_get t) at ∙ p.1) q)) ∙ at)))
      | Some d ↦ λ q. refl
    ] refl
  ]

  creates : length (collected (create_of t) keys) + 1 ≡ linked_count t
  creates =
      (let f : Option Record → ℕ = λ o. length (creation o) in
      let a = collected_length (create_of t) keys in
      let b : sum_by (λ k. length (create_of t k)) keys ≡ sum_by f t = each_once f refl in
      let others : sum_by f rootless ≡ count_by is_some rootless = same_sum f (λ o. cond {A = ℕ} (is_some o) 1 0) rootless one_each in
      let w = sum_by-set f t root.slot None None (slice_get_within t root.slot (Some (root_record root)) l.rooted) in
      let was : f (get_or t root.slot None) ≡ 0 = ap f (get_or_from_slice_get t root.slot (Some (root_record root)) None l.rooted) in
      let zero_of : f None ≡ 0 = refl in
      let c = count_cleared t root.slot (root_record root) l.rooted in
      omega (arith, a, b, others, w, was, zero_of, c))

  abbrev is_top : Option Record → Bool
  is_top o = option_map_or (λ r. r.marks.doomed && not (option_map_or (doomed_in t) r.parent false)) o false

  halves : (doomed inside : Bool) → cond {A = ℕ} (doomed && not inside) 1 0 + cond {A = ℕ} (doomed && inside) 1 0 ≡ cond {A = ℕ} doomed 1 0
  halves true true = refl
  halves true false = refl
  halves false true = refl
  halves false false = refl

  top_or_inside : (o : Option Record) → cond {A = ℕ} (is_top o) 1 0 + cond {A = ℕ} (is_doomed_inside t o) 1 0 ≡ cond {A = ℕ} (is_doomed_record o) 1 0
  top_or_inside None = refl
  top_or_inside (Some r) = halves r.marks.doomed (option_map_or (doomed_in t) r.parent false)

  dooms : length (collected (doom_of t) keys) + doomed_inside_count t ≡ doomed_count t
  dooms =
      (let a = collected_length (doom_of t) keys in
      let b = same_sum (λ k. length (doom_of t k)) (λ k. cond {A = ℕ} (is_top (record_at t k)) 1 0) keys (λ i k e. one_if (is_doomed_top t k) (Doom k)) in
      let c = each_once (λ o. cond {A = ℕ} (is_top o) 1 0) refl in
      let d : sum_by (λ o. cond {A = ℕ} (is_top o) 1 0) t + doomed_inside_count t ≡ doomed_count t =
      added (λ o. cond {A = ℕ} (is_top o) 1 0) (λ o. cond {A = ℕ} (is_doomed_inside t o) 1 0) (λ o. cond {A = ℕ} (is_doomed_record o) 1 0) top_or_inside t in
      omega (arith, a, b, c, d))

  same_hidden : (o : Option Record) → cond {A = ℕ} (option_map_or (λ (r : Record). r.hidden) o false) 1 0 ≡ cond {A = ℕ} (is_hidden_record o) 1 0
  same_hidden None = refl
  same_hidden (Some r) = refl

  hides : length (collected (hide_of t) keys) ≡ hidden_count t
  hides =
      (let f : Option Record → ℕ = λ o. cond {A = ℕ} (option_map_or (λ (r : Record). r.hidden) o false) 1 0 in
      let a = collected_length (hide_of t) keys in
      let b = same_sum (λ k. length (hide_of t k)) (λ k. f (record_at t k)) keys (λ i k e. one_if (hidden_in t k) (Hide k)) in
      let c = each_once f refl in
      let d : sum_by f t ≡ hidden_count t = same_sum f (λ o. cond {A = ℕ} (is_hidden_record o) 1 0) t (λ i o e. same_hidden o) in
      omega (arith, a, b, c, d))

  all_three : (commands : List Command) → commands ≡ collected (create_of t) keys ++ (collected (doom_of t) keys ++ collected (hide_of t) keys) → length commands + doomed_inside_count t + 1 ≡ linked_count t + owed_count t
  all_three commands is =
      (let a = ap length is in
      let b = length-append (collected (create_of t) keys) (collected (doom_of t) keys ++ collected (hide_of t) keys) in
      let c = length-append (collected (doom_of t) keys) (collected (hide_of t) keys) in
      let x = creates in let y = dooms in let z = hides in
      omega (arith, a, b, c, x, y, z))

  none_long : {X : Type 0} (xs : List X) → length xs ≡ 0 → xs ≡ []
  none_long [] h = refl
  none_long (x ∷ xs) h = absurd (let no : length (x ∷ xs) ≡ 0 = h in omega (arith, no))

  -- a tree that owes nothing has nothing to doom or hide
  pub none_owed : owed_count t ≡ 0 → (collected (doom_of t) keys ≡ []) × (collected (hide_of t) keys ≡ [])
  none_owed none = (
    none_long _ (let d = dooms in omega (arith, d, none)),
    none_long _ (let h = hides in omega (arith, h, none)),
  )

-- at least one record is linked: the root's
pub root_counted : (t : Tree) (root : Key) → Lawful t root → 1 ≤ linked_count t
root_counted t root l = (let c = count_some t root.slot (root_record root) l.rooted in omega (arith, c))

-- ---- for a state

module _ (s : TreeLog) (capacity owed linked : ℕ) (sound : IsSound s capacity owed) (counted : linked ≡ linked_count s.tree) where
  pub one_at_least : 1 ≤ linked
  one_at_least = (let c = root_counted s.tree s.root sound.kept.lawful in omega (arith, c, counted))

  pub all_fit : linked + owed ≤ most_slots + most_slots + most_slots
  all_fit =
      (let a = count_by-le-length is_some s.tree in
      let b = count_by-le-length is_doomed_record s.tree in
      let c = count_by-le-length is_hidden_record s.tree in
      let few = sound.few in let o = sound.counted in
      omega (arith, a, b, c, few, o, counted))

  pub in_sum : linked - 1 + owed + 1 ≡ linked_count s.tree + owed_count s.tree
  in_sum = (let one = one_at_least in let o = sound.counted in omega (arith, one, o, counted))

  pub canonical_length : (commands : List Command) → IsCanonical s.tree commands → length commands + doomed_inside_count s.tree ≡ linked - 1 + owed
  canonical_length commands canonical =
      (let e = all_three s.tree s.root sound.kept.lawful canonical.0 canonical.1 commands canonical.2 in
      let sum = in_sum in
      omega (arith, e, sum))
