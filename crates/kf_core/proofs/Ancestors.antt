-- If following parents leads to a key, it does so in at most as many steps as the tree has records.
use Rattle.std.proofs.Common.{◌≡◌, ◌≢◌, ◌⊎◌, inl, inr, ℕ, zero, suc, ◌+◌, ◌<◌, ◌≤◌, [], ◌∷◌, length, refl, ap, arith, sym, ◌∙◌, subst, true, false, cond, slice_set, ◌↔◌}
use Rattle.std.specs.Prelude.{slice_get, Option, None, Some, IsTrue, is_some, count_by}
use Rattle.std.specs.Option.{option_and_then}
use Rattle.std.proofs.lemmas.Option.{same_Some, none-some}
use Rattle.std.proofs.lemmas.List.Sums.{count_by-le-length}
use Rattle.std.proofs.lemmas.List.Recursion.{is_count_by}
use Rattle.std.proofs.lemmas.Bool.Decides.{eqb_tells}
use Rattle.kf_core.specs.declared.key.Key.{Key}
use Rattle.kf_core.specs.declared.records.Record.{Record}
use Rattle.kf_core.specs.Tree.{Tree, with_key, record_at, parent_of, ancestor, in_subtree, IsIn}
use Rattle.kf_core.proofs.Lists.{slice_get-set_same, slice_get-set_other}
use Rattle.kf_core.proofs.Climbs.{meets_to, meets_from}
use Rattle.kf_core.proofs.FoundRecords.{found_in}

-- the parts of a chain of options that found something
pub chained : {A B : Type 0} (f : A → Option B) (o : Option A) (y : B) → option_and_then f o ≡ Some y → (x : A) × (o ≡ Some x) × (f x ≡ Some y)
chained f None y h = absurd (none-some y h)
chained f (Some x) y h = (x, refl, h)

-- a write to another slot leaves the record of a key as it is
pub record_other : (t : Tree) (slot : ℕ) (o : Option Record) (key : Key) → key.slot ≢ slot → record_at (slice_set t slot o) key ≡ record_at t key
record_other t slot o key ne = ap (option_and_then (with_key key)) (slice_get-set_other t slot key.slot o ne)

-- if the parents stay, so do the ancestors
pub ancestor_keeps : (t u : Tree) → ((k p : Key) → parent_of t k ≡ Some p → parent_of u k ≡ Some p) → (n : ℕ) (k a : Key) → ancestor t n k ≡ Some a → ancestor u n k ≡ Some a
ancestor_keeps t u same zero k a h = h
ancestor_keeps t u same (suc n) k a h =
    let c : (p : Key) × (parent_of t k ≡ Some p) × (ancestor t n p ≡ Some a) = chained (ancestor t n) (parent_of t k) a h in
    ap (option_and_then (ancestor u n)) (same k c.0 c.1) ∙ ancestor_keeps t u same n c.0 a c.2

-- an ancestor of the parent is an ancestor of the key, one step further up
pub ancestor_more : (t : Tree) (n : ℕ) (k p a : Key) → parent_of t k ≡ Some p → ancestor t n p ≡ Some a → ancestor t (suc n) k ≡ Some a
ancestor_more t n k p a e h = ap (option_and_then (ancestor t n)) e ∙ h

-- the tree with the slot of this key emptied
abbrev pub without : Tree → Key → Tree
without t key = slice_set t key.slot None

pub parent_parts : (t : Tree) (k p : Key) → parent_of t k ≡ Some p → (r : Record) × (record_at t k ≡ Some r) × (r.parent ≡ Some p)
parent_parts t k p h = chained (λ (r : Record). r.parent) (record_at t k) p h

-- two keys of linked nodes in the same slot are equal
pub one_slot : (t : Tree) (a b : Key) (r s : Record) → record_at t a ≡ Some r → record_at t b ≡ Some s → a.slot ≡ b.slot → a ≡ b
one_slot t a b r s f g e =
    let i : IsIn t r × (r.key ≡ a) = found_in t a r f in
    let j : IsIn t s × (s.key ≡ b) = found_in t b s g in
    let same : r ≡ s = same_Some r s (same_Some _ _ (sym i.0 ∙ (ap (slice_get t) (ap (λ (x : Key). x.slot) i.1 ∙ (e ∙ sym (ap (λ (x : Key). x.slot) j.1))) ∙ j.0))) in
    sym i.1 ∙ (ap (λ (x : Record). x.key) same ∙ j.1)

-- a record that is found after a slot was emptied was found before, and is in another slot
pub record_without : (t : Tree) (key k : Key) (r : Record) → record_at (without t key) k ≡ Some r → (record_at t k ≡ Some r) × (k.slot ≢ key.slot)
record_without t key k r h = elim (eqb_tells k.slot key.slot) [
  | inl e ↦ absurd (
      let c : (o : Option Record) × (slice_get (slice_set t key.slot None) k.slot ≡ Some o) × (with_key k o ≡ Some r) = chained (with_key k) (slice_get (slice_set t key.slot None) k.slot) r h in
      let at : slice_get (slice_set t key.slot None) key.slot ≡ Some c.0 = ap (slice_get (slice_set t key.slot None)) (sym e.1) ∙ c.1 in
      let empty : c.0 ≡ None = same_Some _ _ (sym at ∙ slice_get-set_same t key.slot None (within t key.slot None c.0 at)) in
      none-some r (ap (with_key k) (sym empty) ∙ c.2))
  | inr e ↦ (sym (record_other t key.slot None k e.1) ∙ h, e.1)
]
  where
    within : (t : Tree) (i : ℕ) (o o' : Option Record) → slice_get (slice_set t i o) i ≡ Some o' → i < length t
    within [] i o o' h = absurd (none-some _ h)
    within (x ∷ xs) zero o o' h = omega arith
    within (x ∷ xs) (suc i) o o' h = let r : i < length xs = within xs i o o' h in omega arith

-- a parent in the tree without one record is a parent in the tree
pub without_parent : (t : Tree) (key k p : Key) → parent_of (without t key) k ≡ Some p → parent_of t k ≡ Some p
without_parent t key k p h =
    let r : (r : Record) × (record_at (without t key) k ≡ Some r) × (r.parent ≡ Some p) = parent_parts (without t key) k p h in
    ap (option_and_then (λ (x : Record). x.parent)) (record_without t key k r.0 r.1).0 ∙ r.2

pub parent_without : (t : Tree) (key k p : Key) → k.slot ≢ key.slot → parent_of t k ≡ Some p → parent_of (without t key) k ≡ Some p
parent_without t key k p ne h = ap (option_and_then (λ (x : Record). x.parent)) (record_other t key.slot None k ne) ∙ h

-- a way up avoids a linked key, or meets it
pub avoids : (t : Tree) (key : Key) (x : Record) → record_at t key ≡ Some x → (n : ℕ) (k a : Key) → ancestor t n k ≡ Some a → (ancestor (without t key) n k ≡ Some a) ⊎ ((j : ℕ) × (j ≤ n) × (ancestor t j key ≡ Some a))
avoids t key x there zero k a h = inl h
avoids t key x there (suc n) k a h =
    let c : (p : Key) × (parent_of t k ≡ Some p) × (ancestor t n p ≡ Some a) = chained (ancestor t n) (parent_of t k) a h in
    let r : (r : Record) × (record_at t k ≡ Some r) × (r.parent ≡ Some c.0) = parent_parts t k c.0 c.1 in
    elim (eqb_tells k.slot key.slot) [
      | inl e ↦ inr (suc n, omega arith, subst (λ y. ancestor t (suc n) y ≡ Some a) (one_slot t k key r.0 x r.1 there e.1) h)
      | inr e ↦ elim (avoids t key x there n c.0 a c.2) [
        | inl g ↦ inl (ancestor_more (without t key) n k c.0 a (parent_without t key k c.0 e.1 c.1) g)
        | inr g ↦ inr (g.0, (let l : g.0 ≤ n = g.1 in omega arith), g.2)
      ]
    ]

-- how many records there are
count : Tree → ℕ
count [] = 0
count (x ∷ xs) = cond (is_some x) (1 + count xs) (count xs)

count_is : (t : Tree) → count t ≡ count_by is_some t
unfolding count
count_is t = is_count_by count is_some refl (λ x xs. refl) t

-- emptying the slot of a record lowers the count by one
count_set : (t : Tree) (slot : ℕ) (r : Record) (o : Option Record) → is_some o ≡ false → slice_get t slot ≡ Some (Some r) → suc (count (slice_set t slot o)) ≡ count t
unfolding count
count_set [] slot r o n h = absurd (none-some _ h)
count_set (x ∷ xs) zero r o n h = ap (λ b. suc (cond b (1 + count xs) (count xs))) n ∙ (let e : suc (count xs) ≡ 1 + count xs = omega arith in e) ∙ ap (λ (y : Option Record). cond (is_some y) (1 + count xs) (count xs)) (sym (same_Some _ _ h))
count_set (x ∷ xs) (suc slot) r o n h =
    let e : suc (count (slice_set xs slot o)) ≡ count xs = count_set xs slot r o n h in
    elim (is_some x) as (λ b. suc (cond b (1 + count (slice_set xs slot o)) (count (slice_set xs slot o))) ≡ cond b (1 + count xs) (count xs)) [ true ↦ omega arith | false ↦ e ]

pub count_without : (t : Tree) (slot : ℕ) (r : Record) → slice_get t slot ≡ Some (Some r) → suc (count_by is_some (slice_set t slot None)) ≡ count_by is_some t
count_without t slot r h = ap suc (sym (count_is (slice_set t slot None))) ∙ (count_set t slot r None refl h ∙ count_is t)

pub count_less : (t : Tree) (key : Key) (x : Record) → record_at t key ≡ Some x → suc (count_by is_some (without t key)) ≡ count_by is_some t
count_less t key x h =
    let i : IsIn t x × (x.key ≡ key) = found_in t key x h in
    count_without t key.slot x (ap (slice_get t) (sym (ap (λ (y : Key). y.slot) i.1)) ∙ i.0)

-- no way needs more steps than there are records
pub shorten : (bound n : ℕ) (t : Tree) (key top : Key) → n ≤ bound → ancestor t n key ≡ Some top → (m : ℕ) × (m ≤ count_by is_some t) × (ancestor t m key ≡ Some top)
shorten bound zero t key top le h = (0, omega arith, h)
shorten zero (suc n) t key top le h = absurd (omega arith)
shorten (suc bound) (suc n) t key top le h =
    let c : (p : Key) × (parent_of t key ≡ Some p) × (ancestor t n p ≡ Some top) = chained (ancestor t n) (parent_of t key) top h in
    let r : (r : Record) × (record_at t key ≡ Some r) × (r.parent ≡ Some c.0) = parent_parts t key c.0 c.1 in
    elim (avoids t key r.0 r.1 n c.0 top c.2) [
      | inl g ↦ (let s : (m : ℕ) × (m ≤ count_by is_some (without t key)) × (ancestor (without t key) m c.0 ≡ Some top) = shorten bound n (without t key) c.0 top (omega arith) g in
          let less : suc (count_by is_some (without t key)) ≡ count_by is_some t = count_less t key r.0 r.1 in
          let fits : s.0 ≤ count_by is_some (without t key) = s.1 in
          (suc s.0, omega arith, ancestor_more t s.0 key c.0 top c.1 (ancestor_keeps (without t key) t (without_parent t key) s.0 c.0 top s.2)))
      | inr g ↦ (let l : g.0 ≤ n = g.1 in shorten bound g.0 t key top (omega arith) g.2)
    ]

in_subtree_from : (t : Tree) (top k : Key) (n : ℕ) → ancestor t n k ≡ Some top → in_subtree t top k ≡ true
in_subtree_from t top k n h =
    let s : (m : ℕ) × (m ≤ count_by is_some t) × (ancestor t m k ≡ Some top) = shorten n n t k top (omega arith) h in
    let few : count_by is_some t ≤ length t = count_by-le-length is_some t in
    let le : s.0 ≤ count_by is_some t = s.1 in
    meets_from (parent_of t) (length t) s.0 top k (omega arith) s.2

in_subtree_to : (t : Tree) (top k : Key) → in_subtree t top k ≡ true → (n : ℕ) × (ancestor t n k ≡ Some top)
in_subtree_to t top k h = (let r = meets_to (parent_of t) (length t) top k h in (r.0, r.2))

-- a key is in the subtree if and only if some number of steps from it leads to the top
pub in_subtree_is_below : (t : Tree) (top key : Key) → IsTrue (in_subtree t top key) ↔ ((n : ℕ) × (ancestor t n key ≡ Some top))
in_subtree_is_below t top key = (in_subtree_to t top key, λ way. in_subtree_from t top key way.0 way.1)
