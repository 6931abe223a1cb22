-- Lists in which no key comes twice, and how many keys of a tree such a list can have.
use Rattle.std.proofs.Common.{◌≡◌, inl, inr, ℕ, suc, ◌≤◌, refl, ap, arith, ◌∙◌, subst, List, [], ◌∷◌, length, slice_set}
use Rattle.std.specs.Prelude.{None, Some, is_some, IsTrue, Contains, AllPairs, slice_get, count_by}
use Rattle.std.proofs.lemmas.Option.{none-some}
use Rattle.kf_core.specs.declared.key.Key.{Key}
use Rattle.kf_core.specs.declared.records.Record.{Record}
use Rattle.kf_core.specs.Tree.{Tree, is_linked, IsIn}
use Rattle.kf_core.proofs.FoundRecords.{find_cleared, linked_here}
use Rattle.kf_core.proofs.Lists.{after_write, count_cleared}

abbrev pub Distinct : List Key → Type 0
Distinct [] = Unit {0}
Distinct (k ∷ ks) = (Contains ks k → ⊥) × Distinct ks

pub distinct_from : (R : Key → Key → Type 0) (keys : List Key) → ((k : Key) → Contains keys k → R k k → ⊥) → AllPairs R keys → Distinct keys
distinct_from R [] not_itself pairs = tt
distinct_from R (k ∷ ks) not_itself pairs = (
  (λ c. not_itself k (0, omega arith, refl) (subst (R k) c.2 (pairs 0 (suc c.0) k (omega arith) (omega (arith, c.1))))),
  distinct_from R ks (λ q m. not_itself q (suc m.0, omega (arith, m.1), m.2)) (λ i j d before within. pairs (suc i) (suc j) d (omega (arith, before)) (omega (arith, within))),
)

abbrev pub InPlace : Tree → Type 0
InPlace t = (slot : ℕ) (r : Record) → slice_get t slot ≡ Some (Some r) → r.key.slot ≡ slot

-- the tree without one of its records
module _ (t : Tree) (in_place : InPlace t) (r : Record) (is_in : IsIn t r) where
  abbrev pub left : Tree
  left = slice_set t r.key.slot None

  pub left_in_place : InPlace left
  left_in_place slot s e = elim (after_write t r.key.slot slot None (Some s) e) [ inl p ↦ absurd (none-some s p.1) | inr p ↦ in_place slot s p.1 ]

-- a list of linked keys in which none comes twice has at most as many keys as there are records
pub few_keys : (keys : List Key) (t : Tree) → InPlace t → Distinct keys → ((k : Key) → Contains keys k → IsTrue (is_linked t k)) → length keys ≤ count_by is_some t
few_keys [] t in_place distinct linked = omega arith
few_keys (k ∷ ks) t in_place distinct linked =
    (let here = linked_here t k (linked k (0, omega arith, refl)) in
    let r : Record = here.0 in
    let is_in : IsIn t r = here.1 in
    let same : r.key ≡ k = here.2 in
    let rest = few_keys ks (left t in_place r is_in) (left_in_place t in_place r is_in) distinct.1
    (λ q c. ap is_some (find_cleared t r q is_in (λ e. distinct.0 (subst (Contains ks) (e ∙ same) c))) ∙ linked q (suc c.0, omega (arith, c.1), c.2)) in
    let fewer = count_cleared t r.key.slot r is_in in
    omega (arith, rest, fewer))
