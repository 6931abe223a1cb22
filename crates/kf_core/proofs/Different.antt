-- In post-order no key occurs twice.
use Rattle.std.proofs.Common.{◌≡◌, ◌≢◌, ◌⊎◌, inl, inr, ℕ, zero, suc, ◌+◌, refl, ap, arith, sym, ◌∙◌, subst, true, false, List}
use Rattle.std.specs.Prelude.{Some, AllPairs, slice_index_or}
use Rattle.std.specs.declared.cmp.Ordering.TheVariants.{Less}
use Rattle.std.specs.Ordering.{nat_cmp, is_eq}
use Rattle.std.specs.Cmp.Lexicographic.{slice_cmp}
use Rattle.std.proofs.lemmas.Option.{same_Some}
use Rattle.std.proofs.lemmas.Map.Text.{is_eq-slice_cmp}
use Rattle.std.proofs.lemmas.Slice.Eq.{bytes_eq-Decides}
use Rattle.kf_core.specs.declared.key.Key.{Key}
use Rattle.kf_core.specs.declared.records.Record.{Record}
use Rattle.kf_core.specs.Tree.{Tree, parent_of, ancestor, IsIn}
use Rattle.kf_core.specs.Lawful.{Lawful}
use Rattle.kf_core.specs.PostOrder.{AreApart, IsPostOrder}
use Rattle.kf_core.proofs.Climbs.{first_step, after_step, climb_rest, no_return}
use Rattle.kf_core.proofs.FoundRecords.{parent_known, found_in, root_parent, root_met, subtree_to, same_record}

no_less : (a : List ℕ) → slice_cmp nat_cmp a a ≡ Less → ⊥
no_less a h = (let e : is_eq (slice_cmp nat_cmp a a) ≡ true = is_eq-slice_cmp a a ∙ (bytes_eq-Decides a a).1 refl in (let f : false ≡ true = sym (ap is_eq h) ∙ e in cc))

between : (n m : ℕ) → ((k : ℕ) × (n + k ≡ m)) ⊎ ((k : ℕ) × (m + k ≡ n))
between zero m = inl (m, omega arith)
between (suc n) zero = inr (suc n, omega arith)
between (suc n) (suc m) = elim (between n m) [ inl e ↦ inl (e.0, (let h = e.1 in omega (arith, h))) | inr e ↦ inr (e.0, (let h = e.1 in omega (arith, h))) ]

module _ (t : Tree) (root : Key) (l : Lawful t root) where
  -- the way up from one of two siblings never meets the other
  sibling_met : (a b : Record) (i : ℕ) → IsIn t a → IsIn t b → a.parent ≡ b.parent → ancestor t i a.key ≡ Some b.key → a.key ≡ b.key
  sibling_met a b zero ia ib s h = same_Some a.key b.key h
  sibling_met a b (suc i) ia ib s h =
      (let f = first_step (parent_of t) i a.key b.key h in
      let up : parent_of t b.key ≡ Some f.0 = parent_known t b ib ∙ sym s ∙ sym (parent_known t a ia) ∙ f.1 in
      let dir = l.in_directory a f.0 ia (sym (parent_known t a ia) ∙ f.1) in
      let found = found_in t f.0 dir.dir dir.known in
      let top = root_met t root l dir.dir found.0 in
      let back : ancestor t (i + 1) f.0 ≡ Some f.0 = climb_rest (parent_of t) i 1 f.0 b.key f.2 ∙ after_step (parent_of t) 0 b.key f.0 up in
      let one : i + 1 ≡ suc i = omega arith in
      absurd (no_return (parent_of t) root (root_parent t root l) top.0 i f.0 (ap (ancestor t top.0) (sym found.1) ∙ top.1) (ap (λ n. ancestor t n f.0) (sym one) ∙ back)))

  met_both : (a b : Record) (x : Key) (n k : ℕ) → IsIn t a → IsIn t b → a.parent ≡ b.parent → ancestor t n x ≡ Some a.key → ancestor t (n + k) x ≡ Some b.key → a ≡ b
  met_both a b x n k ia ib s h g = same_record t a b ia ib (sibling_met a b k ia ib s (sym (climb_rest (parent_of t) n k x a.key h) ∙ g))

  pub no_apart : (x : Key) → AreApart t x x → ⊥
  no_apart x s =
      (let n = subtree_to t root l s.first.key x s.over_a in
      let m = subtree_to t root l s.second.key x s.over_b in
      let same : s.first ≡ s.second = elim (between n.0 m.0) [
        | inl e ↦ met_both s.first s.second x n.0 e.0 s.first_in s.second_in s.siblings n.1 (ap (λ j. ancestor t j x) e.1 ∙ m.1)
        | inr e ↦ sym (met_both s.second s.first x m.0 e.0 s.second_in s.first_in (sym s.siblings) m.1 (ap (λ j. ancestor t j x) e.1 ∙ n.1))
      ] in
      no_less s.second.name (ap (λ (r : Record). slice_cmp nat_cmp r.name s.second.name) (sym same) ∙ s.order))

  pub different : (top : Key) (keys : List Key) → IsPostOrder t top keys → AllPairs (λ a b. a ≢ b) keys
  different top keys p i j d before within e = elim (p.ordered i j d before within) [
    | inl x ↦ x.1 e
    | inr s ↦ no_apart (slice_index_or keys i d) (subst (AreApart t (slice_index_or keys i d)) (sym e) s)
  ]
