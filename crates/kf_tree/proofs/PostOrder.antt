-- Lists in order, bounds, and records below others.
use Rattle.std.proofs.Common.{◌≡◌, ◌⊎◌, inl, inr, ℕ, zero, suc, ◌+◌, ◌-◌, ◌<◌, ◌≤◌, refl, arith, sym, ◌∙◌, subst, true, false, List, ◌++◌, length, length-append, get_or}
use Rattle.std.specs.Prelude.{Option, None, Some, AllPairs, Contains}
use Rattle.std.proofs.lemmas.List.{get_or_default, get_or_append_left, get_or-append_right}
use Rattle.kf_core.specs.declared.key.Key.{Key}
use Rattle.kf_core.specs.declared.records.Record.{Record}
use Rattle.kf_core.specs.Tree.{Tree, parent_of, in_subtree, IsIn}
use Rattle.kf_core.specs.Lawful.{Lawful}
use Rattle.kf_table.specs.Next.{before, above}
use Rattle.kf_core.proofs.Climbs.{after_step, no_return}
use Rattle.kf_core.proofs.FoundRecords.{parent_known, root_parent, root_met, subtree_to}
use Rattle.kf_tree.proofs.Next.{before_trans, before_skip}

pub lt_or_le : (a b : ℕ) → (a < b) ⊎ (b ≤ a)
lt_or_le a zero = inr (omega arith)
lt_or_le zero (suc b) = inl (omega arith)
lt_or_le (suc a) (suc b) = elim (lt_or_le a b) [ inl h ↦ inl (omega arith) | inr h ↦ inr (omega arith) ]

pub pairs_append : {X : Type 0} (R : X → X → Type 0) (xs ys : List X) → AllPairs R xs → AllPairs R ys → ((x y : X) → Contains xs x → Contains ys y → R x y) → AllPairs R (xs ++ ys)
pairs_append R xs ys p q cross = λ i j d l h. (
    let len : length (xs ++ ys) ≡ length xs + length ys = length-append xs ys in
    elim (lt_or_le j (length xs)) [
      | inl jx ↦ (let ix : i < length xs = omega arith in
          subst (λ v. R v (get_or (xs ++ ys) j d)) (sym (get_or_append_left xs ys d i ix)) (subst (λ v. R (get_or xs i d) v) (sym (get_or_append_left xs ys d j jx)) (p i j d l jx)))
      | inr jy ↦ (let right = get_or-append_right xs ys (length xs) j d refl jy in
          let jl : j - length xs < length ys = omega arith in
          elim (lt_or_le i (length xs)) [
            | inl ix ↦ subst (λ v. R v (get_or (xs ++ ys) j d)) (sym (get_or_append_left xs ys d i ix)) (subst (λ v. R (get_or xs i d) v) (sym right)
                (cross _ _ (i, ix, get_or_default xs i (get_or xs i d) d ix) (j - length xs, jl, get_or_default ys (j - length xs) (get_or ys (j - length xs) d) d jl)))
            | inr iy ↦ subst (λ v. R v (get_or (xs ++ ys) j d)) (sym (get_or-append_right xs ys (length xs) i d refl iy)) (subst (λ v. R (get_or ys (i - length xs) d) v) (sym right)
                (q (i - length xs) (j - length xs) d (omega arith) jl))
          ])
    ])

-- a name above a bound is not before a name that is not above it
pub still_not : (bound : Option (List ℕ)) (name c : List ℕ) → above bound name ≡ false → above bound c ≡ true → before c name ≡ false
still_not None name c h g = absurd (let x : true ≡ false = h in cc)
still_not (Some b) name c h g = elim (before c name) as (λ v. before c name ≡ v → v ≡ false) [ true ↦ λ e. sym (before_trans b c name g e) ∙ h | false ↦ λ e. refl ] refl

pub is_before : (bound : Option (List ℕ)) (name c : List ℕ) → above bound name ≡ false → above bound c ≡ true → before name c ≡ true
is_before None name c h g = absurd (let x : true ≡ false = h in cc)
is_before (Some b) name c h g = elim (before name c) as (λ v. before name c ≡ v → v ≡ true) [ true ↦ λ e. refl | false ↦ λ e. sym (before_skip b name c h e) ∙ g ] refl

module _ (t : Tree) (root : Key) (l : Lawful t root) where
  -- no record is below its own child
  pub child_below : (top : Key) (c : Record) → IsIn t c → c.parent ≡ Some top → in_subtree t c.key top ≡ true → ⊥
  child_below top c i p h =
      (let s = subtree_to t root l c.key top h in
      let w = root_met t root l c i in
      no_return (parent_of t) root (root_parent t root l) w.0 s.0 c.key w.1 (after_step (parent_of t) s.0 c.key top (parent_known t c i ∙ p) ∙ s.1))
