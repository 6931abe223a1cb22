-- The way up from a directory to the first one that is over a target.
use Rattle.std.proofs.Common.{◌≡◌, ◌⊎◌, inl, inr, ℕ, zero, suc, ◌+◌, ◌<◌, refl, ap, arith, sym, ◌∙◌, subst, true, false, List, [], ◌∷◌, ◌++◌, append_assoc}
use Rattle.std.specs.Prelude.{Option, None, Some, is_some, IsTrue, count_by}
use Rattle.std.proofs.lemmas.Option.{same_Some}
use Rattle.std.proofs.lemmas.List.{append-nil}
use Rattle.kf_core.specs.declared.key.Key.{Key}
use Rattle.kf_core.specs.declared.records.Record.{Record}
use Rattle.kf_core.specs.Tree.{Tree, is_linked, parent_of, ancestor, in_subtree, IsIn}
use Rattle.kf_core.specs.Lawful.{Lawful}
use Rattle.kf_tree.specs.Links.{IsOver, ups}
use Rattle.kf_tree.specs.Subtrees.{is_over_key}
use Rattle.kf_tree.specs.Ways.{HasUps}
use Rattle.kf_core.proofs.Climbs.{after_step, climb_rest}
use Rattle.kf_core.proofs.Lists.{count_less}
use Rattle.kf_tree.proofs.PostOrder.{child_below}
use Rattle.kf_core.proofs.FoundRecords.{known_parent, subtree_to, subtree_from}

-- the base is some steps up from the directory, no lower directory on the way is over the target, and the
-- text has grown by `../` for each step
pub record HasClimbed (t : Tree) (root dir target base : Key) (old new : List ℕ) : Type 0 where
  pub up : ℕ
  pub is_base : ancestor t up dir ≡ Some base
  pub linked : IsTrue (is_linked t base)
  pub first : (n : ℕ) (lower : Key) → n < up → ancestor t n dir ≡ Some lower → IsOver t root target lower → ⊥
  pub pushed : new ≡ old ++ ups up

pub climbed_none : (t : Tree) (root dir target : Key) (old : List ℕ) → IsTrue (is_linked t dir) → HasClimbed t root dir target dir old old
climbed_none t root dir target old linked = record {
  up = 0;
  is_base = refl;
  linked = linked;
  first = λ n lower h. absurd (omega (arith, h));
  pushed = sym (append-nil old);
}

-- the directory of a record is linked
pub parent_linked : (t : Tree) (root : Key) → Lawful t root → (key dir : Key) → parent_of t key ≡ Some dir → IsTrue (is_linked t dir)
parent_linked t root l key dir h = (let r = known_parent t key dir h in let d = l.in_directory r.0 dir r.1 r.3 in ap is_some d.known)

ups_more : (n : ℕ) → ups n ++ (46 ∷ 46 ∷ 47 ∷ []) ≡ ups (suc n)
ups_more zero = refl
ups_more (suc n) = ap (λ (xs : List ℕ). 46 ∷ 46 ∷ 47 ∷ xs) (ups_more n)

lt_or_eq : (n m : ℕ) → n < suc m → (n < m) ⊎ (n ≡ m)
lt_or_eq zero zero h = inr refl
lt_or_eq zero (suc m) h = inl (omega arith)
lt_or_eq (suc n) zero h = absurd (omega (arith, h))
lt_or_eq (suc n) (suc m) h = elim (lt_or_eq n m (omega (arith, h))) [ inl l ↦ inl (omega (arith, l)) | inr e ↦ inr (ap suc e) ]

-- the directory of a key is one step further up
pub one_more : (t : Tree) (n : ℕ) (k m p : Key) → ancestor t n k ≡ Some m → parent_of t m ≡ Some p → ancestor t (suc n) k ≡ Some p
one_more t n k m p c h = (let e : suc n ≡ n + 1 = omega arith in
    ap (λ j. ancestor t j k) e ∙ climb_rest (parent_of t) n 1 k m c ∙ after_step (parent_of t) 0 m p h)

pub climbed_next : (t : Tree) (root dir target base next : Key) (old mid new : List ℕ) → Lawful t root → HasClimbed t root dir target base old mid → (IsOver t root target base → ⊥) → parent_of t base ≡ Some next →
    new ≡ mid ++ 46 ∷ 46 ∷ 47 ∷ [] → HasClimbed t root dir target next old new
climbed_next t root dir target base next old mid new l c not_over h pushed = record {
  up = suc c.up;
  is_base = one_more t c.up dir base next c.is_base h;
  linked = parent_linked t root l base next h;
  first = λ n lower below at. elim (lt_or_eq n c.up below) [
    | inl b ↦ c.first n lower b at
    | inr e ↦ (let same : base ≡ lower = same_Some base lower (sym c.is_base ∙ ap (λ j. ancestor t j dir) (sym e) ∙ at) in
        λ o. not_over (subst (IsOver t root target) (sym same) o))
  ];
  pushed = pushed ∙ ap (λ (xs : List ℕ). xs ++ 46 ∷ 46 ∷ 47 ∷ []) c.pushed ∙ append_assoc old (ups c.up) (46 ∷ 46 ∷ 47 ∷ []) ∙ ap (λ (xs : List ℕ). old ++ xs) (ups_more c.up);
}

pub climbed_end : (t : Tree) (root dir target base : Key) (old new : List ℕ) → HasClimbed t root dir target base old new → IsOver t root target base → HasUps t root dir target base old new
climbed_end t root dir target base old new c over = record { up = c.up; is_base = c.is_base; over = over; first = c.first; pushed = c.pushed }

-- fewer records are over the directory of a record than over the record
pub fewer_over : (t : Tree) (root : Key) → Lawful t root → (key dir : Key) → parent_of t key ≡ Some dir → count_by (is_over_key t dir) t < count_by (is_over_key t key) t
fewer_over t root l key dir h =
    (let r = known_parent t key dir h in
    count_less (is_over_key t key) (is_over_key t dir) (weaker r.0 r.1 r.2) t r.0.key.slot (Some r.0) r.1 (here r.0 r.1 r.2) (gone r.0 r.1 r.3))
  where
    here : (r : Record) → IsIn t r → r.key ≡ key → is_over_key t key (Some r) ≡ true
    here r i e = ap (in_subtree t r.key) (sym e) ∙ subtree_from t root l r 0 r.key i refl

    gone : (r : Record) → IsIn t r → r.parent ≡ Some dir → is_over_key t dir (Some r) ≡ false
    gone r i p = elim (in_subtree t r.key dir) as (λ b. in_subtree t r.key dir ≡ b → b ≡ false) [ true ↦ λ e. absurd (child_below t root l dir r i p e) | false ↦ λ e. refl ] refl

    weaker : (r : Record) → IsIn t r → r.key ≡ key → (slot : Option Record) → is_over_key t dir slot ≡ true → is_over_key t key slot ≡ true
    weaker r i e None x = x
    weaker r i e (Some s) x = (let w = subtree_to t root l s.key dir x in
        ap (in_subtree t s.key) (sym e) ∙ subtree_from t root l r (suc w.0) s.key i (after_step (parent_of t) w.0 r.key dir (ap (parent_of t) e ∙ h) ∙ w.1))
