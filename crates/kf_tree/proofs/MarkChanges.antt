-- Changes to the marks of several keys, made one after another.
use Rattle.std.proofs.Common.{◌≡◌, inl, inr, refl, ap, sym, ◌∙◌, subst, Bool, true, false, cond, List, [], ◌∷◌, ◌++◌}
use Rattle.std.specs.Prelude.{Option, None, Some, is_some, ◌||◌, ◌&&◌, not}
use Rattle.std.specs.Option.{option_map}
use Rattle.kf_core.specs.declared.key.Key.{Key}
use Rattle.kf_core.specs.declared.slot.NodeFlags.{NodeFlags}
use Rattle.kf_core.specs.declared.slot.SlotState.{SlotState}
use Rattle.kf_core.specs.Keys.{same_key}
use Rattle.kf_core.proofs.Climbs.{keys_tell}
use Rattle.kf_tree.specs.SlotMarks.{marks_at, contains_key, doomed_if, risen_if, Changed}
use Rattle.kf_tree.proofs.SlotWrites.{written, marks_written, alone_linked}

-- whether a list with one more key has a key
pub contains_more : (keys : List Key) (x k : Key) → contains_key (keys ++ x ∷ []) k ≡ (contains_key keys k || same_key x k)
contains_more [] x k = go (same_key x k)
  where
    go : (b : Bool) → (b || false) ≡ b
    go true = refl
    go false = refl
contains_more (y ∷ ys) x k = ap (λ b. same_key y k || b) (contains_more ys x k) ∙ go (same_key y k) (contains_key ys k) (same_key x k)
  where
    go : (a b c : Bool) → (a || (b || c)) ≡ ((a || b) || c)
    go true b c = refl
    go false b c = refl

-- a change that leaves the marks of a key that it does not choose; two such changes are one, which chooses
-- the key if either of them does
pub record IsMarking (f : Bool → NodeFlags → NodeFlags) : Type 0 where
  pub none : (m : NodeFlags) → f false m ≡ m
  pub twice : (a b : Bool) (m : NodeFlags) → f b (f a m) ≡ f (a || b) m

pub doomed_marking : IsMarking doomed_if
doomed_marking = record { none = λ m. refl; twice = λ a b m. ap (λ (c : Bool). record { activated = m.activated; doomed = c }) (go a b m.doomed) }
  where
    go : (a b c : Bool) → (b || (a || c)) ≡ ((a || b) || c)
    go true true c = refl
    go true false c = refl
    go false true c = refl
    go false false c = refl

pub risen_marking : IsMarking risen_if
risen_marking = record { none = λ m. refl; twice = λ a b m. ap (λ (c : Bool). record { activated = c; doomed = m.doomed }) (go a b m.doomed m.activated) }
  where
    go : (a b d c : Bool) → ((b && not d) || ((a && not d) || c)) ≡ (((a || b) && not d) || c)
    go true true true c = refl
    go true true false c = refl
    go true false true c = refl
    go true false false c = refl
    go false true true c = refl
    go false true false c = refl
    go false false d c = refl

module _ (f : Bool → NodeFlags → NodeFlags) (marking : IsMarking f) where
  pub changed_none : (slots : List SlotState) → Changed f [] slots slots
  changed_none slots k = go (marks_at slots k)
    where
      go : (o : Option NodeFlags) → o ≡ option_map (f false) o
      go None = refl
      go (Some m) = ap (λ x. Some x) (sym (marking.none m))

  pub changed_more : (keys : List Key) (x : Key) (old mid new : List SlotState) → Changed f keys old mid → Changed f (x ∷ []) mid new → Changed f (keys ++ x ∷ []) old new
  changed_more keys x old mid new h g k = g k ∙ ap (option_map (f (contains_key (x ∷ []) k))) (h k) ∙ go (marks_at old k) ∙ ap (λ b. option_map (f b) (marks_at old k)) (one ∙ sym (contains_more keys x k))
    where
      one : (contains_key keys k || contains_key (x ∷ []) k) ≡ (contains_key keys k || same_key x k)
      one = ap (λ b. contains_key keys k || b) (elim (same_key x k) as (λ b. (b || false) ≡ b) [ true ↦ refl | false ↦ refl ])

      go : (o : Option NodeFlags) → option_map (f (contains_key (x ∷ []) k)) (option_map (f (contains_key keys k)) o) ≡ option_map (f (contains_key keys k || contains_key (x ∷ []) k)) o
      go None = refl
      go (Some m) = ap (λ y. Some y) (marking.twice (contains_key keys k) (contains_key (x ∷ []) k) m)

  pub changed_linked : (keys : List Key) (old new : List SlotState) (k : Key) → Changed f keys old new → is_some (marks_at old k) ≡ true → is_some (marks_at new k) ≡ true
  changed_linked keys old new k h l = ap is_some (h k) ∙ go (marks_at old k) l
    where
      go : (o : Option NodeFlags) → is_some o ≡ true → is_some (option_map (f (contains_key keys k)) o) ≡ true
      go None e = e
      go (Some m) e = refl

  -- writing the changed marks of one key makes the change for that key only
  pub changed_one : (slots : List SlotState) (key : Key) (m : NodeFlags) → marks_at slots key ≡ Some m → Changed f (key ∷ []) slots (written slots key (Some (f true m)))
  changed_one slots key m h k = marks_written slots key k (Some (f true m)) (alone_linked slots key m h) ∙ elim (keys_tell key k) [
    | inl e ↦ ap (λ b. cond b (Some (f true m)) (marks_at slots k)) e.0 ∙ sym (ap (λ b. option_map (f (b || false)) (marks_at slots k)) e.0 ∙ ap (option_map (f true)) (subst (λ x. marks_at slots x ≡ Some m) e.1 h))
    | inr n ↦ ap (λ b. cond b (Some (f true m)) (marks_at slots k)) n.0 ∙ sym (ap (λ b. option_map (f (b || false)) (marks_at slots k)) n.0 ∙ sym (changed_none slots k))
  ]
