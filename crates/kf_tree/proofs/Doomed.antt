-- How many records are doomed or hidden after each change.
use Rattle.std.proofs.Common.{◌≡◌, inl, inr, ℕ, zero, suc, ◌+◌, ◌≤◌, refl, ap, arith, sym, ◌∙◌, true, false, cond, not, List, [], ◌∷◌, slice_set, replicate}
use Rattle.std.specs.Prelude.{Option, None, Some, slice_get, map, fold}
use Rattle.std.specs.Option.{option_map, option_and_then}
use Rattle.std.proofs.lemmas.Option.{none-some}
use Rattle.std.proofs.lemmas.List.Sums.{sum_by-cons}
use Rattle.std.proofs.lemmas.Bool.Decides.{eqb_tells}
use Rattle.kf_core.specs.declared.key.Key.{Key}
use Rattle.kf_core.specs.declared.records.Record.{Record}
use Rattle.kf_core.specs.Tree.{Tree}
use Rattle.kf_core.specs.Commands.{doomed_record}
use Rattle.kf_core.proofs.Lists.{count_at_most}
use Rattle.kf_table.proofs.Kept.{count_written}
use Rattle.kf_table.proofs.Altered.{altered_at, altered_other}
use Rattle.kf_table.specs.Changes.{with_changed_slot, is_undoomed}
use Rattle.kf_tree.specs.Subtrees.{with_changed_slots, is_doomed_record, doomed_count, is_hidden_record, hidden_count, undoomed_count}

none_hidden : (m k : ℕ) → fold (λ a x. a + cond (is_hidden_record x) 1 0) k (replicate m None) ≡ k
none_hidden zero k = refl
none_hidden (suc m) k = none_hidden m (k + 0) ∙ omega arith

pub empty_shown : (m : ℕ) → hidden_count (replicate m None) ≡ 0
empty_shown m = none_hidden m 0

module _ (g : Record → Record) (same : (r : Record) → (g r).hidden ≡ r.hidden) where
  hidden_on : (n : ℕ) (t : Tree) → fold (λ a x. a + cond (is_hidden_record x) 1 0) n (map (option_map g) t) ≡ fold (λ a x. a + cond (is_hidden_record x) 1 0) n t
  hidden_on n [] = refl
  hidden_on n (None ∷ t) = hidden_on (n + 0) t
  hidden_on n (Some r ∷ t) = ap (λ b. fold (λ a x. a + cond (is_hidden_record x) 1 0) (n + cond {A = ℕ} b 1 0) (map (option_map g) t)) (same r) ∙ hidden_on (n + cond (r.hidden) 1 0) t

  -- if a change to every record keeps whether the record is hidden, as many records are hidden as before
  pub hidden_mapped : (t : Tree) → hidden_count (map (option_map g) t) ≡ hidden_count t
  hidden_mapped t = hidden_on 0 t

none_doomed : (m k : ℕ) → fold (λ a x. a + cond (is_doomed_record x) 1 0) k (replicate m None) ≡ k
none_doomed zero k = refl
none_doomed (suc m) k = none_doomed m (k + 0) ∙ omega arith

pub empty_undoomed : (m : ℕ) → doomed_count (replicate m None) ≡ 0
empty_undoomed m = none_doomed m 0

module _ (g : Record → Record) (same : (r : Record) → (g r).marks.doomed ≡ r.marks.doomed) where
  doomed_on : (n : ℕ) (t : Tree) → fold (λ a x. a + cond (is_doomed_record x) 1 0) n (map (option_map g) t) ≡ fold (λ a x. a + cond (is_doomed_record x) 1 0) n t
  doomed_on n [] = refl
  doomed_on n (None ∷ t) = doomed_on (n + 0) t
  doomed_on n (Some r ∷ t) = ap (λ b. fold (λ a x. a + cond (is_doomed_record x) 1 0) (n + cond {A = ℕ} b 1 0) (map (option_map g) t)) (same r) ∙ doomed_on (n + cond (r.marks.doomed) 1 0) t

  -- if a change to every record keeps whether the record is doomed, as many records are doomed as before
  pub doomed_mapped : (t : Tree) → doomed_count (map (option_map g) t) ≡ doomed_count t
  doomed_mapped t = doomed_on 0 t

-- dooming the record of one slot raises the count by one if the record was not doomed
pub doomed_changed : (t : Tree) (slot : ℕ) → doomed_count (with_changed_slot doomed_record t slot) ≡ doomed_count t + cond (is_undoomed (slice_get t slot)) 1 0
doomed_changed t slot = go (slice_get t slot) refl
  where
    past : (xs : Tree) (i : ℕ) (v : Option Record) → slice_get xs i ≡ None → slice_set xs i v ≡ xs
    past [] i v h = refl
    past (x ∷ xs) zero v h = absurd (none-some x (sym h))
    past (x ∷ xs) (suc i) v h = ap (λ ys. x ∷ ys) (past xs i v h)

    go : (o : Option (Option Record)) → slice_get t slot ≡ o → doomed_count (slice_set t slot (option_and_then (option_map doomed_record) o)) ≡ doomed_count t + cond (is_undoomed o) 1 0
    go None h = ap doomed_count (past t slot _ h) ∙ omega arith
    go (Some None) h = (let d = count_written is_doomed_record t slot None None h in omega (arith, d))
    go (Some (Some r)) h = (let d = count_written is_doomed_record t slot (Some r) (Some (doomed_record r)) h in
        elim (r.marks.doomed) as (λ b. doomed_count (slice_set t slot (Some (doomed_record r))) + cond b 1 0 ≡ doomed_count t + 1 → doomed_count (slice_set t slot (Some (doomed_record r))) ≡ doomed_count t + cond (not b) 1 0) [
          | true ↦ λ e. omega (arith, e)
          | false ↦ λ e. omega (arith, e)
        ] d)

-- dooming the records of some keys raises the count by at most the number of keys whose records were not
-- doomed
pub doomed_at_most : (keys : List Key) (t : Tree) → doomed_count (with_changed_slots doomed_record t keys) ≤ doomed_count t + undoomed_count t keys
doomed_at_most [] t = omega arith
doomed_at_most (key ∷ keys) t =
    (let next : Tree = with_changed_slot doomed_record t key.slot in
    let rest = doomed_at_most keys next in
    let one = doomed_changed t key.slot in
    let fewer = count_at_most (λ (k : Key). is_undoomed (slice_get t k.slot)) (λ (k : Key). is_undoomed (slice_get next k.slot)) (λ k h. still t key.slot k.slot h) keys in
    let first : undoomed_count t (key ∷ keys) ≡ cond (is_undoomed (slice_get t key.slot)) 1 0 + undoomed_count t keys = sum_by-cons (λ (k : Key). cond (is_undoomed (slice_get t k.slot)) 1 0) key keys in
    omega (arith, rest, one, fewer, first))
  where
    not_on : (o : Option (Option Record)) → is_undoomed (option_map (option_map doomed_record) o) ≡ false
    not_on None = refl
    not_on (Some None) = refl
    not_on (Some (Some r)) = refl

    still : (t : Tree) (slot j : ℕ) → is_undoomed (slice_get (with_changed_slot doomed_record t slot) j) ≡ true → is_undoomed (slice_get t j) ≡ true
    still t slot j h = elim (eqb_tells slot j) [
      | inl e ↦ absurd (let x : false ≡ true = sym (ap is_undoomed (altered_at doomed_record t slot j e.1) ∙ not_on (slice_get t j)) ∙ h in cc)
      | inr n ↦ ap is_undoomed (sym (altered_other doomed_record t slot j n.1)) ∙ h
    ]
