use Rattle.std.proofs.Common.{◌≡◌, ◌∙◌, ℕ, ◌+◌, ◌≤◌, ap, sym, arith, cond, slice_get, slice_index_or}
use Rattle.std.proofs.lemmas.List.Sums.{fold_more}
use Rattle.kf_core.specs.declared.key.Key.{Key}
use Rattle.kf_core.specs.Tree.{Tree}
use Rattle.kf_core.specs.Commands.{doomed_record}
use Rattle.kf_table.specs.Changes.{with_changed_slot, is_undoomed}
use Rattle.kf_tree.specs.Subtrees.{doomed_count}
use Rattle.kf_tree.proofs.Doomed.{doomed_changed}
use Rattle.kf_tree.proofs.marks.doom_each.Goals as goal
use Rattle.kf_tree.proofs.marks.doom_each.Goals.{then-doom, else-doom}

pub loop-key-preserved : goal.loop-key-preserved
loop-key-preserved c =
    (let key : Key = slice_index_or c.args.keys.now c.loop-key.key-index _ in
    let count = ap (λ (t : Tree). doomed_count t) c.doom.ensures.changed ∙ doomed_changed c.loop-key.table key.slot in
    let added = elim c.if-doom.branch as (λ b. c.if-doom.newly ≡ c.loop-key.newly + cond (c.doom.result) 1 0) [
      | then-doom w ↦ w.newly-is ∙ ap (λ b. c.loop-key.newly + cond b 1 0) (sym w.if-doom.true)
      | else-doom w ↦ w.newly-is ∙ omega arith ∙ ap (λ b. c.loop-key.newly + cond b 1 0) (sym w.if-doom.false)
    ] in
    let same : ◌≡◌ {A = ℕ} (cond (c.doom.result) 1 0) (cond (is_undoomed (slice_get c.loop-key.table key.slot)) 1 0) = ap (λ b. cond {A = ℕ} b 1 0) c.doom.ensures.newly in
    let few = elim c.if-doom.branch as (λ b. c.if-doom.newly ≤ c.loop-key.key-index + 1) [
      | then-doom w ↦ omega (arith, w.newly-is, c.loop-key.invariant.2)
      | else-doom w ↦ omega (arith, w.newly-is, c.loop-key.invariant.2)
    ] in (
      c.doom.ensures.changed ∙ ap (λ (t : Tree). with_changed_slot doomed_record t key.slot) c.loop-key.invariant.0 ∙ sym (fold_more _ _ c.args.keys.now c.loop-key.key-index _ c.loop-key-test.true),
      count ∙ ap (λ n. n + cond (is_undoomed (slice_get c.loop-key.table key.slot)) 1 0) c.loop-key.invariant.1 ∙ omega (arith, added, same),
      few,
    ))
