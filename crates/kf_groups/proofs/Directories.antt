-- A new directory is not activated while its groups are made. Once it is taken back, the tree is as it was,
-- unless memory was lacking.
use Rattle.std.proofs.Common.{◌≡◌, ◌⊎◌, ◌+◌, inl, inr, ℕ, false, ap, sym, arith, ◌∙◌, List, length}
use Rattle.std.specs.Prelude.{Option, Some}
use Rattle.std.specs.Option.{option_map}
use Rattle.kf_core.specs.declared.key.Key.{Key}
use Rattle.kf_core.specs.declared.key.Node.TheVariants.{Dir}
use Rattle.kf_core.specs.declared.records.Record.{Record}
use Rattle.kf_core.specs.declared.refusal.Refusal.{Refusal}
use Rattle.kf_core.specs.declared.refusal.Refusal.TheVariants.{NoMemory}
use Rattle.kf_core.specs.Commands.{new_record}
use Rattle.kf_core.specs.Marks.{fresh_marks}
use Rattle.kf_core.specs.Tree.{Tree, marks_of, record_at}
use Rattle.kf_core.proofs.FoundRecords.{found_in, in_found}
use Rattle.kf_shared.specs.Locked.{Locked, IsWhole, Created}
use Rattle.kf_words.specs.Callers.{TableId}
use Rattle.kf_words.specs.Nodes.{IsVacant}
use Rattle.kf_groups.specs.declared.attribute.Group.{Group}
use Rattle.kf_groups.specs.Groups.{GroupsRefused}
use Rattle.kf_groups.specs.Keeps.{Keeps}
use Rattle.kf_tree.specs.Subtrees.{linked_count}
use Rattle.kf_groups.specs.TakenBack.{GaveUp, TookBack}
use Rattle.kf_groups.proofs.Counts.{kept_all}
use Rattle.kf_groups.proofs.Lengths.{created, took}
use Rattle.kf_groups.proofs.Linked.{itself_at, vacant_slot}
use Rattle.kf_groups.proofs.Turns.{made_more}

-- a record that stays is found as before
record_kept : (old new : Tree) (key : Key) (r : Record) → Keeps old new → record_at old key ≡ Some r → record_at new key ≡ Some r
record_kept old new key r keeps at =
    let f = found_in old key r at in
    ap (record_at new) (sym f.1) ∙ in_found new r (keeps r.key.slot r f.0)

module _ (table : TableId) (old empty : Locked) (dir key : Key) (name : List ℕ) (whole : IsWhole table old) (vacant : IsVacant old.master.view key) (made : Created old empty dir name Dir false key) where
  -- the new directory still has the marks of a new node once its groups are made
  pub idle : (new : Tree) → Keeps empty.state.tree new → marks_of new key ≡ Some fresh_marks
  idle new keeps =
      let slot = vacant_slot table old key whole vacant in
      let at : record_at empty.state.tree key ≡ Some (new_record key dir name Dir false) =
      ap (λ (t : Tree). record_at t key) made.changed ∙ itself_at old.state.tree key dir name Dir false slot in
      ap (λ o. option_map (λ (r : Record). r.marks) o) (record_kept empty.state.tree new key _ keeps at)

  -- if one node fewer is linked than with the empty directory, and old records stay, the tree is as it was
  same_again : (stopped new : Locked) → stopped.state.tree ≡ empty.state.tree → TookBack stopped new key → Keeps old.state.tree new.state.tree
      → linked_count new.state.tree + 1 ≡ linked_count stopped.state.tree → new.state.tree ≡ old.state.tree
  same_again stopped new same back keeps one =
      let more = made_more table old empty dir key name Dir whole vacant made in
      let count : linked_count stopped.state.tree ≡ linked_count empty.state.tree = ap (λ (t : Tree). linked_count t) same in
      kept_all old.state.tree new.state.tree
      (took stopped new key back ∙ ap length same ∙ created old empty dir key name Dir made)
      keeps (omega (arith, one, more, count))

  -- if the groups were refused and the directory was taken back, the tree is as it was, or memory was lacking
  pub restored : (stopped new : Locked) (groups : List Group) (why refusal : Refusal) → GroupsRefused empty stopped key groups why → TookBack stopped new key
      → Keeps old.state.tree new.state.tree → GaveUp 1 stopped.state.tree new.state.tree why refusal
      → (new.state.tree ≡ old.state.tree) ⊎ (refusal ≡ NoMemory)
  restored stopped new groups why refusal groups_refused back keeps (inr memory) = inr memory
  restored stopped new groups why refusal (inl cause) back keeps (inl gave) =
      inl (same_again stopped new (ap (λ (s : Locked). s.state.tree) cause.1) back keeps gave.1)
  restored stopped new groups why refusal (inr (free, lack, inl slots, taken)) back keeps (inl gave) =
      inl (same_again stopped new slots.2 back keeps gave.1)
  restored stopped new groups why refusal (inr (free, lack, inr memory, taken)) back keeps (inl gave) = inr (gave.0 ∙ memory)
