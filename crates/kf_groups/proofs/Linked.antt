-- A node that is made in a vacant slot was not linked before, and is then found at its key.
use Rattle.std.proofs.Common.{◌≡◌, ℕ, ap, ◌∙◌, Bool, false, cond, List}
use Rattle.std.specs.Prelude.{Option, None, Some, slice_get, is_some}
use Rattle.std.specs.Option.{option_and_then}
use Rattle.std.proofs.lemmas.Option.{slice_get_within}
use Rattle.kf_core.specs.declared.command.Command.TheVariants.{Create}
use Rattle.kf_core.specs.declared.key.Key.{Key}
use Rattle.kf_core.specs.declared.key.Node.{Node}
use Rattle.kf_core.specs.declared.records.Record.{Record}
use Rattle.kf_core.specs.Commands.{after, new_record}
use Rattle.kf_core.specs.Tree.{Tree, record_at, with_key, is_linked}
use Rattle.kf_core.proofs.Climbs.{same_key_self}
use Rattle.kf_core.proofs.Lists.{slice_get-set_same}
use Rattle.kf_shared.specs.Locked.{Locked, IsWhole}
use Rattle.kf_tree.proofs.SameMarks.{vacant_in_tree}
use Rattle.kf_words.specs.Nodes.{IsVacant}
use Rattle.kf_words.specs.Callers.{TableId}

-- the slot of a key that was found vacant has no record
pub vacant_slot : (table : TableId) (s : Locked) (key : Key) → IsWhole table s → IsVacant s.master.view key → slice_get s.state.tree key.slot ≡ Some None
vacant_slot table s key whole v =
    vacant_in_tree s.master.view.slots s.state.tree s.state.root key whole.tied.marks whole.kept.lawful whole.tied.slots (record {
      last = v.last;
      vacant = v.vacant;
    })

module _ (t : Tree) (key parent : Key) (name : List ℕ) (node : Node) (live : Bool) (vacant : slice_get t key.slot ≡ Some None) where
  abbrev new : Option Record
  new = Some (new_record key parent name node live)

  pub not_linked : is_linked t key ≡ false
  not_linked = ap (λ o. is_some (option_and_then (with_key key) o)) vacant

  pub itself_at : record_at (after t (Create key parent name node live)) key ≡ new
  itself_at =
      ap (λ o. option_and_then (with_key key) o) (slice_get-set_same t key.slot new (slice_get_within t key.slot None vacant))
      ∙ ap (λ b. cond b new None) (same_key_self key)
