use Rattle.std.proofs.Common.{◌≡◌, ◌+◌, List, length, true}
use Rattle.std.specs.Prelude.{map, All, Contains}
use Rattle.std.specs.Vec.Iter.{into_iter_items, into_iter_len}
use Rattle.kf_core.specs.declared.command.Command.TheVariants.{Unlink}
use Rattle.kf_core.specs.declared.key.Key.{Key}
use Rattle.kf_shared.specs.Receipts.{AreOf}
use Rattle.kf_shared.specs.Removal.{keys_of}
use Rattle.kf_tree.specs.TreeLogs.{Stores}
use Rattle.kf_tree.specs.Subtrees.{linked_count}
use Rattle.kf_groups.proofs.taking_back.unlink_each.Given as goal

abbrev pub invariant-loop-hold : goal.invariant-loop-hold
invariant-loop-hold g l = record {
  tables : AreOf g.N.Naming.table (into_iter_items l.rest);
  among : All (λ h. Contains (keys_of l.fn.holds.items) h.key) (into_iter_items l.rest);
  unlinked : (keys : List Key) × All (Contains (keys_of l.fn.holds.items)) keys
      × Stores l.initial.editor.state l.editor.state (map Unlink keys);
  counted : l.all ≡ true → linked_count l.editor.state.tree + length l.fn.holds.items
      ≡ linked_count l.initial.editor.state.tree + length (into_iter_items l.rest);
  claims : l.editor.claims ≡ l.initial.editor.claims;
}

abbrev pub decreases-loop-hold : goal.decreases-loop-hold
decreases-loop-hold g l = into_iter_len l.rest
