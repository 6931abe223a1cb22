use Rattle.std.specs.Prelude.{All, Contains}
use Rattle.std.specs.Vec.Iter.{into_iter_items, into_iter_len}
use Rattle.kf_shared.specs.Receipts.{AreOf}
use Rattle.kf_shared.specs.Removal.{keys_of}
use Rattle.kf_handles.specs.Kept.{AreTokensOf}
use Rattle.kf_handles.specs.Removing.{Ends}
use Rattle.kf_handles.proofs.removal.take_each.Given as goal

-- some of these nodes were shown or taken out, and no others
abbrev pub invariant-loop-hold : goal.invariant-loop-hold
invariant-loop-hold g l = record {
  tables : AreOf g.N.Naming.table (into_iter_items l.rest);
  among : All (λ h. Contains (keys_of l.fn.holds.items) h.key) (into_iter_items l.rest);
  ends : Ends (keys_of l.fn.holds.items) l.fn.locked l.locked;
  tokens : AreTokensOf g.N.Naming.table l.tokens.items;
}

abbrev pub decreases-loop-hold : goal.decreases-loop-hold
decreases-loop-hold g l = into_iter_len l.rest
