use Rattle.std.proofs.Common.{◌-◌, ◌≡◌, ◌≤◌, ◌+◌, ◌*◌}
use Rattle.std.specs.Prelude.{None}
use Rattle.kf_words.specs.Nodes.{master_view}
use Rattle.kf_words.specs.Notes.{history_of}
use Rattle.kf_words.specs.Searches.{AreLinked, SearchesOn}
use Rattle.kf_words.proofs.master_seat.MasterSeat.free_in_block.Given as goal

abbrev pub invariant-loop-place : goal.invariant-loop-place
invariant-loop-place l = record {
  table : l.self.token.table_id ≡ l.fn.self.token.table_id;
  history : history_of l.self.token.me.0.seen ≡ history_of l.fn.self.token.me.0.seen;
  same_slots : (master_view l.self).slots ≡ (master_view l.fn.self).slots;
  bound : l.place ≤ 64;
  searching : SearchesOn (master_view l.fn.self) (l.block * 64) (l.block * 64 + l.place) None (master_view l.self);
  linked : AreLinked l.full l.slots;
}

abbrev pub decreases-loop-place : goal.decreases-loop-place
decreases-loop-place l = 64 - l.place
