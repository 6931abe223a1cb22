use Rattle.std.proofs.Common.{◌≡◌, ◌*◌}
use Rattle.kf_words.specs.Nodes.{master_view}
use Rattle.kf_words.specs.Notes.{history_of}
use Rattle.kf_words.specs.Searches.{HasPassed, AreMarked}
use Rattle.kf_words.proofs.master_seat.MasterSeat.find_free.Given as goal

abbrev pub invariant-loop-group : goal.invariant-loop-group
invariant-loop-group l = record {
  table : l.self.token.table_id ≡ l.fn.self.token.table_id;
  history : history_of l.self.token.me.0.seen ≡ history_of l.fn.self.token.me.0.seen;
  searching : HasPassed (master_view l.fn.self) (l.group * 8192) (master_view l.self);
  marked : AreMarked l.full l.full_groups l.slots;
}
