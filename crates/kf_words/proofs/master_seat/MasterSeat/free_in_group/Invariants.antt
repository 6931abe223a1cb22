use Rattle.std.proofs.Common.{◌≡◌, ◌≤◌, ◌<◌, ◌*◌, ℕ, true, false}
use Rattle.std.specs.Prelude.{None}
use Rattle.kf_words.specs.Nodes.{is_unlinked, master_view}
use Rattle.kf_words.specs.Notes.{history_of}
use Rattle.kf_words.specs.Searches.{SearchesOn, AreMarked}
use Rattle.kf_words.proofs.master_seat.MasterSeat.free_in_group.Given as goal

abbrev pub invariant-loop-block : goal.invariant-loop-block
invariant-loop-block l = record {
  table : l.self.token.table_id ≡ l.fn.self.token.table_id;
  history : history_of l.self.token.me.0.seen ≡ history_of l.fn.self.token.me.0.seen;
  same_slots : (master_view l.self).slots ≡ (master_view l.fn.self).slots;
  searching : SearchesOn (master_view l.fn.self) (l.group * 8192) (l.block * 64) None (master_view l.self);
  marked : AreMarked l.full l.full_groups l.slots;
  seen : l.all_full ≡ true → (i : ℕ) → l.group * 8192 ≤ i → i < l.block * 64 → is_unlinked l.slots i ≡ false;
}
