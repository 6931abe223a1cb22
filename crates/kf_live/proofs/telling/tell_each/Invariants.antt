use Rattle.std.proofs.Common.{◌≡◌, drop}
use Rattle.kf_looks.specs.Writing.{links_of}
use Rattle.kf_live.specs.Live.{AreSound, SayBut}
use Rattle.kf_live.specs.Told.{GrewSound}
use Rattle.kf_live.proofs.telling.tell_each.Given as goal

-- the links are sound, and say what the tree says, except about the keys that are left
abbrev pub invariant-loop-key : goal.invariant-loop-key
invariant-loop-key l = record {
  table : l.writer.seat.table_id ≡ l.fn.writer.seat.table_id;
  says : SayBut (drop l.key-index l.keys) (links_of l.writer.seat) l.fn.state.tree;
  sound : AreSound (links_of l.writer.seat) l.fn.state.tree;
  told : GrewSound l.fn.state.tree (links_of l.fn.writer.seat) (links_of l.writer.seat);
}
