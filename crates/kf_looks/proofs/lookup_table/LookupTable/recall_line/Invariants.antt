use Rattle.std.proofs.Common.{◌≡◌, ◌<◌, ℕ, length, get_or}
use Rattle.kf_looks.specs.Lines.{word_at}
use Rattle.kf_looks.specs.Writing.{plan, IsSameWriter}
use Rattle.kf_looks.proofs.lookup_table.LookupTable.recall_line.Given as goal

abbrev pub invariant-loop-k : goal.invariant-loop-k
invariant-loop-k l = record {
  same : IsSameWriter l.initial.seat l.seat;
  long : length l.words ≡ 8;
  planned : (j : ℕ) → j < l.k → word_at (plan l.initial.seat).draft l.line j ≡ get_or l.words j 0;
}
