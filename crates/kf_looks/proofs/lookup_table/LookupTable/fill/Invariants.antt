use Rattle.kf_looks.specs.Writing.{plan, Keeps, IsFilled}
use Rattle.kf_looks.proofs.lookup_table.LookupTable.fill.Given as goal

abbrev pub invariant-loop-k : goal.invariant-loop-k
invariant-loop-k l = record {
  kept : Keeps l.initial.seat l.seat;
  filled : IsFilled (plan l.initial.seat).draft (plan l.seat).draft l.at l.words l.k;
}
