use Rattle.std.proofs.Common.{◌≡◌}
use Rattle.kf_looks.specs.Writing.{plan, Keeps}
use Rattle.kf_looks.proofs.lookup_table.LookupTable.way.Given as goal

abbrev pub invariant-loop-at : goal.invariant-loop-at
invariant-loop-at l = record {
  kept : Keeps l.initial.seat l.seat;
  draft : (plan l.seat).draft ≡ (plan l.initial.seat).draft;
}
