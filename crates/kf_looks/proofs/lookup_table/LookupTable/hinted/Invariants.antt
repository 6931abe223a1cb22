use Rattle.std.specs.Prelude.{⊤}
use Rattle.kf_looks.specs.Reading.{IsSameSeat, Follows}
use Rattle.kf_looks.proofs.lookup_table.LookupTable.hinted.Given as goal

abbrev pub invariant-loop-way : goal.invariant-loop-way
invariant-loop-way l = record {
  same : IsSameSeat l.initial.seat l.seat;
  read : Follows l.initial.seat.me.0.role l.seat.me.0.role (λ content. ⊤);
}
