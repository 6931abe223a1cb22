use Rattle.std.specs.Prelude.{◌≡◌}
use Rattle.kf_looks.specs.Links.{IsLater}
use Rattle.kf_looks.specs.Lookers.{seen}
use Rattle.kf_looks.proofs.lookup_table.LookupTable.look.Given as goal

abbrev pub invariant-loop : goal.invariant-loop
invariant-loop l = record {
  table : l.looker.seat.table_id ≡ l.initial.looker.seat.table_id;
  later : IsLater (seen l.looker) (seen l.initial.looker);
}
