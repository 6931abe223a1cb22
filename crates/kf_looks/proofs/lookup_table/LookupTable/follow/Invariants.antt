use Rattle.std.proofs.Common.{◌≡◌, ◌≢◌, ◌+◌, length}
use Rattle.std.specs.Option.{option_map, option_map_or}
use Rattle.std.specs.List.{list_any, slice_split}
use Rattle.kf_looks.specs.Links.{top, walked}
use Rattle.kf_looks.specs.Packed.{found_of}
use Rattle.kf_core.specs.Paths.{is_slash, is_empty, later_parts}
use Rattle.kf_looks.specs.Reading.{IsSameSeat, Follows, Tells}
use Rattle.kf_looks.proofs.lookup_table.LookupTable.follow.Given as goal

-- no name was empty so far, and the rest of the walk leads to what the whole walk leads to
abbrev pub invariant-loop-rest : goal.invariant-loop-rest
invariant-loop-rest l = record {
  same : IsSameSeat l.initial.seat l.seat;
  named : list_any is_empty (later_parts (option_map (λ rest. rest.now) l.rest)) ≡ list_any is_empty (slice_split is_slash l.parts);
  some : l.here.shape ≢ 0;
  found : Follows l.initial.seat.me.0.role l.seat.me.0.role (Tells l.self.slots
      (λ links. walked links (top l.fn.from) (slice_split is_slash l.parts) ≡ walked links (found_of l.here.key l.here.more l.here.shape) (later_parts (option_map (λ rest. rest.now) l.rest))));
}

abbrev pub decreases-loop-rest : goal.decreases-loop-rest
decreases-loop-rest l = option_map_or (λ rest. length rest.now + 1) l.rest 0
