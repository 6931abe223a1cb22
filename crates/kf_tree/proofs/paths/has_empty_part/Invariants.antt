use Rattle.std.proofs.Common.{◌≡◌, ◌+◌, length}
use Rattle.std.specs.Option.{option_map, option_map_or}
use Rattle.std.specs.List.{list_any, slice_split}
use Rattle.kf_core.specs.Paths.{is_slash, is_empty, later_parts}
use Rattle.kf_tree.proofs.paths.has_empty_part.Given as goal

-- the rest has an empty part if and only if the whole has one: no part was empty so far
abbrev pub invariant-loop-rest : goal.invariant-loop-rest
invariant-loop-rest l = list_any is_empty (later_parts (option_map (λ rest. rest.now) l.rest)) ≡ list_any is_empty (slice_split is_slash l.parts)

abbrev pub decreases-loop-rest : goal.decreases-loop-rest
decreases-loop-rest l = option_map_or (λ rest. length rest.now + 1) l.rest 0
