use Rattle.std.proofs.Common.{◌≡◌, ◌+◌, length}
use Rattle.std.specs.Option.{option_map, option_map_or}
use Rattle.std.specs.List.{slice_split}
use Rattle.kf_core.specs.Tree.{IsIn}
use Rattle.kf_core.specs.Paths.{is_slash, later_parts}
use Rattle.kf_tree.specs.Paths.{walk}
use Rattle.kf_tree.specs.Shown.{shown}
use Rattle.kf_tree.proofs.paths.walk_parts.Given as goal

-- the rest of the walk ends as the whole walk does, and starts at a record that is shown
abbrev pub invariant-loop-rest : goal.invariant-loop-rest
invariant-loop-rest l = (walk (shown l.live_only l.table) l.dir (later_parts (option_map (λ rest. rest.now) l.rest)) ≡ walk (shown l.live_only l.table) l.fn.start (slice_split is_slash l.parts))
    × IsIn (shown l.live_only l.table) l.entry × (l.entry.key ≡ l.dir)

abbrev pub decreases-loop-rest : goal.decreases-loop-rest
decreases-loop-rest l = option_map_or (λ rest. length rest.now + 1) l.rest 0
