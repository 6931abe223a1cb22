use Rattle.std.proofs.Common.{◌≡◌, length}
use Rattle.std.specs.List.{slice_split}
use Rattle.kf_core.specs.Tree.{IsIn}
use Rattle.kf_core.specs.Paths.{is_slash}
use Rattle.kf_tree.specs.Paths.{walk, front, final}
use Rattle.kf_tree.proofs.paths.walk_front.Given as goal

-- the rest of the walk ends as the whole walk does, has the same last name, and starts at a record of the
-- tree
abbrev pub invariant-loop-rest : goal.invariant-loop-rest
invariant-loop-rest l = (walk l.table l.dir (front (slice_split is_slash l.text)) ≡ walk l.table l.fn.start (front (slice_split is_slash l.parts)))
    × (final (slice_split is_slash l.text) ≡ final (slice_split is_slash l.parts))
    × IsIn l.table l.entry × (l.entry.key ≡ l.dir)

abbrev pub decreases-loop-rest : goal.decreases-loop-rest
decreases-loop-rest l = length l.text
