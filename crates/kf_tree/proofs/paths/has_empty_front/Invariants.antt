use Rattle.std.proofs.Common.{◌≡◌, length}
use Rattle.std.specs.List.{list_any, slice_split}
use Rattle.kf_core.specs.Paths.{is_slash, is_empty}
use Rattle.kf_tree.specs.Paths.{front}
use Rattle.kf_tree.proofs.paths.has_empty_front.Given as goal

abbrev pub invariant-loop-name : goal.invariant-loop-name
invariant-loop-name l = list_any is_empty (front (slice_split is_slash l.text)) ≡ list_any is_empty (front (slice_split is_slash l.parts))

abbrev pub decreases-loop-name : goal.decreases-loop-name
decreases-loop-name l = length l.text
