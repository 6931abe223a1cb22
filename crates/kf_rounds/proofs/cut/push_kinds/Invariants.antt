use Rattle.std.proofs.Common.{◌≡◌, ◌≤◌, ◌++◌, map, filter, vec_capacity}
use Rattle.std.specs.Option.{option_map}
use Rattle.kf_script.specs.Lines.{lines_of, has_bytes}
use Rattle.kf_rounds.specs.Cutting.{later_lines, bytes_left}
use Rattle.kf_rounds.specs.Kinds.{kind_by}
use Rattle.kf_rounds.specs.KindViews.{kind_view}
use Rattle.kf_rounds.proofs.cut.push_kinds.Given as goal

-- the kinds so far, followed by the kinds of the lines that are left, are those of the lines of the script
abbrev pub invariant-loop-left : goal.invariant-loop-left
invariant-loop-left l =
    (map kind_view l.kinds.items ++ map (kind_by l.workers) (filter has_bytes (later_lines (option_map (λ text. text.now) l.left)))
    ≡ map (kind_by l.workers) (lines_of l.script))
    × (vec_capacity l.fn.kinds ≤ vec_capacity l.kinds)

abbrev pub decreases-loop-left : goal.decreases-loop-left
decreases-loop-left l = bytes_left (option_map (λ text. text.now) l.left)
