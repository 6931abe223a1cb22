use Rattle.std.proofs.Common.{◌≡◌, drop}
use Rattle.kf_groups.specs.Attributes.{file_fault, files_cause, shown}
use Rattle.kf_groups.proofs.checks.files_cause.Given as goal

abbrev pub invariant-loop-place : goal.invariant-loop-place
invariant-loop-place l =
    files_cause (file_fault l.state.tree l.state.root l.dir) (shown l.fn.attributes)
    ≡ files_cause (file_fault l.state.tree l.state.root l.dir) (shown (drop l.place l.attributes))
