use Rattle.std.proofs.Common.{◌≡◌, ◌+◌, List, length, subst}
use Rattle.kf_core.specs.declared.command.Command.{Command}
use Rattle.kf_tree.specs.Canonical.{IsCanonical, doomed_inside_count}
use Rattle.kf_tree.specs.TreeLogs.{TreeLog}
use Rattle.kf_shared.proofs.editor.Editor.compacted.Goals as goal

pub returns-clause-canonical : goal.returns-clause-canonical
returns-clause-canonical g c = subst (λ (s : TreeLog). (commands : List Command) → IsCanonical s.tree commands → length commands + doomed_inside_count s.tree ≡ c.compacted.result) c.state.ensures.same c.compacted.ensures.canonical
