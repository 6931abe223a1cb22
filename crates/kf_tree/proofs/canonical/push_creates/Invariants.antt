use Rattle.std.proofs.Common.{◌≡◌, ◌++◌, take}
use Rattle.kf_tree.specs.Canonical.{collected, create_of}
use Rattle.kf_tree.proofs.canonical.push_creates.Given as goal

abbrev pub invariant-loop-key : goal.invariant-loop-key
invariant-loop-key l = l.commands.items ≡ l.initial.commands.items ++ collected (create_of l.table) (take l.key-index l.keys)
