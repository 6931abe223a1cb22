use Rattle.std.proofs.Common.{◌≡◌, ◌+◌, ◌-◌, List, length, subst, arith}
use Rattle.kf_core.specs.declared.command.Command.{Command}
use Rattle.kf_tree.specs.Canonical.{IsCanonical, doomed_inside_count}
use Rattle.kf_tree.specs.Subtrees.{linked_count, owed_count}
use Rattle.kf_tree.specs.TreeLogs.{TreeLog}
use Rattle.kf_tree.proofs.CanonicalLengths.{one_at_least, all_fit, in_sum, canonical_length}
use Rattle.kf_tree.proofs.state.State.compacted.Goals as goal

pub overflow_sub-result : goal.overflow_sub-result
overflow_sub-result c = one_at_least (record { root = c.self.inside.root; tree = c.self.inside.table; commands = c.self.inside.commands.items; ready = c.self.inside.ready }) _ _ _ c.self.invariant c.linked-records.ensures.known

pub overflow_add-result : goal.overflow_add-result
overflow_add-result c = (let few = all_fit (record { root = c.self.inside.root; tree = c.self.inside.table; commands = c.self.inside.commands.items; ready = c.self.inside.ready }) _ _ _ c.self.invariant c.linked-records.ensures.known in omega (arith, few))

pub returns-clause-known : goal.returns-clause-known
returns-clause-known c = subst (λ (s : TreeLog). c.linked-records.result - 1 + c.self.inside.owed + 1 ≡ linked_count s.tree + owed_count s.tree) c.self.view_is
    (in_sum (record { root = c.self.inside.root; tree = c.self.inside.table; commands = c.self.inside.commands.items; ready = c.self.inside.ready }) _ _ _ c.self.invariant c.linked-records.ensures.known)

pub returns-clause-canonical : goal.returns-clause-canonical
returns-clause-canonical c = subst (λ (s : TreeLog). (commands : List Command) → IsCanonical s.tree commands → length commands + doomed_inside_count s.tree ≡ c.linked-records.result - 1 + c.self.inside.owed) c.self.view_is
    (canonical_length (record { root = c.self.inside.root; tree = c.self.inside.table; commands = c.self.inside.commands.items; ready = c.self.inside.ready }) _ _ _ c.self.invariant c.linked-records.ensures.known)
