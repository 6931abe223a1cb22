use Rattle.std.proofs.Common.{subst}
use Rattle.std.specs.Prelude.{None, vec_capacity}
use Rattle.kf_tree.specs.TreeLogs.{TreeLog, IsCompacted}
use Rattle.kf_tree.specs.Sound.{IsSound}
use Rattle.kf_tree.proofs.Sound.{compacted}
use Rattle.kf_tree.proofs.state.State.compact.Goals as goal

both : (c : goal.After-self-1) → IsSound (record { root = c.self.inside.root; tree = c.self.inside.table; commands = c.in_ok-self-inside.field-0.items; ready = None }) (vec_capacity c.in_ok-self-inside.field-0) c.self.inside.owed
    × IsCompacted (record { root = c.self.inside.root; tree = c.self.inside.table; commands = c.self.inside.commands.items; ready = c.self.inside.ready }) (record { root = c.self.inside.root; tree = c.self.inside.table; commands = c.in_ok-self-inside.field-0.items; ready = None })
both c = compacted (record { root = c.self.inside.root; tree = c.self.inside.table; commands = c.self.inside.commands.items; ready = c.self.inside.ready }) _ c.self.inside.owed (vec_capacity c.in_ok-self-inside.field-0) c.in_ok-self-inside.field-0.items c.self.invariant c.in_ok-self-inside.ensures.canonical c.in_ok-self-inside.ensures.room

pub invariant_of-self : goal.invariant_of-self
invariant_of-self c = (both c).0

pub returns-clause-compacted : goal.returns-clause-compacted
returns-clause-compacted c = subst (λ (old : TreeLog). IsCompacted old (record { root = c.self.inside.root; tree = c.self.inside.table; commands = c.in_ok-self-inside.field-0.items; ready = None })) c.self.view_is (both c).1
