use Rattle.std.proofs.Common.{subst, arith}
use Rattle.kf_core.specs.declared.command.Command.TheVariants.{Activate}
use Rattle.kf_tree.specs.Causes.{linked_cause}
use Rattle.kf_tree.specs.TreeLogs.{TreeLog, IsAccepted}
use Rattle.std.specs.Prelude.{None, vec_capacity}
use Rattle.kf_tree.proofs.Sound.{Follows, activated_follows}
use Rattle.kf_tree.proofs.state.State.activate_in_order.Goals as goal

-- the lemma, applied to this call
both : (c : goal.After-store) → Follows (record { root = c.self.inside.root; tree = c.self.inside.table; commands = c.self.inside.commands.items; ready = c.self.inside.ready }) (Activate c.args.key) (linked_cause c.self.inside.table c.args.key) (vec_capacity c.store.new.commands) (c.self.inside.owed)
    (record { root = c.self.inside.root; tree = c.activate_each.new.table; commands = c.store.new.commands.items; ready = None })
both c = activated_follows (record { root = c.self.inside.root; tree = c.self.inside.table; commands = c.self.inside.commands.items; ready = c.self.inside.ready }) _ _ c.self.invariant _ c.args.key c.args.order.now c.activate_each.new.table c.make_room.new.commands.items c.store.new.commands.items
    c.in_ok-check_linked.ensures.checked (rw (← c.self.view_is) at c.requires.in_order)
    c.activate_each.ensures.changed
    c.in_ok-make_room.ensures.items c.store.ensures.items (omega (arith, c.in_ok-make_room.ensures.room, c.store.ensures.in_place))

pub invariant_of-self-2 : goal.invariant_of-self-2
invariant_of-self-2 c = (both c).0

pub returns-clause-accepted : goal.returns-clause-accepted
returns-clause-accepted c = subst (λ (old : TreeLog). IsAccepted old (record { root = c.self.inside.root; tree = c.activate_each.new.table; commands = c.store.new.commands.items; ready = None }) (linked_cause old.tree c.args.key) (Activate c.args.key))
    c.self.view_is (both c).1
