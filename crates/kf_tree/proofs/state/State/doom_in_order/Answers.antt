use Rattle.std.proofs.Common.{refl, subst, arith}
use Rattle.kf_core.specs.declared.command.Command.TheVariants.{Doom}
use Rattle.kf_tree.specs.Causes.{doom_cause}
use Rattle.kf_tree.specs.TreeLogs.{TreeLog, IsAccepted}
use Rattle.std.specs.Prelude.{None, vec_capacity, ◌+◌}
use Rattle.kf_tree.proofs.Sound.{Follows, newly_few, newly_fit, doomed_follows}
use Rattle.kf_tree.proofs.state.State.doom_in_order.Goals as goal

both : (c : goal.After-store) → Follows (record { root = c.self.inside.root; tree = c.self.inside.table; commands = c.self.inside.commands.items; ready = c.self.inside.ready }) (Doom c.args.key) (doom_cause c.self.inside.table c.self.inside.root c.args.key) (vec_capacity c.store.new.commands) (c.self.inside.owed + c.doom_each.result)
    (record { root = c.self.inside.root; tree = c.doom_each.new.table; commands = c.store.new.commands.items; ready = None })
both c = doomed_follows (record { root = c.self.inside.root; tree = c.self.inside.table; commands = c.self.inside.commands.items; ready = c.self.inside.ready }) _ _ c.self.invariant _ c.doom_each.result c.count_undoomed-newly.result c.args.key c.args.order.now c.doom_each.new.table c.make_room.new.commands.items c.store.new.commands.items
    c.in_ok-check_doom.ensures.checked (rw (← c.self.view_is) at c.requires.in_order)
    c.doom_each.ensures.changed
    c.doom_each.ensures.counted
    (newly_few (record { root = c.self.inside.root; tree = c.self.inside.table; commands = c.self.inside.commands.items; ready = c.self.inside.ready }) _ _ c.self.invariant c.doom_each.result c.count_undoomed-newly.result c.args.order.now c.args.order.now c.doom_each.new.table
    c.doom_each.ensures.changed c.doom_each.ensures.counted refl c.count_undoomed-newly.ensures.value)
    c.in_ok-make_room.ensures.items c.store.ensures.items (omega (arith, c.in_ok-make_room.ensures.room, c.store.ensures.in_place))

pub invariant_of-self-2 : goal.invariant_of-self-2
invariant_of-self-2 c = (both c).0

pub returns-clause-accepted : goal.returns-clause-accepted
returns-clause-accepted c = subst (λ (old : TreeLog). IsAccepted old (record { root = c.self.inside.root; tree = c.doom_each.new.table; commands = c.store.new.commands.items; ready = None })
    (doom_cause old.tree old.root c.args.key) (Doom c.args.key)) c.self.view_is (both c).1

pub overflow_add-self : goal.overflow_add-self
overflow_add-self c = (let few = newly_fit (record { root = c.self.inside.root; tree = c.self.inside.table; commands = c.self.inside.commands.items; ready = c.self.inside.ready }) _ _ c.self.invariant c.doom_each.result c.args.key c.args.order.now c.doom_each.new.table
    (rw (← c.self.view_is) at c.requires.in_order) c.doom_each.ensures.changed c.doom_each.ensures.counted in
    omega (arith, few))
