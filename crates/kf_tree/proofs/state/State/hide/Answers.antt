use Rattle.std.proofs.Common.{subst, arith}
use Rattle.std.specs.Prelude.{None, vec_capacity, ◌+◌}
use Rattle.kf_core.specs.declared.command.Command.TheVariants.{Hide}
use Rattle.kf_tree.specs.Causes.{hide_cause}
use Rattle.kf_tree.specs.TreeLogs.{TreeLog, IsAccepted}
use Rattle.kf_tree.proofs.Sound.{Follows, room_to_hide, hidden_follows}
use Rattle.kf_tree.proofs.state.State.hide.Goals as goal

pub overflow_add-self : goal.overflow_add-self
overflow_add-self c = (let room = room_to_hide (record { root = c.self.inside.root; tree = c.self.inside.table; commands = c.self.inside.commands.items; ready = c.self.inside.ready }) _ _ c.self.invariant c.args.key (rw (← c.self.view_is) at c.requires.ready) in
    let cap = c.self.inside.commands.small in omega (arith, room))

pub store-requires : goal.store-requires
store-requires c = record {
  room = (let room = room_to_hide (record { root = c.self.inside.root; tree = c.self.inside.table; commands = c.self.inside.commands.items; ready = c.self.inside.ready }) _ _ c.self.invariant c.args.key (rw (← c.self.view_is) at c.requires.ready) in omega (arith, room));
}

both : (c : goal.After-store) → Follows (record { root = c.self.inside.root; tree = c.self.inside.table; commands = c.self.inside.commands.items; ready = c.self.inside.ready }) (Hide c.args.key) (hide_cause c.self.inside.table c.args.key) (vec_capacity c.store.new.commands) (c.self.inside.owed + 1)
    (record { root = c.self.inside.root; tree = c.hide.new.self; commands = c.store.new.commands.items; ready = None })
both c = hidden_follows (record { root = c.self.inside.root; tree = c.self.inside.table; commands = c.self.inside.commands.items; ready = c.self.inside.ready }) _ _ c.self.invariant _ c.args.key c.hide.new.self c.store.new.commands.items
    (rw (← c.self.view_is) at c.requires.ready) c.hide.ensures.changed c.store.ensures.items (omega (arith, c.store.ensures.in_place))

pub invariant_of-self : goal.invariant_of-self
invariant_of-self c = (both c).0

pub returns : goal.returns
returns c = record {
  accepted = subst (λ (old : TreeLog). IsAccepted old (record { root = c.self.inside.root; tree = c.hide.new.self; commands = c.store.new.commands.items; ready = None }) (hide_cause old.tree c.args.key) (Hide c.args.key))
      c.self.view_is (both c).1;
}
