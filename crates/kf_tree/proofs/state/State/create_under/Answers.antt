use Rattle.std.proofs.Common.{◌≡◌, subst, sym, arith}
use Rattle.kf_core.specs.declared.command.Command.TheVariants.{Create}
use Rattle.kf_tree.specs.Causes.{create_fault, create_cause}
use Rattle.kf_tree.specs.TreeLogs.{TreeLog, IsAccepted}
use Rattle.std.specs.Prelude.{None, Some, vec_capacity}
use Rattle.kf_tree.proofs.Sound.{Follows, created_lawful, created_follows}
use Rattle.kf_tree.proofs.state.State.create_under.Goals as goal

pub add-requires-clause-lawful_after : goal.add-requires-clause-lawful_after
add-requires-clause-lawful_after c = created_lawful (record { root = c.self.inside.root; tree = c.self.inside.table; commands = c.self.inside.commands.items; ready = c.self.inside.ready }) _ _ c.self.invariant c.args.key c.args.parent c.args.name.now c.in_ok-own_name.own_name c.args.node c.args.live
    (rw (← c.self.view_is) at c.requires.vacant) (subst (λ (old : TreeLog). create_fault old.tree old.root c.args.parent c.args.name.now c.args.node ≡ None) (sym c.self.view_is) c.requires.no_fault) c.in_ok-own_name.ensures.made

both : (c : goal.After-store) → Follows (record { root = c.self.inside.root; tree = c.self.inside.table; commands = c.self.inside.commands.items; ready = c.self.inside.ready }) (Create c.args.key c.args.parent c.args.name.now c.args.node c.args.live) (create_cause c.self.inside.table c.self.inside.root c.args.parent c.args.name.now c.args.node (Some c.args.key)) (vec_capacity c.store.new.commands) (c.self.inside.owed)
    (record { root = c.self.inside.root; tree = c.add.new.self; commands = c.store.new.commands.items; ready = None })
both c = created_follows (record { root = c.self.inside.root; tree = c.self.inside.table; commands = c.self.inside.commands.items; ready = c.self.inside.ready }) _ _ c.self.invariant _ c.args.key c.args.parent c.args.name.now c.in_ok-own_name.own_name c.in_ok-stored_name.stored_name c.args.node c.args.live
    c.add.new.self c.make_room.new.commands.items c.store.new.commands.items
    (rw (← c.self.view_is) at c.requires.vacant) (subst (λ (old : TreeLog). create_fault old.tree old.root c.args.parent c.args.name.now c.args.node ≡ None) (sym c.self.view_is) c.requires.no_fault)
    c.in_ok-own_name.ensures.made c.in_ok-stored_name.ensures.made c.in_ok-add.ensures.added
    c.in_ok-make_room.ensures.items c.store.ensures.items (omega (arith, c.in_ok-make_room.ensures.room, c.store.ensures.in_place))

pub invariant_of-self-2 : goal.invariant_of-self-2
invariant_of-self-2 c = (both c).0

pub returns-clause-accepted : goal.returns-clause-accepted
returns-clause-accepted c = subst (λ (old : TreeLog). IsAccepted old (record { root = c.self.inside.root; tree = c.add.new.self; commands = c.store.new.commands.items; ready = None })
    (create_cause old.tree old.root c.args.parent c.args.name.now c.args.node (Some c.args.key)) (Create c.args.key c.args.parent c.args.name.now c.args.node c.args.live))
    c.self.view_is (both c).1
