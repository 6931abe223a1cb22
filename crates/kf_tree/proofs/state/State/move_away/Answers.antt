use Rattle.std.proofs.Common.{◌≡◌, sym, subst, arith, false}
use Rattle.kf_core.specs.declared.command.Command.TheVariants.{Rename}
use Rattle.kf_table.specs.Children.{is_there_already}
use Rattle.kf_tree.specs.Causes.{rename_cause}
use Rattle.kf_tree.specs.TreeLogs.{TreeLog, IsAccepted}
use Rattle.std.specs.Prelude.{None, vec_capacity}
use Rattle.kf_tree.proofs.Sound.{Follows, renamed_lawful, renamed_linked, still_elsewhere, renamed_follows}
use Rattle.kf_tree.proofs.state.State.move_away.Goals as goal

pub move_to-requires-clause-lawful_after : goal.move_to-requires-clause-lawful_after
move_to-requires-clause-lawful_after c = renamed_lawful (record { root = c.self.inside.root; tree = c.self.inside.table; commands = c.self.inside.commands.items; ready = c.self.inside.ready }) _ _ c.self.invariant c.args.key c.args.dir c.args.name.now c.in_ok-own_name.own_name
    (subst (λ (old : TreeLog). rename_cause old.tree old.root c.args.key c.args.dir c.args.name.now ≡ None) (sym c.self.view_is) c.requires.no_cause)
    (subst (λ (old : TreeLog). is_there_already old.tree c.args.key c.args.dir c.args.name.now ≡ false) (sym c.self.view_is) c.requires.elsewhere) c.in_ok-own_name.ensures.made

pub move_to-requires-clause-linked : goal.move_to-requires-clause-linked
move_to-requires-clause-linked c = renamed_linked (record { root = c.self.inside.root; tree = c.self.inside.table; commands = c.self.inside.commands.items; ready = c.self.inside.ready }) _ _ c.self.invariant c.args.key c.args.dir c.args.name.now
    (subst (λ (old : TreeLog). rename_cause old.tree old.root c.args.key c.args.dir c.args.name.now ≡ None) (sym c.self.view_is) c.requires.no_cause)
    (subst (λ (old : TreeLog). is_there_already old.tree c.args.key c.args.dir c.args.name.now ≡ false) (sym c.self.view_is) c.requires.elsewhere)

pub move_to-requires-clause-elsewhere : goal.move_to-requires-clause-elsewhere
move_to-requires-clause-elsewhere c = still_elsewhere (record { root = c.self.inside.root; tree = c.self.inside.table; commands = c.self.inside.commands.items; ready = c.self.inside.ready }) _ _ c.self.invariant c.args.key c.args.dir c.args.name.now c.in_ok-own_name.own_name
    (subst (λ (old : TreeLog). is_there_already old.tree c.args.key c.args.dir c.args.name.now ≡ false) (sym c.self.view_is) c.requires.elsewhere) c.in_ok-own_name.ensures.made

pub invariant_of-self-2 : goal.invariant_of-self-2
invariant_of-self-2 c =
    let both : Follows (record { root = c.self.inside.root; tree = c.self.inside.table; commands = c.self.inside.commands.items; ready = c.self.inside.ready }) (Rename c.args.key c.args.dir c.args.name.now) (rename_cause c.self.inside.table c.self.inside.root c.args.key c.args.dir c.args.name.now) (vec_capacity c.store.new.commands) (c.self.inside.owed)
    (record { root = c.self.inside.root; tree = c.move_to.new.self; commands = c.store.new.commands.items; ready = None }) = renamed_follows (record { root = c.self.inside.root; tree = c.self.inside.table; commands = c.self.inside.commands.items; ready = c.self.inside.ready }) _ _ c.self.invariant _ c.args.key c.args.dir c.args.name.now c.in_ok-own_name.own_name c.in_ok-stored_name.stored_name c.move_to.new.self c.make_room.new.commands.items c.store.new.commands.items
    (subst (λ (old : TreeLog). rename_cause old.tree old.root c.args.key c.args.dir c.args.name.now ≡ None) (sym c.self.view_is) c.requires.no_cause)
    (subst (λ (old : TreeLog). is_there_already old.tree c.args.key c.args.dir c.args.name.now ≡ false) (sym c.self.view_is) c.requires.elsewhere) c.in_ok-own_name.ensures.made c.in_ok-stored_name.ensures.made
    c.in_ok-move_to.ensures.moved c.in_ok-make_room.ensures.items c.store.ensures.items (omega (arith, c.in_ok-make_room.ensures.room, c.store.ensures.in_place)) in
    both.0

pub returns-clause-accepted : goal.returns-clause-accepted
returns-clause-accepted c =
    let both : Follows (record { root = c.self.inside.root; tree = c.self.inside.table; commands = c.self.inside.commands.items; ready = c.self.inside.ready }) (Rename c.args.key c.args.dir c.args.name.now) (rename_cause c.self.inside.table c.self.inside.root c.args.key c.args.dir c.args.name.now) (vec_capacity c.store.new.commands) (c.self.inside.owed)
    (record { root = c.self.inside.root; tree = c.move_to.new.self; commands = c.store.new.commands.items; ready = None }) = renamed_follows (record { root = c.self.inside.root; tree = c.self.inside.table; commands = c.self.inside.commands.items; ready = c.self.inside.ready }) _ _ c.self.invariant _ c.args.key c.args.dir c.args.name.now c.in_ok-own_name.own_name c.in_ok-stored_name.stored_name c.move_to.new.self c.make_room.new.commands.items c.store.new.commands.items
    (subst (λ (old : TreeLog). rename_cause old.tree old.root c.args.key c.args.dir c.args.name.now ≡ None) (sym c.self.view_is) c.requires.no_cause)
    (subst (λ (old : TreeLog). is_there_already old.tree c.args.key c.args.dir c.args.name.now ≡ false) (sym c.self.view_is) c.requires.elsewhere) c.in_ok-own_name.ensures.made c.in_ok-stored_name.ensures.made
    c.in_ok-move_to.ensures.moved c.in_ok-make_room.ensures.items c.store.ensures.items (omega (arith, c.in_ok-make_room.ensures.room, c.store.ensures.in_place)) in
    subst (λ (old : TreeLog). IsAccepted old (record { root = c.self.inside.root; tree = c.move_to.new.self; commands = c.store.new.commands.items; ready = None })
    (rename_cause old.tree old.root c.args.key c.args.dir c.args.name.now) (Rename c.args.key c.args.dir c.args.name.now)) c.self.view_is both.1
