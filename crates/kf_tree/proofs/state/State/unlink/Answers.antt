use Rattle.std.proofs.Common.{◌≡◌, ◌∙◌, sym, subst, arith}
use Rattle.kf_core.specs.declared.command.Command.TheVariants.{Unlink}
use Rattle.std.specs.Prelude.{MatchBool, ◌-◌}
use Rattle.kf_tree.specs.Causes.{unlink_cause}
use Rattle.kf_tree.proofs.Allowed.{may_unlink}
use Rattle.kf_tree.specs.TreeLogs.{TreeLog, IsAccepted}
use Rattle.std.specs.Prelude.{None, vec_capacity}
use Rattle.kf_tree.proofs.Sound.{Follows, room_to_unlink, unlinked_follows}
use Rattle.kf_tree.proofs.state.State.unlink.Goals as goal

pub overflow_sub-self : goal.overflow_sub-self
overflow_sub-self c = (let some = (room_to_unlink (record { root = c.self.inside.root; tree = c.self.inside.table; commands = c.self.inside.commands.items; ready = c.self.inside.ready }) _ _ c.self.invariant c.args.key
    (may_unlink c.self.inside.table c.self.inside.root c.args.key (c.in_ok-linked.ensures.checked.0 ∙ c.if-linked.true) (c.in_ok-linked.ensures.checked.1 c.if-linked.true))).1 in omega (arith, some, c.owed_for.ensures.value))

pub store-requires : goal.store-requires
store-requires c = record {
  room = ((room_to_unlink (record { root = c.self.inside.root; tree = c.self.inside.table; commands = c.self.inside.commands.items; ready = c.self.inside.ready }) _ _ c.self.invariant c.args.key
      (may_unlink c.self.inside.table c.self.inside.root c.args.key (c.in_ok-linked.ensures.checked.0 ∙ c.if-linked.true) (c.in_ok-linked.ensures.checked.1 c.if-linked.true))).0);
}

both : (c : goal.After-store) → Follows (record { root = c.self.inside.root; tree = c.self.inside.table; commands = c.self.inside.commands.items; ready = c.self.inside.ready }) (Unlink c.args.key) (unlink_cause c.self.inside.table c.args.key) (vec_capacity c.store.new.commands) (c.self.inside.owed - c.owed_for.result)
    (record { root = c.self.inside.root; tree = c.take_out.new.self; commands = c.store.new.commands.items; ready = None })
both c = (let some = room_to_unlink (record { root = c.self.inside.root; tree = c.self.inside.table; commands = c.self.inside.commands.items; ready = c.self.inside.ready }) _ _ c.self.invariant c.args.key
    (may_unlink c.self.inside.table c.self.inside.root c.args.key (c.in_ok-linked.ensures.checked.0 ∙ c.if-linked.true) (c.in_ok-linked.ensures.checked.1 c.if-linked.true)) in
    unlinked_follows (record { root = c.self.inside.root; tree = c.self.inside.table; commands = c.self.inside.commands.items; ready = c.self.inside.ready }) _ _ c.self.invariant _ (c.self.inside.owed - c.owed_for.result) c.args.key c.take_out.new.self c.store.new.commands.items
    (c.in_ok-linked.ensures.checked.0 ∙ c.if-linked.true) (c.in_ok-linked.ensures.checked.1 c.if-linked.true) c.take_out.ensures.taken (omega (arith, some.1, c.owed_for.ensures.value)) c.store.ensures.items (omega (arith, c.store.ensures.in_place)))

pub invariant_of-self : goal.invariant_of-self
invariant_of-self c = (both c).0

pub returns-then-linked-clause-accepted : goal.returns-then-linked-clause-accepted
returns-then-linked-clause-accepted c = subst (λ b. MatchBool b
    (IsAccepted c.args.self.now (record { root = c.self.inside.root; tree = c.take_out.new.self; commands = c.store.new.commands.items; ready = None }) (unlink_cause c.args.self.now.tree c.args.key) (Unlink c.args.key))
    (record { root = c.self.inside.root; tree = c.take_out.new.self; commands = c.store.new.commands.items; ready = None } ≡ c.args.self.now)) (sym c.if-linked.true)
    (subst (λ (old : TreeLog). IsAccepted old (record { root = c.self.inside.root; tree = c.take_out.new.self; commands = c.store.new.commands.items; ready = None }) (unlink_cause old.tree c.args.key) (Unlink c.args.key))
    c.self.view_is (both c).1)
