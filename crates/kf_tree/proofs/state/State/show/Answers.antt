use Rattle.std.proofs.Common.{◌≡◌, ◌∙◌, sym, subst, arith}
use Rattle.std.specs.Prelude.{None, vec_capacity, ◌-◌, MatchBool, true}
use Rattle.kf_core.specs.declared.command.Command.TheVariants.{Show}
use Rattle.kf_tree.specs.Causes.{hidden_in}
use Rattle.kf_tree.specs.TreeLogs.{TreeLog, IsAccepted}
use Rattle.kf_tree.proofs.Sound.{Follows, room_to_show, shown_follows}
use Rattle.kf_tree.proofs.state.State.show.Goals as goal

pub overflow_sub-self : goal.overflow_sub-self
overflow_sub-self c = (room_to_show (record { root = c.self.inside.root; tree = c.self.inside.table; commands = c.self.inside.commands.items; ready = c.self.inside.ready }) _ _ c.self.invariant c.args.key (sym c.is_hidden-hidden.ensures.known ∙ c.if-hidden.true)).1

pub store-requires : goal.store-requires
store-requires c = record {
  room = (room_to_show (record { root = c.self.inside.root; tree = c.self.inside.table; commands = c.self.inside.commands.items; ready = c.self.inside.ready }) _ _ c.self.invariant c.args.key (sym c.is_hidden-hidden.ensures.known ∙ c.if-hidden.true)).0;
}

both : (c : goal.After-store) → Follows (record { root = c.self.inside.root; tree = c.self.inside.table; commands = c.self.inside.commands.items; ready = c.self.inside.ready }) (Show c.args.key) None (vec_capacity c.store.new.commands) (c.self.inside.owed - 1)
    (record { root = c.self.inside.root; tree = c.show.new.self; commands = c.store.new.commands.items; ready = None })
both c = (let hidden : hidden_in c.self.inside.table c.args.key ≡ true = sym c.is_hidden-hidden.ensures.known ∙ c.if-hidden.true in
    let some = room_to_show (record { root = c.self.inside.root; tree = c.self.inside.table; commands = c.self.inside.commands.items; ready = c.self.inside.ready }) _ _ c.self.invariant c.args.key hidden in
    shown_follows (record { root = c.self.inside.root; tree = c.self.inside.table; commands = c.self.inside.commands.items; ready = c.self.inside.ready }) _ _ c.self.invariant _ (c.self.inside.owed - 1) c.args.key c.show.new.self c.store.new.commands.items
    hidden c.show.ensures.changed (omega (arith, some.1)) c.store.ensures.items (omega (arith, c.store.ensures.in_place)))

pub invariant_of-self : goal.invariant_of-self
invariant_of-self c = (both c).0

pub returns-then-hidden-clause-accepted : goal.returns-then-hidden-clause-accepted
returns-then-hidden-clause-accepted c = subst (λ b. MatchBool b
    (IsAccepted c.args.self.now (record { root = c.self.inside.root; tree = c.show.new.self; commands = c.store.new.commands.items; ready = None }) None (Show c.args.key))
    (record { root = c.self.inside.root; tree = c.show.new.self; commands = c.store.new.commands.items; ready = None } ≡ c.args.self.now)) (sym c.if-hidden.true)
    (subst (λ (old : TreeLog). IsAccepted old (record { root = c.self.inside.root; tree = c.show.new.self; commands = c.store.new.commands.items; ready = None }) None (Show c.args.key))
    c.self.view_is (both c).1)
