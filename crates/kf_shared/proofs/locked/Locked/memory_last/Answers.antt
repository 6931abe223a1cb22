use Rattle.std.proofs.Common.{rules, sym, subst}
use Rattle.kf_tree.specs.TreeLogs.{TreeLog}
use Rattle.kf_words.specs.Nodes.{IsLastKey}
use Rattle.kf_shared.specs.Locked.{Locked}
use Rattle.kf_shared.specs.Removal.{HoldsBelowRefused}
use Rattle.kf_shared.proofs.Rooms.{in_refused, top_full, last_within}
use Rattle.kf_shared.proofs.Told.{held_master}
use Rattle.kf_shared.proofs.locked.Locked.memory_last.Goals as goal

pub returns-then-not-room-clause-memory : goal.returns-then-not-room-clause-memory
returns-then-not-room-clause-memory g c e =
    let last : IsLastKey c.self.inside.master.view c.args.key = subst (λ (l : Locked). IsLastKey l.master.view c.args.key) (sym c.self.view_is) (c.requires.last e) in
    top_full c.args.self.now.state.tree c.args.key c.room.new.self.view (c.room.ensures.full (search rules) (last_within c.self.inside.master.view c.args.key last))

pub invariant_of-self-2 : goal.invariant_of-self-2
invariant_of-self-2 g c =
    held_master g.N.Naming.table c.self.inside.state c.room.new.self c.full_or_no_memory.new.master c.self.inside.claims.items
    (held_master g.N.Naming.table c.self.inside.state c.self.inside.master c.room.new.self c.self.inside.claims.items c.self.invariant c.room.ensures.kept) c.full_or_no_memory.ensures.kept

pub returns-clause-memory : goal.returns-clause-memory
returns-clause-memory g c e =
    in_refused c.args.self.now.state.tree c.args.key c.room.new.self.view c.full_or_no_memory.new.master.view c.full_or_no_memory.result
    (c.room.ensures.room (search rules)) c.full_or_no_memory.ensures.rooms
    (subst (λ (l : Locked). HoldsBelowRefused l.state.tree c.args.key c.full_or_no_memory.new.master.view c.full_or_no_memory.result) c.self.view_is
    (subst (λ (t : TreeLog). HoldsBelowRefused t.tree c.args.key c.full_or_no_memory.new.master.view c.full_or_no_memory.result) c.state.ensures.same c.full_or_no_memory.ensures.refused))
