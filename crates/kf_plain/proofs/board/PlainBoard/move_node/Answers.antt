use Rattle.std.proofs.Common.{refl}
use Rattle.kf_plain.specs.PlainTree.{moved_key}
use Rattle.kf_plain.proofs.BoardCommands.{whole_moved, shown_moved, shown_why}
use Rattle.kf_plain.proofs.board.PlainBoard.move_node.Goals as goal

pub invariant_of-self : goal.invariant_of-self
invariant_of-self c = whole_moved c.args.self.now _ c.self.inside.nodes c.move_at.new.self c.self.inside.events c.self.inside.texts c.self.inside.files.items c.self.inside.tokens c.self.view_is refl c.self.invariant c.args.path.now c.args.dir.now c.args.name.now c.move_at.result c.move_at.ensures.moved c.move_at.ensures.refused

pub returns-clause-moved : goal.returns-clause-moved
returns-clause-moved c = shown_moved c.args.self.now _ c.self.inside.nodes c.move_at.new.self c.self.inside.events c.self.inside.texts c.self.inside.files.items c.self.inside.tokens c.self.view_is refl c.self.invariant c.args.path.now c.args.dir.now c.args.name.now c.move_at.result c.move_at.ensures.moved

pub returns-clause-refused : goal.returns-clause-refused
returns-clause-refused c = shown_why c.args.self.now _ c.self.inside.nodes c.move_at.new.self c.self.inside.events c.self.inside.texts c.self.inside.files.items c.self.inside.tokens c.self.view_is refl c.self.invariant (λ l. moved_key l c.args.path.now c.args.dir.now c.args.name.now) c.move_at.result c.move_at.ensures.refused
