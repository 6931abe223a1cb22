use Rattle.kf_plain.proofs.BoardRemovals.{whole_removed, shown_removed, shown_not_removed}
use Rattle.kf_plain.proofs.board.PlainBoard.remove.Goals as goal

pub invariant_of-self : goal.invariant_of-self
invariant_of-self c = whole_removed c.args.self.now c.self.inside.nodes c.remove_at.new.self c.self.inside.events c.self.inside.events c.self.inside.texts c.self.inside.files.items c.self.inside.tokens c.self.view_is c.self.invariant c.args.path.now c.remove_at.result c.remove_at.ensures.removed c.remove_at.ensures.refused

pub returns-clause-removed : goal.returns-clause-removed
returns-clause-removed c = shown_removed c.args.self.now c.self.inside.nodes c.remove_at.new.self c.self.inside.events c.self.inside.events c.self.inside.texts c.self.inside.files.items c.self.inside.tokens c.self.view_is c.self.invariant c.args.path.now c.remove_at.result c.remove_at.ensures.removed

pub returns-clause-refused : goal.returns-clause-refused
returns-clause-refused c = shown_not_removed c.args.self.now c.self.inside.nodes c.remove_at.new.self c.self.inside.events c.self.inside.events c.self.inside.texts c.self.inside.files.items c.self.inside.tokens c.self.view_is c.self.invariant c.args.path.now c.remove_at.result c.remove_at.ensures.refused
