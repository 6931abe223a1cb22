use Rattle.std.proofs.Common.{refl}
use Rattle.kf_plain.specs.PlainTree.{activated_key}
use Rattle.kf_plain.proofs.BoardCommands.{whole_activated, shown_activated, shown_why}
use Rattle.kf_plain.proofs.board.PlainBoard.activate.Goals as goal

pub invariant_of-self : goal.invariant_of-self
invariant_of-self c = whole_activated c.args.self.now _ c.self.inside.nodes c.activate_at.new.self c.self.inside.events c.self.inside.texts c.self.inside.files.items c.self.inside.tokens c.self.view_is refl c.self.invariant c.args.path.now c.activate_at.result c.activate_at.ensures.activated c.activate_at.ensures.refused

pub returns-clause-activated : goal.returns-clause-activated
returns-clause-activated c = shown_activated c.args.self.now _ c.self.inside.nodes c.activate_at.new.self c.self.inside.events c.self.inside.texts c.self.inside.files.items c.self.inside.tokens c.self.view_is refl c.self.invariant c.args.path.now c.activate_at.result c.activate_at.ensures.activated

pub returns-clause-refused : goal.returns-clause-refused
returns-clause-refused c = shown_why c.args.self.now _ c.self.inside.nodes c.activate_at.new.self c.self.inside.events c.self.inside.texts c.self.inside.files.items c.self.inside.tokens c.self.view_is refl c.self.invariant (λ l. activated_key l c.args.path.now) c.activate_at.result c.activate_at.ensures.refused
