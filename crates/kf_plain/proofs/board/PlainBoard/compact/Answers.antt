use Rattle.std.proofs.Common.{refl}
use Rattle.kf_plain.proofs.BoardCommands.{whole_compacted, shown_compacted, shown_starved}
use Rattle.kf_plain.proofs.board.PlainBoard.compact.Goals as goal

pub invariant_of-self : goal.invariant_of-self
invariant_of-self c = whole_compacted c.args.self.now _ c.self.inside.nodes c.compact.new.self c.self.inside.events c.self.inside.texts c.self.inside.files.items c.self.inside.tokens c.self.view_is refl c.self.invariant c.compact.result c.compact.ensures.compacted c.compact.ensures.refused

pub returns-clause-compacted : goal.returns-clause-compacted
returns-clause-compacted c = shown_compacted c.args.self.now _ c.self.inside.nodes c.compact.new.self c.self.inside.events c.self.inside.texts c.self.inside.files.items c.self.inside.tokens c.self.view_is refl c.self.invariant c.compact.result c.compact.ensures.compacted

pub returns-clause-refused : goal.returns-clause-refused
returns-clause-refused c = shown_starved c.args.self.now _ c.self.inside.nodes c.compact.new.self c.self.inside.events c.self.inside.texts c.self.inside.files.items c.self.inside.tokens c.self.view_is refl c.self.invariant c.compact.result c.compact.ensures.refused
