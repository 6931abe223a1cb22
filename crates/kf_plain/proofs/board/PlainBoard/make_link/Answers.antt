use Rattle.std.proofs.Common.{refl}
use Rattle.kf_plain.specs.PlainTree.{new_link_spot}
use Rattle.kf_plain.proofs.BoardCommands.{whole_linked, shown_linked, shown_why_next}
use Rattle.kf_plain.proofs.board.PlainBoard.make_link.Goals as goal

pub invariant_of-self : goal.invariant_of-self
invariant_of-self c = whole_linked c.args.self.now _ c.self.inside.nodes c.link_at.new.self c.self.inside.events c.self.inside.texts c.self.inside.files.items c.self.inside.tokens c.self.view_is refl c.self.invariant c.args.path.now c.args.target.now c.next_key-next.result c.link_at.result c.link_at.ensures.made c.link_at.ensures.refused

pub returns-clause-made : goal.returns-clause-made
returns-clause-made c = shown_linked c.args.self.now _ c.self.inside.nodes c.link_at.new.self c.self.inside.events c.self.inside.texts c.self.inside.files.items c.self.inside.tokens c.self.view_is refl c.self.invariant c.args.path.now c.args.target.now c.next_key-next.result c.link_at.result c.next_key-next.ensures.next c.link_at.ensures.given c.link_at.ensures.made

pub returns-clause-refused : goal.returns-clause-refused
returns-clause-refused c = shown_why_next c.args.self.now _ c.self.inside.nodes c.link_at.new.self c.self.inside.events c.self.inside.texts c.self.inside.files.items c.self.inside.tokens c.self.view_is refl c.self.invariant (λ l o. new_link_spot l c.args.path.now c.args.target.now o) c.next_key-next.result c.link_at.result c.next_key-next.ensures.next c.link_at.ensures.refused
