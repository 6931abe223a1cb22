use Rattle.std.proofs.Common.{refl}
use Rattle.kf_core.specs.declared.key.Node.TheVariants.{Dir}
use Rattle.kf_plain.specs.PlainTree.{new_spot}
use Rattle.kf_plain.proofs.BoardCommands.{whole_created, shown_created, shown_why_next, untagged}
use Rattle.kf_plain.proofs.board.PlainBoard.make_directory.Goals as goal

pub invariant_of-self : goal.invariant_of-self
invariant_of-self c = whole_created c.args.self.now _ c.self.inside.nodes c.create_at.new.self c.self.inside.events c.self.inside.texts c.self.inside.files.items c.self.inside.tokens c.self.view_is refl c.self.invariant c.args.path.now Dir c.args.is_live c.next_key-next.result c.create_at.result (untagged c.create_at.result) c.create_at.ensures.made c.create_at.ensures.refused

pub returns-clause-made : goal.returns-clause-made
returns-clause-made c = shown_created c.args.self.now _ c.self.inside.nodes c.create_at.new.self c.self.inside.events c.self.inside.texts c.self.inside.files.items c.self.inside.tokens c.self.view_is refl c.self.invariant c.args.path.now Dir c.args.is_live c.next_key-next.result c.create_at.result c.next_key-next.ensures.next c.create_at.ensures.given c.create_at.ensures.made

pub returns-clause-refused : goal.returns-clause-refused
returns-clause-refused c = shown_why_next c.args.self.now _ c.self.inside.nodes c.create_at.new.self c.self.inside.events c.self.inside.texts c.self.inside.files.items c.self.inside.tokens c.self.view_is refl c.self.invariant (λ l o. new_spot l c.args.path.now Dir o) c.next_key-next.result c.create_at.result c.next_key-next.ensures.next c.create_at.ensures.refused
