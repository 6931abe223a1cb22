use Rattle.std.proofs.Common.{refl, sym, ◌∙◌}
use Rattle.std.proofs.lemmas.Option.{slice_get_read}
use Rattle.kf_plain.proofs.BoardOpens.{not_opened, not_opened_whole, opened_whole, opened_shown}
use Rattle.kf_plain.proofs.board.PlainBoard.open.Goals as goal

pub invariant_of-self : goal.invariant_of-self
invariant_of-self c = opened_whole c.args.self.now c.self.inside.nodes c.open_at.new.self c.self.inside.events c.self.inside.events c.self.inside.texts c.self.inside.files.items c.self.inside.tokens c.self.view_is c.self.invariant c.args.file c.args.path.now c.args.want c.index.result.now (slice_get_read c.self.inside.files.items 26 c.args.file c.index.result.now (sym c.self.invariant.a_file_each) c.requires.letter c.index.ensures) (sym c.is_some.ensures ∙ c.if-is_some.false) refl c.in-Ok.opened c.in-Ok.ensures.opened c.in-Ok.ensures.held

pub invariant_of-self-in-Err : goal.invariant_of-self-in-Err
invariant_of-self-in-Err c = not_opened_whole c.args.self.now c.self.inside.nodes c.open_at.new.self c.self.inside.events c.self.inside.events c.self.inside.texts c.self.inside.files.items c.self.inside.tokens c.self.view_is c.self.invariant c.args.file c.args.path.now c.args.want c.index.result.now (slice_get_read c.self.inside.files.items 26 c.args.file c.index.result.now (sym c.self.invariant.a_file_each) c.requires.letter c.index.ensures) (sym c.is_some.ensures ∙ c.if-is_some.false) refl c.in-Err.ensures.refused.1.0 c.in-Err.ensures.refused.1.1

pub returns-in-Ok-clause-opened : goal.returns-in-Ok-clause-opened
returns-in-Ok-clause-opened c = opened_shown c.args.self.now c.self.inside.nodes c.open_at.new.self c.self.inside.events c.self.inside.events c.self.inside.texts c.self.inside.files.items c.self.inside.tokens c.self.view_is c.self.invariant c.args.file c.args.path.now c.args.want c.index.result.now (slice_get_read c.self.inside.files.items 26 c.args.file c.index.result.now (sym c.self.invariant.a_file_each) c.requires.letter c.index.ensures) (sym c.is_some.ensures ∙ c.if-is_some.false) refl c.in-Ok.opened c.in-Ok.ensures.opened c.in-Ok.ensures.held

pub returns-in-Err-clause-refused : goal.returns-in-Err-clause-refused
returns-in-Err-clause-refused c = not_opened c.args.self.now c.self.inside.nodes c.open_at.new.self c.self.inside.events c.self.inside.events c.self.inside.texts c.self.inside.files.items c.self.inside.tokens c.self.view_is c.self.invariant c.args.file c.args.path.now c.args.want c.index.result.now (slice_get_read c.self.inside.files.items 26 c.args.file c.index.result.now (sym c.self.invariant.a_file_each) c.requires.letter c.index.ensures) (sym c.is_some.ensures ∙ c.if-is_some.false) refl c.in-Err.refusal c.in-Err.ensures.refused.0 c.in-Err.ensures.refused.1.0 c.in-Err.ensures.refused.1.1
