use Rattle.kf_plain.specs.PlainHide.{hide_held, hidden_key}
use Rattle.kf_plain.proofs.BoardShows.{why_shown, spent_shown, spent_whole}
use Rattle.kf_plain.proofs.BoardTokens.{whole_hidden, shown_hidden}
use Rattle.kf_plain.proofs.board.PlainBoard.hide.Goals as goal

pub invariant_of-self : goal.invariant_of-self
invariant_of-self c = rw c.set.ensures.set (whole_hidden c.args.self.now c.self.inside.nodes c.hide_at.new.self c.self.inside.events c.self.inside.texts c.self.inside.files.items c.self.inside.tokens c.self.view_is c.self.invariant c.in-Ok.token c.in-Ok.ensures.hidden c.in-Ok.ensures.linked c.in-Ok.ensures.hold c.in-Ok.ensures.first)

pub invariant_of-self-in-Err : goal.invariant_of-self-in-Err
invariant_of-self-in-Err c = spent_whole c.args.self.now c.self.inside.nodes c.hide_at.new.self c.self.inside.events c.self.inside.events c.self.inside.texts c.self.inside.files.items c.self.inside.tokens c.self.view_is c.self.invariant c.in-Err.ensures.refused.1.0 c.in-Err.ensures.refused.1.1

pub returns-in-Ok-clause-hidden : goal.returns-in-Ok-clause-hidden
returns-in-Ok-clause-hidden c = rw c.set.ensures.set (shown_hidden c.args.self.now c.self.inside.nodes c.hide_at.new.self c.self.inside.events c.self.inside.texts c.self.inside.files.items c.self.inside.tokens c.self.view_is c.self.invariant c.in-Ok.token c.in-Ok.ensures.hidden c.args.path.now c.in-Ok.ensures.leads)

pub returns-in-Err-clause-refused : goal.returns-in-Err-clause-refused
returns-in-Err-clause-refused c = (
  why_shown c.args.self.now c.self.inside.nodes c.hide_at.new.self c.self.inside.events c.self.inside.events c.self.inside.texts c.self.inside.files.items c.self.inside.tokens c.self.view_is c.self.invariant (λ l. hide_held l c.args.path.now) (λ l k m. hidden_key l k m c.args.path.now) c.in-Err.refusal c.in-Err.ensures.refused.0,
  spent_shown c.args.self.now c.self.inside.nodes c.hide_at.new.self c.self.inside.events c.self.inside.events c.self.inside.texts c.self.inside.files.items c.self.inside.tokens c.self.view_is c.self.invariant c.in-Err.ensures.refused.1.0 c.in-Err.ensures.refused.1.1,
)
