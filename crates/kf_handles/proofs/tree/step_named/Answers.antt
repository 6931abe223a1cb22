use Rattle.std.proofs.Common.{subst, sym}
use Rattle.kf_handles.specs.Kept.{AreTokensOf}
use Rattle.kf_handles.proofs.tree.step_named.Goals as goal

-- `N` names the table of the nodes, so the tokens are of the table that `N` names
pub step_locked-reply-requires : goal.step_locked-reply-requires
step_locked-reply-requires g c = subst (λ t. AreTokensOf t c.args.hidden.now.items) c.requires.table c.requires.tokens

pub returns-clause-tokens : goal.returns-clause-tokens
returns-clause-tokens g c =
    subst (λ t. AreTokensOf t c.step_locked-reply.new.tokens.items) (sym c.requires.table) c.step_locked-reply.ensures.tokens
