use Rattle.std.proofs.Common.{subst}
use Rattle.kf_words.specs.Callers.{Handle, handle_of}
use Rattle.kf_words.specs.Made.{FoundThere}
use Rattle.kf_words.proofs.Made.{look_hidden_found}
use Rattle.kf_words.proofs.hiding.Hiding.look.Goals as goal

pub returns-then-is_unused-clause-found : goal.returns-then-is_unused-clause-found
returns-then-is_unused-clause-found c = subst (λ (h : Handle). FoundThere h (handle_of c.load_hidden.new.self)) c.self.view_is (look_hidden_found _ _ c.load_hidden.ensures.made)

pub returns-else-is_unused-clause-found : goal.returns-else-is_unused-clause-found
returns-else-is_unused-clause-found c = subst (λ (h : Handle). FoundThere h (handle_of c.load_hidden.new.self)) c.self.view_is (look_hidden_found _ _ c.load_hidden.ensures.made)
