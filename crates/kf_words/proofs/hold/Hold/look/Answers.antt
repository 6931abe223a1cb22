use Rattle.std.proofs.Common.{subst}
use Rattle.kf_words.specs.Callers.{Handle, handle_of}
use Rattle.kf_words.specs.Made.{FoundThere}
use Rattle.kf_words.proofs.Made.{look_found}
use Rattle.kf_words.proofs.hold.Hold.look.Goals as goal

pub returns-then-is_drained-clause-found : goal.returns-then-is_drained-clause-found
returns-then-is_drained-clause-found c = subst (λ (h : Handle). FoundThere h (handle_of c.load.new.self)) c.self.view_is (look_found _ _ c.load.ensures.made)

pub returns-else-is_drained-clause-found : goal.returns-else-is_drained-clause-found
returns-else-is_drained-clause-found c = subst (λ (h : Handle). FoundThere h (handle_of c.load.new.self)) c.self.view_is (look_found _ _ c.load.ensures.made)
