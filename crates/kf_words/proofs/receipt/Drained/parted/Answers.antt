use Rattle.std.proofs.Common.{subst}
use Rattle.kf_words.specs.Callers.{Handle, handle_of}
use Rattle.kf_words.specs.Made.{FoundInHold}
use Rattle.kf_words.proofs.Made.{part_found}
use Rattle.kf_words.proofs.receipt.Drained.parted.Goals as goal

pub returns-then-has_linked-clause-found : goal.returns-then-has_linked-clause-found
returns-then-has_linked-clause-found c = subst (λ (h : Handle). FoundInHold h (handle_of c.load_hold.new.self)) c.self.view_is (part_found _ _ c.load_hold.ensures.made)

pub returns-else-has_linked-clause-found : goal.returns-else-has_linked-clause-found
returns-else-has_linked-clause-found c = subst (λ (h : Handle). FoundInHold h (handle_of c.load_hold.new.self)) c.self.view_is (part_found _ _ c.load_hold.ensures.made)
