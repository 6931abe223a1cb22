use Rattle.std.proofs.Common.{◌≡◌}
use Rattle.kf_shared.specs.Locked.{history}
use Rattle.kf_registry.proofs.swapping.doom.Given as goal

-- the tries so far noted nothing
abbrev pub invariant-loop : goal.invariant-loop
invariant-loop g l = history l.editor ≡ history l.fn.editor
