use Rattle.std.proofs.Common.{◌≡◌}
use Rattle.kf_registry.proofs.lanes.only.Given as goal

-- the owner is still the one that was passed in
abbrev pub invariant-loop : goal.invariant-loop
invariant-loop g l = l.owner ≡ l.fn.own
