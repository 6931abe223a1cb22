use Rattle.std.proofs.Common.{◌≡◌}
use Rattle.kf_registry.proofs.hot_caller.lend_inside.Given as goal

-- the function is still the one that was passed in
abbrev pub invariant-loop : goal.invariant-loop
invariant-loop g l = l.next ≡ l.fn.f
