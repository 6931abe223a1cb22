use Rattle.std.proofs.Common.{◌≡◌, ◌≤◌, take}
use Rattle.kf_script.specs.Requests.{number_of}
use Rattle.kf_script.proofs.kinds.number_up_to.Given as goal

-- the number that the digits so far spell
abbrev pub invariant-loop-digit : goal.invariant-loop-digit
invariant-loop-digit l = (l.number ≡ number_of (take l.digit-index l.digits)) × (l.number ≤ l.fn.greatest)
