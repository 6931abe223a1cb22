use Rattle.std.proofs.Common.{◌≡◌, take}
use Rattle.kf_script.proofs.spelling.spells.Given as goal

-- the bytes so far are the same
abbrev pub invariant-loop-at : goal.invariant-loop-at
invariant-loop-at l = take l.at l.word ≡ take l.at l.text
