use Rattle.std.proofs.Common.{◌≡◌, drop}
use Rattle.std.specs.Ordering.{nat_cmp}
use Rattle.std.specs.Cmp.Lexicographic.{slice_cmp}
use Rattle.kf_index.proofs.compare.by_bytes.Given as goal

abbrev pub invariant-loop-at : goal.invariant-loop-at
invariant-loop-at l = slice_cmp nat_cmp l.a l.b ≡ slice_cmp nat_cmp (drop l.at l.a) (drop l.at l.b)
