use Rattle.std.proofs.Common.{◌≤◌, ◌-◌, length, take}
use Rattle.std.specs.Io.KnownBytes.{Appends}
use Rattle.kf_script.proofs.output.give.Given as goal

-- this many bytes from the front were written
abbrev pub invariant-loop-given : goal.invariant-loop-given
invariant-loop-given g l =
    (l.given ≤ length l.bytes) × Appends (g.W.Write.contents l.fn.writer) (g.W.Write.contents l.writer) (take l.given l.bytes)

abbrev pub decreases-loop-given : goal.decreases-loop-given
decreases-loop-given g l = length l.bytes - l.given
