use Rattle.std.proofs.Common.{◌≡◌, ℕ, List, ◌++◌, length, Option}
use Rattle.std.specs.Io.KnownBytes.{append_known}
use Rattle.kf_script.specs.Progress.{Grows}
use Rattle.kf_script.specs.SoFar.{AnsweredSoFar}
use Rattle.kf_script.proofs.script.take_bytes.Given as goal

-- the run has come as far as the bytes taken so far, and the rest follows them
abbrev pub invariant-loop-at : goal.invariant-loop-at
invariant-loop-at g l =
    (done : List ℕ) × (l.bytes ≡ done ++ l.rest)
    × ((first : g.row.B.Denot) (read : List ℕ) (start : Option (List ℕ))
    → AnsweredSoFar g.B.Board.step first l.fn.board read l.fn.line start (append_known (g.W.Write.contents l.fn.output.writer.now) l.fn.output.kept.now.items)
    → AnsweredSoFar g.B.Board.step first l.board (read ++ done) l.line start (append_known (g.W.Write.contents l.output.writer.now) l.output.kept.now.items))
    × (l.output.writer.ghost_name ≡ l.fn.output.writer.ghost_name)
    × Grows (g.W.Write.contents l.fn.output.writer.now) (g.W.Write.contents l.output.writer.now)

abbrev pub decreases-loop-at : goal.decreases-loop-at
decreases-loop-at g l = length l.rest
