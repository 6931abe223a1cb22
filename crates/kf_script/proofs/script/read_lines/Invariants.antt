use Rattle.std.proofs.Common.{◌≡◌, ℕ, List}
use Rattle.std.specs.Io.KnownBytes.{Consumes, append_known}
use Rattle.kf_script.specs.Progress.{Grows}
use Rattle.kf_script.specs.SoFar.{AnsweredSoFar}
use Rattle.kf_script.proofs.script.read_lines.Given as goal

-- the run has come as far as the bytes that were read, with the same reader and writer
abbrev pub invariant-reads : goal.invariant-reads
invariant-reads g l = (read : List ℕ)
    × Consumes (g.R.Read.remaining l.fn.streams.reader.now) (g.R.Read.remaining l.streams.reader.now) read
    × AnsweredSoFar g.B.Board.step l.fn.board l.board read l.line (g.W.Write.contents l.fn.streams.output.writer.now) (append_known (g.W.Write.contents l.streams.output.writer.now) l.streams.output.kept.now.items)
    × (l.streams.reader.ghost_name ≡ l.fn.streams.reader.ghost_name)
    × (l.streams.output.writer.ghost_name ≡ l.fn.streams.output.writer.ghost_name)
    × Grows (g.W.Write.contents l.fn.streams.output.writer.now) (g.W.Write.contents l.streams.output.writer.now)

-- how many calls of read are left
abbrev pub decreases-reads : goal.decreases-reads
decreases-reads g l = l.streams.left
