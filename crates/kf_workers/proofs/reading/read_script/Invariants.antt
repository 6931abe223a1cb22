use Rattle.std.specs.Io.KnownBytes.{Consumes}
use Rattle.kf_workers.proofs.reading.read_script.Given as goal

-- the script is all that was read so far
abbrev pub invariant-reads : goal.invariant-reads
invariant-reads g l = Consumes (g.R.Read.remaining l.fn.reader) (g.R.Read.remaining l.reader) l.script.items
