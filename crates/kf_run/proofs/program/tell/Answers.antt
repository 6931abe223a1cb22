use Rattle.std.proofs.Common.{subst}
use Rattle.kf_script.specs.Progress.{WrittenOrCut}
use Rattle.kf_run.proofs.ProgramRuns.{part_of}
use Rattle.kf_run.proofs.program.tell.Goals as goal

pub returns-clause-named : goal.returns-clause-named
returns-clause-named g c = part_of _ _ c.write_whole-written.result _ (subst (WrittenOrCut _ _ c.write_whole-written.result) c.fault_line.ensures c.write_whole-written.ensures.written)
