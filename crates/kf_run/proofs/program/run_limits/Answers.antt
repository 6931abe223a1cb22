use Rattle.std.proofs.Common.{◌∙◌, ap}
use Rattle.kf_plain.specs.Plain.{new_board}
use Rattle.kf_run.proofs.ProgramRuns.{ran_on, stopped_on}
use Rattle.kf_run.proofs.program.run_limits.Goals as goal

pub returns-clause-ran : goal.returns-clause-ran
returns-clause-ran g c =
    ran_on c.args.limits.slots c.in-Ok.board _ _ _ _ _ c.run_script.result (c.in-Ok.ensures.made ∙ ap (λ holds. new_board c.args.limits.slots holds 0) c.requires) c.run_script.ensures.ok

pub returns-clause-stopped : goal.returns-clause-stopped
returns-clause-stopped g c =
    stopped_on c.args.limits.slots c.in-Ok.board _ _ _ _ _ c.run_script.result (c.in-Ok.ensures.made ∙ ap (λ holds. new_board c.args.limits.slots holds 0) c.requires)
    c.run_script.ensures.read c.run_script.ensures.write c.run_script.ensures.memory
