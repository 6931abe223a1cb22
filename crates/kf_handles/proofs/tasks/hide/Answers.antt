use Rattle.std.proofs.Common.{rules}
use Rattle.kf_handles.specs.Calls.{key_in}
use Rattle.kf_handles.specs.Tasks.{SteppedBehind}
use Rattle.kf_handles.specs.declared.questions.TreeReply.TheVariants as told
use Rattle.kf_handles.specs.declared.questions.Task.TheVariants as asks
use Rattle.kf_handles.proofs.Refusals.{step_told}
use Rattle.kf_handles.proofs.tasks.hide.Goals as goal
use Rattle.kf_handles.proofs.tasks.hide.Goals.{in-Done, in-Not, in-Refused, in_default}

-- one case for each result
pub returns-clause-why : goal.returns-clause-why
returns-clause-why c = λ not_done not_again. elim c.match-step_handle.branch [
  | in-Done w ↦ search (rules, w, not_done)
  | in-Not w ↦ search (rules, w, not_again)
  | in-Refused w ↦
      let refused : SteppedBehind (asks.Hide (key_in c.args.key)) c.args.handle.now.place.object c.step_handle.new.handle.place.object
      (told.Refused w.in-Refused.refusal) = search (rules, w) in
      step_told (asks.Hide (key_in c.args.key)) c.args.handle.now.place.object c.step_handle.new.handle.place.object w.in-Refused.refusal _
      refused (search (rules, w))
  | in_default w ↦ search (rules, w)
]
