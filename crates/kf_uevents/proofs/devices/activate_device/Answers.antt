use Rattle.std.proofs.Common.{◌∙◌, sym}
use Rattle.kf_uevents.specs.declared.uevent.Action.TheVariants.{Add}
use Rattle.kf_uevents.proofs.Reported.{told_device}
use Rattle.kf_uevents.proofs.devices.activate_device.Goals as goal

pub returns-clause-told : goal.returns-clause-told
returns-clause-told g c =
    told_device c.state-state.result.now c.args.editor.now.state c.args.key Add c.in_ok-event.event c.args.log.now c.push.new.self
    c.state-state.ensures.same (sym c.is_told.ensures.known ∙ c.if-not-is_told.false)
    c.in_ok-event.ensures.keyed c.in_ok-event.ensures.event c.push.ensures.told
