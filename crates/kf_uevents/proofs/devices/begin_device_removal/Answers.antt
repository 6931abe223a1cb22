use Rattle.std.proofs.Common.{◌∙◌, sym}
use Rattle.kf_uevents.specs.declared.uevent.Action.TheVariants.{Remove}
use Rattle.kf_uevents.proofs.Reported.{told_device}
use Rattle.kf_uevents.proofs.devices.begin_device_removal.Goals as goal

pub returns-clause-told : goal.returns-clause-told
returns-clause-told g c =
    told_device c.state-state.result.now c.args.editor.now.state c.args.key Remove c.in_ok-gone.gone c.args.log.now c.push.new.self
    c.state-state.ensures.same (sym c.is_told.ensures.known ∙ c.if-not-is_told.false)
    c.in_ok-gone.ensures.keyed c.in_ok-gone.ensures.event c.push.ensures.told
