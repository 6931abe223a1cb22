use Rattle.kf_device.proofs.Stops.{if_ok}
use Rattle.kf_device.proofs.bus.Bus.plug_in.Goals as goal

pub returns-clause-plugged : goal.returns-clause-plugged
returns-clause-plugged g c =
    if_ok _ _ c.make-made.result (λ dir plugged. (c.in-Ok.serial, c.make-made.new.nodes, plugged)) c.make-made.ensures.plugged
