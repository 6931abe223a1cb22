use Rattle.kf_core.specs.declared.refusal.Refusal.TheVariants.{Invalid}
use Rattle.kf_device.proofs.bus.Bus.name_of.Goals as goal

pub returns-in-None : goal.returns-in-None
returns-in-None g c = record { refused = (Invalid, c.unknown.ensures.value) }
