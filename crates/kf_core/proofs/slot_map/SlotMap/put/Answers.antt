use Rattle.std.proofs.Common.{◌∙◌, ap, slice_set}
use Rattle.std.specs.Prelude.{None, Some}
use Rattle.kf_core.proofs.SlotLists.{front_set}
use Rattle.kf_core.proofs.slot_map.SlotMap.put.Goals as goal

pub returns : goal.returns
returns g c = record { put = front_set _ c.self.inside.slots c.args.slot None (Some c.args.item) c.reach.ensures.reached ∙ ap (λ l. slice_set l c.args.slot (Some c.args.item)) (c.reach.ensures.same ∙ c.self.view_is) }
