use Rattle.std.proofs.Common.{◌∙◌}
use Rattle.kf_core.proofs.SlotLists.{written}
use Rattle.kf_core.proofs.slot_list.SlotList.set.Goals as goal

pub returns : goal.returns
returns g c = record { set = written _ _ c.self.inside.slots c.args.slot c.self.inside.rest c.args.item c.reach.ensures.reached (c.reach.ensures.same ∙ c.self.view_is) }
