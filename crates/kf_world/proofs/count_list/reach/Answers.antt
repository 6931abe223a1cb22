-- Writing more counts changes none: the new ones are those that the unwritten part stood for.
use Rattle.std.proofs.Common.{rules, ◌≡◌, ◌≤◌, ◌+◌, ◌-◌, ◌++◌, length, replicate, take}
use Rattle.kf_world.specs.Counts.{no_counts}
use Rattle.kf_core.proofs.SlotLists.{rest_written}
use Rattle.kf_world.proofs.count_list.reach.Goals as goal

pub returns-then-len-slot-clause-same : goal.returns-then-len-slot-clause-same
returns-then-len-slot-clause-same c =
    let few : length c.args.items.now.items ≤ c.args.slot + 1 = search rules in
    let within : c.args.slot + 1 ≤ c.args.slots = search rules in
    let is : c.resize.new.self.items ≡ take (c.args.slot + 1) c.args.items.now.items ++ replicate (c.args.slot + 1 - length c.args.items.now.items) no_counts = search rules in
    rest_written _ _ c.args.slots (c.args.slot + 1) no_counts few within is
