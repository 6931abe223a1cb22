-- The counts of a slot that a caller holds were written.
use Rattle.std.proofs.Common.{sym, subst}
use Rattle.kf_world.specs.Counts.{IsHeldIn, no_counts}
use Rattle.kf_core.proofs.SlotLists.{written}
use Rattle.kf_world.proofs.CountLists.{held_written}
use Rattle.kf_world.proofs.count_list.CountList.set_held.Goals as goal

pub returns : goal.returns
returns c =
    let held = held_written _ _ c.args.slot (subst (λ l. IsHeldIn l c.args.slot) (sym c.self.view_is) c.requires.held) in
    record { set = written _ _ c.self.inside.slots c.args.slot no_counts c.args.counts held c.self.view_is }
