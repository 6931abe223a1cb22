use Rattle.std.proofs.Common.{◌≡◌, ◌+◌, ◌++◌, List, length}
use Rattle.std.specs.Vec.Iter.{into_iter_items, into_iter_len}
use Rattle.kf_uevents.specs.declared.uevent.Uevent.{Uevent}
use Rattle.kf_uevents.specs.Logs.{Told, told_count}
use Rattle.kf_uevents.proofs.log.UeventLog.push_all.Given as goal

abbrev pub invariant-loop-event : goal.invariant-loop-event
invariant-loop-event l = (done : List Uevent) × (l.fn.events.items ≡ done ++ into_iter_items l.rest)
    × Told l.initial.self l.self done × (told_count l.self ≡ told_count l.initial.self + length done)

abbrev pub decreases-loop-event : goal.decreases-loop-event
decreases-loop-event l = into_iter_len l.rest
