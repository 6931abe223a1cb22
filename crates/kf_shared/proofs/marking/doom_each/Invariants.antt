use Rattle.std.proofs.Common.{take}
use Rattle.kf_tree.specs.SlotMarks.{Changed, doomed_if}
use Rattle.kf_shared.specs.Agreement.{OnlyMarks}
use Rattle.kf_shared.proofs.marking.doom_each.Given as goal

-- the first nodes are doomed, and nothing else changed
abbrev pub invariant-loop-key : goal.invariant-loop-key
invariant-loop-key l = Changed doomed_if (take l.key-index l.keys) l.fn.master.view.slots l.master.view.slots × OnlyMarks l.fn.master l.master
