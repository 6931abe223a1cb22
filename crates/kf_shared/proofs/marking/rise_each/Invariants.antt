use Rattle.std.proofs.Common.{take}
use Rattle.kf_tree.specs.SlotMarks.{Changed, risen_if}
use Rattle.kf_shared.specs.Agreement.{OnlyMarks}
use Rattle.kf_shared.proofs.marking.rise_each.Given as goal

-- the first nodes have risen, and nothing else changed
abbrev pub invariant-loop-key : goal.invariant-loop-key
invariant-loop-key l = Changed risen_if (take l.key-index l.keys) l.fn.master.view.slots l.master.view.slots × OnlyMarks l.fn.master l.master
