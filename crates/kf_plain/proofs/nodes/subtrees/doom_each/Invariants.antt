use Rattle.std.proofs.Common.{take}
use Rattle.kf_tree.specs.SlotMarks.{Changed, doomed_if}
use Rattle.kf_plain.specs.Nodes.{OnlyMarks}
use Rattle.kf_plain.proofs.nodes.subtrees.doom_each.Given as goal

-- the first nodes are doomed, and nothing else has changed
abbrev pub invariant-loop-key : goal.invariant-loop-key
invariant-loop-key l = Changed doomed_if (take l.key-index l.keys) l.fn.world.world.slots l.world.world.slots × OnlyMarks l.fn.world l.world
