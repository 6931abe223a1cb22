use Rattle.kf_words.specs.Nodes.{KeepsNodes}
use Rattle.kf_words.specs.Notes.{history_of}
use Rattle.kf_shared.proofs.NextTurns.{MetSome}
use Rattle.kf_shared.proofs.unlinking.meet_each.Given as goal

abbrev pub invariant-loop-receipt : goal.invariant-loop-receipt
invariant-loop-receipt l = KeepsNodes l.initial.master l.master × MetSome (history_of l.initial.master.seen) l.initial.receipts l.receipts l.receipt-index
