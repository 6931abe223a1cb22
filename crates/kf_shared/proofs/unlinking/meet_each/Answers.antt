use Rattle.std.proofs.Common.{◌<◌, get_or, length, arith, sym, ◌∙◌}
use Rattle.kf_words.specs.Notes.{history_of}
use Rattle.kf_shared.proofs.NextTurns.{keeps_on, met_next, met_none, next_table}
use Rattle.kf_shared.proofs.Stepped.{met_learned}
use Rattle.kf_shared.proofs.Told.{keeps_all}
use Rattle.kf_shared.proofs.unlinking.meet_each.Goals as goal

pub loop-receipt-init : goal.loop-receipt-init
loop-receipt-init c = (keeps_all c.args.master.now, met_none (history_of c.args.master.now.seen) c.args.receipts.now)

pub meet_parted-requires : goal.meet_parted-requires
meet_parted-requires c =
    let l = c.loop-receipt in
    let inside : l.receipt-index < length l.receipts = omega arith in record {
      table = next_table c.args.master.now.table (history_of c.args.master.now.seen) c.args.receipts.now l.receipts l.receipt-index c.receipt-item.result c.requires.table l.invariant.1 inside ∙ sym l.invariant.0.table;
    }

pub loop-receipt-preserved : goal.loop-receipt-preserved
loop-receipt-preserved c =
    let l = c.loop-receipt in
    let m = c.meet_parted in
    let inside : l.receipt-index < length l.receipts = omega arith in (
      keeps_on c.args.master.now l.master m.new.self l.invariant.0 m.ensures.kept,
      met_next (history_of c.args.master.now.seen) c.args.receipts.now l.receipts l.receipt-index c.receipt-item.result m.new.parted l.invariant.1 inside
          (met_learned (get_or l.receipts l.receipt-index c.receipt-item.result) m.new.parted m.new.self.seen m.ensures.parted m.ensures.met (history_of c.args.master.now.seen) (m.ensures.kept.history ∙ l.invariant.0.history)),
    )
