use Rattle.kf_shared.proofs.Receipts.{done_marked, listed_different}
use Rattle.kf_shared.proofs.Refusals.{may_be_doomed}
use Rattle.kf_shared.proofs.Removed.{receipts_at_end, receipts_of_doom, was_removed_in}
use Rattle.kf_shared.proofs.editor.Editor.remove.Goals as goal

pub returns-clause-last : goal.returns-clause-last
returns-clause-last g c =
    let b = c.in_ok-removing.ensures in
    receipts_at_end c.args.self c.begin_removal.new.self c.args.hold c.in_ok-removing.removing c.end_removal-draining.result c.finish.result.items c.args.self.master
    b.holds b.order b.after b.noted c.end_removal-draining.ensures.ended c.finish.ensures.finished c.finish.ensures.owners

pub returns-clause-listed : goal.returns-clause-listed
returns-clause-listed g c =
    let b = c.in_ok-removing.ensures in
    receipts_of_doom c.args.self c.begin_removal.new.self c.args.hold c.in_ok-removing.removing c.end_removal-draining.result c.finish.result.items c.args.self.master
    b.holds b.order b.after b.noted c.end_removal-draining.ensures.ended c.finish.ensures.finished c.finish.ensures.owners

pub returns-clause-different : goal.returns-clause-different
returns-clause-different g c = listed_different c.args.self.state.tree c.args.self.state.root c.in_ok-removing.ensures.was_whole.kept.lawful c.args.hold.key _ (returns-clause-listed g c)

pub returns-clause-no_cause : goal.returns-clause-no_cause
returns-clause-no_cause g c = may_be_doomed c.args.self c.begin_removal.new.self c.args.hold.key (done_marked c.args.self c.begin_removal.new.self c.args.hold.key c.in_ok-removing.ensures.done)

pub returns-clause-alone : goal.returns-clause-alone
returns-clause-alone g c =
    let b = c.in_ok-removing.ensures in
    was_removed_in c.args.self c.begin_removal.new.self c.args.hold c.in_ok-removing.removing c.end_removal-draining.result c.finish.result.items c.args.self.master
    b.holds b.order b.after b.noted c.end_removal-draining.ensures.ended c.finish.ensures.finished c.finish.ensures.owners
