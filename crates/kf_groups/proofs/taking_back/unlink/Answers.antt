use Rattle.kf_groups.proofs.Counts.{unlinked_one}
use Rattle.kf_groups.proofs.Storing.{unlinks}
use Rattle.kf_groups.proofs.taking_back.unlink.Goals as goal

pub returns-in-Ok-clause-unlinked : goal.returns-in-Ok-clause-unlinked
returns-in-Ok-clause-unlinked g c =
    unlinks c.args.editor.now c.unlink-unlinked.new.self c.args.hold.key c.in-Ok.drained.key c.unlink-unlinked.result
    c.in-Ok.ensures.same.key c.unlink-unlinked.ensures.accepted c.unlink-unlinked.ensures.refused

pub returns-in-Ok-clause-counted : goal.returns-in-Ok-clause-counted
returns-in-Ok-clause-counted g c did =
    unlinked_one c.args.editor.now c.unlink-unlinked.new.self c.args.hold.key c.in-Ok.drained.key c.unlink-unlinked.result
    (c.did_unlink.ensures.told did) c.unlink-unlinked.ensures.linked c.unlink-unlinked.ensures.accepted
