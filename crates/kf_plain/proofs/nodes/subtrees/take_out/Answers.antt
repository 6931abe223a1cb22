use Rattle.std.proofs.lemmas.Bool.{OnTrue_at}
use Rattle.kf_plain.proofs.CallerSteps.{may_look, may_unlink, may_part, may_end, is_taken_out}
use Rattle.kf_plain.proofs.nodes.subtrees.take_out.Goals as goal

pub unlink-requires : goal.unlink-requires
unlink-requires c =
    let w = c.args.world.now in
    let w1 = c.look-drained.new.self in
    let look = OnTrue_at (c.look-drained.ensures.told.1 (may_look w w1 c.args.id c.args.key c.requires.still c.requires.doomed c.requires.unused)) c.look-drained.ensures.step in
    record { may = may_unlink w w1 c.args.id c.args.key c.requires.still c.requires.doomed look }

pub release-requires : goal.release-requires
release-requires c =
    let w = c.args.world.now in
    let w1 = c.look-drained.new.self in
    let w2 = c.unlink.new.self in
    let look = OnTrue_at (c.look-drained.ensures.told.1 (may_look w w1 c.args.id c.args.key c.requires.still c.requires.doomed c.requires.unused)) c.look-drained.ensures.step in
    let part = OnTrue_at (c.part-parted.ensures.told.1 (may_part w w1 c.args.id c.args.key c.requires.still c.requires.doomed look w2 c.unlink.ensures.step)) c.part-parted.ensures.step in
    record { may = may_end w w1 c.args.id c.args.key c.requires.still c.requires.doomed look w2 c.unlink.ensures.step c.part-parted.new.self part }

pub returns-clause-gone : goal.returns-clause-gone
returns-clause-gone c =
    let w = c.args.world.now in
    let w1 = c.look-drained.new.self in
    let w2 = c.unlink.new.self in
    let look = OnTrue_at (c.look-drained.ensures.told.1 (may_look w w1 c.args.id c.args.key c.requires.still c.requires.doomed c.requires.unused)) c.look-drained.ensures.step in
    let part = OnTrue_at (c.part-parted.ensures.told.1 (may_part w w1 c.args.id c.args.key c.requires.still c.requires.doomed look w2 c.unlink.ensures.step)) c.part-parted.ensures.step in
    is_taken_out w w1 c.args.id c.args.key c.requires.still c.requires.doomed look w2 c.unlink.ensures.step c.part-parted.new.self part c.release.new.self c.release.ensures.step
