use Rattle.kf_shared.proofs.Stepped.{only_met, only_parted}
use Rattle.kf_shared.proofs.locked.Locked.part_drained.Goals as goal

pub returns-in-Ok-clause-looked : goal.returns-in-Ok-clause-looked
returns-in-Ok-clause-looked g c = only_parted c.args.drained c.meet_drained.new.drained c.meet_drained.new.self.seen c.parted.result c.meet_drained.ensures.drained c.meet_drained.ensures.met c.parted.ensures.made

pub returns-in-Err-clause-looked : goal.returns-in-Err-clause-looked
returns-in-Err-clause-looked g c = only_met c.args.drained c.meet_drained.new.drained c.meet_drained.new.self.seen c.meet_drained.ensures.drained c.meet_drained.ensures.met
