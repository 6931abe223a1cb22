use Rattle.kf_core.specs.Commands.{moved_record}
use Rattle.kf_table.proofs.LinkedCounts.{still}
use Rattle.kf_table.proofs.records.Records.move_to.Goals as goal

pub invariant_of-self : goal.invariant_of-self
invariant_of-self c = (
  c.note.ensures.kept c.self.inside.slots _ c.self.invariant.0 c.move_slot.ensures.changed,
  still (moved_record c.args.dir c.args.name) c.self.inside.slots c.move_slot.new.records c.args.slot c.self.inside.linked c.self.invariant.1 c.move_slot.ensures.changed,
)
