use Rattle.kf_table.specs.Changes.{activated_unless_doomed}
use Rattle.kf_table.proofs.LinkedCounts.{still}
use Rattle.kf_table.proofs.records.Records.activate.Goals as goal

pub invariant_of-self : goal.invariant_of-self
invariant_of-self c = (
  c.note.ensures.kept c.self.inside.slots _ c.self.invariant.0 c.activate_slot.ensures.changed,
  still activated_unless_doomed c.self.inside.slots c.activate_slot.new.records c.args.slot c.self.inside.linked c.self.invariant.1 c.activate_slot.ensures.changed,
)
