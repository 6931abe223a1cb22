use Rattle.kf_core.specs.Commands.{hidden_record}
use Rattle.kf_table.proofs.LinkedCounts.{still}
use Rattle.kf_table.proofs.records.Records.set_hidden.Goals as goal

pub invariant_of-self : goal.invariant_of-self
invariant_of-self c = (
  c.note.ensures.kept c.self.inside.slots _ c.self.invariant.0 c.set_hidden_slot.ensures.changed,
  still (hidden_record c.args.hidden) c.self.inside.slots c.set_hidden_slot.new.records c.args.slot c.self.inside.linked c.self.invariant.1 c.set_hidden_slot.ensures.changed,
)
