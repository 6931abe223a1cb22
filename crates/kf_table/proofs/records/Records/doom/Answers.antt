use Rattle.kf_core.specs.Commands.{doomed_record}
use Rattle.kf_table.proofs.LinkedCounts.{still}
use Rattle.kf_table.proofs.records.Records.doom.Goals as goal

pub invariant_of-self : goal.invariant_of-self
invariant_of-self c = (
  c.note.ensures.kept c.self.inside.slots _ c.self.invariant.0 c.doom_slot.ensures.changed,
  still doomed_record c.self.inside.slots c.doom_slot.new.records c.args.slot c.self.inside.linked c.self.invariant.1 c.doom_slot.ensures.changed,
)
