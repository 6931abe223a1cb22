use Rattle.std.proofs.Common.{◌∙◌, ap, slice_set}
use Rattle.std.specs.Prelude.{Some}
use Rattle.kf_core.specs.Commands.{moved_record}
use Rattle.kf_table.proofs.Altered.{put_back_changed}
use Rattle.kf_table.proofs.slots.move_slot.Goals as goal

pub returns-in-Some : goal.returns-in-Some
returns-in-Some c = record {
  changed = c.put.ensures.put ∙ ap (λ l. slice_set l c.args.slot (Some ((moved_record c.args.dir c.args.name) c.in-Some.found))) c.take.ensures.none
      ∙ put_back_changed (moved_record c.args.dir c.args.name) c.args.records.now c.args.slot c.in-Some.found c.in-Some.ensures.taken;
}
