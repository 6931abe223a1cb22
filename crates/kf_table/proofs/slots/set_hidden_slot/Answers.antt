use Rattle.std.proofs.Common.{◌∙◌, ap, slice_set}
use Rattle.std.specs.Prelude.{Some}
use Rattle.kf_core.specs.Commands.{hidden_record}
use Rattle.kf_table.proofs.Altered.{put_back_changed}
use Rattle.kf_table.proofs.slots.set_hidden_slot.Goals as goal

pub returns-in-Some : goal.returns-in-Some
returns-in-Some c = record {
  changed = c.put.ensures.put ∙ ap (λ l. slice_set l c.args.slot (Some ((hidden_record c.args.hidden) c.in-Some.found))) c.take.ensures.none
      ∙ put_back_changed (hidden_record c.args.hidden) c.args.records.now c.args.slot c.in-Some.found c.in-Some.ensures.taken;
}
