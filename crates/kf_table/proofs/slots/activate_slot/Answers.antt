use Rattle.std.proofs.Common.{◌∙◌, ap, slice_set}
use Rattle.std.specs.Prelude.{Some}
use Rattle.kf_table.specs.Changes.{activated_unless_doomed}
use Rattle.kf_table.proofs.Altered.{put_back_changed}
use Rattle.kf_table.proofs.slots.activate_slot.Goals as goal

pub returns-in-Some : goal.returns-in-Some
returns-in-Some c = record {
  changed = c.put.ensures.put ∙ ap (λ r. slice_set c.take.new.self c.args.slot (Some r)) c.activate.ensures.changed
      ∙ ap (λ l. slice_set l c.args.slot (Some (activated_unless_doomed c.in-Some.found))) c.take.ensures.none
      ∙ put_back_changed activated_unless_doomed c.args.records.now c.args.slot c.in-Some.found c.in-Some.ensures.taken;
}
