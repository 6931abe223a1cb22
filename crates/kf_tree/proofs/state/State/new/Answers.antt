use Rattle.std.proofs.Common.{◌∙◌, ap, refl}
use Rattle.kf_core.specs.Commands.{root_alone}
use Rattle.kf_tree.proofs.Opening.{new_kept, new_sound}
use Rattle.kf_tree.proofs.state.State.new.Goals as goal

pub invariant_of-result : goal.invariant_of-result
invariant_of-result c = new_sound c.args.limits.slots c.args.root c.requires.in_table c.in_ok-table.table c.new-2.result.items _ c.args.limits.few_slots
    (c.in_ok-table.ensures.made ∙ ap (λ n. root_alone n c.args.root) c.slots.ensures.value) c.new-2.ensures.items

pub returns-clause-made : goal.returns-clause-made
returns-clause-made c = (let made = c.in_ok-table.ensures.made ∙ ap (λ n. root_alone n c.args.root) c.slots.ensures.value in record {
  root = refl;
  tree = made;
  commands = c.new-2.ensures.items;
  not_ready = refl;
  kept = new_kept c.args.limits.slots c.args.root c.requires.in_table c.in_ok-table.table c.new-2.result.items made c.new-2.ensures.items;
})
