use Rattle.std.proofs.Common.{rules, ◌≤◌, ◌<◌, ◌-◌, ◌++◌, ◌∙◌, ap, sym, length, replicate, slice_set}
use Rattle.std.specs.Prelude.{None, slice_get}
use Rattle.std.specs.Option.{option_and_then}
use Rattle.kf_core.proofs.SlotLists.{front_set, rest_none, rest_set}
use Rattle.kf_core.proofs.slot_map.SlotMap.take.Goals as goal

pub returns-then-slot-len-clause-none : goal.returns-then-slot-len-clause-none
returns-then-slot-len-clause-none g c =
    let within : c.args.slot < length c.self.inside.items.items = search rules in
    ap (λ item. slice_set c.self.inside.items.items c.args.slot item ++ replicate (c.self.inside.slots - length (slice_set c.self.inside.items.items c.args.slot item)) None) c.take.ensures.after
    ∙ front_set _ c.self.inside.slots c.args.slot None None within ∙ ap (λ l. slice_set l c.args.slot None) c.self.view_is

pub returns-else-slot-len-clause-taken : goal.returns-else-slot-len-clause-taken
returns-else-slot-len-clause-taken g c =
    let past : length c.self.inside.items.items ≤ c.args.slot = search rules in
    sym (ap (λ l. option_and_then (λ item. item) (slice_get l c.args.slot)) (sym c.self.view_is) ∙ rest_none _ _ c.args.slot past)

pub returns-else-slot-len-clause-none : goal.returns-else-slot-len-clause-none
returns-else-slot-len-clause-none g c =
    let past : length c.self.inside.items.items ≤ c.args.slot = search rules in
    sym (ap (λ l. slice_set l c.args.slot None) (sym c.self.view_is) ∙ rest_set _ _ c.args.slot None past ∙ c.self.view_is)
