-- What the Master keeps agrees with its view at the opening.
use Rattle.std.proofs.Common.{◌≡◌, ◌+◌, ℕ, length, length-set, replicate, arith, sym, ap, ◌∙◌}
use Rattle.std.specs.Prelude.{Some, None}
use Rattle.std.proofs.lemmas.List.{length-replicate}
use Rattle.kf_core.specs.declared.key.Node.{Node}
use Rattle.kf_core.specs.declared.key.Node.TheVariants.{Dir}
use Rattle.kf_core.specs.declared.slot.SlotState.{SlotState}
use Rattle.kf_core.specs.Marks.{live_marks}
use Rattle.kf_words.specs.declared.view.MasterView.{MasterView}
use Rattle.kf_words.proofs.words.Words.new_at.Goals as goal

pub invariant_of-master : goal.invariant_of-master
invariant_of-master c =
    let n : ℕ = c.slots-count.result in
    let empty : SlotState = record { generation = c.args.start; marks = None } in
    let root : SlotState = record { generation = c.args.start + 1; marks = Some live_marks } in
    let view = c.in_ok-table.ensures.view in
    let made = c.in_ok-slots.ensures.made in
    let long : length c.in_ok-slots.slots ≡ n = ap length made ∙ length-set (replicate n empty) 0 root ∙ length-replicate n empty in
    let nodes : length c.in_ok-nodes.nodes ≡ n = ap length c.in_ok-nodes.ensures.made ∙ length-replicate n Dir in
    record {
      root = omega (arith, long, c.slots-count.ensures.some);
      few = omega (arith, long, c.slots-count.ensures.few);
      same_slots = ap (λ (y : MasterView). y.slots) view ∙ sym made;
      same_limit = ap (λ (y : MasterView). y.limit) view;
      no_pin = ap (λ (y : MasterView). y.pinning) view;
      all_nodes = nodes ∙ sym long;
      marked = c.in_ok-full.ensures.marked c.in_ok-slots.slots long;
    }
