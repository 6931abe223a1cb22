use Rattle.std.proofs.Common.{◌≡◌, ap, arith, sym, ◌∙◌, ◌-◌}
use Rattle.std.specs.Prelude.{count_by, is_some}
use Rattle.kf_core.specs.Tree.{Tree}
use Rattle.kf_table.specs.declared.records.Records.TheInside.{Inside}
use Rattle.kf_table.proofs.LinkedCounts.{one_less, none_less}
use Rattle.kf_table.proofs.records.Records.clear.Goals as goal
use Rattle.kf_table.proofs.records.Records.clear.Goals.{then-is_some, else-is_some}

pub overflow_sub-self : goal.overflow_sub-self
overflow_sub-self c =
    (let less = one_less c.self.inside.slots c.args.slot c.take.result c.take.ensures.taken (sym c.is_some.ensures ∙ c.if-is_some.true) in
    let counted = c.self.invariant.1 in omega (arith, less, counted))

pub invariant_of-self : goal.invariant_of-self
invariant_of-self c = elim c.if-is_some.branch [
  | then-is_some w ↦ (
    c.note.ensures.kept c.self.inside.slots _ (ap (λ (i : Inside). i.live) w.self-inside-is ∙ c.self.invariant.0) (ap (λ (i : Inside). i.slots) w.self-inside-is ∙ c.take.ensures.none),
    (let less = one_less c.self.inside.slots c.args.slot c.take.result c.take.ensures.taken (sym c.is_some.ensures ∙ w.if-is_some.true) in
        let counted = c.self.invariant.1 in
        let now : c.if-is_some.self-inside.linked ≡ c.self.inside.linked - 1 = ap (λ (i : Inside). i.linked) w.self-inside-is in
        let left = ap (λ (t : Tree). count_by is_some t) (ap (λ (i : Inside). i.slots) w.self-inside-is ∙ c.take.ensures.none) in
        omega (arith, less, counted, now, left)),
  )
  | else-is_some w ↦ (
    c.note.ensures.kept c.self.inside.slots _ (ap (λ (i : Inside). i.live) w.self-inside-is ∙ c.self.invariant.0) (ap (λ (i : Inside). i.slots) w.self-inside-is ∙ c.take.ensures.none),
    ap (λ (i : Inside). i.linked) w.self-inside-is ∙ c.self.invariant.1
        ∙ sym (ap (λ (t : Tree). count_by is_some t) (ap (λ (i : Inside). i.slots) w.self-inside-is ∙ c.take.ensures.none)
        ∙ none_less c.self.inside.slots c.args.slot c.take.result c.take.ensures.taken (sym c.is_some.ensures ∙ w.if-is_some.false)),
  )
]
