use Rattle.std.proofs.Common.{ap, arith, sym, ◌∙◌, ◌+◌, slice_set}
use Rattle.std.specs.Prelude.{Some, count_by, is_some, not}
use Rattle.kf_core.specs.Tree.{Tree}
use Rattle.kf_table.specs.declared.records.Records.TheInside.{Inside}
use Rattle.kf_table.proofs.LinkedCounts.{one_more, as_many, not_all}
use Rattle.kf_table.proofs.records.Records.put.Goals as goal
use Rattle.kf_table.proofs.records.Records.put.Goals.{then-is_none+else-prove, else-is_none}

pub prove-unreachable-requires : goal.prove-unreachable-requires
prove-unreachable-requires c =
    (let less = not_all c.self.inside.slots c.args.slot c.args.entry c.get.result (rw (← c.self.view_is) at c.requires.within) c.get.ensures.known (c.is_none.ensures ∙ ap not c.if-is_none.true) in
    let counted = c.self.invariant.1 in let many = c.len-slots.ensures.known in let most = c.if-prove.true in
    omega (arith, less, counted, many, most))

pub invariant_of-self : goal.invariant_of-self
invariant_of-self c = elim c.if-is_none.branch [
  | then-is_none+else-prove w ↦ (
    c.note.ensures.kept c.self.inside.slots _ (ap (λ (i : Inside). i.live) w.self-inside-is ∙ c.self.invariant.0) (c.put.ensures.put ∙ ap (λ (i : Inside). slice_set i.slots c.args.slot (Some c.args.entry)) w.self-inside-is),
    ap (λ (i : Inside). i.linked) w.self-inside-is ∙ ap (λ n. n + 1) c.self.invariant.1
        ∙ sym (ap (λ (t : Tree). count_by is_some t) (c.put.ensures.put ∙ ap (λ (i : Inside). slice_set i.slots c.args.slot (Some c.args.entry)) w.self-inside-is)
        ∙ one_more c.self.inside.slots c.args.slot c.args.entry c.get.result (rw (← c.self.view_is) at c.requires.within) c.get.ensures.known (c.is_none.ensures ∙ ap not w.if-is_none.true)),
  )
  | else-is_none w ↦ (
    c.note.ensures.kept c.self.inside.slots _ (ap (λ (i : Inside). i.live) w.self-inside-is ∙ c.self.invariant.0) (c.put.ensures.put ∙ ap (λ (i : Inside). slice_set i.slots c.args.slot (Some c.args.entry)) w.self-inside-is),
    ap (λ (i : Inside). i.linked) w.self-inside-is ∙ c.self.invariant.1
        ∙ sym (ap (λ (t : Tree). count_by is_some t) (c.put.ensures.put ∙ ap (λ (i : Inside). slice_set i.slots c.args.slot (Some c.args.entry)) w.self-inside-is)
        ∙ as_many c.self.inside.slots c.args.slot c.args.entry c.get.result (rw (← c.self.view_is) at c.requires.within) c.get.ensures.known (c.is_none.ensures ∙ ap not w.if-is_none.false)),
  )
]
