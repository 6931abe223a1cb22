use Rattle.std.proofs.Common.{[], ◌∷◌, ◌++◌, sym, ap, ◌∙◌, subst}
use Rattle.std.proofs.lemmas.List.{append-nil}
use Rattle.kf_words.specs.declared.view.MasterView.{MasterView}
use Rattle.kf_core.specs.declared.command.Command.TheVariants.{Activate}
use Rattle.kf_words.specs.declared.note.Note.TheVariants.{Did}
use Rattle.kf_words.specs.Notes.{history_of}
use Rattle.kf_shared.specs.Locked.{Locked}
use Rattle.kf_shared.proofs.Told.{tied_words, adds_last, noted_last}
use Rattle.kf_tree.specs.SlotMarks.{Changed, SameMarks, risen_if}
use Rattle.kf_shared.proofs.Ties.{tied_risen, linked_in_words}
use Rattle.kf_shared.proofs.locked.Locked.activate.Goals as goal

pub invariant_of-self-2 : goal.invariant_of-self-2
invariant_of-self-2 g c =
    let s = c.self.inside.state in
    let m = c.self.inside.master in
    let m1 = c.note_last.new.master in
    let claims = c.self.inside.claims.items in
    let accepted = c.in_ok-activate_in_order.ensures.accepted in (
      tied_risen g.N.Naming.table s.log c.activate_in_order.new.self.log m1 c.rise_each.new.master claims c.args.key c.in_ok-order.order.items _
          (tied_words g.N.Naming.table s.log m m1 claims c.self.invariant.0 c.note_last.ensures.words) c.in_ok-order.ensures.ordered c.rise_each.ensures.only accepted
          (subst (λ ks. Changed risen_if ks m1.view.slots c.rise_each.new.master.view.slots) c.as_slice-2.ensures.value c.rise_each.ensures.marks),
      noted_last s c.activate_in_order.new.self m m1 c.rise_each.new.master _ _ accepted c.note_last.ensures c.rise_each.ensures.only.history claims c.self.invariant.1 c.in_ok-activate_in_order.ensures.told,
    )

pub returns-clause-noted : goal.returns-clause-noted
returns-clause-noted g c =
    adds_last c.self.inside.state c.activate_in_order.new.self c.self.inside.master c.note_last.new.master c.rise_each.new.master _ _ c.in_ok-activate_in_order.ensures.accepted c.note_last.ensures c.rise_each.ensures.only.history
    ∙ ap (λ (l : Locked). history_of l.master.seen ++ Did (Activate c.args.key) ∷ []) c.self.view_is

pub rise_each-requires : goal.rise_each-requires
rise_each-requires g c = record {
  linked = linked_in_words c.note_last.new.master.view.slots c.self.inside.state.log.tree c.args.key c.in_ok-order.order.items c.in_ok-order.order.items [] c.as_slice-2.result.now
      (subst (λ (v : MasterView). SameMarks v.slots c.self.inside.state.log.tree) (sym c.note_last.ensures.words.view) c.self.invariant.0.marks)
      c.in_ok-order.ensures.ordered (sym (append-nil c.in_ok-order.order.items)) c.as_slice-2.ensures.value;
}
