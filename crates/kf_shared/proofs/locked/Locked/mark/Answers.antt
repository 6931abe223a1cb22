use Rattle.std.proofs.Common.{[], ◌∷◌, ◌++◌, refl, sym, ap, ◌∙◌, subst}
use Rattle.std.proofs.lemmas.List.{append-nil}
use mathlib.Core.List.{IsPrefix}
use Rattle.kf_tree.specs.SlotMarks.{SameMarks}
use Rattle.kf_words.specs.declared.view.MasterView.{MasterView}
use Rattle.kf_core.specs.declared.key.Key.{Key}
use Rattle.kf_core.specs.declared.command.Command.TheVariants.{Doom}
use Rattle.kf_words.specs.declared.note.Note.TheVariants.{Did}
use Rattle.kf_words.specs.Notes.{history_of}
use Rattle.kf_core.specs.PostOrder.{IsPostOrder}
use Rattle.kf_shared.specs.Locked.{Locked}
use Rattle.kf_shared.proofs.Ties.{tied_doomed, tied_master, linked_in_words}
use Rattle.kf_shared.proofs.Told.{AreTold, tied_words, adds_last, noted_last}
use Rattle.kf_shared.proofs.locked.Locked.mark.Goals as goal

pub invariant_of-self : goal.invariant_of-self
invariant_of-self g c =
    let s = c.self.inside.state in
    let s' = c.doom_in_order.new.self in
    let m0 = c.self.inside.master in
    let m = c.meet.new.self in
    let m1 = c.note_last.new.master in
    let m2 = c.doom_each.new.master in
    let m3 = c.meet-in-Ok.new.self in
    let claims = c.self.inside.claims.items in (
      tied_master g.N.Naming.table s'.log m2 m3 claims (tied_doomed g.N.Naming.table s.log s'.log m1 m2 claims c.key-key.result c.args.order.now _
          (tied_words g.N.Naming.table s.log m m1 claims (tied_master g.N.Naming.table s.log m0 m claims c.self.invariant.0 c.meet.ensures.kept) c.note_last.ensures.words)
          (subst (λ k. IsPostOrder s.log.tree k c.args.order.now) (sym c.key-key.ensures.value)
          (subst (λ (l : Locked). IsPostOrder l.state.tree c.args.hold.key c.args.order.now) (sym c.self.view_is) c.requires.order))
          c.doom_each.ensures.only c.in-Ok.ensures.accepted c.doom_each.ensures.marks) c.meet-in-Ok.ensures.kept,
      noted_last s s' m m1 m3 _ _ c.in-Ok.ensures.accepted c.note_last.ensures (c.meet-in-Ok.ensures.kept.history ∙ c.doom_each.ensures.only.history) claims (subst (AreTold s claims) (sym c.meet.ensures.kept.history) c.self.invariant.1) c.in-Ok.ensures.told,
    )

pub returns-in-Ok-clause-after : goal.returns-in-Ok-clause-after
returns-in-Ok-clause-after g c = subst (λ (l : Locked). IsPrefix (history_of c.args.hold.seen) (history_of l.master.seen)) c.self.view_is c.meet.ensures.after

pub doom_each-requires : goal.doom_each-requires
doom_each-requires g c =
    let s = c.self.inside.state in
    let m1 = c.note_last.new.master in
    record {
      linked = linked_in_words m1.view.slots s.log.tree c.args.hold.key c.args.order.now c.args.order.now [] c.args.order.now
          (subst (λ (v : MasterView). SameMarks v.slots s.log.tree) (sym (c.note_last.ensures.words.view ∙ c.meet.ensures.view)) c.self.invariant.0.marks)
          (subst (λ (l : Locked). IsPostOrder l.state.tree c.args.hold.key c.args.order.now) (sym c.self.view_is) c.requires.order)
          (sym (append-nil c.args.order.now)) refl;
    }

pub returns-in-Ok-clause-noted : goal.returns-in-Ok-clause-noted
returns-in-Ok-clause-noted g c =
    adds_last c.self.inside.state c.doom_in_order.new.self c.meet.new.self c.note_last.new.master c.meet-in-Ok.new.self _ _ c.in-Ok.ensures.accepted c.note_last.ensures (c.meet-in-Ok.ensures.kept.history ∙ c.doom_each.ensures.only.history)
    ∙ ap (λ l. l ++ Did (Doom c.key-key.result) ∷ []) (c.meet.ensures.kept.history ∙ ap (λ (l : Locked). history_of l.master.seen) c.self.view_is)
    ∙ ap (λ (k : Key). history_of c.args.self.now.master.seen ++ Did (Doom k) ∷ []) c.key-key.ensures.value
