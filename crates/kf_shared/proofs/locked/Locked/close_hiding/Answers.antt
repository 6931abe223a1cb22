use Rattle.std.proofs.Common.{[], ◌∷◌, ◌++◌, ap, sym, ◌∙◌, subst}
use Rattle.std.proofs.lemmas.List.{append-nil}
use mathlib.Core.List.{IsPrefix}
use Rattle.kf_words.specs.declared.note.Note.TheVariants.{LockReleased}
use Rattle.kf_words.specs.Notes.{history_of}
use Rattle.kf_shared.specs.Locked.{Locked, history}
use Rattle.kf_shared.proofs.Hearing.{was_closed}
use Rattle.kf_shared.proofs.Told.{held_master, held_released}
use Rattle.kf_shared.proofs.locked.Locked.close_hiding.Goals as goal

pub invariant_of-self : goal.invariant_of-self
invariant_of-self g c =
    let s = c.self.inside.state in
    let m = c.meet_hiding.new.self in
    let m1 = c.note_released.new.master in
    let claims = c.self.inside.claims.items in
    held_master g.N.Naming.table s m1 c.meet_hiding-2.new.self claims
    (held_released g.N.Naming.table s m m1 claims (held_master g.N.Naming.table s c.self.inside.master m claims c.self.invariant c.meet_hiding.ensures.kept) c.note_released.ensures) c.meet_hiding-2.ensures.kept

pub returns : goal.returns
returns g c = record {
  hiding = was_closed c.args.self.now [] c.args.hiding.now c.meet_hiding.new.hiding c.meet_hiding-2.new.hiding c.meet_hiding.new.self c.note_released.new.master c.meet_hiding-2.new.self
      c.meet_hiding.ensures.hiding c.meet_hiding.ensures.met (subst (λ (l : Locked). IsPrefix (history_of c.args.hiding.now.seen) (history l)) c.self.view_is c.meet_hiding.ensures.after)
      (c.meet_hiding.ensures.kept.history ∙ ap history c.self.view_is) (c.note_released.ensures.history ∙ ap (λ l. l ++ LockReleased ∷ []) (sym (append-nil (history_of c.meet_hiding.new.self.seen))))
      c.meet_hiding-2.ensures.hiding c.meet_hiding-2.ensures.met c.meet_hiding-2.ensures.kept.history;
}
