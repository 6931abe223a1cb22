use Rattle.std.proofs.Common.{[], ◌∷◌, ◌++◌, ap, sym, ◌∙◌, subst}
use Rattle.std.proofs.lemmas.List.{append-nil}
use mathlib.Core.List.{IsPrefix}
use Rattle.kf_words.specs.declared.note.Note.TheVariants.{LockReleased}
use Rattle.kf_words.specs.Notes.{history_of}
use Rattle.kf_shared.specs.Locked.{Locked, history}
use Rattle.kf_shared.proofs.Hearing.{was_closed}
use Rattle.kf_shared.proofs.Told.{held_master, held_released}
use Rattle.kf_shared.proofs.locked.Locked.close_call.Goals as goal

pub invariant_of-self : goal.invariant_of-self
invariant_of-self g c =
    let s = c.self.inside.state in
    let m = c.meet_call.new.self in
    let m1 = c.note_released.new.master in
    let claims = c.self.inside.claims.items in
    held_master g.N.Naming.table s m1 c.meet_call-2.new.self claims
    (held_released g.N.Naming.table s m m1 claims (held_master g.N.Naming.table s c.self.inside.master m claims c.self.invariant c.meet_call.ensures.kept) c.note_released.ensures) c.meet_call-2.ensures.kept

pub returns : goal.returns
returns g c = record {
  call = was_closed c.args.self.now [] c.args.call.now c.meet_call.new.call c.meet_call-2.new.call c.meet_call.new.self c.note_released.new.master c.meet_call-2.new.self
      c.meet_call.ensures.call c.meet_call.ensures.met (subst (λ (l : Locked). IsPrefix (history_of c.args.call.now.seen) (history l)) c.self.view_is c.meet_call.ensures.after)
      (c.meet_call.ensures.kept.history ∙ ap history c.self.view_is) (c.note_released.ensures.history ∙ ap (λ l. l ++ LockReleased ∷ []) (sym (append-nil (history_of c.meet_call.new.self.seen))))
      c.meet_call-2.ensures.call c.meet_call-2.ensures.met c.meet_call-2.ensures.kept.history;
}
